-- At each turn the first a are weighed.
use Rattle.std.proofs.Common.{arith, rules}
use Rattle.ring_members.proofs.WeightLaws.{weighed_more}
use Rattle.ring_members.proofs.weigh.Goals as goal

pub loop-a-preserved : goal.loop-a-preserved
loop-a-preserved c = weighed_more _ _ _ _ _ (omega (arith, c.loop-a-test.true)) (search rules) c.entries-entries.ensures c.loop-a.invariant c.weight.ensures
