use Rattle.ring_members.specs.Weights.{Weighed}
use Rattle.ring_members.proofs.weigh.Given as goal

abbrev pub invariant-loop-a : goal.invariant-loop-a
invariant-loop-a l = Weighed l.links l.a l.weighed
