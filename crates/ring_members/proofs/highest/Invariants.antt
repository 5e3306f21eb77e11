use Rattle.std.proofs.Common.{◌≡◌}
use Rattle.ring_members.specs.Members.{in_set, highest_below}
use Rattle.ring_members.proofs.highest.Given as goal

abbrev pub invariant-loop-a : goal.invariant-loop-a
invariant-loop-a l = highest_below (in_set l.set) l.a ≡ highest_below (in_set l.set) 126
