use Rattle.std.proofs.Common.{◌≡◌}
use Rattle.ring_members.specs.Members.{set_added}
use Rattle.ring_members.proofs.add_members.Given as goal

abbrev pub invariant-loop-i : goal.invariant-loop-i
invariant-loop-i l = l.ring ≡ set_added l.initial.ring l.set l.i
