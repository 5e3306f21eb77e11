use Rattle.std.proofs.Common.{◌≡◌}
use Rattle.ring_members.specs.Members.{bits_added}
use Rattle.ring_members.proofs.add_byte.Given as goal

abbrev pub invariant-loop-k : goal.invariant-loop-k
invariant-loop-k l = l.ring ≡ bits_added l.initial.ring l.byte l.a l.k
