use Rattle.std.proofs.Common.{ℕ, ◌*◌, ◌<◌, ◌≤◌, ◌≡◌, false}
use Rattle.ring_members.specs.Members.{in_set}
use Rattle.ring_members.proofs.search_end.Given as goal

-- nobody from byte i on
abbrev pub invariant-loop-i : goal.invariant-loop-i
invariant-loop-i l = (x : ℕ) → 8 * l.i ≤ x → x < 128 → in_set l.set x ≡ false
