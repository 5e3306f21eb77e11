-- What the proof of `within` uses.
use Rattle.std.specs.Prelude.{ℕ, ◌+◌, ◌-◌, ◌<◌, ◌≤◌, Bool, true, false, ◌≡◌, refl, ltb}
use Rattle.std.proofs.Common.{arith, lt-ltb, le-ltb, ltb-true, ltb-false}

-- less than so much after a time, by the difference or by the sum
pub ltb_minus : (time last end : ℕ) → end ≤ last → ltb (last - end) time ≡ ltb last (end + time)
ltb_minus time last end h = by (ltb last (end + time)) refl
  where
    by : (b : Bool) → ltb last (end + time) ≡ b → ltb (last - end) time ≡ b
    by true e = lt-ltb (last - end) time (omega (arith, h, ltb-true last (end + time) e))
    by false e = le-ltb (last - end) time (omega (arith, h, ltb-false last (end + time) e))

-- what lies before a time is less than anything after it
pub ltb_low : (time last end : ℕ) → last < end → ltb last (end + time) ≡ true
ltb_low time last end h = lt-ltb last (end + time) (omega (arith, h))
