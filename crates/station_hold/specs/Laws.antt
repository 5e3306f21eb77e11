-- What the proofs of the holding functions use.
use Rattle.std.specs.Prelude.{ℕ, suc, ◌+◌, ◌-◌, ◌<◌, ◌≤◌, ◌^◌, Bool, true, false, ◌≡◌, refl, List, ltb, leb, Option}
use Rattle.std.proofs.Common.{◌∙◌, arith, lt-ltb, le-ltb, le-leb, ltb-true, ltb-false, leb-true, leb-false}
use Rattle.std.proofs.lemmas.Bool.{lt-leb}
use Rattle.station_hold.specs.Hold.{asked_from, largest, capped}

-- one turn of asking: the turns that are left are one and the rest
pub asked_step : (bytes : List ℕ) (n k a : ℕ) (first : Option ℕ) (high : Bool) → k < n → asked_from (n - k) bytes n a first high ≡ asked_from (suc (n - (k + 1))) bytes n a first high
asked_step bytes n k a first high h =
    let e : n - k ≡ suc (n - (k + 1)) = omega arith in
    rw e refl

-- the cap: what fits stays, what does not is the largest number
pub capped_fits : (n m : ℕ) → n ≡ m → m ≤ largest → capped n ≡ m
unfolding capped
capped_fits n m e h = simp (e, le-leb m largest h)

pub capped_not : (n : ℕ) → largest < n → capped n ≡ largest
unfolding capped
capped_not n h = simp (lt-leb n largest h)

-- the end of hold in its four cases: whether what is added or taken off is more, and whether it fits
pub end_fits : (from span less : ℕ) → span ≤ largest → less ≤ span → from ≤ largest - (span - less) → capped (from + span - less) ≡ from + (span - less)
end_fits from span less u h g = capped_fits (from + span - less) (from + (span - less)) (omega arith) (omega arith)

pub end_high : (from span less : ℕ) → less ≤ span → largest - (span - less) < from → capped (from + span - less) ≡ largest
end_high from span less h g = capped_not (from + span - less) (omega arith)

pub end_over : (from span less : ℕ) → from ≤ largest → span < less → less - span ≤ from → capped (from + span - less) ≡ from - (less - span)
end_over from span less u h g = capped_fits (from + span - less) (from - (less - span)) (omega arith) (omega arith)

pub end_below : (from span less : ℕ) → span < less → from < less - span → capped (from + span - less) ≡ 0
end_below from span less h g = capped_fits (from + span - less) 0 (omega arith) (omega arith)

-- a clock of 48 bits is before the end exactly if it is before the capped end
pub holds_capped : (now end : ℕ) → now < 2 ^ 48 → ltb now (capped end) ≡ ltb now end
holds_capped now end h = by (leb end largest) refl
  where
    by : (b : Bool) → leb end largest ≡ b → ltb now (capped end) ≡ ltb now end
    by true e = simp (capped_fits end end refl (leb-true end largest e))
    by false e =
        let far : largest < end = leb-false end largest e in
        simp (capped_not end far, lt-ltb now end (omega arith), lt-ltb now largest (omega arith))

-- so now < end_token_hold_time is what it is for the Rust's signed number: the clock and what is taken off against what it is taken off
pub holds_signed : (now from span less : ℕ) → now < 2 ^ 48 → ltb now (capped (from + span - less)) ≡ ltb (now + less) (from + span)
holds_signed now from span less h = holds_capped now (from + span - less) h ∙ by (ltb (now + less) (from + span)) refl
  where
    by : (b : Bool) → ltb (now + less) (from + span) ≡ b → ltb now (from + span - less) ≡ b
    by true e = lt-ltb now (from + span - less) (omega (arith, ltb-true (now + less) (from + span) e))
    by false e = le-ltb now (from + span - less) (omega (arith, ltb-false (now + less) (from + span) e))
