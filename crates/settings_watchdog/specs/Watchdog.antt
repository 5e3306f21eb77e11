-- Document 01, "Settings": the watchdog's two factors, refusal 9, and the time that they make, beside profirust's parameters.rs;
-- and document 02, P2: the same factors by a rule.
-- A refusal is named, and has document 01's number. `cond t a b` is a if the test t holds, else b.
use Rattle.std.specs.Prelude.{ℕ, zero, suc, ◌+◌, ◌-◌, ◌*◌, ◌/◌, max, cond, ltb, eqb, Option, Some, None, Result, Ok, Err}
use Rattle.bit_times.specs.declared.micros.Micros.{Micros}
use Rattle.refusals.specs.declared.refusal.Refusal.{Refusal}
use Rattle.refusals.specs.declared.refusal.Refusal.TheVariants.{WatchdogFactors}
use Rattle.refusals.specs.Refusals.{number_in}

-- document 01's number of an answer: the refusal's, 0 where there is none
abbrev pub factored_number : Result (Option (ℕ × ℕ)) Refusal → ℕ
factored_number answer = number_in answer

-- document 01's two factors of an answer, zero where there are none
abbrev pub factored_pair : Result (Option (ℕ × ℕ)) Refusal → ℕ × ℕ
factored_pair (Ok None) = (0, 0)
factored_pair (Ok (Some factors)) = factors
factored_pair (Err e) = (0, 0)

-- u / f rounded up
abbrev pub ceil_of : ℕ → ℕ → ℕ
ceil_of u f = (u + f - 1) / f

-- watchdog_factors: the least f1 of the k numbers from f on with u / f1 rounded up below 256, and that quotient; 9 where there is none
unfoldable pub trial : ℕ → ℕ → ℕ → Result (Option (ℕ × ℕ)) Refusal
trial u zero f = Err WatchdogFactors
trial u (suc k) f = let rest = trial u k (suc f) in cond (ltb (ceil_of u f) 256) (Ok (Some (f, ceil_of u f))) rest

-- watchdog_factors: none of 0 ms, else by trial from 1 to 255, in units of 10 ms
unfoldable pub factors_of : ℕ → Result (Option (ℕ × ℕ)) Refusal
factors_of ms = cond (eqb ms 0) (Ok None) (trial (ms / 10) 255 1)

-- document 02, P2: the units of 10 ms in a time, rounded down
abbrev pub units_of : ℕ → ℕ
units_of ms = ms / 10

-- document 01, refusal 9: the most units that two factors make, 255 × 255
abbrev pub most_units : ℕ
most_units = 65025

-- document 02, P2: the first factor is the units divided by 255, rounded up, and at least 1
abbrev pub first_factor : ℕ → ℕ
first_factor u = max 1 (ceil_of u 255)

-- document 02, P2: the factors without a trial. 0 ms have none; more than 65,025 units are refused with 9; else they are the
-- first factor, and the units divided by it, rounded up. It gives what `factors_of` gives (`factors_by_rule` of proofs/Laws.antt).
unfoldable pub factors_rule : ℕ → Result (Option (ℕ × ℕ)) Refusal
factors_rule ms =
    let u = units_of ms in
    let f1 = first_factor u in
    cond (eqb ms 0) (Ok None) (cond (ltb most_units u) (Err WatchdogFactors) (Ok (Some (f1, ceil_of u f1))))

-- Parameters::watchdog_timeout: f1 × f2 × 10 ms, where there are factors
unfoldable pub watchdog_time_of : Option (ℕ × ℕ) → Option Micros
watchdog_time_of None = None
watchdog_time_of (Some factors) = Some (record { 0 = factors.0 * factors.1 * 10000 })
