-- What other crates may use of the watchdog factors, each with the sentence that it proves. What the least factor is says `LeastFrom`.
use Rattle.std.specs.Prelude.{ℕ, zero, suc, ◌+◌, ◌*◌, ◌/◌, ◌<◌, ◌≤◌, true, false, cond, ◌≡◌, refl, ltb, eqb, Option, Some, None, Result, Ok, Err}
use Rattle.std.proofs.Common.{ap, ⊎_elim, arith, div-lt_iff_lt-mul, le-div_iff_mul-le, eq-or-lt_of_le, lt-ltb, le-ltb, ltb-true, ltb-false, ne_eqb}
use borrow.Table.Steps.{cases}
use Rattle.refusals.specs.declared.refusal.Refusal.{Refusal}
use Rattle.refusals.specs.declared.refusal.Refusal.TheVariants.{WatchdogFactors}
use Rattle.settings_watchdog.specs.Watchdog.{factored_number, ceil_of, trial, factors_of, units_of, most_units, first_factor, factors_rule}
use Rattle.settings_watchdog.specs.Laws.{LeastFrom}

-- the least is what the trial gives
trial_at : (u k f f1 : ℕ) → f ≤ f1 → f1 < f + k → ((e : ℕ) → f ≤ e → e < f1 → 256 ≤ ceil_of u e) → ceil_of u f1 < 256 → trial u k f ≡ Ok (Some (f1, ceil_of u f1))
unfolding trial
trial_at u zero f m l h p q = absurd (omega arith)
trial_at u (suc k) f m l h p q = ⊎_elim (λ e. here e) (λ more. rw (le-ltb (ceil_of u f) 256 (p f (omega arith) more)) (trial_at u k (suc f) m more (omega arith) (λ e a b. p e (omega arith) b) q)) (eq-or-lt_of_le l)
  where
    here : f ≡ m → trial u (suc k) f ≡ Ok (Some (m, ceil_of u m))
    here e = rw (e, lt-ltb (ceil_of u m) 256 q)

-- where no number will do, the trial is refused
trial_none : (u k f : ℕ) → ((e : ℕ) → f ≤ e → e < f + k → 256 ≤ ceil_of u e) → trial u k f ≡ Err WatchdogFactors
unfolding trial
trial_none u zero f p = refl
trial_none u (suc k) f p = rw (le-ltb (ceil_of u f) 256 (p f (omega arith) (omega arith))) (trial_none u k (suc f) (λ e a b. p e (omega arith) (omega arith)))

-- a factor will do exactly if u is at most 255 times it
pub ceil_low : (u f : ℕ) → 1 ≤ f → u ≤ 255 * f → ceil_of u f < 256
ceil_low u f p h = (div-lt_iff_lt-mul p).1 (omega arith)

ceil_high : (u f : ℕ) → 1 ≤ f → 255 * f < u → 256 ≤ ceil_of u f
ceil_high u f p h = (le-div_iff_mul-le p).1 (omega arith)

-- of at most 65,025 units, the rule's first factor is the least in 1..255 that will do
rule_least : (u : ℕ) → u ≤ most_units → LeastFrom u 255 1 (first_factor u) (ceil_of u (first_factor u))
rule_least u h =
    record {
      from = omega arith;
      before = omega arith;
      quotient = refl;
      small = ceil_low u (first_factor u) (omega arith) (omega arith);
      least = λ e a b. ceil_high u e a (omega arith);
    }

-- document 02, P2: for every time the rule gives what the trial gives, refusals included
pub factors_by_rule : (ms : ℕ) → factors_of ms ≡ factors_rule ms
unfolding factors_of factors_rule
factors_by_rule ms = cases (eqb ms 0) (λ t. rw t) (λ f. rw f (cases (ltb most_units (ms / 10)) (λ t. rw t (refused (ltb-true _ _ t))) (λ f. rw f (given (ltb-false _ _ f)))))
  where
    refused : most_units < ms / 10 → trial (ms / 10) 255 1 ≡ Err WatchdogFactors
    refused h = trial_none (ms / 10) 255 1 (λ e a b. ceil_high (ms / 10) e a (omega arith))

    given : ms / 10 ≤ most_units → trial (ms / 10) 255 1 ≡ Ok (Some (first_factor (ms / 10), ceil_of (ms / 10) (first_factor (ms / 10))))
    given h = let r = rule_least (ms / 10) h in trial_at (ms / 10) 255 1 (first_factor (ms / 10)) r.from r.before r.least r.small

-- a time of more than 65,025 units of 10 ms has no factors: refusal 9
pub factors_refused : (ms : ℕ) → 65025 < ms / 10 → factors_of ms ≡ Err WatchdogFactors
unfolding factors_rule
factors_refused ms h = rw (factors_by_rule ms, ne_eqb ms 0 (λ e. omega arith), lt-ltb most_units (ms / 10) h)

-- every other time but 0 has the rule's factors
pub factors_ruled : (ms : ℕ) → 0 < ms → ms / 10 ≤ 65025 → factors_of ms ≡ Ok (Some (first_factor (ms / 10), ceil_of (ms / 10) (first_factor (ms / 10))))
unfolding factors_rule
factors_ruled ms h l = rw (factors_by_rule ms, ne_eqb ms 0 (λ e. omega arith), le-ltb most_units (ms / 10) l)

-- so that it has factors
pub factors_given : (ms : ℕ) → 0 < ms → ms / 10 ≤ 65025 → (f1 : ℕ) × (f2 : ℕ) × (factors_of ms ≡ Ok (Some (f1, f2)))
factors_given ms h l = (first_factor (ms / 10), ceil_of (ms / 10) (first_factor (ms / 10)), factors_ruled ms h l)

-- any factors that a time has: f1 is the least in 1..255 with u / f1 rounded up below 256, and f2 is that quotient
pub factors_least : (ms f1 f2 : ℕ) → factors_of ms ≡ Ok (Some (f1, f2)) → LeastFrom (ms / 10) 255 1 f1 f2
unfolding factors_rule
factors_least ms f1 f2 e = cases (eqb ms 0) (λ t. none t) (λ f. cases (ltb most_units (ms / 10)) (λ t. refused f t) (λ g. given f g))
  where
    ruled : factors_rule ms ≡ Ok (Some (f1, f2))
    ruled = rw (← factors_by_rule ms) e

    none : eqb ms 0 ≡ true → LeastFrom (ms / 10) 255 1 f1 f2
    none t =
        let s : ◌≡◌ {A = Result (Option (ℕ × ℕ)) Refusal} (Ok None) (Ok (Some (f1, f2))) = rw t at ruled in
        let z : ◌≡◌ {A = ℕ} 0 1 = cc in
        absurd (omega arith)

    refused : eqb ms 0 ≡ false → ltb most_units (ms / 10) ≡ true → LeastFrom (ms / 10) 255 1 f1 f2
    refused f t =
        let s : ◌≡◌ {A = Result (Option (ℕ × ℕ)) Refusal} (Err WatchdogFactors) (Ok (Some (f1, f2))) = rw (f, t) at ruled in
        let z : ◌≡◌ {A = ℕ} 0 1 = cc in
        absurd (omega arith)

    given : eqb ms 0 ≡ false → ltb most_units (ms / 10) ≡ false → LeastFrom (ms / 10) 255 1 f1 f2
    given f g =
        let s : ◌≡◌ {A = Result (Option (ℕ × ℕ)) Refusal} (Ok (Some (first_factor (ms / 10), ceil_of (ms / 10) (first_factor (ms / 10))))) (Ok (Some (f1, f2))) = rw (f, g) at ruled in
        let pair : ◌≡◌ {A = ℕ × ℕ} (first_factor (ms / 10), ceil_of (ms / 10) (first_factor (ms / 10))) (f1, f2) = cc in
        let a : first_factor (ms / 10) ≡ f1 = ap (λ (x : ℕ × ℕ). x.0) pair in
        let b : ceil_of (ms / 10) (first_factor (ms / 10)) ≡ f2 = ap (λ (x : ℕ × ℕ). x.1) pair in
        rw (← a, ← b) (rule_least (ms / 10) (ltb-false _ _ g))

-- and the other way round: the least factor in 1..255 and its quotient are the factors of the time
pub factors_are : (ms f1 f2 : ℕ) → 0 < ms → LeastFrom (ms / 10) 255 1 f1 f2 → factors_of ms ≡ Ok (Some (f1, f2))
unfolding factors_of
factors_are ms f1 f2 h r = rw (ne_eqb ms 0 (λ e. omega arith), r.quotient) (trial_at (ms / 10) 255 1 f1 r.from r.before r.least (rw (← r.quotient) r.small))

-- document 01's number of the answer: 9 for more units than two factors make, else 0
pub factored_number_lem : (ms : ℕ) → factored_number (factors_of ms) ≡ cond (ltb most_units (units_of ms)) 9 0
unfolding factors_rule
factored_number_lem ms =
    rw (factors_by_rule ms) (cases (ltb most_units (ms / 10))
    (λ t. rw (ne_eqb ms 0 (λ e. omega (arith, ltb-true most_units (ms / 10) t)), t))
    (λ f. cases (eqb ms 0) (λ z. rw (z, f)) (λ z. rw (z, f))))

-- document 01's examples 1 to 6
pub examples_1_to_6 : (factors_of 9 ≡ Ok (Some (1, 0))) × (factors_of 2550 ≡ Ok (Some (1, 255))) × (factors_of 2560 ≡ Ok (Some (2, 128))) × (factors_of 10000 ≡ Ok (Some (4, 250))) × (factors_of 650250 ≡ Ok (Some (255, 255))) × (factors_of 650260 ≡ Err WatchdogFactors)
unfolding factors_of trial
examples_1_to_6 = (refl, refl, refl, refl, refl, refl)
