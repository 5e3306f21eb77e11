-- What `build` accepts has no refusal, and its settings are the same numbers again (`Built`); so they pass the check of a whole record.
use Rattle.std.specs.Prelude.{ℕ, ◌≡◌, refl, eqb, Result, Ok, Err}
use Rattle.std.proofs.Common.{sym, ap, ◌∙◌, arith, eqb-true}
use borrow.Table.Steps.{cases}
use Rattle.refusals.specs.declared.refusal.Refusal.{Refusal}
use Rattle.refusals.specs.Refusals.{named}
use Rattle.bit_times.specs.declared.baud.Baud.{Baud}
use Rattle.bit_times.specs.Times.{baud_of}
use Rattle.bit_times.proofs.Laws.{baud_code}
use Rattle.settings.specs.declared.parameters.Parameters.{Parameters}
use Rattle.settings_rules.specs.Rules.{factors_refusal}
use Rattle.settings_build.specs.declared.plain.PlainSettings.{PlainSettings}
use Rattle.settings_build.specs.Build.{first_refusal, pair_of, built_at, build_of, factors_pair, plain_of}
use Rattle.settings_build.proofs.Passes.{passes}
use Rattle.settings_build.specs.Built.{Built}

-- a refusal is not settings
not_settings : (refusal : Refusal) (p : Parameters) → ◌≡◌ {A = Result Parameters Refusal} (Err refusal) (Ok p) → ⊥
not_settings refusal p e = let z : ◌≡◌ {A = ℕ} 0 1 = cc in omega arith

-- such factors are kept as they were
factors_kept : (f1 f2 : ℕ) → factors_refusal f1 f2 ≡ 0 → factors_pair (pair_of f1 f2) ≡ (f1, f2)
unfolding factors_refusal pair_of
factors_kept f1 f2 e =
    cases (eqb f1 0)
    (λ a. cases (eqb f2 0)
    (λ b. rw a (ap (λ (x : ℕ). (x, 0)) (sym (eqb-true f1 0 a)) ∙ ap (λ (x : ℕ). (f1, x)) (sym (eqb-true f2 0 b))))
    (λ b. let z : ◌≡◌ {A = ℕ} 8 0 = rw (a, b) at e in absurd (omega arith)))
    (λ a. rw a)

-- plain numbers with another baud code and other factors
abbrev numbers_at : PlainSettings → ℕ → (ℕ × ℕ) → PlainSettings
numbers_at f code factors =
    record {
      token_rotation_bits = f.token_rotation_bits;
      slot_bits = f.slot_bits;
      address = f.address;
      baud_code = code;
      gap_wait_rotations = f.gap_wait_rotations;
      highest_station_address = f.highest_station_address;
      max_retry_limit = f.max_retry_limit;
      min_tsdr_bits = f.min_tsdr_bits;
      factor_1 = factors.0;
      factor_2 = factors.1;
    }

-- the settings of a record at its rate are its numbers again
numbers_kept : (f : PlainSettings) (p : Parameters) (x : Result Baud Refusal) → baud_of f.baud_code ≡ x → first_refusal f ≡ 0 → built_at f x ≡ Ok p → plain_of p ≡ f
unfolding built_at plain_of
numbers_kept f p (Ok baud) r none e =
    let made : ◌≡◌ {A = Result Parameters Refusal} (Ok (record { token_rotation_bits = f.token_rotation_bits; slot_bits = f.slot_bits; address = f.address; baudrate = baud; gap_wait_rotations = f.gap_wait_rotations; highest_station_address = f.highest_station_address; max_retry_limit = f.max_retry_limit; min_tsdr_bits = f.min_tsdr_bits; watchdog_factors = pair_of f.factor_1 f.factor_2 })) (Ok p) = e in
    let is : p ≡ record { token_rotation_bits = f.token_rotation_bits; slot_bits = f.slot_bits; address = f.address; baudrate = baud; gap_wait_rotations = f.gap_wait_rotations; highest_station_address = f.highest_station_address; max_retry_limit = f.max_retry_limit; min_tsdr_bits = f.min_tsdr_bits; watchdog_factors = pair_of f.factor_1 f.factor_2 } = cc in
    ap plain_of is
    ∙ ap (λ (code : ℕ). numbers_at f code (factors_pair (pair_of f.factor_1 f.factor_2))) (baud_code f.baud_code baud r)
    ∙ ap (numbers_at f f.baud_code) (factors_kept f.factor_1 f.factor_2 (passes f none).factors)
numbers_kept f p (Err refusal) r none e = absurd (not_settings refusal p e)

-- what `build` accepts
pub build_accepts : (f : PlainSettings) (p : Parameters) → build_of f ≡ Ok p → Built f p
unfolding build_of
build_accepts f p e =
    cases (eqb (first_refusal f) 0)
    (λ t.
    let none = eqb-true (first_refusal f) 0 t in
    record { no_refusal = none; same_numbers = numbers_kept f p (baud_of f.baud_code) refl none (rw t at e) })
    (λ t. absurd (not_settings (named (first_refusal f)) p (rw t at e)))

-- so the settings that it makes pass the check of a whole record
pub built_passes : (f : PlainSettings) (p : Parameters) → Built f p → first_refusal (plain_of p) ≡ 0
built_passes f p b = ap first_refusal b.same_numbers ∙ b.no_refusal
