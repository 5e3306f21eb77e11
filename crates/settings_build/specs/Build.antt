-- Document 01, "Settings" and its header order of refusals 1 to 8 and 10, beside profirust's parameters.rs, with document 02's 25 in its
-- place: the check of a whole record, the settings that an accepted one makes, and settings finished.
-- A rule gives its document's number of a refusal, 0 for none; an answer has the refusal by its name. `cond t a b` is a if the test t holds, else b.
use Rattle.std.specs.Prelude.{ℕ, cond, [], ◌∷◌, eqb, Option, Some, None, Result, Ok, Err}
use Rattle.refusals.specs.declared.refusal.Refusal.{Refusal}
use Rattle.refusals.specs.Refusals.{named}
use Rattle.bit_times.specs.declared.baud.Baud.{Baud}
use Rattle.bit_times.specs.Times.{code_of, baud_of}
use Rattle.settings.specs.declared.parameters.Parameters.{Parameters}
use Rattle.settings.specs.declared.not_set.NotSet.{NotSet}
use Rattle.settings_rules.specs.Rules.{address_refusal, baud_refusal, least_of, slot_bits_refusal, hsa_refusal, rotation_refusal, room_refusal, gap_wait_refusal, retry_refusal, min_tsdr_refusal, factors_refusal, first_of}
use Rattle.settings.specs.Settings.{unless}
use Rattle.settings_build.specs.declared.plain.PlainSettings.{PlainSettings}

-- the first refusal up to min Tsdr, in document 01's header order with 25 directly after 4: 1, 10, 2, 3, 4, 25, 5, 6, 7
unfoldable pub early_refusal : PlainSettings → ℕ
early_refusal f =
    first_of
    (address_refusal f.address
    ∷ baud_refusal (baud_of f.baud_code)
    ∷ slot_bits_refusal (least_of (baud_of f.baud_code)) f.slot_bits
    ∷ hsa_refusal f.address f.highest_station_address
    ∷ rotation_refusal f.token_rotation_bits
    ∷ room_refusal f.slot_bits f.token_rotation_bits
    ∷ gap_wait_refusal f.gap_wait_rotations
    ∷ retry_refusal f.max_retry_limit
    ∷ min_tsdr_refusal f.min_tsdr_bits
    ∷ [])

-- the check of a whole record: 1, 10, 2, 3, 4, 25, 5, 6, 7, then 8
unfoldable pub first_refusal : PlainSettings → ℕ
first_refusal f = first_of (early_refusal f ∷ factors_refusal f.factor_1 f.factor_2 ∷ [])

-- two factors as the settings keep them: zero says that there are none
unfoldable pub pair_of : ℕ → ℕ → Option (ℕ × ℕ)
pair_of f1 f2 = cond (eqb f1 0) None (Some (f1, f2))

-- the settings with each field as given
unfoldable pub built_at : PlainSettings → Result Baud Refusal → Result Parameters Refusal
built_at f (Ok baud) =
    Ok
    (record {
      token_rotation_bits = f.token_rotation_bits;
      slot_bits = f.slot_bits;
      address = f.address;
      baudrate = baud;
      gap_wait_rotations = f.gap_wait_rotations;
      highest_station_address = f.highest_station_address;
      max_retry_limit = f.max_retry_limit;
      min_tsdr_bits = f.min_tsdr_bits;
      watchdog_factors = pair_of f.factor_1 f.factor_2;
    })
built_at f (Err e) = Err e

-- ParametersBuilder::build over a whole record: its first refusal, or the settings
unfoldable pub build_of : PlainSettings → Result Parameters Refusal
build_of f = cond (eqb (first_refusal f) 0) (built_at f (baud_of f.baud_code)) (Err (named (first_refusal f)))

-- the two factors as numbers, zero where there are none
abbrev pub factors_pair : Option (ℕ × ℕ) → ℕ × ℕ
factors_pair None = (0, 0)
factors_pair (Some factors) = factors

-- the settings as plain numbers
unfoldable pub plain_of : Parameters → PlainSettings
plain_of p =
    record {
      token_rotation_bits = p.token_rotation_bits;
      slot_bits = p.slot_bits;
      address = p.address;
      baud_code = code_of p.baudrate;
      gap_wait_rotations = p.gap_wait_rotations;
      highest_station_address = p.highest_station_address;
      max_retry_limit = p.max_retry_limit;
      min_tsdr_bits = p.min_tsdr_bits;
      factor_1 = (factors_pair p.watchdog_factors).0;
      factor_2 = (factors_pair p.watchdog_factors).1;
    }

-- settings are finished by the check of a whole record: refused with its number and handed back as they were, or accepted
unfoldable pub finish_of : Parameters → Result Parameters NotSet
finish_of p = unless (first_refusal (plain_of p)) p (Ok p)
