-- A header of edition 1 as a settings record in the caller's memory: made new, set by the setters of `settings`, and finished. Assumes
-- nothing.
use Rattle.std.specs.Prelude.{ℕ, ◌≡◌, List, Result, Ok, Err, cond, length, eqb, ltb}
use Rattle.refusals.specs.declared.refusal.Refusal.{Refusal}
use Rattle.refusals.specs.Refusals.{number_of, number_in, named}
use Rattle.settings.specs.declared.parameters.Parameters.{Parameters}
use Rattle.settings.specs.declared.not_set.NotSet.{NotSet}
use Rattle.settings.specs.Settings.{changed_number, new_of}
use Rattle.settings_rules.specs.Rules.{greatest_rotation, rotation_refusal, applications_refusal}
use Rattle.settings_build.specs.Build.{build_of}
use Rattle.trace_headers.specs.declared.Header.{Header}
use Rattle.trace_headers.specs.declared.Edition.{Edition}
use Rattle.trace_headers.specs.declared.Edition.TheVariants.{First, Second}
use Rattle.trace_headers.specs.Headers.{edition_of, length_of, header_of, header_refusal}
use Rattle.trace_headers.specs.Finished.{header_with}
use Rattle.trace_headers_written.specs.HeaderBytes.{header_into}

-- A header whose settings are not finished: 25 is not asked.

-- a header with another rotation
unfoldable pub with_header_rotation : Header → ℕ → Header
with_header_rotation h rotation =
    record {
      settings = record {
        token_rotation_bits = rotation;
        slot_bits = h.settings.slot_bits;
        address = h.settings.address;
        baud_code = h.settings.baud_code;
        gap_wait_rotations = h.settings.gap_wait_rotations;
        highest_station_address = h.settings.highest_station_address;
        max_retry_limit = h.settings.max_retry_limit;
        min_tsdr_bits = h.settings.min_tsdr_bits;
        factor_1 = h.settings.factor_1;
        factor_2 = h.settings.factor_2;
      };
      applications = h.applications;
      zero_bits = h.zero_bits;
    }

-- the header with the greatest rotation, which has room for a gap poll beside every slot; as it is where its own rotation is refused.
-- Its first refusal is the header's first for another reason than 25 (`but_25` in Laws.antt)
unfoldable pub loosened : Header → Header
loosened h = cond (eqb (rotation_refusal h.settings.token_rotation_bits) 0) (with_header_rotation h greatest_rotation) h

-- settings with another rotation, where there are settings
unfoldable pub with_settings_rotation : Result Parameters Refusal → ℕ → Result Parameters Refusal
with_settings_rotation (Ok p) rotation =
    Ok
    (record {
      token_rotation_bits = rotation;
      slot_bits = p.slot_bits;
      address = p.address;
      baudrate = p.baudrate;
      gap_wait_rotations = p.gap_wait_rotations;
      highest_station_address = p.highest_station_address;
      max_retry_limit = p.max_retry_limit;
      min_tsdr_bits = p.min_tsdr_bits;
      watchdog_factors = p.watchdog_factors;
    })
with_settings_rotation (Err refusal) rotation = Err refusal

-- the settings of a header, each field as given, with or without room for a gap poll; or its first refusal for another reason than 25
unfoldable pub settings_in : Header → Result Parameters Refusal
settings_in h =
    cond (eqb (header_refusal (loosened h)) 0) (with_settings_rotation (build_of (loosened h).settings) h.settings.token_rotation_bits)
    (Err (named (header_refusal (loosened h))))

-- The record in the caller's bytes.

-- edition 2 is not taken: 82h is no address
unfoldable pub edition_refusal : Edition → ℕ
edition_refusal First = 0
edition_refusal Second = 1

-- why bytes are no settings record: 17 where they are fewer than 16, then 1 for edition 2
unfoldable pub lent_refusal : List ℕ → ℕ
lent_refusal s = cond (ltb (length s) (length_of First)) 17 (edition_refusal (edition_of s))

-- the settings that a setter finds in the bytes, or the number that it is refused with
unfoldable pub settings_at : List ℕ → Result Parameters Refusal
settings_at s = cond (eqb (lent_refusal s) 0) (settings_in (header_of s)) (Err (named (lent_refusal s)))

-- A setter on the bytes, over the setter by value: it reads, sets and writes.

-- the bytes after a setter's answer: accepted, the settings are written, the applications and the bytes behind the 16 stay
unfoldable pub stored_after : List ℕ → Result Parameters NotSet → List ℕ
stored_after s (Ok p) = header_into s First (header_with p (header_of s).applications)
stored_after s (Err not_set) = s

-- by what the bytes hold
unfoldable pub number_on : (Parameters → Result Parameters NotSet) → Result Parameters Refusal → ℕ
number_on set (Ok p) = changed_number (set p)
number_on set (Err refusal) = number_of refusal

unfoldable pub bytes_on : (Parameters → Result Parameters NotSet) → List ℕ → Result Parameters Refusal → List ℕ
bytes_on set s (Ok p) = stored_after s (set p)
bytes_on set s (Err refusal) = s

-- what a setter's call returns, and the bytes that it leaves
unfoldable pub set_number : (Parameters → Result Parameters NotSet) → List ℕ → ℕ
set_number set s = number_on set (settings_at s)

unfoldable pub set_into : (Parameters → Result Parameters NotSet) → List ℕ → List ℕ
set_into set s = bytes_on set s (settings_at s)

-- A setter that may answer so, where the bytes hold these settings or this refusal: what it returns, and the bytes that it leaves.
abbrev pub ChangesOn : (Parameters → Result Parameters NotSet → Type 0) → Result Parameters Refusal → List ℕ → Result (Unit {0}) Refusal → List ℕ → Type 0
ChangesOn may (Ok p) before returned after =
    (answer : Result Parameters NotSet) × may p answer × (number_in returned ≡ changed_number answer) × (after ≡ stored_after before answer)
ChangesOn may (Err refusal) before returned after = (number_in returned ≡ number_of refusal) × (after ≡ before)

-- the same for the settings that a setter finds in the bytes
abbrev pub Changes : (Parameters → Result Parameters NotSet → Type 0) → List ℕ → Result (Unit {0}) Refusal → List ℕ → Type 0
Changes may before returned after = ChangesOn may (settings_at before) before returned after

-- New and finished.

-- why there are no new settings in so many bytes: 1, 10, then 11, then 18
unfoldable pub new_refusal : Result Parameters Refusal → ℕ → ℕ → ℕ
new_refusal (Ok p) n room = cond (eqb (applications_refusal n) 0) (cond (ltb room (length_of First)) 18 0) (applications_refusal n)
new_refusal (Err refusal) n room = number_of refusal

-- the bytes with new settings
unfoldable pub new_bytes : Result Parameters Refusal → ℕ → List ℕ → List ℕ
new_bytes (Ok p) n s = cond (eqb (applications_refusal n) 0) (header_into s First (header_with p n)) s
new_bytes (Err refusal) n s = s

-- what the call returns, and the bytes that it leaves
unfoldable pub new_number : ℕ → ℕ → ℕ → ℕ → ℕ
new_number address baud n room = new_refusal (new_of address baud) n room

unfoldable pub new_into : ℕ → ℕ → ℕ → List ℕ → List ℕ
new_into address baud n s = new_bytes (new_of address baud) n s

-- settings are finished by the check of the whole header: its number, 25 among them
unfoldable pub finish_number : List ℕ → ℕ
finish_number s = cond (eqb (lent_refusal s) 0) (header_refusal (header_of s)) (lent_refusal s)
