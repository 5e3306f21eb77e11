-- A trace's header written, in either edition (document 01, "Trace", and request P9). Assumes nothing.
use Rattle.std.specs.Prelude.{ℕ, ◌-◌, List, [], ◌∷◌, ◌++◌, cond, length, drop, ltb}
use Rattle.codec_fields.specs.Fields.{pack, low_bytes}
use Rattle.trace_headers.specs.declared.Header.{Header}
use Rattle.trace_headers.specs.declared.Edition.{Edition}
use Rattle.trace_headers.specs.declared.Edition.TheVariants.{First, Second}
use Rattle.trace_headers.specs.Headers.{second_mark, widths_of, length_of}

-- the values of a header's fields, in the order of the edition's widths
abbrev pub values_in : Edition → Header → List ℕ
values_in First h =
    h.settings.address
    ∷ h.settings.baud_code
    ∷ h.settings.slot_bits
    ∷ h.settings.token_rotation_bits
    ∷ h.settings.gap_wait_rotations
    ∷ h.settings.highest_station_address
    ∷ h.settings.max_retry_limit
    ∷ h.settings.min_tsdr_bits
    ∷ h.applications
    ∷ h.settings.factor_1
    ∷ h.settings.factor_2
    ∷ h.zero_bits
    ∷ []
values_in Second h =
    second_mark
    ∷ h.settings.address
    ∷ h.settings.baud_code
    ∷ h.settings.slot_bits
    ∷ h.settings.token_rotation_bits
    ∷ h.settings.gap_wait_rotations
    ∷ h.settings.highest_station_address
    ∷ h.settings.max_retry_limit
    ∷ h.settings.min_tsdr_bits
    ∷ (h.applications - 1)
    ∷ h.settings.factor_1
    ∷ h.settings.factor_2
    ∷ h.zero_bits
    ∷ []

-- a header's bytes: those of the number that its fields make. Of a number that does not fit its field the lowest bits are taken
unfoldable pub header_bytes : Edition → Header → List ℕ
header_bytes edition h = low_bytes (length_of edition) (pack (widths_of edition) (values_in edition h))

-- s with a header's bytes in the place of its first, and every other byte as it is; as it is where s is too short
unfoldable pub header_into : List ℕ → Edition → Header → List ℕ
header_into s edition h = cond (ltb (length s) (length_of edition)) s (header_bytes edition h ++ drop (length_of edition) s)
