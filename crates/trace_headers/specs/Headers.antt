-- A trace's header in its two editions (document 01, "Trace", and request P9): read and refused. Assumes nothing.
use Rattle.std.specs.Prelude.{ℕ, ◌+◌, List, [], ◌∷◌, cond, length, take, get_or, eqb, ltb}
use Rattle.codec_fields.specs.Fields.{zero_or14, be, reads}
use Rattle.settings_rules.specs.Rules.{factors_refusal, applications_refusal, first_of}
use Rattle.settings_build.specs.Build.{early_refusal}
use Rattle.trace_headers.specs.declared.Header.{Header}
use Rattle.trace_headers.specs.declared.Edition.{Edition}
use Rattle.trace_headers.specs.declared.Edition.TheVariants.{First, Second}

-- Which edition.

-- 82h, the byte that edition 2 begins with: no header of edition 1 has it as its address
abbrev pub second_mark : ℕ
second_mark = 130

-- the edition of what begins with these bytes
unfoldable pub edition_of : List ℕ → Edition
edition_of trace = cond (eqb (get_or trace 0 0) second_mark) Second First

-- the widths of a header's fields. Edition 1: address 8, baud 8, slot 16, rotation 32, gap 8, HSA 8, retry 8, min Tsdr 8, applications
-- 8, factors 8 and 8, zero 8. Edition 2: 82h 8, then address 7, baud 4, slot 16, rotation 25, gap 7, HSA 7, retry 4, min Tsdr 8,
-- applications less one 3, factors 8 and 8, zero 7
abbrev pub widths_of : Edition → List ℕ
widths_of First = 8 ∷ 8 ∷ 16 ∷ 32 ∷ 8 ∷ 8 ∷ 8 ∷ 8 ∷ 8 ∷ 8 ∷ 8 ∷ 8 ∷ []
widths_of Second = 8 ∷ 7 ∷ 4 ∷ 16 ∷ 25 ∷ 7 ∷ 7 ∷ 4 ∷ 8 ∷ 3 ∷ 8 ∷ 8 ∷ 7 ∷ []

-- the bytes that they fill
unfoldable pub length_of : Edition → ℕ
length_of First = 16
length_of Second = 14

-- the bytes of the header that these bytes begin with
abbrev pub header_length : List ℕ → ℕ
header_length trace = length_of (edition_of trace)

-- A header read.

-- the header of twelve numbers
abbrev pub plain_header : ℕ → ℕ → ℕ → ℕ → ℕ → ℕ → ℕ → ℕ → ℕ → ℕ → ℕ → ℕ → Header
plain_header address baud slot rotation gap hsa retry min_tsdr applications factor_1 factor_2 spare =
    record {
      settings = record {
        token_rotation_bits = rotation;
        slot_bits = slot;
        address = address;
        baud_code = baud;
        gap_wait_rotations = gap;
        highest_station_address = hsa;
        max_retry_limit = retry;
        min_tsdr_bits = min_tsdr;
        factor_1 = factor_1;
        factor_2 = factor_2;
      };
      applications = applications;
      zero_bits = spare;
    }

-- what a header's bytes say: they are one number, most significant first, and its fields have the edition's widths
unfoldable pub header_in : Edition → List ℕ → Header
header_in First bytes =
    reads (widths_of First)
    (λ address baud slot rotation gap hsa retry min_tsdr applications factor_1 factor_2 spare.
    plain_header address baud slot rotation gap hsa retry min_tsdr applications factor_1 factor_2 spare)
    (be bytes)
header_in Second bytes =
    reads (widths_of Second)
    (λ mark address baud slot rotation gap hsa retry min_tsdr less_one factor_1 factor_2 spare.
    plain_header address baud slot rotation gap hsa retry min_tsdr (less_one + 1) factor_1 factor_2 spare)
    (be bytes)

-- all numbers zero
unfoldable pub no_header : Header
no_header = plain_header 0 0 0 0 0 0 0 0 0 0 0 0

-- the header that these bytes begin with; all numbers zero where they end inside it
unfoldable pub header_of : List ℕ → Header
header_of trace = cond (ltb (length trace) (header_length trace)) no_header (header_in (edition_of trace) (take (header_length trace) trace))

-- a header's first refusal, in document 01's order with 25 directly after 4: 1, 10, 2, 3, 4, 25, 5, 6, 7 (`early_refusal`), then 11, 8,
-- 14; 17 comes before (`start_of` of trace). It is the same for both editions; in edition 2 there is no 11
unfoldable pub header_refusal : Header → ℕ
header_refusal h =
    first_of
    (early_refusal h.settings
    ∷ applications_refusal h.applications
    ∷ factors_refusal h.settings.factor_1 h.settings.factor_2
    ∷ zero_or14 h.zero_bits
    ∷ [])
