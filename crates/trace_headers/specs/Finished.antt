-- Finished settings and headers: a header with finished settings is accepted; and the header of document 02's site is refused with 25.
use Rattle.std.specs.Prelude.{ℕ, ◌≡◌, refl, List, [], ◌∷◌, Ok}
use Rattle.bit_times.specs.Times.{baud_of}
use Rattle.codec_fields.specs.Fields.{zeros_or14, field_of, be_from}
use Rattle.settings.specs.declared.parameters.Parameters.{Parameters}
use Rattle.settings_rules.specs.Rules.{refuse_below, refuse_outside, address_refusal, baud_refusal, slot_bits_refusal, hsa_refusal, rotation_refusal, room_refusal, factors_refusal, applications_refusal}
use Rattle.settings_rules.proofs.Laws.{none_refuses}
use Rattle.settings_build.specs.Build.{early_refusal, first_refusal, plain_of, finish_of}
use Rattle.settings_build.specs.Finish.{site}
use Rattle.settings_build.proofs.FinishLaws.{finished_passes}
use Rattle.trace_headers.specs.declared.Header.{Header}
use Rattle.trace_headers.specs.Headers.{edition_of, length_of, header_in, header_of, header_refusal}

-- the header with these settings and so many applications, its last byte zero
abbrev pub header_with : Parameters → ℕ → Header
header_with p n = record { settings = plain_of p; applications = n; zero_bits = 0 }

-- finished settings pass the header's check, with any number of applications that is accepted
pub finished_header : (p q : Parameters) (n : ℕ) → finish_of p ≡ Ok q → applications_refusal n ≡ 0 → header_refusal (header_with p n) ≡ 0
unfolding header_refusal first_refusal plain_of zeros_or14
finished_header p q n e a =
    let late = factors_refusal (plain_of p).factor_1 (plain_of p).factor_2 in
    let whole = none_refuses (early_refusal (plain_of p)) (late ∷ []) (finished_passes p q e).0 in
    rw (whole.0, a, (none_refuses late [] whole.1).0) refl

-- the site's header: address 5, code 6, slot 200, rotation 256, gap wait 1, the defaults, one application
abbrev pub site_header : List ℕ
site_header = 5 ∷ 6 ∷ 0 ∷ 200 ∷ 0 ∷ 0 ∷ 1 ∷ 0 ∷ 1 ∷ 126 ∷ 1 ∷ 11 ∷ 1 ∷ 0 ∷ 0 ∷ 0 ∷ []

-- it has the site's settings, and is refused with 25
pub site_header_refused : (header_of site_header ≡ header_with site 1) × (header_refusal (header_of site_header) ≡ 25)
unfolding header_of edition_of length_of header_in header_refusal field_of be_from plain_of early_refusal refuse_below refuse_outside address_refusal baud_refusal slot_bits_refusal hsa_refusal rotation_refusal room_refusal baud_of
site_header_refused = (refl, refl)
