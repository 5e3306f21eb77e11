-- A station that a header opens is kept; and the trace theorem, from the header on.
use Rattle.std.specs.Prelude.{ℕ, ◌^◌, ◌≡◌, refl, List, [], ◌∷◌, length, get_or, take, ltb, leb, Result, Ok, Err}
use Rattle.std.proofs.Common.{sym, ap, subst, ◌∙◌, arith, le-leb, ltb-true, ltb-false, lit<}
use Rattle.std.proofs.lemmas.Bool.{lt-leb}
use borrow.Table.Steps.{cases}
use Rattle.codec_fields.specs.Fields.{be}
use Rattle.codec_fields.proofs.Laws.{unpacked_within, zero_fields}
use Rattle.settings.specs.declared.parameters.Parameters.{Parameters}
use Rattle.refusals.specs.declared.refusal.Refusal.{Refusal}
use Rattle.refusals.specs.Refusals.{number_of}
use Rattle.settings_build.specs.declared.plain.PlainSettings.{PlainSettings}
use Rattle.settings_build.proofs.Built.{built_passes}
use Rattle.settings_build.proofs.Passes.{address_low}
use Rattle.station.specs.declared.station.Station.{Station}
use Rattle.station.specs.Parts.{fresh_station}
use Rattle.trace_headers.specs.declared.Header.{Header}
use Rattle.trace_headers.specs.declared.Edition.{Edition}
use Rattle.trace_headers.specs.declared.Edition.TheVariants.{First, Second}
use Rattle.trace_headers.specs.Headers.{widths_of, edition_of, header_length, header_in, no_header, header_of}
use Rattle.trace_headers.specs.Finished.{header_with}
use Rattle.trace.specs.Trace.{settings_of, settings_at, TraceStart, Accepted, Refused, started_with, start_of, written}
use Rattle.station_words.specs.Laws.{PlainFits}
use Rattle.station_bytes.specs.Bytes.{station_bytes}
use Rattle.live.specs.Live.{open_start, open_into_on, open_into}
use Rattle.theorem_sound.proofs.Sound.{new_sound}
use Rattle.theorem_every_trace.specs.Statement.{Entry, Whole, along}
use Rattle.theorem_live.specs.Accepted.{HeaderAccepts, header_accepts}
use Rattle.theorem_live.specs.Back.{Kept}
use Rattle.theorem_live.specs.Stepped.{bytes_after, bytes_said, into_any, stepped_along}

-- A header's numbers.

-- what bytes say fits the fields of edition 1
in_fits : (e : Edition) (bytes : List ℕ) → PlainFits (header_in e bytes).settings
unfolding header_in
in_fits First bytes =
    let w = unpacked_within (widths_of First) (be bytes) in
    record {
      address_fits = w.0;
      baud_fits = w.1.0;
      slot_fits = w.1.1.0;
      rotation_fits = w.1.1.1.0;
      gap_fits = w.1.1.1.1.0;
      highest_fits = w.1.1.1.1.1.0;
      retry_fits = w.1.1.1.1.1.1.0;
      tsdr_fits = w.1.1.1.1.1.1.1.0;
      factor_1_fits = w.1.1.1.1.1.1.1.1.1.0;
      factor_2_fits = w.1.1.1.1.1.1.1.1.1.1.0;
    }
in_fits Second bytes =
    let w = unpacked_within (widths_of Second) (be bytes) in
    record {
      address_fits = omega (arith, w.1.0);
      baud_fits = omega (arith, w.1.1.0);
      slot_fits = w.1.1.1.0;
      rotation_fits = omega (arith, w.1.1.1.1.0);
      gap_fits = omega (arith, w.1.1.1.1.1.0);
      highest_fits = omega (arith, w.1.1.1.1.1.1.0);
      retry_fits = omega (arith, w.1.1.1.1.1.1.1.0);
      tsdr_fits = w.1.1.1.1.1.1.1.1.0;
      factor_1_fits = w.1.1.1.1.1.1.1.1.1.1.0;
      factor_2_fits = w.1.1.1.1.1.1.1.1.1.1.1.0;
    }

none_fits : PlainFits no_header.settings
unfolding no_header
none_fits =
    record {
      address_fits = lit< tt;
      baud_fits = lit< tt;
      slot_fits = lit< tt;
      rotation_fits = lit< tt;
      gap_fits = lit< tt;
      highest_fits = lit< tt;
      retry_fits = lit< tt;
      tsdr_fits = lit< tt;
      factor_1_fits = lit< tt;
      factor_2_fits = lit< tt;
    }

header_fits : (header : List ℕ) → PlainFits (header_of header).settings
unfolding header_of
header_fits header =
    cases (ltb (length header) (header_length header)) (λ t. rw t none_fits) (λ f. rw f (in_fits (edition_of header) (take (header_length header) header)))

-- a header that is accepted is that of its settings
pub header_with_lem : (h : Header) (p : Parameters) → HeaderAccepts h p → header_with p h.applications ≡ h
header_with_lem h p a =
    let zero_bits : h.zero_bits ≡ 0 = ap (λ (vs : List ℕ). get_or vs 0 0) (zero_fields (h.zero_bits ∷ []) a.zeros) in
    ap (λ (f : PlainSettings). record { settings = f; applications = h.applications; zero_bits = 0 }) a.built.same_numbers
    ∙ ap (λ (z : ℕ). record { settings = h.settings; applications = h.applications; zero_bits = z }) (sym zero_bits)

-- A station that a header opens.

fresh_kept : (header : List ℕ) (p : Parameters) → settings_of (header_of header) ≡ Ok p → Kept (fresh_station p (header_of header).applications)
unfolding fresh_station
fresh_kept header p r =
    let h = header_of header in
    let a = header_accepts h p r in
    record {
      sound = new_sound p h.applications (address_low p (built_passes h.settings p a.built)) a.served;
      given = ap settings_of (header_with_lem h p a) ∙ r;
      settings_fit = subst PlainFits (sym a.built.same_numbers) (header_fits header);
      counts_fit = record { claims_fit = lit< tt; removals_fit = lit< tt; meetings_fit = lit< tt };
    }

-- a number of a start, and the station of it
abbrev start_number : TraceStart → ℕ
start_number (Accepted s) = 1
start_number (Refused n) = 0

abbrev start_or : Station → TraceStart → Station
start_or d (Accepted s) = s
start_or d (Refused n) = d

not_started : {A : Type 0} (n : ℕ) (s : Station) → Refused n ≡ Accepted s → A
not_started n s e = let z : ◌≡◌ {A = ℕ} 0 1 = ap start_number e in absurd (omega (arith, z))

pub opened_kept : (header : List ℕ) (s : Station) → open_start header ≡ Accepted s → Kept s
unfolding open_start started_with
opened_kept header s e =
    cases (ltb (length header) (header_length header)) (λ t. not_started 17 s (rw t at e))
    (λ f. go (settings_of (header_of header)) refl (rw f at e))
  where
    go : (c : Result Parameters Refusal) → settings_of (header_of header) ≡ c → started_with c (header_of header).applications ≡ Accepted s → Kept s
    go (Ok p) r z = subst Kept (ap (start_or s) z) (fresh_kept header p r)
    go (Err refusal) r z = not_started (number_of refusal) s z

-- what a trace starts its header opens
pub started_opens : (trace : List ℕ) (s : Station) → start_of trace ≡ Accepted s → open_start trace ≡ Accepted s
unfolding start_of settings_at open_start started_with
started_opens trace s e =
    cases (ltb (length trace) (header_length trace))
    (λ t. not_started 17 s (rw (lt-leb (header_length trace) (length trace) (ltb-true _ _ t)) at e))
    (λ f.
    let there = le-leb (header_length trace) (length trace) (ltb-false _ _ f) in
    cases (leb (length trace) (2 ^ 32)) (λ t. rw f (rw (there, t) at e)) (λ g. not_started 17 s (rw (there, g) at e)))

-- The theorem: opened by a trace's header and stepped along its entries, a station's bytes are those of the stations of the trace's run,
-- and its answers the trace's, byte by byte.
pub record SteppedTrace (trace : List ℕ) (fresh : Station) (es : List Entry) (out : List ℕ) : Type 0 where
  pub opened : open_into trace out ≡ station_bytes fresh
  pub left : bytes_after (open_into trace out) es ≡ station_bytes (along fresh es).station
  pub said : bytes_said (open_into trace out) es ≡ written (along fresh es).answers

pub trace_stepped :
    (trace : List ℕ) (fresh : Station) (es : List Entry) (out : List ℕ)
    → start_of trace ≡ Accepted fresh
    → length out ≡ 96
    → Whole es
    → SteppedTrace trace fresh es out
unfolding open_into open_into_on
trace_stepped trace fresh es out e l w =
    let is = started_opens trace fresh e in
    let open_is : open_into trace out ≡ station_bytes fresh = ap (λ (x : TraceStart). open_into_on x out) is ∙ into_any out fresh l in
    let all = stepped_along fresh es (opened_kept trace fresh is) w in
    record { opened = open_is; left = ap (λ (b : List ℕ). bytes_after b es) open_is ∙ all.0; said = ap (λ (b : List ℕ). bytes_said b es) open_is ∙ all.1 }
