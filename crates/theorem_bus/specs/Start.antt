-- The header of a station's trace starts the station that its settings are for. Assumes nothing.
use Rattle.std.specs.Prelude.{ℕ, ◌+◌, ◌^◌, ◌<◌, ◌≤◌, ◌≡◌, refl, List, [], ◌∷◌, ◌++◌, cond, drop, eqb, ltb, Result, Ok, Err}
use Rattle.std.proofs.Math.Path.{sym, ap, subst}
use Rattle.std.proofs.Common.{◌∙◌, append-nil, arith, add-zero, zero-add, length-append, take_at, drop-cons, lit≤}
use borrow.Author.Tests.{ne_eqb, le-ltb, le-leb, ltb-false, eqb-false, eqb-true}
use borrow.Table.Steps.{cases}
use Rattle.std.proofs.Math.ListN.{length, get_or, get_or-append}
use Rattle.std.proofs.Math.Seq.{get_or-take, get_or-drop}
use Rattle.codec_fields.specs.Fields.{Bytes, be_from, load_of, low_bytes}
use Rattle.codec_fields.proofs.Laws.{bytes_low, low_be, same_at}
use Rattle.codec_fields.proofs.Stores.{load_room, loaded_bytes}
use Rattle.refusals.specs.declared.refusal.Refusal.{Refusal}
use Rattle.refusals.specs.Refusals.{number_of, number_in, named, answered}
use Rattle.refusals.proofs.Numbers.{refused}
use Rattle.bit_times.specs.declared.baud.Baud.{Baud}
use Rattle.bit_times.specs.Times.{baud_of}
use Rattle.settings.specs.declared.parameters.Parameters.{Parameters}
use Rattle.settings.specs.Settings.{created_number}
use Rattle.settings_rules.specs.Rules.{baud_refusal}
use Rattle.settings_build.specs.declared.plain.PlainSettings.{PlainSettings}
use Rattle.settings_build.specs.Build.{first_refusal, built_at, build_of}
use Rattle.station.specs.Parts.{fresh_station}
use Rattle.trace_headers.specs.declared.Header.{Header}
use Rattle.trace_headers.specs.declared.Edition.TheVariants.{First}
use Rattle.trace_headers.specs.Headers.{edition_of, length_of, header_in, header_of, header_refusal}
use Rattle.trace.specs.Trace.{settings_of, settings_at, Accepted, started_with, start_of}
use Rattle.bus_setup.specs.Setup.{station_place, address_of, station_header, station_refusal}
use Rattle.bus_setup.specs.Laws.{header_length_lem}
use Rattle.bus_run.specs.Run.{settings_in}
use Rattle.bus_run.specs.Sized.{passed, positive}

-- Settings that are refused are refused with a number.

abbrev Numbered : Result Parameters Refusal → Type 0
Numbered (Ok p) = Unit {0}
Numbered (Err refusal) = 0 < number_of refusal

-- every refusal has a number
has_number : (refusal : Refusal) → 0 < number_of refusal
has_number refusal = cases (eqb (number_of refusal) 0) (λ t. absurd (refused refusal (eqb-true _ _ t))) (λ t. positive _ t)

either_way : (n : ℕ) (x : Result Parameters Refusal) → Numbered x → Numbered (cond (eqb n 0) x (Err (named n)))
either_way n x h = cases (eqb n 0) (λ t. rw t h) (λ t. rw t (has_number (named n)))

built : (f : PlainSettings) (c : Result Baud Refusal) → Numbered (built_at f c)
unfolding built_at
built f (Ok b) = tt
built f (Err refusal) = has_number refusal

settings_numbered : (h : Header) → Numbered (settings_of h)
unfolding settings_of build_of
settings_numbered h = either_way (header_refusal h) _ (either_way (first_refusal h.settings) _ (built h.settings (baud_of h.settings.baud_code)))

-- so where there is no number there are settings
accepted : (x : Result Parameters Refusal) → Numbered x → created_number x ≡ 0 → x ≡ Ok (settings_in x)
accepted (Ok p) h e = refl
accepted (Err refusal) h e = absurd (omega arith)

-- and its address is the plain one
built_address : (f : PlainSettings) (c : Result Baud Refusal) → created_number (built_at f c) ≡ 0 → (settings_in (built_at f c)).address ≡ f.address
unfolding built_at
built_address f (Ok b) e = refl
built_address f (Err refusal) e = absurd (refused refusal e)

either_address : (n address : ℕ) (x : Result Parameters Refusal) → (created_number x ≡ 0 → (settings_in x).address ≡ address) → created_number (cond (eqb n 0) x (Err (named n))) ≡ 0 → (settings_in (cond (eqb n 0) x (Err (named n)))).address ≡ address
either_address n address x h e =
    cases (eqb n 0)
    (λ t. let z : created_number x ≡ 0 = rw t at e in rw t (h z))
    (λ t. let z : number_of (named n) ≡ 0 = rw t at e in absurd (refused (named n) z))

settings_address : (h : Header) → created_number (settings_of h) ≡ 0 → (settings_in (settings_of h)).address ≡ h.settings.address
unfolding settings_of build_of
settings_address h e =
    either_address (header_refusal h) h.settings.address _ (either_address (first_refusal h.settings) h.settings.address _ (built_address h.settings (baud_of h.settings.baud_code))) e

bytes_append : (l m : List ℕ) → Bytes l → Bytes m → Bytes (l ++ m)
bytes_append [] m a b = b
bytes_append (x ∷ l) m a b = (a.0, bytes_append l m a.1 b)

-- a station's settings that are not refused: its address is that of edition 1
pub refusal_parts : (setup : List ℕ) (j : ℕ) → station_refusal setup j ≡ 0 → (address_of setup j ≤ 125) × (created_number (settings_at (station_header setup j)) ≡ 0)
unfolding station_refusal
refusal_parts setup j e =
    let a = passed (ltb 125 (address_of setup j)) 1 (created_number (settings_at (station_header setup j))) (lit≤ tt) e in
    (ltb-false 125 (address_of setup j) a.0, a.1)

module _ (setup : List ℕ) (j : ℕ) (are : Bytes setup) (room : station_place j + 14 ≤ length setup) where
  first_byte : get_or (station_header setup j) 0 0 ≡ get_or setup (station_place j) 0
  unfolding station_header
  first_byte =
      same_at 0 (loaded_bytes setup (station_place j) 8 are (lit≤ tt) (omega arith))
      ∙ get_or-take 8 (drop (station_place j) setup) 0 0 (lit≤ tt)
      ∙ get_or-drop (station_place j) setup 0 0
      ∙ ap (λ (k : ℕ). get_or setup k 0) (add-zero (station_place j))

  address_byte : address_of setup j ≡ get_or setup (station_place j) 0
  unfolding address_of be_from
  address_byte = load_room setup (station_place j) 1 (lit≤ tt) (omega arith) ∙ rw (drop-cons setup (station_place j) 0 (omega arith)) (zero-add (get_or setup (station_place j) 0))

  header_bytes : Bytes (station_header setup j)
  unfolding station_header
  header_bytes =
      let last : Bytes (low_bytes 2 (load_of setup (station_place j + 12) 2) ++ (0 ∷ [])) = bytes_append (low_bytes 2 (load_of setup (station_place j + 12) 2)) (0 ∷ []) (bytes_low 2 (load_of setup (station_place j + 12) 2)) (lit≤ tt, tt) in
      let one : Bytes (1 ∷ (low_bytes 2 (load_of setup (station_place j + 12) 2) ++ (0 ∷ []))) = (lit≤ tt, last) in
      let four : Bytes (low_bytes 4 (load_of setup (station_place j + 8) 4) ++ (1 ∷ (low_bytes 2 (load_of setup (station_place j + 12) 2) ++ (0 ∷ [])))) = bytes_append (low_bytes 4 (load_of setup (station_place j + 8) 4)) (1 ∷ (low_bytes 2 (load_of setup (station_place j + 12) 2) ++ (0 ∷ []))) (bytes_low 4 (load_of setup (station_place j + 8) 4)) one in
      bytes_append (low_bytes 8 (load_of setup (station_place j) 8)) (low_bytes 4 (load_of setup (station_place j + 8) 4) ++ (1 ∷ (low_bytes 2 (load_of setup (station_place j + 12) 2) ++ (0 ∷ [])))) (bytes_low 8 (load_of setup (station_place j) 8)) four

  one_application : (header_in First (station_header setup j)).applications ≡ 1
  unfolding header_in station_header
  one_application = same_at 12 (low_be (station_header setup j) header_bytes)

  header_address : (header_in First (station_header setup j)).settings.address ≡ get_or (station_header setup j) 0 0
  unfolding header_in station_header
  header_address = same_at 0 (low_be (station_header setup j) header_bytes)

  module _ (low : address_of setup j ≤ 125) where
    edition_first : (rest : List ℕ) → edition_of (station_header setup j ++ rest) ≡ First
    unfolding edition_of
    edition_first rest =
        let h : 0 < length (station_header setup j) = rw (header_length_lem setup j) (lit≤ tt) in
        let e : get_or (station_header setup j ++ rest) 0 0 ≡ address_of setup j = get_or-append (station_header setup j) rest 0 0 h ∙ first_byte ∙ sym address_byte in
        rw (ne_eqb (get_or (station_header setup j ++ rest) 0 0) 130 (λ (z : get_or (station_header setup j ++ rest) 0 0 ≡ 130). omega arith))

    long : (rest : List ℕ) → 16 ≤ length (station_header setup j ++ rest)
    long rest = rw (length-append (station_header setup j) rest, header_length_lem setup j) (omega arith)

    -- where the entries begin
    pub length_is : (rest : List ℕ) → length_of (edition_of (station_header setup j ++ rest)) ≡ 16
    unfolding length_of
    length_is rest = rw (edition_first rest)

    header_of_lem : (rest : List ℕ) → header_of (station_header setup j ++ rest) ≡ header_in First (station_header setup j)
    unfolding header_of
    header_of_lem rest =
        rw (length_is rest, le-ltb (length (station_header setup j ++ rest)) 16 (long rest), edition_first rest)
        (ap (header_in First) (take_at (station_header setup j) rest 16 (header_length_lem setup j)))

    settings_of_lem : (rest : List ℕ) → length (station_header setup j ++ rest) ≤ 2 ^ 32 → settings_at (station_header setup j ++ rest) ≡ settings_of (header_in First (station_header setup j))
    unfolding settings_at
    settings_of_lem rest l =
        rw (length_is rest, le-leb 16 (length (station_header setup j ++ rest)) (long rest), le-leb (length (station_header setup j ++ rest)) (2 ^ 32) l, header_of_lem rest)

    own_settings : settings_at (station_header setup j) ≡ settings_of (header_in First (station_header setup j))
    own_settings =
        subst (λ (l : List ℕ). settings_at l ≡ settings_of (header_in First (station_header setup j))) (append-nil (station_header setup j))
        (settings_of_lem [] (rw (append-nil (station_header setup j), header_length_lem setup j) (lit≤ tt)))

    -- they have the address that was given
    pub address_given : created_number (settings_at (station_header setup j)) ≡ 0 → (settings_in (settings_at (station_header setup j))).address ≡ address_of setup j
    address_given e =
        let same = own_settings in
        ap (λ (x : Result Parameters Refusal). (settings_in x).address) same
        ∙ settings_address (header_in First (station_header setup j)) (sym (ap created_number same) ∙ e)
        ∙ header_address
        ∙ first_byte
        ∙ sym address_byte

    -- the station that the trace starts
    pub starts :
        (rest : List ℕ)
        → length (station_header setup j ++ rest) ≤ 2 ^ 32
        → created_number (settings_at (station_header setup j)) ≡ 0
        → start_of (station_header setup j ++ rest) ≡ Accepted (fresh_station (settings_in (settings_at (station_header setup j))) 1)
    unfolding start_of started_with
    starts rest l e =
        let numbered : Numbered (settings_at (station_header setup j)) = subst Numbered (sym own_settings) (settings_numbered (header_in First (station_header setup j))) in
        let is = accepted (settings_at (station_header setup j)) numbered e in
        let same : settings_at (station_header setup j ++ rest) ≡ Ok (settings_in (settings_at (station_header setup j))) = settings_of_lem rest l ∙ sym own_settings ∙ is in
        rw (same, header_of_lem rest, one_application)
