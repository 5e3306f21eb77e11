-- What is accepted is a sound station, and its bytes are those that were read.
use Prim.Native.Nat.{ℕ, ◌≤◌}
use Rattle.std.specs.Prelude.{Bool, true, false, cond, ◌≡◌, length, take, drop, eqb, ltb, Option, Some, None, Result, Ok, Err}
use Rattle.std.proofs.Math.Path.{refl, ap, subst}
use Rattle.std.proofs.Common.{sym, ◌∙◌, arith, eqb-true, ltb-false, length-drop, length-take-le}
use mathlib.Core.List.{List, [], ◌∷◌, ◌++◌}
use borrow.Table.Steps.{cases}
use Rattle.codec_fields.specs.Fields.{zero_or14, Bytes}
use Rattle.codec_fields.proofs.Stores.{bytes_take, bytes_drop}
use Rattle.settings.specs.declared.parameters.Parameters.{Parameters}
use Rattle.refusals.specs.declared.refusal.Refusal.{Refusal}
use Rattle.refusals.specs.Refusals.{named}
use Rattle.settings_rules.specs.Rules.{applications_refusal, factors_refusal}
use Rattle.settings_rules.proofs.Laws.{none_refuses, outside_in}
use Rattle.settings_build.specs.Build.{early_refusal, first_refusal, plain_of}
use Rattle.settings_build.specs.Built.{Built}
use Rattle.settings_build.proofs.Built.{build_accepts, built_passes}
use Rattle.settings_build.proofs.Passes.{address_low}
use Rattle.ring.specs.Ring.{Ring, links_of, has, make}
use Rattle.ring.specs.Laws.{SoundRing}
use Rattle.ring.proofs.Laws.{make_sound}
use Rattle.ring_members.specs.Members.{in_set, set_bytes}
use Rattle.ring_members.proofs.Back.{set_bytes_back}
use Rattle.station.specs.declared.station.Station.{Station}
use Rattle.trace_headers.specs.declared.Header.{Header}
use Rattle.trace_headers.specs.Headers.{header_refusal}
use Rattle.trace.specs.Trace.{settings_of}
use Rattle.station_words.specs.declared.Words.{Words}
use Rattle.station_words.specs.Words.{words_of, state_in, core_in, counts_in, laps_in, ready_in, header_in}
use Rattle.station_words.specs.Laws.{both, words_same}
use Rattle.station_lines.specs.Lines.{sound_line}
use Rattle.station_bytes.specs.Bytes.{words_in, set_in, station_from, words_fit, set_fits, checked_in, found_with, found_on, found_in, ring_in, read_of, word_list, all_bytes, station_bytes}
use Rattle.station_bytes.specs.Laws.{ring_linked}
use Rattle.theorem_sound.proofs.Kept.{not-true}
use Rattle.theorem_sound.specs.Sound.{SoundStation}
use Rattle.theorem_live.specs.Lines.{Passing, lines_sound}
use Rattle.theorem_live.specs.Round.{words_again}

-- A station that is read.

-- what was found in words and a set that are this station
pub record Found (w : Words) (set : List ℕ) (s : Station) : Type 0 where
  pub p : Parameters
  pub settings : settings_of (header_in w) ≡ Ok p
  pub members : set_fits set p.address ≡ true
  pub words : words_fit (station_from p (header_in w).applications w set) w ≡ true
  pub is : station_from p (header_in w).applications w set ≡ s

-- a number of what was read, and the station of it
abbrev taken_number : Option Station → ℕ
taken_number (Some s) = 1
taken_number None = 0

abbrev taken_or : Station → Option Station → Station
taken_or d (Some s) = s
taken_or d None = d

none_taken : {A : Type 0} (s : Station) → ◌≡◌ {A = Option Station} None (Some s) → A
none_taken s e = let z : ◌≡◌ {A = ℕ} 0 1 = ap taken_number e in absurd (omega (arith, z))

module _ (w : Words) (set : List ℕ) (s : Station) where
  found_whole : found_in w set ≡ Some s → Found w set s
  unfolding found_in found_on found_with checked_in
  found_whole e = go (settings_of (header_in w)) refl e
    where
      n : ℕ
      n = (header_in w).applications

      words : (p : Parameters) → settings_of (header_in w) ≡ Ok p → set_fits set p.address ≡ true → cond (words_fit (station_from p n w set) w) (Some (station_from p n w set)) None ≡ Some s → Found w set s
      words p r m e =
          cases (words_fit (station_from p n w set) w)
          (λ t. record { p = p; settings = r; members = m; words = t; is = ap (taken_or s) (rw t at e) })
          (λ f. none_taken s (rw f at e))

      go : (c : Result Parameters Refusal) → settings_of (header_in w) ≡ c → found_on c n w set ≡ Some s → Found w set s
      go (Ok p) r e =
          cases (set_fits set p.address) (λ t. words p r t (rw t at e)) (λ f. none_taken s (rw f at e))
      go (Err k) r e = none_taken s e

-- bytes that are a station are enough, and have its words and its set
pub found : (bytes : List ℕ) (s : Station) → read_of bytes ≡ Some s → (96 ≤ length bytes) × Found (words_in bytes) (set_in bytes) s
unfolding read_of
found bytes s e =
    cases (ltb (length bytes) 96) (λ t. none_taken s (rw t at e))
    (λ f. (ltb-false (length bytes) 96 f, found_whole (words_in bytes) (set_in bytes) s (rw f at e)))

-- Its settings.

-- a header whose settings are accepted: no rule refuses it
pub record HeaderAccepts (h : Header) (p : Parameters) : Type 0 where
  pub built : Built h.settings p
  pub served : applications_refusal h.applications ≡ 0
  pub zeros : zero_or14 h.zero_bits ≡ 0

not_settings : {A : Type 0} (refusal : Refusal) (p : Parameters) → ◌≡◌ {A = Result Parameters Refusal} (Err refusal) (Ok p) → A
not_settings refusal p e = let z : ◌≡◌ {A = ℕ} 0 1 = cc in absurd (omega arith)

pub header_accepts : (h : Header) (p : Parameters) → settings_of h ≡ Ok p → HeaderAccepts h p
unfolding settings_of header_refusal
header_accepts h p e =
    cases (eqb (header_refusal h) 0)
    (λ t.
    let late : List ℕ = zero_or14 h.zero_bits ∷ [] in
    let pair : List ℕ = factors_refusal h.settings.factor_1 h.settings.factor_2 ∷ late in
    let whole = none_refuses (early_refusal h.settings) (applications_refusal h.applications ∷ pair) (eqb-true (header_refusal h) 0 t) in
    let from_11 = none_refuses (applications_refusal h.applications) pair whole.1 in
    let from_8 = none_refuses (factors_refusal h.settings.factor_1 h.settings.factor_2) late from_11.1 in
    record { built = build_accepts h.settings p (rw t at e); served = from_11.0; zeros = (none_refuses (zero_or14 h.zero_bits) [] from_8.1).0 })
    (λ f. not_settings (named (header_refusal h)) p (rw f at e))

-- Its ring.

-- a set that fits has own, and not the two that are no addresses
set_fits_lem : (set : List ℕ) (own : ℕ) → set_fits set own ≡ true → (in_set set own ≡ true) × (in_set set 126 ≡ false) × (in_set set 127 ≡ false)
unfolding set_fits
set_fits_lem set own e =
    let h = both (in_set set own) _ e in
    cases (in_set set 126) (λ t. not-true (rw t at h.1))
    (λ f. cases (in_set set 127) (λ t. not-true (rw (f, t) at h.1)) (λ g. (h.0, f, g)))

-- the parts of a ring that is made
made_own : (own : ℕ) (f : ℕ → Bool) (laps : ℕ) (ready : Bool) → (make own f laps ready).own ≡ own
unfolding make
made_own own f laps ready = refl

made_laps : (own : ℕ) (f : ℕ → Bool) (laps : ℕ) (ready : Bool) → (make own f laps ready).laps ≡ laps
unfolding make
made_laps own f laps ready = refl

made_ready : (own : ℕ) (f : ℕ → Bool) (laps : ℕ) (ready : Bool) → (make own f laps ready).ready ≡ ready
unfolding make
made_ready own f laps ready = refl

-- 1 to 8 applications
served_range : (n : ℕ) → applications_refusal n ≡ 0 → (1 ≤ n) × (n ≤ 8)
unfolding applications_refusal
served_range n e = outside_in 1 n 8 11 (omega arith) e

module _ (w : Words) (set : List ℕ) (s : Station) (k : Found w set s) where
  abbrev own : ℕ
  own = k.p.address

  abbrev n : ℕ
  n = (header_in w).applications

  accepts : HeaderAccepts (header_in w) k.p
  accepts = header_accepts (header_in w) k.p k.settings

  passed : first_refusal (plain_of k.p) ≡ 0
  passed = built_passes (header_in w).settings k.p accepts.built

  ring_is : ring_in own (laps_in w) (ready_in w) set ≡ make own (in_set set) (laps_in w) (ready_in w)
  unfolding make
  ring_is = sym (ring_linked own (laps_in w) (ready_in w) (links_of (in_set set)) set (address_low k.p passed) (set_fits_lem set own k.members).0 refl)

  lines : (sound_line k.p n (state_in w) (core_in w) (laps_in w) ≡ true) × (words_of (state_in w) (core_in w) (laps_in w) (ready_in w) k.p n (counts_in w) ≡ w)
  unfolding words_fit station_from make
  lines =
      let h = both _ _ k.words in
      subst (λ (r : Ring). (sound_line k.p n (state_in w) (core_in w) r.laps ≡ true) × (words_of (state_in w) (core_in w) r.laps r.ready k.p n (counts_in w) ≡ w)) ring_is
      (h.0, words_same _ w h.1)

  passing : Passing k.p n (state_in w) (core_in w) (laps_in w)
  passing = lines_sound k.p n (state_in w) (core_in w) (laps_in w) passed lines.0

  -- What is accepted is a sound station.
  pub found_sound : SoundStation s
  unfolding station_from
  found_sound =
      let range = served_range n accepts.served in
      subst SoundStation k.is
      (record {
        ring_sound = subst SoundRing (sym ring_is) (make_sound own (in_set set) (laps_in w) (ready_in w) (address_low k.p passed) (set_fits_lem set own k.members).0 passing.laps_two);
        own_is = ap (λ (r : Ring). r.own) ring_is ∙ made_own own (in_set set) (laps_in w) (ready_in w);
        some = range.0;
        eight = range.1;
        first_attempt = λ z. passing.first_attempt;
        core_sound = passing.core_sound;
      })

  -- Its bytes are those that were read: the words and the set.
  pub found_bytes : Bytes set → length set ≡ 16 → station_bytes s ≡ all_bytes (word_list w) ++ set
  unfolding station_bytes station_from
  found_bytes bytes long =
      let fits = set_fits_lem set own k.members in
      let laps = laps_in w in
      let ready = ready_in w in
      let at : Ring → List ℕ =
      λ r. all_bytes (word_list (words_of (state_in w) (core_in w) r.laps r.ready k.p n (counts_in w))) ++ set_bytes (has r) in
      ap station_bytes (sym k.is)
      ∙ ap at ring_is
      ∙ ap (λ (l : ℕ). all_bytes (word_list (words_of (state_in w) (core_in w) l (make own (in_set set) laps ready).ready k.p n (counts_in w))) ++ set_bytes (has (make own (in_set set) laps ready))) (made_laps own (in_set set) laps ready)
      ∙ ap (λ (b : Bool). all_bytes (word_list (words_of (state_in w) (core_in w) laps b k.p n (counts_in w))) ++ set_bytes (has (make own (in_set set) laps ready))) (made_ready own (in_set set) laps ready)
      ∙ ap (λ (v : Words). all_bytes (word_list v) ++ set_bytes (has (make own (in_set set) laps ready))) lines.1
      ∙ ap (λ (l : List ℕ). all_bytes (word_list w) ++ l) (set_bytes_back own laps ready set long bytes fits.1 fits.2)

-- The theorem: bytes that are read as a station are a sound station, and are written again as they were.
pub accepted_sound : (bytes : List ℕ) (s : Station) → read_of bytes ≡ Some s → SoundStation s
accepted_sound bytes s e = found_sound (words_in bytes) (set_in bytes) s (found bytes s e).1

pub accepted_again : (bytes : List ℕ) (s : Station) → Bytes bytes → read_of bytes ≡ Some s → station_bytes s ≡ take 96 bytes
accepted_again bytes s b e =
    let f = found bytes s e in
    found_bytes (words_in bytes) (set_in bytes) s f.1 (bytes_take 16 (drop 80 bytes) (bytes_drop 80 bytes b)) (length-take-le 16 (drop 80 bytes) (rw length-drop (omega (arith, f.0))))
    ∙ words_again bytes b f.0
