-- Settings in bytes are the settings by value. Bytes hold settings (`Holds`) where their first 16 are a header's of these settings; what
-- a setter takes does, and each call on bytes that hold settings answers what the call by value answers, and leaves what it leaves.
use Rattle.std.specs.Prelude.{ℕ, suc, ◌+◌, ◌-◌, ◌*◌, ◌/◌, ◌^◌, ◌<◌, ◌≤◌, ◌≡◌, Option, Some, None, Result, Ok, Err, true, false, length, take, eqb, ltb}
use Rattle.std.proofs.Math.Path.{refl, sym, ap}
use Rattle.std.proofs.Common.{subst, ◌∙◌, arith, le-div_iff_mul-le, length-append, lit<}
use mathlib.Core.List.{List, [], ◌∷◌, ◌++◌}
use borrow.Author.Tests.{eqb-true, ne_eqb, le-ltb}
use borrow.Table.Steps.{cases}
use Rattle.std.proofs.Math.ListN.{drop, get_or}
use Rattle.std.proofs.Math.Seq.{take-append_seam, drop-append_seam}
use Rattle.bit_times.proofs.Laws.{listed}
use Rattle.codec_fields.specs.Fields.{zeros_or14, zero_or14, be, unpack, Within}
use Rattle.codec_fields.proofs.Laws.{unpack_pack}
use Rattle.codec_slices.proofs.Round.{read_written}
use Rattle.settings_watchdog.specs.Watchdog.{ceil_of}
use Rattle.settings_watchdog.proofs.Laws.{factors_given, factors_least}
use Rattle.refusals.specs.declared.refusal.Refusal.{Refusal}
use Rattle.refusals.specs.Refusals.{named}
use Rattle.bit_times.specs.declared.baud.Baud.{Baud}
use Rattle.settings.specs.declared.parameters.Parameters.{Parameters}
use Rattle.settings.specs.declared.not_set.NotSet.{NotSet}
use Rattle.settings.specs.Settings.{not_set, changed_number, changed_settings, default_of, new_at, new_of, unless, slot_bits_of, hsa_of, rotation_of, gap_wait_of, retry_of, min_tsdr_of, with_watchdog, watchdog_at, watchdog_of}
use Rattle.settings.specs.Made.{SoundSettings, by_new}
use Rattle.settings.proofs.Made.{made_sound}
use Rattle.settings.proofs.Numbers.{unless_number}
use Rattle.settings_rules.specs.Rules.{greatest_rotation, address_refusal, baud_refusal, least_of, slot_bits_refusal, hsa_refusal, rotation_refusal, room_refusal, gap_wait_refusal, retry_refusal, min_tsdr_refusal, watchdog_refusal, factors_refusal, applications_refusal, first_of}
use Rattle.settings_rules.proofs.Laws.{outside_in, in_below, in_outside}
use Rattle.bit_times.specs.Times.{least_slot_bits, baud_of}
use Rattle.settings_build.specs.Build.{early_refusal, first_refusal, build_of, factors_pair, plain_of, finish_of}
use Rattle.settings_build.specs.Made.{room_of}
use Rattle.settings_build.proofs.Passes.{whole_numbered}
use Rattle.settings_build.proofs.Made.{sound_number, sound_built}
use Rattle.trace_headers.specs.declared.Header.{Header}
use Rattle.trace_headers.specs.declared.Edition.TheVariants.{First}
use Rattle.trace_headers.specs.Headers.{second_mark, edition_of, widths_of, length_of, header_in, header_of, header_refusal}
use Rattle.trace_headers.specs.Laws.{made_in, widths_fill}
use Rattle.trace_headers.specs.Finished.{header_with}
use Rattle.trace_headers_written.specs.HeaderBytes.{values_in, header_bytes, header_into}
use Rattle.trace_headers_written.specs.Laws.{header_bytes_length}
use Rattle.settings_header.specs.Calls.{new_done}
use Rattle.settings_header.specs.SettingsHeader.{with_header_rotation, loosened, with_settings_rotation, settings_in, edition_refusal, lent_refusal, settings_at, stored_after, number_on, bytes_on, set_number, set_into, new_refusal, new_bytes, new_number, new_into, finish_number}

-- What is said.

-- each setting, with the value that it is given
pub data Setting : Type 0 where
  slot_bits : ℕ → Setting
  hsa : ℕ → Setting
  rotation : ℕ → Setting
  gap_wait : ℕ → Setting
  retry : ℕ → Setting
  min_tsdr : ℕ → Setting
  watchdog : ℕ → Setting

-- the setter by value
abbrev pub by_value : Setting → Parameters → Result Parameters NotSet
by_value (slot_bits v) p = slot_bits_of p v
by_value (hsa v) p = hsa_of p v
by_value (rotation v) p = rotation_of p v
by_value (gap_wait v) p = gap_wait_of p v
by_value (retry v) p = retry_of p v
by_value (min_tsdr v) p = min_tsdr_of p v
by_value (watchdog ms) p = watchdog_of p ms

-- a value of the setter's type, for the two settings whose rules have no upper end
abbrev pub Typed : Setting → Type 0
Typed (slot_bits v) = v < 2 ^ 16
Typed (hsa v) = Unit {0}
Typed (rotation v) = Unit {0}
Typed (gap_wait v) = Unit {0}
Typed (retry v) = Unit {0}
Typed (min_tsdr v) = v < 2 ^ 8
Typed (watchdog ms) = Unit {0}

-- no factors, or two of a byte each
abbrev pub FactorsFit : Option (ℕ × ℕ) → Type 0
FactorsFit None = Unit {0}
FactorsFit (Some (f1, f2)) = (f1 < 2 ^ 8) × (f2 < 2 ^ 8)

-- settings that a header's fields have room for, besides what their rules say
pub record Fits (p : Parameters) : Type 0 where
  pub slot : p.slot_bits < 2 ^ 16
  pub tsdr : p.min_tsdr_bits < 2 ^ 8
  pub factors : FactorsFit p.watchdog_factors

-- bytes that hold settings: they begin with the header of these settings and so many applications, and no rule but 25 refuses it
pub record Holds (s : List ℕ) (p : Parameters) (n : ℕ) : Type 0 where
  pub whole : length_of First ≤ length s
  pub begins : take (length_of First) s ≡ header_bytes First (header_with p n)
  pub sound : SoundSettings p
  pub fits : Fits p
  pub served : applications_refusal n ≡ 0

-- a setter on bytes that hold settings p: it answers as by value, its bytes hold the settings that the answer by value has, and the
-- bytes behind the header stay
pub record SetsAlike (c : Setting) (s : List ℕ) (p : Parameters) (n : ℕ) : Type 0 where
  pub same_number : set_number (by_value c) s ≡ changed_number (by_value c p)
  pub same_settings : Holds (set_into (by_value c) s) (changed_settings (by_value c p)) n
  pub behind_stays : drop (length_of First) (set_into (by_value c) s) ≡ drop (length_of First) s

-- 25 is not asked.

top_taken : rotation_refusal greatest_rotation ≡ 0
unfolding rotation_refusal
top_taken = in_outside 256 16777960 16777960 4 (omega arith, omega arith)

top_room : (slot : ℕ) → slot < 2 ^ 16 → room_refusal slot greatest_rotation ≡ 0
unfolding room_refusal
top_room slot l = in_below (slot + 100) 16777960 25 (omega (arith, l))

-- a header's first refusal for another reason than 25
abbrev pub other_refusal : Header → ℕ
other_refusal h =
    first_of
    (first_of
    (address_refusal h.settings.address
    ∷ baud_refusal (baud_of h.settings.baud_code)
    ∷ slot_bits_refusal (least_of (baud_of h.settings.baud_code)) h.settings.slot_bits
    ∷ hsa_refusal h.settings.address h.settings.highest_station_address
    ∷ rotation_refusal h.settings.token_rotation_bits
    ∷ gap_wait_refusal h.settings.gap_wait_rotations
    ∷ retry_refusal h.settings.max_retry_limit
    ∷ min_tsdr_refusal h.settings.min_tsdr_bits
    ∷ [])
    ∷ applications_refusal h.applications
    ∷ factors_refusal h.settings.factor_1 h.settings.factor_2
    ∷ zero_or14 h.zero_bits
    ∷ [])

module _ (h : Header) where
  pub turns : eqb (rotation_refusal h.settings.token_rotation_bits) 0 ≡ true → loosened h ≡ with_header_rotation h greatest_rotation
  unfolding loosened
  turns t = rw t refl

  pub stays : eqb (rotation_refusal h.settings.token_rotation_bits) 0 ≡ false → loosened h ≡ h
  unfolding loosened
  stays f = rw f refl

  turned_refusal : h.settings.slot_bits < 2 ^ 16 → eqb (rotation_refusal h.settings.token_rotation_bits) 0 ≡ true → header_refusal (with_header_rotation h greatest_rotation) ≡ other_refusal h
  unfolding with_header_rotation header_refusal early_refusal
  turned_refusal l t = rw (t, top_taken, top_room h.settings.slot_bits l) refl

  kept_refusal : eqb (rotation_refusal h.settings.token_rotation_bits) 0 ≡ false → header_refusal h ≡ other_refusal h
  unfolding header_refusal early_refusal
  kept_refusal f = rw f refl

  -- it is the first refusal of the loosened header
  pub but_25 : h.settings.slot_bits < 2 ^ 16 → header_refusal (loosened h) ≡ other_refusal h
  but_25 l =
      cases (eqb (rotation_refusal h.settings.token_rotation_bits) 0) (λ t. ap header_refusal (turns t) ∙ turned_refusal l t)
      (λ f. ap header_refusal (stays f) ∙ kept_refusal f)

-- Settings and the header that has them.

-- the factors as numbers fit
factors_fit : (w : Option (ℕ × ℕ)) → FactorsFit w → ((factors_pair w).0 < 2 ^ 8) × ((factors_pair w).1 < 2 ^ 8)
factors_fit None f = (lit< tt, lit< tt)
factors_fit (Some (f1, f2)) f = f

-- the same but for the rotation, which is the greatest
abbrev turned : Parameters → Parameters
turned p =
    record {
      token_rotation_bits = greatest_rotation;
      slot_bits = p.slot_bits;
      address = p.address;
      baudrate = p.baudrate;
      gap_wait_rotations = p.gap_wait_rotations;
      highest_station_address = p.highest_station_address;
      max_retry_limit = p.max_retry_limit;
      min_tsdr_bits = p.min_tsdr_bits;
      watchdog_factors = p.watchdog_factors;
    }

turned_sound : (p : Parameters) → SoundSettings p → SoundSettings (turned p)
turned_sound p s = record { address = s.address; slot_bits = s.slot_bits; hsa = s.hsa; rotation = top_taken; gap_wait = s.gap_wait; retry = s.retry; min_tsdr = s.min_tsdr; watchdog = s.watchdog }

-- a header of settings is refused as they are
header_number : (p : Parameters) (n : ℕ) → applications_refusal n ≡ 0 → header_refusal (header_with p n) ≡ first_refusal (plain_of p)
unfolding header_refusal first_refusal zeros_or14
header_number p n a = rw a refl

-- it is loosened by its rotation
loosened_is : (p : Parameters) (n : ℕ) → SoundSettings p → loosened (header_with p n) ≡ header_with (turned p) n
unfolding loosened with_header_rotation plain_of
loosened_is p n s = rw s.rotation refl

settings_loosened : (h loose : Header) (q : Parameters) → loosened h ≡ loose → header_refusal loose ≡ 0 → build_of loose.settings ≡ Ok q → settings_in h ≡ with_settings_rotation (Ok q) h.settings.token_rotation_bits
unfolding settings_in
settings_loosened h loose q is none built = rw (is, none, built) refl

turned_back : (p : Parameters) (n : ℕ) → with_settings_rotation (Ok (turned p)) (header_with p n).settings.token_rotation_bits ≡ Ok p
unfolding with_settings_rotation plain_of
turned_back p n = refl

-- the first of some bytes is the first
first_kept : (k : ℕ) (s : List ℕ) → get_or (take (suc k) s) 0 0 ≡ get_or s 0 0
first_kept k [] = refl
first_kept k (b ∷ s) = refl

-- an address begins edition 1
is_first : (s : List ℕ) → get_or s 0 0 ≤ 125 → edition_of s ≡ First
unfolding edition_of
is_first s l = let e : eqb (get_or s 0 0) second_mark ≡ _ = ne_eqb (get_or s 0 0) second_mark (λ z. omega (arith, l, z)) in rw e

-- what bytes say, by their fields
in_made : (bytes : List ℕ) → header_in First bytes ≡ made_in First (unpack (widths_of First) (be bytes))
unfolding header_in made_in
in_made bytes = refl

made_values : (h : Header) → made_in First (values_in First h) ≡ h
unfolding made_in
made_values h = refl

module _ (p : Parameters) (n : ℕ) (sound : SoundSettings p) (fits : Fits p) (served : applications_refusal n ≡ 0) where
  -- its fields have room for it
  within : Within (widths_of First) (values_in First (header_with p n))
  unfolding plain_of address_refusal hsa_refusal rotation_refusal gap_wait_refusal retry_refusal applications_refusal
  within =
      let address = outside_in 0 p.address 125 1 (lit< tt) sound.address in
      let baud = (listed p.baudrate).code_top in
      let turn = outside_in 256 p.token_rotation_bits 16777960 4 (lit< tt) sound.rotation in
      let gap = outside_in 1 p.gap_wait_rotations 100 5 (lit< tt) sound.gap_wait in
      let top = outside_in (p.address + 1) p.highest_station_address 126 3 (lit< tt) sound.hsa in
      let tries = outside_in 1 p.max_retry_limit 15 6 (lit< tt) sound.retry in
      let many = outside_in 1 n 8 11 (lit< tt) served in
      let pair = factors_fit p.watchdog_factors fits.factors in
      (omega (arith, address.1), (omega (arith, baud), (fits.slot, (omega (arith, turn.1), (omega (arith, gap.1), (omega (arith, top.1), (omega (arith, tries.1), (fits.tsdr, (omega (arith, many.1), (pair.0, (pair.1, (lit< tt, tt))))))))))))

  -- it is read back from its bytes
  read_back : header_in First (header_bytes First (header_with p n)) ≡ header_with p n
  unfolding header_bytes
  read_back =
      in_made (header_bytes First (header_with p n))
      ∙ ap (made_in First) (read_written (widths_of First) (length_of First) (widths_fill First) (values_in First (header_with p n)) within)
      ∙ made_values (header_with p n)

  -- they begin with the address
  begins_with : get_or (header_bytes First (header_with p n)) 0 0 ≡ p.address
  unfolding header_bytes length_of plain_of
  begins_with = ap (λ (vs : List ℕ). get_or vs 0 0) (unpack_pack 0 (widths_of First) (values_in First (header_with p n)) within)

  low : p.address ≤ 125
  unfolding address_refusal
  low = (outside_in 0 p.address 125 1 (lit< tt) sound.address).1

  -- its settings are found in it, with or without room for a gap poll
  settings_found : settings_in (header_with p n) ≡ Ok p
  settings_found =
      let q = turned p in
      let good = turned_sound p sound in
      let room : room_of q ≡ 0 = top_room p.slot_bits fits.slot in
      settings_loosened (header_with p n) (header_with q n) q (loosened_is p n sound) (header_number q n served ∙ sound_number q good ∙ room) (sound_built q good room)
      ∙ turned_back p n

-- Bytes that hold settings.

module _ {s : List ℕ} {p : Parameters} {n : ℕ} (h : Holds s p n) where
  edition_held : edition_of s ≡ First
  unfolding length_of
  edition_held =
      let first : get_or s 0 0 ≡ p.address = sym (first_kept 15 s) ∙ ap (λ (t : List ℕ). get_or t 0 0) h.begins ∙ begins_with p n h.sound h.fits h.served in
      is_first s (rw first (low p n h.sound h.fits h.served))

  -- they begin with the header
  pub header_held : header_of s ≡ header_with p n
  unfolding header_of
  header_held = rw (edition_held, le-ltb (length s) (length_of First) h.whole, h.begins) (read_back p n h.sound h.fits h.served)

  taken : lent_refusal s ≡ 0
  unfolding lent_refusal edition_refusal
  taken = rw (le-ltb (length s) (length_of First) h.whole, edition_held) refl

  -- a setter finds the settings in them
  pub settings_held : settings_at s ≡ Ok p
  unfolding settings_at
  settings_held = rw (taken, header_held) (settings_found p n h.sound h.fits h.served)

  -- finished, they have the number that the settings have by value: 25 or 0
  pub finishes_alike : finish_number s ≡ changed_number (finish_of p)
  unfolding finish_number finish_of
  finishes_alike = rw (taken, header_held) (header_number p n h.served ∙ sym (unless_number (first_refusal (plain_of p)) p p (whole_numbered (plain_of p))))

-- A header written.

module _ (s : List ℕ) (with : Header) where
  written_is : length_of First ≤ length s → header_into s First with ≡ header_bytes First with ++ drop (length_of First) s
  unfolding header_into
  written_is l = rw (le-ltb (length s) (length_of First) l) refl

  written_begins : length_of First ≤ length s → take (length_of First) (header_into s First with) ≡ header_bytes First with
  written_begins l =
      let d = drop (length_of First) s in
      ap (take (length_of First)) (written_is l)
      ∙ subst (λ (k : ℕ). take k (header_bytes First with ++ d) ≡ header_bytes First with) (header_bytes_length First with) (take-append_seam (header_bytes First with) d)

  -- the bytes behind it stay
  written_behind : drop (length_of First) (header_into s First with) ≡ drop (length_of First) s
  unfolding header_into
  written_behind =
      let d = drop (length_of First) s in
      cases (ltb (length s) (length_of First)) (λ t. rw t refl)
      (λ f. rw f (subst (λ (k : ℕ). drop k (header_bytes First with ++ d) ≡ d) (header_bytes_length First with) (drop-append_seam (header_bytes First with) d)))

  written_long : length_of First ≤ length s → length_of First ≤ length (header_into s First with)
  written_long l =
      let e : length (header_into s First with) ≡ length_of First + length (drop (length_of First) s) =
      ap length (written_is l) ∙ length-append (header_bytes First with) (drop (length_of First) s) ∙ ap (λ (k : ℕ). k + length (drop (length_of First) s)) (header_bytes_length First with) in
      omega (arith, e)

-- Every setter.

-- what a setter answers settings that a header has: such settings, or a refusal that hands them back
pub data Answered (p : Parameters) (answer : Result Parameters NotSet) : Type 0 where
  accepted : (q : Parameters) → answer ≡ Ok q → SoundSettings q → Fits q → Answered p answer
  refused : (refusal : Refusal) → answer ≡ not_set refusal p → Answered p answer

-- the rotation that an accepted HSA sets is accepted
hsa_turns : (address v : ℕ) → hsa_refusal address v ≡ 0 → rotation_refusal (v * 5000) ≡ 0
unfolding hsa_refusal rotation_refusal
hsa_turns address v h =
    let range = outside_in (address + 1) v 126 3 (lit< tt) h in
    in_outside 256 (v * 5000) 16777960 4 (omega (arith, range.0), omega (arith, range.1))

-- the watchdog's factors of a time in range
watchdog_answers : (p : Parameters) (ms : ℕ) → SoundSettings p → Fits p → Answered p (watchdog_of p ms)
unfolding watchdog_of unless watchdog_at watchdog_refusal with_watchdog
watchdog_answers p ms s f =
    cases (eqb (watchdog_refusal ms) 0)
    (λ t.
    let range = outside_in 10 ms 650000 8 (lit< tt) (eqb-true (watchdog_refusal ms) 0 t) in
    let given = factors_given ms (omega (arith, range.0)) (omega (arith, range.1)) in
    let r = factors_least ms given.0 given.1 given.2 in
    let whole : 1 * given.0 ≤ ms / 10 + given.0 - 1 = omega (arith, r.from, range.0) in
    let some : 1 ≤ ceil_of (ms / 10) given.0 = (le-div_iff_mul-le r.from).1 whole in
    accepted (with_watchdog p (Some (given.0, given.1))) (rw (t, given.2) refl)
    (record { address = s.address; slot_bits = s.slot_bits; hsa = s.hsa; rotation = s.rotation; gap_wait = s.gap_wait; retry = s.retry; min_tsdr = s.min_tsdr; watchdog = (r.from, rw r.quotient some) })
    (record { slot = f.slot; tsdr = f.tsdr; factors = (omega (arith, r.before), r.small) }))
    (λ e. refused (named (watchdog_refusal ms)) (rw e refl))

-- settings with other numbers
abbrev numbered : Parameters → ℕ → ℕ → ℕ → ℕ → ℕ → ℕ → Parameters
numbered p turn slot gap top tries tsdr =
    record {
      token_rotation_bits = turn;
      slot_bits = slot;
      address = p.address;
      baudrate = p.baudrate;
      gap_wait_rotations = gap;
      highest_station_address = top;
      max_retry_limit = tries;
      min_tsdr_bits = tsdr;
      watchdog_factors = p.watchdog_factors;
    }

-- none of which a rule refuses
abbrev Ruled : Parameters → ℕ → ℕ → ℕ → ℕ → ℕ → ℕ → Type 0
Ruled p turn slot gap top tries tsdr =
    (rotation_refusal turn ≡ 0)
    × (slot_bits_refusal (least_slot_bits p.baudrate) slot ≡ 0)
    × (gap_wait_refusal gap ≡ 0)
    × (hsa_refusal p.address top ≡ 0)
    × (retry_refusal tries ≡ 0)
    × (min_tsdr_refusal tsdr ≡ 0)

-- a setter that sets numbers
number_answers : (rule turn slot gap top tries tsdr : ℕ) (p : Parameters) → SoundSettings p → Fits p → (rule ≡ 0 → Ruled p turn slot gap top tries tsdr) → slot < 2 ^ 16 → tsdr < 2 ^ 8 → Answered p (unless rule p (Ok (numbered p turn slot gap top tries tsdr)))
unfolding unless
number_answers rule turn slot gap top tries tsdr p s f ruled l m =
    let q = numbered p turn slot gap top tries tsdr in
    cases (eqb rule 0)
    (λ t.
    let k = ruled (eqb-true rule 0 t) in
    accepted q (rw t refl)
    (record { address = s.address; slot_bits = k.1; hsa = k.3; rotation = k.0; gap_wait = k.2; retry = k.4; min_tsdr = k.5; watchdog = s.watchdog })
    (record { slot = l; tsdr = m; factors = f.factors }))
    (λ e. refused (named rule) (rw e refl))

-- every setter answers so
answers : (c : Setting) (p : Parameters) → Typed c → SoundSettings p → Fits p → Answered p (by_value c p)
unfolding slot_bits_of hsa_of rotation_of gap_wait_of retry_of min_tsdr_of
answers (slot_bits v) p t s f =
    number_answers _ p.token_rotation_bits v p.gap_wait_rotations p.highest_station_address p.max_retry_limit p.min_tsdr_bits p s f
    (λ z. (s.rotation, z, s.gap_wait, s.hsa, s.retry, s.min_tsdr)) t f.tsdr
answers (hsa v) p t s f =
    number_answers _ (v * 5000) p.slot_bits p.gap_wait_rotations v p.max_retry_limit p.min_tsdr_bits p s f
    (λ z. (hsa_turns p.address v z, s.slot_bits, s.gap_wait, z, s.retry, s.min_tsdr)) f.slot f.tsdr
answers (rotation v) p t s f =
    number_answers _ v p.slot_bits p.gap_wait_rotations p.highest_station_address p.max_retry_limit p.min_tsdr_bits p s f
    (λ z. (z, s.slot_bits, s.gap_wait, s.hsa, s.retry, s.min_tsdr)) f.slot f.tsdr
answers (gap_wait v) p t s f =
    number_answers _ p.token_rotation_bits p.slot_bits v p.highest_station_address p.max_retry_limit p.min_tsdr_bits p s f
    (λ z. (s.rotation, s.slot_bits, z, s.hsa, s.retry, s.min_tsdr)) f.slot f.tsdr
answers (retry v) p t s f =
    number_answers _ p.token_rotation_bits p.slot_bits p.gap_wait_rotations p.highest_station_address v p.min_tsdr_bits p s f
    (λ z. (s.rotation, s.slot_bits, s.gap_wait, s.hsa, z, s.min_tsdr)) f.slot f.tsdr
answers (min_tsdr v) p t s f =
    number_answers _ p.token_rotation_bits p.slot_bits p.gap_wait_rotations p.highest_station_address p.max_retry_limit v p s f
    (λ z. (s.rotation, s.slot_bits, s.gap_wait, s.hsa, s.retry, z)) f.slot t
answers (watchdog ms) p t s f = watchdog_answers p ms s f

module _ {s : List ℕ} {p : Parameters} {n : ℕ} (h : Holds s p n) where
  -- what is stored of an answer holds the settings that it has
  stored_holds : (answer : Result Parameters NotSet) → Answered p answer → Holds (stored_after s answer) (changed_settings answer) n
  unfolding stored_after
  stored_holds answer (accepted q is sound fits) =
      rw is
      (record {
        whole = written_long s (header_with q (header_of s).applications) h.whole;
        begins =
            written_begins s (header_with q (header_of s).applications) h.whole
            ∙ ap (λ (k : ℕ). header_bytes First (header_with q k)) (ap (λ (x : Header). x.applications) (header_held h));
        sound = sound;
        fits = fits;
        served = h.served;
      })
  stored_holds answer (refused refusal is) = rw is h

-- bytes behind the header stay, whatever they are and whatever the setter answers
pub set_behind : (set : Parameters → Result Parameters NotSet) (s : List ℕ) → drop (length_of First) (set_into set s) ≡ drop (length_of First) s
unfolding set_into bytes_on stored_after
set_behind set s = by (settings_at s)
  where
    after : (answer : Result Parameters NotSet) → drop (length_of First) (stored_after s answer) ≡ drop (length_of First) s
    after (Ok p) = written_behind s (header_with p (header_of s).applications)
    after (Err not_set) = refl

    by : (found : Result Parameters Refusal) → drop (length_of First) (bytes_on set s found) ≡ drop (length_of First) s
    by (Ok p) = after (set p)
    by (Err refusal) = refl

-- a refused call writes nothing, whatever the bytes are
pub refused_untouched : (set : Parameters → Result Parameters NotSet) (s : List ℕ) → (set_number set s ≡ 0 → ⊥) → set_into set s ≡ s
unfolding set_number set_into number_on bytes_on stored_after
refused_untouched set s = by (settings_at s)
  where
    after : (answer : Result Parameters NotSet) → (changed_number answer ≡ 0 → ⊥) → stored_after s answer ≡ s
    after (Ok p) h = absurd (h refl)
    after (Err not_set) h = refl

    by : (found : Result Parameters Refusal) → (number_on set found ≡ 0 → ⊥) → bytes_on set s found ≡ s
    by (Ok p) h = after (set p) h
    by (Err refusal) h = refl

-- the one law of the seven setters
pub sets_alike : (c : Setting) (s : List ℕ) (p : Parameters) (n : ℕ) → Typed c → Holds s p n → SetsAlike c s p n
unfolding set_number set_into number_on bytes_on
sets_alike c s p n t h =
    record {
      same_number = rw (settings_held h) refl;
      same_settings = rw (settings_held h) (stored_holds h (by_value c p) (answers c p t h.sound h.fits));
      behind_stays = set_behind (by_value c) s;
    }

-- New settings.

new_at_fits : (address : ℕ) (coded : Result Baud Refusal) (p : Parameters) → new_at address coded ≡ Ok p → Fits p
unfolding new_at
new_at_fits address (Ok baud) p e =
    let same : default_of address baud ≡ p = cc in
    subst (λ (q : Parameters). Fits q) same (record { slot = omega (arith, (listed baud).slot_top); tsdr = lit< tt; factors = tt })
new_at_fits address (Err refusal) p e = let z : ◌≡◌ {A = ℕ} 0 1 = cc in absurd (omega arith)

new_fits : (address code : ℕ) (p : Parameters) → new_of address code ≡ Ok p → Fits p
unfolding new_of
new_fits address code p e =
    cases (eqb (address_refusal address) 0) (λ t. new_at_fits address (baud_of code) p (rw t at e)) (λ f. none (named (address_refusal address)) (rw f at e))
  where
    none : (refusal : Refusal) → ◌≡◌ {A = Result Parameters Refusal} (Err refusal) (Ok p) → Fits p
    none refusal z = let y : ◌≡◌ {A = ℕ} 0 1 = cc in absurd (omega arith)

-- new settings in bytes hold the new settings by value
pub new_alike :
    (address code n : ℕ) (s : List ℕ) (p : Parameters)
    → new_of address code ≡ Ok p
    → applications_refusal n ≡ 0
    → length_of First ≤ length s
    → (new_number address code n (length s) ≡ 0) × Holds (new_into address code n s) p n × (drop (length_of First) (new_into address code n s) ≡ drop (length_of First) s)
new_alike address code n s p e a l =
    let with = header_with p n in
    let done = new_done address code n s p with (header_into s First with) e a l refl refl in (
      sym done.0,
      subst (λ (x : List ℕ). Holds x p n) done.1
          (record { whole = written_long s with l; begins = written_begins s with l; sound = made_sound (by_new address code e); fits = new_fits address code p e; served = a }),
      ap (drop (length_of First)) (sym done.1) ∙ written_behind s with,
    )

-- Factors.

-- a setter keeps the factors
abbrev KeepsFactors : (Parameters → Result Parameters NotSet) → Parameters → Type 0
KeepsFactors set p = (changed_settings (set p)).watchdog_factors ≡ p.watchdog_factors

unless_keeps : (rule : ℕ) (p q : Parameters) → q.watchdog_factors ≡ p.watchdog_factors → (changed_settings (unless rule p (Ok q))).watchdog_factors ≡ p.watchdog_factors
unfolding unless
unless_keeps rule p q e = cases (eqb rule 0) (λ t. rw t e) (λ f. rw f refl)

-- every setter but the watchdog's does, also a pair that no time gives
pub factors_kept :
    (p : Parameters) (v : ℕ) →
    KeepsFactors (by_value (slot_bits v)) p
    × KeepsFactors (by_value (hsa v)) p
    × KeepsFactors (by_value (rotation v)) p
    × KeepsFactors (by_value (gap_wait v)) p
    × KeepsFactors (by_value (retry v)) p
    × KeepsFactors (by_value (min_tsdr v)) p
unfolding slot_bits_of hsa_of rotation_of gap_wait_of retry_of min_tsdr_of
factors_kept p v = (
  unless_keeps _ p (numbered p p.token_rotation_bits v p.gap_wait_rotations p.highest_station_address p.max_retry_limit p.min_tsdr_bits) refl,
  unless_keeps _ p (numbered p (v * 5000) p.slot_bits p.gap_wait_rotations v p.max_retry_limit p.min_tsdr_bits) refl,
  unless_keeps _ p (numbered p v p.slot_bits p.gap_wait_rotations p.highest_station_address p.max_retry_limit p.min_tsdr_bits) refl,
  unless_keeps _ p (numbered p p.token_rotation_bits p.slot_bits v p.highest_station_address p.max_retry_limit p.min_tsdr_bits) refl,
  unless_keeps _ p (numbered p p.token_rotation_bits p.slot_bits p.gap_wait_rotations p.highest_station_address v p.min_tsdr_bits) refl,
  unless_keeps _ p (numbered p p.token_rotation_bits p.slot_bits p.gap_wait_rotations p.highest_station_address p.max_retry_limit v) refl,
)
