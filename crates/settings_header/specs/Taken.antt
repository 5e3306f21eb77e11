-- What a setter takes: whatever bytes it finds settings in hold them, each field as given. So the law of the setters speaks of every
-- record that a setter takes, one with a pair of factors that no time gives included.
use Rattle.std.specs.Prelude.{ℕ, zero, suc, ◌^◌, ◌<◌, ◌≤◌, ◌≡◌, refl, List, [], ◌∷◌, Option, Some, None, Result, Ok, Err, false, length, take, get_or, eqb, ltb}
use Rattle.std.proofs.Common.{sym, ap, subst, ◌∙◌, arith, eqb-true, ltb-false, le-ltb, length-take-le}
use Rattle.std.proofs.lemmas.Bool.{eqb-false}
use borrow.Table.Steps.{cases}
use Rattle.bit_times.proofs.Laws.{listed}
use Rattle.bit_times.specs.Times.{baud_of}
use Rattle.codec_fields.specs.Fields.{zero_or14, be, Bytes}
use Rattle.codec_fields.proofs.Laws.{unpacked_within, zero_fields, never}
use Rattle.codec_slices.proofs.Round.{written_read}
use Rattle.refusals.specs.declared.refusal.Refusal.{Refusal}
use Rattle.refusals.specs.Refusals.{named}
use Rattle.bit_times.specs.declared.baud.Baud.{Baud}
use Rattle.settings.specs.declared.parameters.Parameters.{Parameters}
use Rattle.settings.specs.Made.{Watched, SoundSettings}
use Rattle.settings_rules.specs.Rules.{address_refusal, baud_refusal, least_of, slot_bits_refusal, hsa_refusal, rotation_refusal, gap_wait_refusal, retry_refusal, min_tsdr_refusal, factors_refusal, applications_refusal, first_of}
use Rattle.settings_rules.proofs.Laws.{none_refuses}
use Rattle.settings_build.specs.declared.plain.PlainSettings.{PlainSettings}
use Rattle.settings_build.specs.Build.{first_refusal, pair_of, built_at, build_of, factors_pair, plain_of}
use Rattle.settings_build.proofs.Built.{build_accepts}
use Rattle.trace_headers.specs.declared.Header.{Header}
use Rattle.trace_headers.specs.declared.Edition.{Edition}
use Rattle.trace_headers.specs.declared.Edition.TheVariants.{First, Second}
use Rattle.trace_headers.specs.Headers.{edition_of, widths_of, length_of, header_in, header_of, header_refusal}
use Rattle.trace_headers.specs.Finished.{header_with}
use Rattle.trace_headers_written.specs.HeaderBytes.{header_bytes}
use Rattle.settings_header.specs.SettingsHeader.{with_header_rotation, loosened, with_settings_rotation, settings_in, edition_refusal, lent_refusal, settings_at}
use Rattle.settings_header.specs.Laws.{FactorsFit, Fits, Holds, other_refusal, turns, stays, but_25}

-- a refusal is not settings
not_settings : (refusal : Refusal) (p : Parameters) → ◌≡◌ {A = Result Parameters Refusal} (Err refusal) (Ok p) → ⊥
not_settings refusal p e = let z : ◌≡◌ {A = ℕ} 0 1 = cc in omega arith

-- The bytes.

lent_taken : (s : List ℕ) (p : Parameters) → settings_at s ≡ Ok p → (lent_refusal s ≡ 0) × (settings_in (header_of s) ≡ Ok p)
unfolding settings_at
lent_taken s p e =
    cases (eqb (lent_refusal s) 0) (λ t. (eqb-true (lent_refusal s) 0 t, rw t at e)) (λ f. absurd (not_settings (named (lent_refusal s)) p (rw f at e)))

first_taken : (x : Edition) → edition_refusal x ≡ 0 → x ≡ First
unfolding edition_refusal
first_taken First e = refl
first_taken Second e = never 0 e

edition_taken : (s : List ℕ) → lent_refusal s ≡ 0 → (length_of First ≤ length s) × (edition_of s ≡ First)
unfolding lent_refusal
edition_taken s e =
    cases (ltb (length s) (length_of First)) (λ t. never 16 (rw t at e)) (λ f. (ltb-false (length s) (length_of First) f, first_taken (edition_of s) (rw f at e)))

header_taken : (s : List ℕ) → length_of First ≤ length s → edition_of s ≡ First → header_of s ≡ header_in First (take (length_of First) s)
unfolding header_of
header_taken s l e = rw (e, le-ltb (length s) (length_of First) l) refl

-- The settings.

-- with another rotation
abbrev rotated : Parameters → ℕ → Parameters
rotated p turn =
    record {
      token_rotation_bits = turn;
      slot_bits = p.slot_bits;
      address = p.address;
      baudrate = p.baudrate;
      gap_wait_rotations = p.gap_wait_rotations;
      highest_station_address = p.highest_station_address;
      max_retry_limit = p.max_retry_limit;
      min_tsdr_bits = p.min_tsdr_bits;
      watchdog_factors = p.watchdog_factors;
    }

-- what was built of the loosened header, and turned back
record Turned (h : Header) (p : Parameters) : Type 0 where
  no_refusal : header_refusal (loosened h) ≡ 0
  roomy : Parameters
  built : build_of (loosened h).settings ≡ Ok roomy
  back : rotated roomy h.settings.token_rotation_bits ≡ p

turned_of : (h : Header) (p : Parameters) → settings_in h ≡ Ok p → Turned h p
unfolding settings_in with_settings_rotation
turned_of h p e =
    cases (eqb (header_refusal (loosened h)) 0) (λ t. by (eqb-true (header_refusal (loosened h)) 0 t) (build_of (loosened h).settings) refl (rw t at e))
    (λ f. absurd (not_settings (named (header_refusal (loosened h))) p (rw f at e)))
  where
    same : (q : Parameters) → ◌≡◌ {A = Result Parameters Refusal} (Ok q) (Ok p) → q ≡ p
    same q z = cc

    by : header_refusal (loosened h) ≡ 0 → (x : Result Parameters Refusal) → build_of (loosened h).settings ≡ x → with_settings_rotation x h.settings.token_rotation_bits ≡ Ok p → Turned h p
    by none (Ok q) is z = record { no_refusal = none; roomy = q; built = is; back = same _ z }
    by none (Err refusal) is z = absurd (not_settings refusal p z)

-- plain numbers with another rotation
abbrev plain_turned : PlainSettings → ℕ → PlainSettings
plain_turned f turn =
    record {
      token_rotation_bits = turn;
      slot_bits = f.slot_bits;
      address = f.address;
      baud_code = f.baud_code;
      gap_wait_rotations = f.gap_wait_rotations;
      highest_station_address = f.highest_station_address;
      max_retry_limit = f.max_retry_limit;
      min_tsdr_bits = f.min_tsdr_bits;
      factor_1 = f.factor_1;
      factor_2 = f.factor_2;
    }

loose_back : (h : Header) → plain_turned (loosened h).settings h.settings.token_rotation_bits ≡ h.settings
unfolding with_header_rotation
loose_back h =
    cases (eqb (rotation_refusal h.settings.token_rotation_bits) 0)
    (λ t. ap (λ (x : Header). plain_turned x.settings h.settings.token_rotation_bits) (turns h t))
    (λ f. ap (λ (x : Header). plain_turned x.settings h.settings.token_rotation_bits) (stays h f))

plain_rotated : (p : Parameters) (turn : ℕ) → plain_of (rotated p turn) ≡ plain_turned (plain_of p) turn
unfolding plain_of
plain_rotated p turn = refl

-- the settings have the header's numbers
numbers_taken : (h : Header) (p : Parameters) → Turned h p → plain_of p ≡ h.settings
numbers_taken h p t =
    let turn = h.settings.token_rotation_bits in
    sym (ap plain_of t.back)
    ∙ plain_rotated t.roomy turn
    ∙ ap (λ (f : PlainSettings). plain_turned f turn) (build_accepts (loosened h).settings t.roomy t.built).same_numbers
    ∙ loose_back h

-- factors that are built are none, or two that are not zero
pair_watched : (f1 f2 : ℕ) → factors_refusal f1 f2 ≡ 0 → Watched (pair_of f1 f2)
unfolding factors_refusal pair_of
pair_watched f1 f2 e = cases (eqb f1 0) (λ a. rw a tt) (λ a. rw a (some f1 (eqb-false f1 0 a), second a))
  where
    some : (f : ℕ) → (f ≡ 0 → ⊥) → 1 ≤ f
    some f z = cases (eqb f 0) (λ t. absurd (z (eqb-true f 0 t))) (λ t. omega (arith, z))

    second : eqb f1 0 ≡ false → 1 ≤ f2
    second a = cases (eqb f2 0) (λ b. never 7 (rw (a, b) at e)) (λ b. some f2 (eqb-false f2 0 b))

built_watched : (f : PlainSettings) (p : Parameters) (x : Result Baud Refusal) → factors_refusal f.factor_1 f.factor_2 ≡ 0 → built_at f x ≡ Ok p → Watched p.watchdog_factors
unfolding built_at
built_watched f p (Ok baud) e is =
    let made : ◌≡◌ {A = Result Parameters Refusal} (Ok (record { token_rotation_bits = f.token_rotation_bits; slot_bits = f.slot_bits; address = f.address; baudrate = baud; gap_wait_rotations = f.gap_wait_rotations; highest_station_address = f.highest_station_address; max_retry_limit = f.max_retry_limit; min_tsdr_bits = f.min_tsdr_bits; watchdog_factors = pair_of f.factor_1 f.factor_2 })) (Ok p) = is in
    let same : p ≡ record { token_rotation_bits = f.token_rotation_bits; slot_bits = f.slot_bits; address = f.address; baudrate = baud; gap_wait_rotations = f.gap_wait_rotations; highest_station_address = f.highest_station_address; max_retry_limit = f.max_retry_limit; min_tsdr_bits = f.min_tsdr_bits; watchdog_factors = pair_of f.factor_1 f.factor_2 } = cc in
    subst (λ (w : Option (ℕ × ℕ)). Watched w) (sym (ap (λ (q : Parameters). q.watchdog_factors) same)) (pair_watched f.factor_1 f.factor_2 e)
built_watched f p (Err refusal) e is = absurd (not_settings refusal p is)

watched_taken : (f : PlainSettings) (p : Parameters) → factors_refusal f.factor_1 f.factor_2 ≡ 0 → build_of f ≡ Ok p → Watched p.watchdog_factors
unfolding build_of
watched_taken f p z e =
    cases (eqb (first_refusal f) 0) (λ t. built_watched f p (baud_of f.baud_code) z (rw t at e)) (λ t. absurd (not_settings (named (first_refusal f)) p (rw t at e)))

-- no rule but 25 refuses a header's fields
record Ruled (h : Header) : Type 0 where
  address : address_refusal h.settings.address ≡ 0
  slot_bits : slot_bits_refusal (least_of (baud_of h.settings.baud_code)) h.settings.slot_bits ≡ 0
  hsa : hsa_refusal h.settings.address h.settings.highest_station_address ≡ 0
  rotation : rotation_refusal h.settings.token_rotation_bits ≡ 0
  gap_wait : gap_wait_refusal h.settings.gap_wait_rotations ≡ 0
  retry : retry_refusal h.settings.max_retry_limit ≡ 0
  min_tsdr : min_tsdr_refusal h.settings.min_tsdr_bits ≡ 0
  served : applications_refusal h.applications ≡ 0
  factors : factors_refusal h.settings.factor_1 h.settings.factor_2 ≡ 0
  zero : zero_or14 h.zero_bits ≡ 0

ruled : (h : Header) → other_refusal h ≡ 0 → Ruled h
ruled h e =
    let f = h.settings in
    let zero_bits : List ℕ = zero_or14 h.zero_bits ∷ [] in
    let pair : List ℕ = factors_refusal f.factor_1 f.factor_2 ∷ zero_bits in
    let many : List ℕ = applications_refusal h.applications ∷ pair in
    let seven : List ℕ = min_tsdr_refusal f.min_tsdr_bits ∷ [] in
    let six : List ℕ = retry_refusal f.max_retry_limit ∷ seven in
    let five : List ℕ = gap_wait_refusal f.gap_wait_rotations ∷ six in
    let four : List ℕ = rotation_refusal f.token_rotation_bits ∷ five in
    let three : List ℕ = hsa_refusal f.address f.highest_station_address ∷ four in
    let two : List ℕ = slot_bits_refusal (least_of (baud_of f.baud_code)) f.slot_bits ∷ three in
    let ten : List ℕ = baud_refusal (baud_of f.baud_code) ∷ two in
    let early = none_refuses (first_of (address_refusal f.address ∷ ten)) many e in
    let from_1 = none_refuses (address_refusal f.address) ten early.0 in
    let from_10 = none_refuses (baud_refusal (baud_of f.baud_code)) two from_1.1 in
    let from_2 = none_refuses (slot_bits_refusal (least_of (baud_of f.baud_code)) f.slot_bits) three from_10.1 in
    let from_3 = none_refuses (hsa_refusal f.address f.highest_station_address) four from_2.1 in
    let from_4 = none_refuses (rotation_refusal f.token_rotation_bits) five from_3.1 in
    let from_5 = none_refuses (gap_wait_refusal f.gap_wait_rotations) six from_4.1 in
    let from_6 = none_refuses (retry_refusal f.max_retry_limit) seven from_5.1 in
    let from_11 = none_refuses (applications_refusal h.applications) pair early.1 in
    let from_8 = none_refuses (factors_refusal f.factor_1 f.factor_2) zero_bits from_11.1 in
    record {
      address = from_1.0;
      slot_bits = from_2.0;
      hsa = from_3.0;
      rotation = from_4.0;
      gap_wait = from_5.0;
      retry = from_6.0;
      min_tsdr = (none_refuses (min_tsdr_refusal f.min_tsdr_bits) [] from_6.1).0;
      served = from_11.0;
      factors = from_8.0;
      zero = (none_refuses (zero_or14 h.zero_bits) [] from_8.1).0;
    }

-- settings with a header's numbers are sound where no rule refuses these
sound_numbers : (p : Parameters) (n : ℕ) → Ruled (header_with p n) → Watched p.watchdog_factors → SoundSettings p
unfolding plain_of
sound_numbers p n r w =
    record {
      address = r.address;
      slot_bits = subst (λ (x : Result Baud Refusal). slot_bits_refusal (least_of x) p.slot_bits ≡ 0) (listed p.baudrate).back r.slot_bits;
      hsa = r.hsa;
      rotation = r.rotation;
      gap_wait = r.gap_wait;
      retry = r.retry;
      min_tsdr = r.min_tsdr;
      watchdog = w;
    }

-- The header.

-- factors whose numbers are bytes
pair_fits : (w : Option (ℕ × ℕ)) → (factors_pair w).0 < 2 ^ 8 → (factors_pair w).1 < 2 ^ 8 → FactorsFit w
pair_fits None a b = tt
pair_fits (Some (f1, f2)) a b = (a, b)

plain_fits : (p : Parameters) (f : PlainSettings) → plain_of p ≡ f → f.slot_bits < 2 ^ 16 → f.min_tsdr_bits < 2 ^ 8 → f.factor_1 < 2 ^ 8 → f.factor_2 < 2 ^ 8 → Fits p
unfolding plain_of
plain_fits p f e s m a b =
    record {
      slot = rw (ap (λ (x : PlainSettings). x.slot_bits) e) s;
      tsdr = rw (ap (λ (x : PlainSettings). x.min_tsdr_bits) e) m;
      factors = pair_fits p.watchdog_factors (rw (ap (λ (x : PlainSettings). x.factor_1) e) a) (rw (ap (λ (x : PlainSettings). x.factor_2) e) b);
    }

-- numbers that were read are as wide as their fields
read_fits : (p : Parameters) (bytes : List ℕ) → plain_of p ≡ (header_in First bytes).settings → Fits p
unfolding header_in
read_fits p bytes e =
    let w = unpacked_within (widths_of First) (be bytes) in
    plain_fits p (header_in First bytes).settings e w.1.1.0 w.1.1.1.1.1.1.1.0 w.1.1.1.1.1.1.1.1.1.0 w.1.1.1.1.1.1.1.1.1.1.0

slot_fits : (bytes : List ℕ) → (header_in First bytes).settings.slot_bits < 2 ^ 16
unfolding header_in
slot_fits bytes = (unpacked_within (widths_of First) (be bytes)).1.1.0

-- bytes are written again from what they say
write_back : (bytes : List ℕ) → Bytes bytes → length bytes ≡ length_of First → header_bytes First (header_in First bytes) ≡ bytes
unfolding header_bytes header_in length_of
write_back bytes are l = written_read (widths_of First) 16 refl bytes l are

-- some of the bytes are bytes
bytes_taken : (k : ℕ) (s : List ℕ) → Bytes s → Bytes (take k s)
bytes_taken zero s b = tt
bytes_taken (suc k) [] b = tt
bytes_taken (suc k) (x ∷ s) b = (b.0, bytes_taken k s b.1)

-- a header by its numbers
header_is : (h : Header) (p : Parameters) → plain_of p ≡ h.settings → h.zero_bits ≡ 0 → h ≡ header_with p h.applications
header_is h p e z =
    ap (λ (f : PlainSettings). record { settings = f; applications = h.applications; zero_bits = h.zero_bits }) (sym e)
    ∙ ap (λ (k : ℕ). record { settings = plain_of p; applications = h.applications; zero_bits = k }) z

-- the theorem: bytes in which a setter finds settings hold them
pub taken_holds : (s : List ℕ) (p : Parameters) → Bytes s → settings_at s ≡ Ok p → Holds s p (header_of s).applications
taken_holds s p are e = record { whole = long; begins = begin; sound = sound; fits = fit; served = good.served }
  where
    lent : (lent_refusal s ≡ 0) × (settings_in (header_of s) ≡ Ok p)
    lent = lent_taken s p e

    long : length_of First ≤ length s
    long = (edition_taken s lent.0).0

    bytes : List ℕ
    bytes = take (length_of First) s

    h : Header
    h = header_of s

    read : h ≡ header_in First bytes
    read = header_taken s long (edition_taken s lent.0).1

    turn : Turned h p
    turn = turned_of h p lent.1

    numbers : plain_of p ≡ h.settings
    numbers = numbers_taken h p turn

    narrow : h.settings.slot_bits < 2 ^ 16
    narrow = subst (λ (x : Header). x.settings.slot_bits < 2 ^ 16) (sym read) (slot_fits bytes)

    good : Ruled h
    good = ruled h (sym (but_25 h narrow) ∙ turn.no_refusal)

    spare : h.zero_bits ≡ 0
    spare = ap (λ (vs : List ℕ). get_or vs 0 0) (zero_fields (h.zero_bits ∷ []) good.zero)

    whole : h ≡ header_with p h.applications
    whole = header_is h p numbers spare

    fit : Fits p
    fit = read_fits p bytes (numbers ∙ ap (λ (x : Header). x.settings) read)

    loose_factors : factors_refusal (loosened h).settings.factor_1 (loosened h).settings.factor_2 ≡ 0
    loose_factors =
        subst (λ (f : PlainSettings). factors_refusal f.factor_1 f.factor_2 ≡ 0) (sym (loose_back h)) good.factors

    sound : SoundSettings p
    sound =
        sound_numbers p h.applications (subst (λ (x : Header). Ruled x) whole good)
        (subst (λ (q : Parameters). Watched q.watchdog_factors) turn.back (watched_taken (loosened h).settings turn.roomy loose_factors turn.built))

    begin : bytes ≡ header_bytes First (header_with p h.applications)
    begin =
        sym (write_back bytes (bytes_taken (length_of First) s are) (length-take-le (length_of First) s long))
        ∙ ap (header_bytes First) (sym read ∙ whole)
