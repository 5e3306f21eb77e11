-- A header's refusal is a number of document 01's table, at most 17, or document 02's 25. Assumes nothing.
use Rattle.std.specs.Prelude.{ℕ, ◌+◌, ◌≤◌, ◌&&◌, refl, List, [], ◌∷◌, leb, eqb, ◌≡◌, Bool, false, cond, Result, Ok, Err}
use Rattle.std.proofs.Common.{inl, inr, lit≤, subst, sym}
use Rattle.refusals.specs.declared.refusal.Refusal.{Refusal}
use Rattle.refusals.specs.declared.refusal.Refusal.TheVariants.{BaudCode}
use Rattle.refusals.specs.Refusals.{number_of, named, answered}
use Rattle.bit_times.specs.declared.baud.Baud.{Baud}
use Rattle.bit_times.proofs.Laws.{no_rate}
use Rattle.bit_times.specs.Times.{baud_of}
use Rattle.codec_fields.specs.Fields.{zero_or14, zeros_or14}
use Rattle.settings.specs.declared.parameters.Parameters.{Parameters}
use Rattle.settings_rules.specs.Rules.{refuse_below, refuse_outside, address_refusal, baud_refusal, least_of, slot_bits_refusal, hsa_refusal, rotation_refusal, room_refusal, gap_wait_refusal, retry_refusal, min_tsdr_refusal, factors_refusal, applications_refusal}
use Rattle.settings_rules.proofs.Laws.{first_has, Numbered, none_numbered, applications_numbered, factors_numbered}
use Rattle.settings_build.proofs.Passes.{early_numbered, whole_numbered}
use borrow.Table.Steps.{cases}
use Rattle.settings_build.specs.declared.plain.PlainSettings.{PlainSettings}
use Rattle.settings_build.specs.Build.{early_refusal, first_refusal, built_at, build_of}
use Rattle.theorem_sound.specs.Keeps.{either}
use Rattle.trace_headers.specs.declared.Header.{Header}
use Rattle.trace_headers.specs.Headers.{header_of, header_refusal}
use Rattle.trace.specs.Trace.{settings_of, has_header, settings_at, TraceStart, Accepted, Refused, started_with, start_of}
use Rattle.theorem_every_trace.specs.Statement.{HeaderNumber}

-- a number of document 01's table is one
number : {n : ℕ} → n ≤ 17 → HeaderNumber n
number h = inl h

below_small : (low v n : ℕ) → HeaderNumber n → HeaderNumber (refuse_below low v n)
unfolding refuse_below
below_small low v n h = either HeaderNumber (leb low v) 0 n (number (lit≤ tt)) h

outside_small : (low v high n : ℕ) → HeaderNumber n → HeaderNumber (refuse_outside low v high n)
unfolding refuse_outside
outside_small low v high n h = either HeaderNumber (leb low v && leb v high) 0 n (number (lit≤ tt)) h

-- what a baud code gives: a rate, or the refusal 10
abbrev Coded : Result Baud Refusal → Type 0
Coded (Ok baud) = Unit {0}
Coded (Err e) = e ≡ BaudCode

coded : (code : ℕ) → Coded (baud_of code)
coded code = go (baud_of code) refl
  where
    go : (x : Result Baud Refusal) → baud_of code ≡ x → Coded x
    go (Ok baud) r = tt
    go (Err e) r = no_rate code e r

refusal_small : (e : Refusal) → e ≡ BaudCode → HeaderNumber (number_of e)
refusal_small e is = subst (λ (x : Refusal). HeaderNumber (number_of x)) (sym is) (number (lit≤ tt))

baud_small : (x : Result Baud Refusal) → Coded x → HeaderNumber (baud_refusal x)
unfolding baud_refusal
baud_small (Ok baud) is = number (lit≤ tt)
baud_small (Err e) is = refusal_small e is

factors_small : (f1 f2 : ℕ) → HeaderNumber (factors_refusal f1 f2)
unfolding factors_refusal
factors_small f1 f2 =
    either HeaderNumber (eqb f1 0) _ _ (either HeaderNumber (eqb f2 0) 0 8 (number (lit≤ tt)) (number (lit≤ tt)))
    (either HeaderNumber (eqb f2 0) 8 0 (number (lit≤ tt)) (number (lit≤ tt)))

applications_small : (n : ℕ) → HeaderNumber (applications_refusal n)
unfolding applications_refusal
applications_small n = outside_small 1 n 8 11 (number (lit≤ tt))

zero_small : (n : ℕ) → HeaderNumber (zero_or14 n)
unfolding zeros_or14
zero_small n = either HeaderNumber (eqb n 0) 0 14 (number (lit≤ tt)) (number (lit≤ tt))

-- a header's number is one that a refusal has
zero_numbered : (n : ℕ) → Numbered (zero_or14 n)
unfolding Numbered answered named zeros_or14
zero_numbered n = cases (eqb n 0) (λ t. rw t refl) (λ f. rw f refl)

header_numbered : (h : Header) → Numbered (header_refusal h)
unfolding header_refusal
header_numbered h =
    let zero_bits : List ℕ = zero_or14 h.zero_bits ∷ [] in
    let factors : ℕ = factors_refusal h.settings.factor_1 h.settings.factor_2 in
    first_has Numbered (early_refusal h.settings) (applications_refusal h.applications ∷ factors ∷ zero_bits) (early_numbered h.settings)
    (first_has Numbered (applications_refusal h.applications) (factors ∷ zero_bits) (applications_numbered h.applications)
    (first_has Numbered factors zero_bits (factors_numbered h.settings.factor_1 h.settings.factor_2)
    (first_has Numbered (zero_or14 h.zero_bits) [] (zero_numbered h.zero_bits) none_numbered)))

-- so are the settings' refusals
early_small : (f : PlainSettings) → HeaderNumber (early_refusal f)
unfolding early_refusal address_refusal slot_bits_refusal hsa_refusal rotation_refusal room_refusal gap_wait_refusal retry_refusal min_tsdr_refusal
early_small f =
    let seven : List ℕ = min_tsdr_refusal f.min_tsdr_bits ∷ [] in
    let six : List ℕ = retry_refusal f.max_retry_limit ∷ seven in
    let five : List ℕ = gap_wait_refusal f.gap_wait_rotations ∷ six in
    let room : List ℕ = room_refusal f.slot_bits f.token_rotation_bits ∷ five in
    let four : List ℕ = rotation_refusal f.token_rotation_bits ∷ room in
    let three : List ℕ = hsa_refusal f.address f.highest_station_address ∷ four in
    let two : List ℕ = slot_bits_refusal (least_of (baud_of f.baud_code)) f.slot_bits ∷ three in
    let ten : List ℕ = baud_refusal (baud_of f.baud_code) ∷ two in
    first_has HeaderNumber (address_refusal f.address) ten (outside_small 0 f.address 125 1 (number (lit≤ tt)))
    (first_has HeaderNumber (baud_refusal (baud_of f.baud_code)) two (baud_small (baud_of f.baud_code) (coded f.baud_code))
    (first_has HeaderNumber (slot_bits_refusal (least_of (baud_of f.baud_code)) f.slot_bits) three (below_small (least_of (baud_of f.baud_code)) f.slot_bits 2 (number (lit≤ tt)))
    (first_has HeaderNumber (hsa_refusal f.address f.highest_station_address) four (outside_small (f.address + 1) f.highest_station_address 126 3 (number (lit≤ tt)))
    (first_has HeaderNumber (rotation_refusal f.token_rotation_bits) room (outside_small 256 f.token_rotation_bits 16777960 4 (number (lit≤ tt)))
    (first_has HeaderNumber (room_refusal f.slot_bits f.token_rotation_bits) five (below_small (f.slot_bits + 100) f.token_rotation_bits 25 (inr refl))
    (first_has HeaderNumber (gap_wait_refusal f.gap_wait_rotations) six (outside_small 1 f.gap_wait_rotations 100 5 (number (lit≤ tt)))
    (first_has HeaderNumber (retry_refusal f.max_retry_limit) seven (outside_small 1 f.max_retry_limit 15 6 (number (lit≤ tt)))
    (first_has HeaderNumber (min_tsdr_refusal f.min_tsdr_bits) [] (below_small 11 f.min_tsdr_bits 7 (number (lit≤ tt))) (number (lit≤ tt))))))))))

settings_small : (f : PlainSettings) → HeaderNumber (first_refusal f)
unfolding first_refusal
settings_small f =
    let factors : ℕ = factors_refusal f.factor_1 f.factor_2 in
    first_has HeaderNumber (early_refusal f) (factors ∷ []) (early_small f)
    (first_has HeaderNumber factors [] (factors_small f.factor_1 f.factor_2) (number (lit≤ tt)))

-- and a header's
header_small : (h : Header) → HeaderNumber (header_refusal h)
unfolding header_refusal
header_small h =
    let zero_bits : List ℕ = zero_or14 h.zero_bits ∷ [] in
    let factors : ℕ = factors_refusal h.settings.factor_1 h.settings.factor_2 in
    first_has HeaderNumber (early_refusal h.settings) (applications_refusal h.applications ∷ factors ∷ zero_bits) (early_small h.settings)
    (first_has HeaderNumber (applications_refusal h.applications) (factors ∷ zero_bits) (applications_small h.applications)
    (first_has HeaderNumber factors zero_bits (factors_small h.settings.factor_1 h.settings.factor_2)
    (first_has HeaderNumber (zero_or14 h.zero_bits) [] (zero_small h.zero_bits) (number (lit≤ tt)))))

-- a start that is refused is refused with such a number
abbrev pub Small : TraceStart → Type 0
Small (Accepted s) = Unit {0}
Small (Refused n) = HeaderNumber n

-- a build that is refused is
abbrev SmallBuilt : Result Parameters Refusal → Type 0
SmallBuilt (Ok p) = Unit {0}
SmallBuilt (Err e) = HeaderNumber (number_of e)

-- a refusal named by such a number has such a number
named_small : (n : ℕ) → Numbered n → eqb n 0 ≡ false → HeaderNumber n → HeaderNumber (number_of (named n))
unfolding Numbered answered
named_small n h f small = subst HeaderNumber (sym (rw f at h)) small

chosen_small : (n : ℕ) (x : Result Parameters Refusal) → Numbered n → SmallBuilt x → HeaderNumber n → SmallBuilt (cond (eqb n 0) x (Err (named n)))
chosen_small n x h built small = cases (eqb n 0) (λ t. rw t built) (λ f. rw f (named_small n h f small))

at_small : (f : PlainSettings) (x : Result Baud Refusal) → Coded x → SmallBuilt (built_at f x)
unfolding built_at
at_small f (Ok baud) is = tt
at_small f (Err e) is = refusal_small e is

build_small : (f : PlainSettings) → SmallBuilt (build_of f)
unfolding build_of
build_small f = chosen_small (first_refusal f) _ (whole_numbered f) (at_small f (baud_of f.baud_code) (coded f.baud_code)) (settings_small f)

settings_of_small : (h : Header) → SmallBuilt (settings_of h)
unfolding settings_of
settings_of_small h = chosen_small (header_refusal h) _ (header_numbered h) (build_small h.settings) (header_small h)

settings_at_small : (trace : List ℕ) → SmallBuilt (settings_at trace)
unfolding settings_at
settings_at_small trace = either SmallBuilt (has_header trace) _ _ (settings_of_small (header_of trace)) (number (lit≤ tt))

started_small : (x : Result Parameters Refusal) (n : ℕ) → SmallBuilt x → Small (started_with x n)
unfolding started_with
started_small (Ok p) n h = tt
started_small (Err k) n h = h

-- a trace whose header is refused ends with such a number
pub start_small : (trace : List ℕ) → Small (start_of trace)
unfolding start_of
start_small trace = started_small (settings_at trace) (header_of trace).applications (settings_at_small trace)
