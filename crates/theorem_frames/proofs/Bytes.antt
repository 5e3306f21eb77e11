-- The bytes of a frame: the first is the start byte (`start_byte` of specs/Bytes), the first bytes of a list, a function code there and
-- back. Assumes nothing.
use Rattle.std.specs.Prelude.{ℕ, zero, suc, ◌+◌, ◌*◌, ◌^◌, ◌<◌, ◌≤◌, ◌≡◌, refl, List, [], ◌∷◌, Bool, true, false, ◌&&◌, length, get_or, take, eqb}
use Rattle.std.proofs.Common.{sym, ap, ◌∙◌, arith, eqb-true, ne_eqb, lit<}
use borrow.Table.Steps.{cases}
use Rattle.codec_fields.specs.Fields.{field_of, bit_at, Bytes}
use Rattle.codec_fields.proofs.Widths.{field_below}
use Rattle.codec_telegrams.specs.declared.ResponseState.{ResponseState}
use Rattle.codec_telegrams.specs.declared.Telegram.TheVariants.{Response}
use Rattle.codec_telegrams.specs.Words.{response_number, response_state_of, TelegramFits}
use Rattle.codec_telegrams.specs.Laws.{state_below, state_read, state_written}
use Rattle.codec_frames.specs.declared.Start.{Start}
use Rattle.codec_frames.specs.Frames.{sd1, sd2, sd3, sd4, sc, status_code, response_code, start_of, coded_telegram}
use Rattle.theorem_frames.proofs.Whole.{no_bit, below_64}
use Rattle.theorem_frames.specs.Bytes.{start_byte}

-- a first byte is the one by which its frame begins
start_byte_lem : (b : ℕ) → start_byte (start_of b) b ≡ b
unfolding start_of
start_byte_lem b =
    cases (eqb b sd1) (λ a. rw a (sym (eqb-true b sd1 a))) (λ a.
    cases (eqb b sd2) (λ c. rw (a, c) (sym (eqb-true b sd2 c))) (λ c.
    cases (eqb b sd3) (λ d. rw (a, c, d) (sym (eqb-true b sd3 d))) (λ d.
    cases (eqb b sd4) (λ e. rw (a, c, d, e) (sym (eqb-true b sd4 e))) (λ e.
    cases (eqb b sc) (λ g. rw (a, c, d, e, g) (sym (eqb-true b sc g))) (λ g. rw (a, c, d, e, g))))))

-- so the start says the byte
pub first_byte : {b : ℕ} {start : Start} → start_of b ≡ start → b ≡ start_byte start b
first_byte {b} e = sym (start_byte_lem b) ∙ ap (λ (s : Start). start_byte s b) e

-- each byte of a list of bytes is one, and so is 0, which stands past its end
pub byte_at_lem : (f : List ℕ) (i : ℕ) → Bytes f → get_or f i 0 < 2 ^ 8
byte_at_lem [] i h = lit< tt
byte_at_lem (b ∷ f) zero h = h.0
byte_at_lem (b ∷ f) (suc i) h = byte_at_lem f i h.1

-- the first bytes of a list that has as many
pub front_1 : (f : List ℕ) → 1 ≤ length f → take 1 f ≡ get_or f 0 0 ∷ []
front_1 [] h = absurd (omega arith)
front_1 (a ∷ f) h = refl

pub front_3 : (f : List ℕ) → 3 ≤ length f → take 3 f ≡ get_or f 0 0 ∷ get_or f 1 0 ∷ get_or f 2 0 ∷ []
front_3 [] h = absurd (omega arith)
front_3 (a ∷ []) h = absurd (omega arith)
front_3 (a ∷ b ∷ []) h = absurd (omega arith)
front_3 (a ∷ b ∷ c ∷ f) h = refl

pub front_6 :
    (f : List ℕ) → 6 ≤ length f → take 6 f ≡ get_or f 0 0 ∷ get_or f 1 0 ∷ get_or f 2 0 ∷ get_or f 3 0 ∷ get_or f 4 0 ∷ get_or f 5 0 ∷ []
front_6 [] h = absurd (omega arith)
front_6 (a ∷ []) h = absurd (omega arith)
front_6 (a ∷ b ∷ []) h = absurd (omega arith)
front_6 (a ∷ b ∷ c ∷ []) h = absurd (omega arith)
front_6 (a ∷ b ∷ c ∷ d ∷ []) h = absurd (omega arith)
front_6 (a ∷ b ∷ c ∷ d ∷ e ∷ []) h = absurd (omega arith)
front_6 (a ∷ b ∷ c ∷ d ∷ e ∷ g ∷ f) h = refl

-- type and status of a function code below 64
code_type : (k n : ℕ) → k < 2 ^ 2 → n < 2 ^ 4 → field_of (16 * k + n) 4 2 ≡ k
unfolding field_of
code_type k n hk hn = omega arith

code_status : (k n : ℕ) → n < 2 ^ 4 → field_of (16 * k + n) 0 4 ≡ n
unfolding field_of
code_status k n hn = omega arith

code_whole : (c : ℕ) → c < 2 ^ 6 → 16 * field_of c 4 2 + field_of c 0 4 ≡ c
unfolding field_of
code_whole c h = omega arith

-- a response's function code says it
pub response_read :
    (destination source status : ℕ) (state : ResponseState)
    → status < 2 ^ 4
    → coded_telegram destination source (response_code state status) true ≡ Response destination source state status
unfolding coded_telegram
response_read destination source status state h =
    let k = state_below state in
    let code = response_code state status in
    let small : code < 2 ^ 6 = omega arith in
    let other = ne_eqb code status_code (λ e. omega arith) in
    rw (other, no_bit code 6 small, code_type (response_number state) status k h, code_status (response_number state) status h, state_read state)

-- a function code without bit 6 is that of the response that it says
pub response_written : (code : ℕ) → code < 2 ^ 7 → bit_at code 6 ≡ false → response_code (response_state_of (field_of code 4 2)) (field_of code 0 4) ≡ code
response_written code h bit = rw (state_written (field_of code 4 2) (field_below code 4 2)) (code_whole code (below_64 code h bit))

-- what a function code says fits the telegram word where the addresses do
pub coded_fits : (d s code : ℕ) (bare : Bool) → d < 2 ^ 7 → s < 2 ^ 7 → TelegramFits (coded_telegram d s code bare)
unfolding coded_telegram
coded_fits d s code bare hd hs =
    cases (eqb code status_code && bare) (λ a. rw a (hd, hs)) (λ a.
    cases (bit_at code 6) (λ b. rw (a, b) (hd, hs)) (λ b. rw (a, b) (hd, hs, field_below code 0 4)))
