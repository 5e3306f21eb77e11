-- What is written reads back, and what is accepted is written back, for telegram words. Assumes nothing.
use Rattle.std.specs.Prelude.{ℕ, ◌^◌, ◌<◌, ◌≡◌, refl, [], ◌∷◌, Bool, get_or, drop, eqb, leb}
use Rattle.std.proofs.Common.{sym, ap, arith, leb-false, eqb-true, lit<, lit≤}
use Rattle.std.proofs.lemmas.Bool.{lt-leb, eqb-false}
use borrow.Table.Steps.{cases}
use Rattle.codec_fields.specs.Fields.{field_of, bit_number, zeros_or14, unpack, Within}
use Rattle.codec_fields.proofs.Widths.{field_below}
use Rattle.codec_fields.proofs.Laws.{unpack_put, put_unpack, put_below, never, same_at, zero_fields, bit_below, bit_read, bit_written}
use Rattle.codec_telegrams.specs.declared.ResponseState.{ResponseState}
use Rattle.codec_telegrams.specs.declared.ResponseState.TheVariants.{Slave, MasterNotReady, MasterWithoutToken, MasterInRing}
use Rattle.codec_telegrams.specs.declared.Telegram.{Telegram}
use Rattle.codec_telegrams.specs.declared.Telegram.TheVariants.{Token, ShortConfirmation, Request, Response}
use Rattle.codec_telegrams.specs.Words.{response_number, response_state_of, telegram_widths, telegram_of, telegram_refusal, telegram_values, telegram_word, TelegramFits}

-- the number of a station type is below 4
pub state_below : (s : ResponseState) → response_number s < 2 ^ 2
state_below Slave = lit< tt
state_below MasterNotReady = lit< tt
state_below MasterWithoutToken = lit< tt
state_below MasterInRing = lit< tt

-- the number of a station type says the type
pub state_read : (s : ResponseState) → response_state_of (response_number s) ≡ s
unfolding response_state_of
state_read Slave = refl
state_read MasterNotReady = refl
state_read MasterWithoutToken = refl
state_read MasterInRing = refl

-- a number of two bits is that of the type it says
pub state_written : (n : ℕ) → n < 2 ^ 2 → response_number (response_state_of n) ≡ n
unfolding response_state_of
state_written n h =
    cases (eqb n 0) (λ a. rw a (sym (eqb-true n 0 a))) (λ a.
    cases (eqb n 1) (λ b. rw (a, b) (sym (eqb-true n 1 b))) (λ b.
    cases (eqb n 2) (λ d. rw (a, b, d) (sym (eqb-true n 2 d))) (λ d. rw (a, b, d) (omega (arith, eqb-false n 0 a, eqb-false n 1 b, eqb-false n 2 d)))))

-- a word whose fields are those of a token says it, and is accepted
token_word :
    (w d s : ℕ) → w < 2 ^ 32 → unpack telegram_widths w ≡ 0 ∷ d ∷ s ∷ 0 ∷ 0 ∷ 0 ∷ 0 ∷ [] → (telegram_of w ≡ Token d s) × (telegram_refusal w ≡ 0)
unfolding telegram_of telegram_refusal zeros_or14
token_word w d s h e =
    let kind : field_of w 30 2 ≡ 0 = ap (λ l. get_or l 0 0) e in
    let request : field_of w 15 1 ≡ 0 = ap (λ l. get_or l 3 0) e in
    let type : field_of w 13 2 ≡ 0 = ap (λ l. get_or l 4 0) e in
    let status : field_of w 9 4 ≡ 0 = ap (λ l. get_or l 5 0) e in
    let zero : field_of w 0 9 ≡ 0 = ap (λ l. get_or l 6 0) e in
    (rw (kind, ap (λ l. get_or l 1 0) e, ap (λ l. get_or l 2 0) e), rw (lt-leb _ _ h, kind, request, type, status, zero))

-- the same for a short confirmation
short_word :
    (w : ℕ) → w < 2 ^ 32 → unpack telegram_widths w ≡ 1 ∷ 0 ∷ 0 ∷ 0 ∷ 0 ∷ 0 ∷ 0 ∷ [] → (telegram_of w ≡ ShortConfirmation) × (telegram_refusal w ≡ 0)
unfolding telegram_of telegram_refusal zeros_or14
short_word w h e =
    let kind : field_of w 30 2 ≡ 1 = ap (λ l. get_or l 0 0) e in
    let zeros : unpack (7 ∷ 7 ∷ 1 ∷ 2 ∷ 4 ∷ 9 ∷ []) w ≡ 0 ∷ 0 ∷ 0 ∷ 0 ∷ 0 ∷ 0 ∷ [] = ap (drop 1) e in
    (rw kind, rw (lt-leb _ _ h, kind) (ap zeros_or14 zeros))

-- the same for a request
request_word :
    (w d s : ℕ) (q : Bool)
    → w < 2 ^ 32
    → unpack telegram_widths w ≡ 2 ∷ d ∷ s ∷ bit_number q ∷ 0 ∷ 0 ∷ 0 ∷ []
    → (telegram_of w ≡ Request d s q) × (telegram_refusal w ≡ 0)
unfolding telegram_of telegram_refusal zeros_or14
request_word w d s q h e =
    let kind : field_of w 30 2 ≡ 2 = ap (λ l. get_or l 0 0) e in
    let request : field_of w 15 1 ≡ bit_number q = ap (λ l. get_or l 3 0) e in
    let type : field_of w 13 2 ≡ 0 = ap (λ l. get_or l 4 0) e in
    let status : field_of w 9 4 ≡ 0 = ap (λ l. get_or l 5 0) e in
    let zero : field_of w 0 9 ≡ 0 = ap (λ l. get_or l 6 0) e in
    (rw (kind, ap (λ l. get_or l 1 0) e, ap (λ l. get_or l 2 0) e, request, bit_read q), rw (lt-leb _ _ h, kind, type, status, zero))

-- the same for a response
response_word :
    (w d s : ℕ) (t : ResponseState) (n : ℕ)
    → w < 2 ^ 32
    → unpack telegram_widths w ≡ 3 ∷ d ∷ s ∷ 0 ∷ response_number t ∷ n ∷ 0 ∷ []
    → (telegram_of w ≡ Response d s t n) × (telegram_refusal w ≡ 0)
unfolding telegram_of telegram_refusal zeros_or14
response_word w d s t n h e =
    let kind : field_of w 30 2 ≡ 3 = ap (λ l. get_or l 0 0) e in
    let request : field_of w 15 1 ≡ 0 = ap (λ l. get_or l 3 0) e in
    let zero : field_of w 0 9 ≡ 0 = ap (λ l. get_or l 6 0) e in (
      rw (kind, ap (λ l. get_or l 1 0) e, ap (λ l. get_or l 2 0) e, ap (λ l. get_or l 4 0) e, ap (λ l. get_or l 5 0) e, state_read t),
      rw (lt-leb _ _ h, kind, request, zero),
    )

-- the values of a telegram whose numbers fit are within their widths
telegram_values_within : (t : Telegram) → TelegramFits t → Within telegram_widths (telegram_values t)
telegram_values_within (Token d s) f = (lit< tt, (f.0, (f.1, (lit< tt, (lit< tt, (lit< tt, (lit< tt, tt)))))))
telegram_values_within ShortConfirmation f = (lit< tt, (lit< tt, (lit< tt, (lit< tt, (lit< tt, (lit< tt, (lit< tt, tt)))))))
telegram_values_within (Request d s q) f = (lit< tt, (f.0, (f.1, (bit_below q, (lit< tt, (lit< tt, (lit< tt, tt)))))))
telegram_values_within (Response d s t n) f = (lit< tt, (f.0, (f.1, (lit< tt, (state_below t, (f.2, (lit< tt, tt)))))))

-- its word has 32 bits
pub telegram_below : (t : Telegram) → TelegramFits t → telegram_word t < 2 ^ 32
unfolding telegram_word
telegram_below t f = put_below telegram_widths (lit≤ tt) (telegram_values t) (telegram_values_within t f)

-- and the values are the word's fields
telegram_word_fields : (t : Telegram) → TelegramFits t → unpack telegram_widths (telegram_word t) ≡ telegram_values t
unfolding telegram_word
telegram_word_fields t f = unpack_put telegram_widths (lit≤ tt) (telegram_values t) (telegram_values_within t f)

-- a telegram whose numbers fit is what its word says, and the word is accepted
pub telegram_read : (t : Telegram) → TelegramFits t → (telegram_of (telegram_word t) ≡ t) × (telegram_refusal (telegram_word t) ≡ 0)
telegram_read (Token d s) f = token_word _ d s (telegram_below (Token d s) f) (telegram_word_fields (Token d s) f)
telegram_read ShortConfirmation f = short_word _ (telegram_below ShortConfirmation f) (telegram_word_fields ShortConfirmation f)
telegram_read (Request d s q) f = request_word _ d s q (telegram_below (Request d s q) f) (telegram_word_fields (Request d s q) f)
telegram_read (Response d s t n) f = response_word _ d s t n (telegram_below (Response d s t n) f) (telegram_word_fields (Response d s t n) f)

-- every word says a telegram whose numbers fit
pub telegram_fits : (w : ℕ) → TelegramFits (telegram_of w)
unfolding telegram_of
telegram_fits w =
    let d = field_below w 23 7 in
    let s = field_below w 16 7 in
    cases (eqb (field_of w 30 2) 0) (λ a. rw a (d, s)) (λ a.
    cases (eqb (field_of w 30 2) 1) (λ b. rw (a, b) tt) (λ b.
    cases (eqb (field_of w 30 2) 2) (λ k. rw (a, b, k) (d, s)) (λ k. rw (a, b, k) (d, s, field_below w 9 4))))

-- an accepted word is the one that its telegram is written as
pub telegram_written : (w : ℕ) → telegram_refusal w ≡ 0 → telegram_word (telegram_of w) ≡ w
unfolding telegram_of telegram_refusal telegram_word
telegram_written w h =
    cases (leb (2 ^ 32) w) (λ l. never 13 (rw l at h)) (λ l.
    let whole = put_unpack telegram_widths (lit≤ tt) w (leb-false (2 ^ 32) w l) in
    cases (eqb (field_of w 30 2) 0)
    (λ a.
    let zeros = zero_fields (unpack (1 ∷ 2 ∷ 4 ∷ 9 ∷ []) w) (rw (l, a) at h) in
    rw a (rw (eqb-true (field_of w 30 2) 0 a, same_at 0 zeros, same_at 1 zeros, same_at 2 zeros, same_at 3 zeros) at whole))
    (λ a.
    cases (eqb (field_of w 30 2) 1)
    (λ b.
    let zeros = zero_fields (unpack (7 ∷ 7 ∷ 1 ∷ 2 ∷ 4 ∷ 9 ∷ []) w) (rw (l, a, b) at h) in
    rw (a, b) (rw (eqb-true (field_of w 30 2) 1 b, same_at 0 zeros, same_at 1 zeros, same_at 2 zeros, same_at 3 zeros, same_at 4 zeros, same_at 5 zeros) at whole))
    (λ b.
    cases (eqb (field_of w 30 2) 2)
    (λ k.
    let zeros = zero_fields (unpack (2 ∷ 4 ∷ 9 ∷ []) w) (rw (l, a, b, k) at h) in
    rw (a, b, k, bit_written w 15) (rw (eqb-true (field_of w 30 2) 2 k, same_at 0 zeros, same_at 1 zeros, same_at 2 zeros) at whole))
    (λ k.
    let zeros = zero_fields (field_of w 15 1 ∷ field_of w 0 9 ∷ []) (rw (l, a, b, k) at h) in
    let kind : field_of w 30 2 ≡ 3 =
    omega (arith, field_below w 30 2, eqb-false (field_of w 30 2) 0 a, eqb-false (field_of w 30 2) 1 b, eqb-false (field_of w 30 2) 2 k) in
    rw (a, b, k, state_written (field_of w 13 2) (field_below w 13 2)) (rw (kind, same_at 0 zeros, same_at 1 zeros) at whole)))))
