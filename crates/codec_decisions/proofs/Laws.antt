-- What is written reads back, and what is accepted is written back, for decisions. Assumes nothing.
use Rattle.std.specs.Prelude.{ℕ, ◌^◌, ◌<◌, ◌≡◌, [], ◌∷◌, true, false, get_or, drop, eqb, leb}
use Rattle.std.proofs.Common.{sym, ap, ◌∙◌, arith, ne_eqb, leb-false, eqb-true, lit<, lit≤}
use Rattle.std.proofs.lemmas.Bool.{lt-leb, eqb-false}
use borrow.Table.Steps.{cases}
use Rattle.codec_fields.specs.Fields.{field_of, bit_at, bit_number, zeros_or14, unpack, Within}
use Rattle.codec_fields.proofs.Widths.{field_below}
use Rattle.codec_fields.proofs.Laws.{unpack_put, put_unpack, put_below, never, same_at, zero_fields, bit_written}
use Rattle.codec_decisions.specs.declared.Decision.{Decision}
use Rattle.codec_decisions.specs.declared.Decision.TheVariants.{Decline, Send, SendExpectReply}
use Rattle.codec_decisions.specs.Decisions.{decision_widths, decision_of, length_refusal, decision_refusal, decision_values, decision_word, DecisionFits}

-- a word whose fields are those of a decision that declines says it, and is accepted
decline_word : (w : ℕ) → w < 2 ^ 24 → unpack decision_widths w ≡ 0 ∷ 0 ∷ 0 ∷ 0 ∷ 0 ∷ [] → (decision_of w ≡ Decline) × (decision_refusal w ≡ 0)
unfolding decision_of decision_refusal zeros_or14
decline_word w h e =
    let sends : field_of w 23 1 ≡ 0 = ap (λ l. get_or l 0 0) e in
    let zeros : unpack (1 ∷ 7 ∷ 8 ∷ 7 ∷ []) w ≡ 0 ∷ 0 ∷ 0 ∷ 0 ∷ [] = ap (drop 1) e in
    (rw sends, rw (lt-leb _ _ h, sends) (ap zeros_or14 zeros))

-- the same for a send
send_word : (w n : ℕ) → w < 2 ^ 24 → 0 < n → unpack decision_widths w ≡ 1 ∷ 0 ∷ 0 ∷ n ∷ 0 ∷ [] → (decision_of w ≡ Send n) × (decision_refusal w ≡ 0)
unfolding decision_of decision_refusal length_refusal
send_word w n h p e =
    let sends : field_of w 23 1 ≡ 1 = ap (λ l. get_or l 0 0) e in
    let expects : field_of w 22 1 ≡ 0 = ap (λ l. get_or l 1 0) e in
    let address : field_of w 15 7 ≡ 0 = ap (λ l. get_or l 2 0) e in
    let length : field_of w 7 8 ≡ n = ap (λ l. get_or l 3 0) e in
    let zero : field_of w 0 7 ≡ 0 = ap (λ l. get_or l 4 0) e in
    (rw (sends, expects, length), rw (lt-leb _ _ h, sends, zero, expects, address, length, ne_eqb n 0 (λ z. omega arith)))

-- the same for a send that expects a reply
expect_word :
    (w a n : ℕ)
    → w < 2 ^ 24
    → 0 < n
    → unpack decision_widths w ≡ 1 ∷ 1 ∷ a ∷ n ∷ 0 ∷ []
    → (decision_of w ≡ SendExpectReply a n) × (decision_refusal w ≡ 0)
unfolding decision_of decision_refusal length_refusal
expect_word w a n h p e =
    let sends : field_of w 23 1 ≡ 1 = ap (λ l. get_or l 0 0) e in
    let expects : field_of w 22 1 ≡ 1 = ap (λ l. get_or l 1 0) e in
    let address : field_of w 15 7 ≡ a = ap (λ l. get_or l 2 0) e in
    let length : field_of w 7 8 ≡ n = ap (λ l. get_or l 3 0) e in
    let zero : field_of w 0 7 ≡ 0 = ap (λ l. get_or l 4 0) e in
    (rw (sends, expects, address, length), rw (lt-leb _ _ h, sends, zero, expects, length, ne_eqb n 0 (λ z. omega arith)))

-- the values of a decision whose numbers fit are within their widths
decision_values_within : (d : Decision) → DecisionFits d → Within decision_widths (decision_values d)
decision_values_within Decline f = (lit< tt, (lit< tt, (lit< tt, (lit< tt, (lit< tt, tt)))))
decision_values_within (Send n) f = (lit< tt, (lit< tt, (lit< tt, (f.1, (lit< tt, tt)))))
decision_values_within (SendExpectReply a n) f = (lit< tt, (lit< tt, (f.0, (f.2, (lit< tt, tt)))))

-- its word has 24 bits
pub decision_below : (d : Decision) → DecisionFits d → decision_word d < 2 ^ 24
unfolding decision_word
decision_below d f = put_below decision_widths (lit≤ tt) (decision_values d) (decision_values_within d f)

-- and the values are the word's fields
decision_word_fields : (d : Decision) → DecisionFits d → unpack decision_widths (decision_word d) ≡ decision_values d
unfolding decision_word
decision_word_fields d f = unpack_put decision_widths (lit≤ tt) (decision_values d) (decision_values_within d f)

-- a decision whose numbers fit is what its word says, and the word is accepted
pub decision_read : (d : Decision) → DecisionFits d → (decision_of (decision_word d) ≡ d) × (decision_refusal (decision_word d) ≡ 0)
decision_read Decline f = decline_word _ (decision_below Decline f) (decision_word_fields Decline f)
decision_read (Send n) f = send_word _ n (decision_below (Send n) f) f.0 (decision_word_fields (Send n) f)
decision_read (SendExpectReply a n) f = expect_word _ a n (decision_below (SendExpectReply a n) f) f.1 (decision_word_fields (SendExpectReply a n) f)

-- no refusal: the length is not 0
long_enough : (n : ℕ) → length_refusal n ≡ 0 → 0 < n
unfolding length_refusal
long_enough n h = cases (eqb n 0) (λ a. never 14 (rw a at h)) (λ a. omega (arith, eqb-false n 0 a))

-- what an accepted decision's word holds: its fields by whether it sends and expects a reply
data Accepted (w : ℕ) : Type 0 where
  declines : bit_at w 23 ≡ false → unpack (1 ∷ 7 ∷ 8 ∷ 7 ∷ []) w ≡ 0 ∷ 0 ∷ 0 ∷ 0 ∷ [] → Accepted w
  sends : bit_at w 23 ≡ true → bit_at w 22 ≡ false → field_of w 15 7 ≡ 0 → 0 < field_of w 7 8 → field_of w 0 7 ≡ 0 → Accepted w
  expects : bit_at w 23 ≡ true → bit_at w 22 ≡ true → 0 < field_of w 7 8 → field_of w 0 7 ≡ 0 → Accepted w

-- a word without refusal is of one of these
accepted : (w : ℕ) → decision_refusal w ≡ 0 → (w < 2 ^ 24) × Accepted w
unfolding decision_refusal
accepted w h =
    cases (leb (2 ^ 24) w) (λ l. never 13 (rw l at h)) (λ l. (
      leb-false (2 ^ 24) w l,
      cases (bit_at w 23)
          (λ s.
          cases (eqb (field_of w 0 7) 0)
          (λ z.
          cases (bit_at w 22)
          (λ x. expects s x (long_enough (field_of w 7 8) (rw (l, s, z, x) at h)) (eqb-true _ 0 z))
          (λ x.
          cases (eqb (field_of w 15 7) 0)
          (λ a. sends s x (eqb-true _ 0 a) (long_enough (field_of w 7 8) (rw (l, s, z, x, a) at h)) (eqb-true _ 0 z))
          (λ a. never 13 (rw (l, s, z, x, a) at h))))
          (λ z. never 13 (rw (l, s, z) at h)))
          (λ s. declines s (zero_fields (unpack (1 ∷ 7 ∷ 8 ∷ 7 ∷ []) w) (rw (l, s) at h))),
    ))

-- an accepted word says a decision whose numbers fit, and is the one that it is written as
pub decision_written : (w : ℕ) → decision_refusal w ≡ 0 → (decision_word (decision_of w) ≡ w) × DecisionFits (decision_of w)
unfolding decision_of decision_word
decision_written w h = held (accepted w h).0 (accepted w h).1
  where
    one : (at : ℕ) → bit_at w at ≡ true → field_of w at 1 ≡ 1
    one at b = eqb-true _ 1 b

    none : (at : ℕ) → bit_at w at ≡ false → field_of w at 1 ≡ 0
    none at b = sym (bit_written w at) ∙ ap bit_number b

    held : w < 2 ^ 24 → Accepted w → (decision_word (decision_of w) ≡ w) × DecisionFits (decision_of w)
    held l (declines s z) = (rw s (rw (none 23 s, same_at 0 z, same_at 1 z, same_at 2 z, same_at 3 z) at (put_unpack decision_widths (lit≤ tt) w l)), rw s tt)
    held l (sends s x a n z) = (rw (s, x) (rw (one 23 s, none 22 x, a, z) at (put_unpack decision_widths (lit≤ tt) w l)), rw (s, x) (n, field_below w 7 8))
    held l (expects s x n z) = (rw (s, x) (rw (one 23 s, one 22 x, z) at (put_unpack decision_widths (lit≤ tt) w l)), rw (s, x) (field_below w 15 7, n, field_below w 7 8))
