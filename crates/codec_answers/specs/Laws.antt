-- Unpacking undoes packing for every answer that document 01 has, and packing undoes unpacking for every word. Assumes nothing.
use Rattle.std.specs.Prelude.{ℕ, ◌^◌, ◌<◌, ◌≤◌, ◌≡◌, refl, List, true, false, Some, None, not, get_or, eqb, ltb}
use Rattle.std.proofs.Common.{sym, ap, ◌∙◌, subst, arith, eq-eqb, ne_eqb, le-ltb, ltb-true, ltb-false, leb-true, eqb-true, lit<, lit≤}
use Rattle.std.proofs.lemmas.Bool.{eqb-false}
use borrow.Table.Steps.{cases}
use Rattle.codec_fields.specs.Fields.{field_of, bit_number, unpack, Within}
use Rattle.codec_fields.proofs.Widths.{field_below}
use Rattle.codec_fields.proofs.Laws.{unpack_put, bit_below, bit_read}
use Rattle.codec_telegrams.specs.Laws.{state_read, state_below}
use Rattle.codec_answers.specs.declared.Outcome.{Outcome}
use Rattle.codec_answers.specs.declared.Outcome.TheVariants.{Offline, Transmission, Bus, Delay}
use Rattle.codec_answers.specs.declared.Outcome.TheVariants as outcome
use Rattle.codec_answers.specs.declared.Sent.{Sent}
use Rattle.codec_answers.specs.declared.Sent.TheVariants.{Nothing, Token, StatusRequest, StatusResponse, Application}
use Rattle.codec_answers.specs.declared.Notice.{Notice}
use Rattle.codec_answers.specs.declared.Notice.TheVariants.{NoNotice, Reply, Timeout}
use Rattle.codec_answers.specs.declared.SentFields.{SentFields}
use Rattle.codec_answers.specs.declared.NoticeFields.{NoticeFields}
use Rattle.codec_answers.specs.declared.Answer.{Answer}
use Rattle.codec_answers.specs.Answers.{last_state, outcome_number, outcome_of, sending, sent_fields, sent_from, telling, notice_fields, notice_from, refused_answer, answer_widths, answer_values, answer_word, full_of, answer_of, refusal_known, sent_meant, meant, unpack_of, SentFits, NoticeFits, Fits}

-- an outcome reads back from its number
outcome_read : (o : Outcome) → outcome_of (outcome_number o) ≡ o
unfolding outcome_of
outcome_read outcome.None = refl
outcome_read Offline = refl
outcome_read Transmission = refl
outcome_read Bus = refl
outcome_read Delay = refl

-- the fields of what was sent as they are read from a word: the bit from its number
abbrev as_read : SentFields → SentFields
as_read f = sending f.kind f.destination f.state f.application (eqb (bit_number f.high) 1) f.bytes

-- what was sent reads back from its fields
sent_read : (s : Sent) → sent_from (as_read (sent_fields s)) ≡ s
unfolding sent_fields sent_from
sent_read Nothing = refl
sent_read (Token d) = refl
sent_read (StatusRequest d) = refl
sent_read (StatusResponse d t) = ap (StatusResponse d) (state_read t)
sent_read (Application d a h b) = ap (λ x. Application d a x b) (bit_read h)

-- a notice reads back from its fields
notice_read : (n : Notice) → notice_from (notice_fields n) ≡ n
unfolding notice_fields notice_from
notice_read NoNotice = refl
notice_read (Reply a d) = refl
notice_read (Timeout a d) = refl

-- an outcome's number is within its width
outcome_below : (o : Outcome) → outcome_number o < 2 ^ 3
outcome_below outcome.None = lit< tt
outcome_below Offline = lit< tt
outcome_below Transmission = lit< tt
outcome_below Bus = lit< tt
outcome_below Delay = lit< tt

-- the fields of what was sent, each within its width
record SentWithin (f : SentFields) : Type 0 where
  kind : f.kind < 2 ^ 3
  destination : f.destination < 2 ^ 7
  state : f.state < 2 ^ 2
  application : f.application < 2 ^ 3
  bytes : f.bytes < 2 ^ 8

-- what was sent with numbers that fit has fields within their widths
sent_within : (s : Sent) → SentFits s → SentWithin (sent_fields s)
unfolding sent_fields
sent_within Nothing f = record { kind = lit< tt; destination = lit< tt; state = lit< tt; application = lit< tt; bytes = lit< tt }
sent_within (Token d) f = record { kind = lit< tt; destination = f; state = lit< tt; application = lit< tt; bytes = lit< tt }
sent_within (StatusRequest d) f = record { kind = lit< tt; destination = f; state = lit< tt; application = lit< tt; bytes = lit< tt }
sent_within (StatusResponse d t) f = record { kind = lit< tt; destination = f; state = state_below t; application = lit< tt; bytes = lit< tt }
sent_within (Application d a h b) f = record { kind = lit< tt; destination = f.0; state = lit< tt; application = f.1; bytes = f.3 }

-- the fields of a notice, each within its width
record NoticeWithin (f : NoticeFields) : Type 0 where
  kind : f.kind < 2 ^ 2
  application : f.application < 2 ^ 3
  address : f.address < 2 ^ 7

-- a notice with numbers that fit has fields within their widths
notice_within : (n : Notice) → NoticeFits n → NoticeWithin (notice_fields n)
unfolding notice_fields
notice_within NoNotice f = record { kind = lit< tt; application = lit< tt; address = lit< tt }
notice_within (Reply a d) f = record { kind = lit< tt; application = f.0; address = f.1 }
notice_within (Timeout a d) f = record { kind = lit< tt; application = f.0; address = f.1 }

-- a known refusal is within its width
known_below : (n : ℕ) → refusal_known n ≡ true → n < 2 ^ 5
unfolding refusal_known
known_below n h =
    cases (eqb n 0) (λ a. omega (arith, eqb-true n 0 a)) (λ a.
    cases (ltb n 12) (λ b. omega (arith, ltb-true n 12 b)) (λ b. omega (arith, leb-true n 16 (rw (a, b) at h))))

-- the values of an answer that fits are within their widths
values_within : (a : Answer) → Fits a → Within answer_widths (answer_values a)
values_within a f =
    let s = sent_within a.sent f.sent in
    let n = notice_within a.notice f.notice in
    (known_below a.refusal f.refusal, (outcome_below a.outcome, (omega arith, (s.kind, (s.destination, (s.state, (s.application, (bit_below (sent_fields a.sent).high, (s.bytes, (omega arith, (n.kind, (n.application, (n.address, (f.application, (f.station, (lit< tt, tt))))))))))))))))

-- the fields of an answer's word are the answer's values
word_fields : (a : Answer) → Fits a → unpack answer_widths (answer_word a) ≡ answer_values a
unfolding answer_word
word_fields a f = unpack_put answer_widths (lit≤ tt) (answer_values a) (values_within a f)

-- an answer from its fields
abbrev made : ℕ → Outcome → ℕ → Sent → ℕ → Notice → ℕ → ℕ → Answer
made r o st s c n na ns = record { refusal = r; outcome = o; state = st; sent = s; consumed = c; notice = n; next_application = na; next_station = ns }

-- an answer without refusal from a list of values
abbrev made_of : List ℕ → Answer
made_of l =
    made 0 (outcome_of (get_or l 1 0)) (get_or l 2 0)
    (sent_from (sending (get_or l 3 0) (get_or l 4 0) (get_or l 5 0) (get_or l 6 0) (eqb (get_or l 7 0) 1) (get_or l 8 0)))
    (get_or l 9 0)
    (notice_from (telling (get_or l 10 0) (get_or l 11 0) (get_or l 12 0)))
    (get_or l 13 0)
    (get_or l 14 0)

-- a word with the values of an answer without refusal is read as that answer
full_read : (w : ℕ) (a : Answer) → a.refusal ≡ 0 → unpack answer_widths w ≡ answer_values a → full_of w ≡ a
unfolding full_of
full_read w a z e =
    ap made_of e
    ∙ ap (λ o. made 0 o a.state (sent_from (as_read (sent_fields a.sent))) a.consumed (notice_from (notice_fields a.notice)) a.next_application a.next_station) (outcome_read a.outcome)
    ∙ ap (λ s. made 0 a.outcome a.state s a.consumed (notice_from (notice_fields a.notice)) a.next_application a.next_station) (sent_read a.sent)
    ∙ ap (λ n. made 0 a.outcome a.state a.sent a.consumed n a.next_application a.next_station) (notice_read a.notice)
    ∙ ap (λ r. made r a.outcome a.state a.sent a.consumed a.notice a.next_application a.next_station) (sym z)

-- a word with the values of an answer that fits is read as that answer
answer_read : (w : ℕ) (a : Answer) → Fits a → unpack answer_widths w ≡ answer_values a → answer_of w ≡ a
unfolding answer_of
answer_read w a f e =
    let r : field_of w 59 5 ≡ a.refusal = ap (λ l. get_or l 0 0) e in
    let s : field_of w 52 4 ≡ a.state = ap (λ l. get_or l 2 0) e in
    let na : field_of w 9 3 ≡ a.next_application = ap (λ l. get_or l 13 0) e in
    let ns : field_of w 2 7 ≡ a.next_station = ap (λ l. get_or l 14 0) e in
    cases (eqb (field_of w 59 5) 0)
    (λ z. rw z (full_read w a (sym r ∙ eqb-true _ 0 z) e))
    (λ z. rw (z, r, s, na, ns) (sym (f.plain (λ q. eqb-false _ 0 z (r ∙ q)))))

-- what was sent with numbers that fit is meant
sent_meant_lem : (s : Sent) → SentFits s → sent_meant s ≡ true
unfolding sent_meant
sent_meant_lem Nothing f = refl
sent_meant_lem (Token d) f = refl
sent_meant_lem (StatusRequest d) f = refl
sent_meant_lem (StatusResponse d t) f = refl
sent_meant_lem (Application d a h b) f = ap not (ne_eqb b 0 (λ z. omega arith))

-- an answer that fits is meant
fits_meant : (a : Answer) → Fits a → meant a ≡ true
unfolding meant
fits_meant a f = rw (le-ltb last_state a.state f.state, le-ltb 8 a.consumed f.consumed, sent_meant_lem a.sent f.sent, f.refusal)

-- what is known of an answer that is meant
record Parts (a : Answer) : Type 0 where
  refusal : refusal_known a.refusal ≡ true
  state : a.state ≤ last_state
  sent : sent_meant a.sent ≡ true
  consumed : a.consumed ≤ 8

-- false is not true
never : {A : Type 0} → false ≡ true → A
never e = let z : ◌≡◌ {A = ℕ} 0 1 = cc in absurd (omega arith)

-- an answer that is meant has these parts
meant_parts : (a : Answer) → meant a ≡ true → Parts a
unfolding meant
meant_parts a m =
    cases (ltb last_state a.state) (λ s. never (rw s at m)) (λ s.
    cases (ltb 8 a.consumed) (λ c. never (rw (s, c) at m)) (λ c.
    cases (sent_meant a.sent) (λ t. record { refusal = rw (s, c, t) at m; state = ltb-false _ _ s; sent = t; consumed = ltb-false _ _ c }) (λ t. never (rw (s, c, t) at m))))

-- the answer of a refused entry fits
pub refused_fits : (n state application station : ℕ) → refusal_known n ≡ true → state ≤ last_state → application < 2 ^ 3 → station < 2 ^ 7 → Fits (refused_answer n state application station)
unfolding refused_answer
refused_fits n state application station k s a t =
    record { refusal = k; plain = λ z. refl; state = s; sent = tt; consumed = lit≤ tt; notice = tt; application = a; station = t }

-- what is read as sent from fields within their widths fits
sent_fits : (f : SentFields) → f.destination < 2 ^ 7 → f.application < 2 ^ 3 → f.bytes < 2 ^ 8 → sent_meant (sent_from f) ≡ true → SentFits (sent_from f)
unfolding sent_from sent_meant
sent_fits f d a b m =
    cases (eqb f.kind 1) (λ k. rw k d) (λ k.
    cases (eqb f.kind 2) (λ l. rw (k, l) d) (λ l.
    cases (eqb f.kind 3) (λ j. rw (k, l, j) d) (λ j.
    cases (eqb f.kind 4) (λ i. rw (k, l, j, i) (d, a, some (rw (k, l, j, i) at m), b)) (λ i. rw (k, l, j, i) tt))))
  where
    some : not (eqb f.bytes 0) ≡ true → 0 < f.bytes
    some e = cases (eqb f.bytes 0) (λ z. never (rw z at e)) (λ z. omega (arith, eqb-false f.bytes 0 z))

-- a notice read from fields within their widths fits
notice_fits : (f : NoticeFields) → f.application < 2 ^ 3 → f.address < 2 ^ 7 → NoticeFits (notice_from f)
unfolding notice_from
notice_fits f a d = cases (eqb f.kind 1) (λ k. rw k (a, d)) (λ k. cases (eqb f.kind 2) (λ l. rw (k, l) (a, d)) (λ l. rw (k, l) tt))

-- an answer read from a word, its refusal left out, fits if it is meant
full_fits : (w : ℕ) → meant (full_of w) ≡ true → Fits (full_of w)
unfolding full_of
full_fits w m =
    let p = meant_parts (full_of w) m in
    record {
      refusal = p.refusal;
      plain = λ z. absurd (z refl);
      state = p.state;
      sent = sent_fits _ (field_below w 42 7) (field_below w 37 3) (field_below w 28 8) p.sent;
      consumed = p.consumed;
      notice = notice_fits _ (field_below w 19 3) (field_below w 12 7);
      application = field_below w 9 3;
      station = field_below w 2 7;
    }

-- an answer read from a word fits if it is meant
answer_fits : (w : ℕ) → meant (answer_of w) ≡ true → Fits (answer_of w)
unfolding answer_of refused_answer
answer_fits w m =
    cases (eqb (field_of w 59 5) 0) (λ z. rw z (full_fits w (rw z at m))) (λ z.
    let p = meant_parts (refused_answer (field_of w 59 5) (field_of w 52 4) (field_of w 9 3) (field_of w 2 7)) (rw z at m) in
    rw z (refused_fits (field_of w 59 5) (field_of w 52 4) (field_of w 9 3) (field_of w 2 7) p.refusal p.state (field_below w 9 3) (field_below w 2 7)))

-- an answer within document 01's ranges is what its word says
pub answer_unpacks : (a : Answer) → Fits a → unpack_of (answer_word a) ≡ Some a
unfolding unpack_of
answer_unpacks a f =
    let r = answer_read (answer_word a) a f (word_fields a f) in
    rw (r, eq-eqb (answer_word a) (answer_word a) refl, fits_meant a f)

-- what a word says is an answer within document 01's ranges, and packs to that word
pub answer_packs : (w : ℕ) (a : Answer) → unpack_of w ≡ Some a → (answer_word a ≡ w) × Fits a
unfolding unpack_of
answer_packs w a h =
    cases (eqb (answer_word (answer_of w)) w)
    (λ x.
    cases (meant (answer_of w))
    (λ m.
    let g : Some (answer_of w) ≡ Some a = rw (x, m) at h in
    let e : answer_of w ≡ a = cc in
    subst (λ b. (answer_word b ≡ w) × Fits b) e (eqb-true _ _ x, answer_fits w m))
    (λ m. nothing (rw (x, m) at h)))
    (λ x. nothing (rw x at h))
  where
    nothing : None ≡ Some a → (answer_word a ≡ w) × Fits a
    nothing e = let z : ◌≡◌ {A = ℕ} 0 1 = cc in absurd (omega arith)
