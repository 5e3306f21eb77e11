-- Frames written and read: the theorems have their statements here, each with a sentence. `write_of` and `frame_of` are what the
-- calls' contracts say, `is_written` is of specs/RoundTrip. Assumes nothing.
use Rattle.std.specs.Prelude.{ℕ, ◌+◌, ◌*◌, ◌^◌, ◌<◌, ◌≤◌, ◌≡◌, refl, List, [], ◌∷◌, ◌++◌, Bool, true, false, not, ◌||◌, get_or, take, drop, eqb, ltb}
use Rattle.std.proofs.Common.{ap, ◌∙◌, arith, length-take}
use borrow.Author.Tests.{eq-eqb, ne_eqb, eqb-true, le-ltb, ltb-false, not-false}
use borrow.Table.Steps.{cases}
use Rattle.std.proofs.Math.ListN.{length}
use Rattle.codec_fields.specs.Fields.{bit_at, Bytes}
use Rattle.codec_telegrams.specs.declared.Telegram.{Telegram}
use Rattle.codec_telegrams.specs.declared.Telegram.TheVariants.{Token, ShortConfirmation, Request, Response}
use Rattle.codec_telegrams.specs.Words.{telegram_of, telegram_refusal, telegram_word, TelegramFits}
use Rattle.codec_telegrams.specs.Laws.{telegram_fits, telegram_read, telegram_written, state_below}
use Rattle.codec_frames.specs.declared.Start.{Start}
use Rattle.codec_frames.specs.declared.Start.TheVariants.{Sd1, Sd2, Sd3, Sd4, Sc, Unknown}
use Rattle.codec_frames.specs.Frames.{read_as, sd4, sc, end_byte, status_code, check_of, sd1_frame, response_code, frame_bytes, is_other_request, start_of, frame_length, telegram_in, coded_telegram, frame_of, read_number, fitted, write_of, written_over}
use Rattle.codec_frames.specs.Laws.{status_read}
use Rattle.theorem_frames.specs.Whole.{Whole}
use Rattle.theorem_frames.proofs.Whole.{accepted, whole_read, no_bit, below_128}
use Rattle.theorem_frames.specs.Bytes.{start_byte}
use Rattle.theorem_frames.proofs.Bytes.{first_byte, byte_at_lem, front_1, front_3, front_6, response_read, response_written, coded_fits}
use Rattle.theorem_frames.specs.RoundTrip.{is_written}

-- an SD1 frame is read by its function code, whatever follows it
sd1_reads :
    (d s code : ℕ) (rest : List ℕ)
    → d < 2 ^ 7
    → s < 2 ^ 7
    → code < 2 ^ 7
    → frame_of (sd1_frame d s code ++ rest) ≡ read_as (coded_telegram d s code true) 6
unfolding frame_of start_of
sd1_reads d s code rest hd hs hc =
    let f = sd1_frame d s code ++ rest in
    let check = check_of (d ∷ s ∷ code ∷ []) in
    let same = eq-eqb check check refl in
    whole_read Sd1 f
    record {
      some = ne_eqb (length f) 0 (λ e. omega arith);
      known = refl;
      head = refl;
      same = refl;
      long = le-ltb (length f) 6 (omega arith);
      check = rw same;
      end = refl;
      addresses = rw (no_bit d 7 hd, no_bit s 7 hs);
      code = no_bit code 7 hc;
    }

-- What is written reads back as the same telegram, with as many bytes used as were written, whatever follows it
pub frame_reads_back :
    (t : Telegram) → TelegramFits t → is_other_request t ≡ false → (rest : List ℕ) → frame_of (frame_bytes t ++ rest) ≡ read_as t (length (frame_bytes t))
unfolding frame_of start_of
frame_reads_back (Token d s) fits w rest =
    let f = sd4 ∷ d ∷ s ∷ rest in
    whole_read Sd4 f
    record {
      some = ne_eqb (length f) 0 (λ e. omega arith);
      known = refl;
      head = refl;
      same = refl;
      long = le-ltb (length f) 3 (omega arith);
      check = refl;
      end = refl;
      addresses = rw (no_bit d 7 fits.0, no_bit s 7 fits.1);
      code = refl;
    }
frame_reads_back ShortConfirmation fits w rest =
    let f = sc ∷ rest in
    whole_read Sc f
    record {
      some = ne_eqb (length f) 0 (λ e. omega arith);
      known = refl;
      head = refl;
      same = refl;
      long = le-ltb (length f) 1 (omega arith);
      check = refl;
      end = refl;
      addresses = refl;
      code = refl;
    }
frame_reads_back (Request d s true) fits w rest =
    sd1_reads d s status_code rest fits.0 fits.1 (omega arith) ∙ ap (λ (t : Telegram). read_as t 6) (status_read d s true)
frame_reads_back (Request d s false) fits w rest = let z : ◌≡◌ {A = ℕ} 0 1 = cc in absurd (omega arith)
frame_reads_back (Response d s state n) fits w rest =
    let k = state_below state in
    sd1_reads d s (response_code state n) rest fits.0 fits.1 (omega arith)
    ∙ ap (λ (t : Telegram). read_as t 6) (response_read d s n state fits.2)

-- what a call that is not refused writes
written_is :
    (word room : ℕ)
    → (write_of word room).refusal ≡ 0
    → (telegram_refusal word ≡ 0) × (is_other_request (telegram_of word) ≡ false) × ((write_of word room).bytes ≡ frame_bytes (telegram_of word))
unfolding write_of fitted
written_is word room h =
    cases (eqb (telegram_refusal word) 0)
    (λ a.
    cases (is_other_request (telegram_of word)) (λ b. absurd (let e : 34 ≡ 0 = rw (a, b) at h in omega arith)) (λ b.
    cases (ltb room (length (frame_bytes (telegram_of word))))
    (λ c. absurd (let e : 18 ≡ 0 = rw (a, b, c) at h in omega arith))
    (λ c. (eqb-true _ 0 a, b, rw (a, b, c)))))
    (λ a. absurd (let e : 14 ≡ 0 = rw a at h in omega arith))

-- The same of the two calls: what a word is written as, in any slice, reads as that word and as many bytes as were written
pub written_reads_back :
    (word : ℕ) (before : List ℕ)
    → (write_of word (length before)).refusal ≡ 0
    → read_number (frame_of (written_over (write_of word (length before)) before)) ≡ word * 65536 + length (write_of word (length before)).bytes * 256
unfolding read_number
written_reads_back word before h =
    let w = written_is word (length before) h in
    let t = telegram_of word in
    let rest = drop (length (frame_bytes t)) before in
    rw (w.2, frame_reads_back t (telegram_fits word) w.1 rest, telegram_written word w.0)

-- neither holds where one of two does not
or_false : (a b : Bool) → (a || b) ≡ false → (a ≡ false) × (b ≡ false)
or_false true b e = let z : ◌≡◌ {A = ℕ} 0 1 = cc in absurd (omega arith)
or_false false b e = (refl, e)

module _ (f : List ℕ) (bytes : Bytes f) where
  -- addresses without the extension bit have seven bits
  addresses_fit :
      (i j : ℕ) → (bit_at (get_or f i 0) 7 || bit_at (get_or f j 0) 7) ≡ false → (get_or f i 0 < 2 ^ 7) × (get_or f j 0 < 2 ^ 7)
  addresses_fit i j e =
      let p = or_false (bit_at (get_or f i 0) 7) (bit_at (get_or f j 0) 7) e in
      (below_128 (get_or f i 0) (byte_at_lem f i bytes) p.0, below_128 (get_or f j 0) (byte_at_lem f j bytes) p.1)

  -- the telegram of a whole frame fits document 01's word
  fits_on : (start : Start) → Whole start f → TelegramFits (telegram_in start f)
  fits_on Sd1 w = let a = addresses_fit 1 2 w.addresses in coded_fits (get_or f 1 0) (get_or f 2 0) (get_or f 3 0) true a.0 a.1
  fits_on Sd2 w = let a = addresses_fit 4 5 w.addresses in coded_fits (get_or f 4 0) (get_or f 5 0) (get_or f 6 0) false a.0 a.1
  fits_on Sd3 w = let a = addresses_fit 1 2 w.addresses in coded_fits (get_or f 1 0) (get_or f 2 0) (get_or f 3 0) false a.0 a.1
  fits_on Sd4 w = addresses_fit 1 2 w.addresses
  fits_on Sc w = tt
  fits_on Unknown w = tt

  -- What is read, in any of the five frames, is a telegram that document 01's word can say
  pub read_fits : {t : Telegram} {used : ℕ} → frame_of f ≡ read_as t used → TelegramFits t
  unfolding frame_of
  read_fits e = let a = accepted (start_of (get_or f 0 0)) f e in rw a.1 at (fits_on (start_of (get_or f 0 0)) a.0)

-- what a function code says without data is written as that code, unless it is another request
coded_frame :
    (d s code : ℕ)
    → code < 2 ^ 7
    → is_other_request (coded_telegram d s code true) ≡ false
    → frame_bytes (coded_telegram d s code true) ≡ sd1_frame d s code
unfolding coded_telegram
coded_frame d s code h w =
    cases (eqb code status_code) (λ a. rw (a, eqb-true code status_code a)) (λ a.
    cases (bit_at code 6)
    (λ b. let e : not false ≡ false = rw (a, b) at w in let z : ◌≡◌ {A = ℕ} 0 1 = cc in absurd (omega arith))
    (λ b. rw (a, b, response_written code h b)))

-- the three bytes from the destination on
body_3 : (f : List ℕ) → 4 ≤ length f → take 3 (drop 1 f) ≡ get_or f 1 0 ∷ get_or f 2 0 ∷ get_or f 3 0 ∷ []
body_3 [] h = absurd (omega arith)
body_3 (a ∷ f) h = front_3 f (omega arith)

module _ (f : List ℕ) (bytes : Bytes f) where
  -- a whole frame of these is the one that its telegram is written as
  same_bytes :
      (start : Start)
      → get_or f 0 0 ≡ start_byte start (get_or f 0 0)
      → Whole start f
      → is_written start ≡ true
      → is_other_request (telegram_in start f) ≡ false
      → frame_bytes (telegram_in start f) ≡ take (frame_length start f) f
  same_bytes Sd1 first w s o =
      let long : 6 ≤ length f = ltb-false (length f) 6 w.long in
      let code = below_128 (get_or f 3 0) (byte_at_lem f 3 bytes) w.code in
      let check = eqb-true (get_or f 4 0) (check_of (take 3 (drop 1 f))) (not-false _ w.check) in
      let end = eqb-true (get_or f 5 0) end_byte (not-false _ w.end) in
      let four : 4 ≤ length f = omega arith in
      coded_frame (get_or f 1 0) (get_or f 2 0) (get_or f 3 0) code o ∙ rw (front_6 f long, first, check, end, body_3 f four)
  same_bytes Sd2 first w s o = let z : ◌≡◌ {A = ℕ} 0 1 = cc in absurd (omega arith)
  same_bytes Sd3 first w s o = let z : ◌≡◌ {A = ℕ} 0 1 = cc in absurd (omega arith)
  same_bytes Sd4 first w s o = rw (front_3 f (ltb-false (length f) 3 w.long), first)
  same_bytes Sc first w s o = rw (front_1 f (ltb-false (length f) 1 w.long), first)
  same_bytes Unknown first w s o = let z : ◌≡◌ {A = ℕ} 0 1 = cc in absurd (omega arith)

  module _ {t : Telegram} {used : ℕ} (read : frame_of f ≡ read_as t used) (start : is_written (start_of (get_or f 0 0)) ≡ true) (other : is_other_request t ≡ false) where
    -- Each frame that is read as a token, a short confirmation, a status request or a response, in SD4, SC or SD1, is the frame that
    -- its telegram is written as
    pub frame_writes_back : frame_bytes t ≡ take used f
    unfolding frame_of
    frame_writes_back =
        let a = accepted (start_of (get_or f 0 0)) f read in
        rw (a.1, a.2) at (same_bytes (start_of (get_or f 0 0)) (first_byte refl) a.0 start (rw a.1 other))

    -- The same of the two calls: the word that was read is written as the same bytes, where there is room for them
    pub read_writes_back : (room : ℕ) → used ≤ room → write_of (telegram_word t) room ≡ record { bytes = take used f; refusal = 0 }
    unfolding write_of fitted
    read_writes_back room h =
        let said = telegram_read t (read_fits f bytes read) in
        let n : length (frame_bytes t) ≤ room = rw (frame_writes_back, length-take) (omega arith) in
        rw (said.1, said.0, other, le-ltb room (length (frame_bytes t)) n, frame_writes_back)
