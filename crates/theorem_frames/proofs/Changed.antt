-- One byte of a frame changed: which changes are found, and that the others are read as `changed` of specs/Changed says. The theorems
-- have their statements here. Assumes nothing.
use Prim.Native.Nat.{ℕ, zero, suc, ◌+◌, ◌%◌, ◌^◌, ◌<◌, ◌≤◌}
use Rattle.std.specs.Prelude.{◌≡◌, true, false, cond, not, ◌&&◌, drop, eqb, Err, Result}
use Rattle.std.proofs.Math.Path.{refl, sym, ap}
use Rattle.std.proofs.Common.{◌∙◌, mod-lt, lit<, lit≤}
use mathlib.Core.List.{List, [], ◌∷◌}
use native.Mathlib.Omega.{arith}
use borrow.Author.Tests.{ne_eqb, eqb-true, eqb-false, ltb-false, not-false}
use borrow.Table.Steps.{cases}
use Rattle.std.proofs.Math.ListN.{length, get_or, take, set, length-set, length-drop}
use Rattle.std.proofs.Math.Seq.{get_or-take, get_or-drop, get_or-set_same, get_or-set_other, take-set-lt, length-take-le}
use Rattle.std.proofs.lemmas.List.{drop-set-add, take-set-le}
use Rattle.codec_fields.specs.Fields.{bit_at, Bytes}
use Rattle.codec_telegrams.specs.declared.Telegram.{Telegram}
use Rattle.codec_telegrams.specs.declared.Telegram.TheVariants.{Token, ShortConfirmation, Request, Response}
use Rattle.codec_telegrams.specs.Words.{TelegramFits}
use Rattle.codec_telegrams.specs.Laws.{state_below}
use Rattle.codec_frames.specs.declared.Start.{Start}
use Rattle.codec_frames.specs.declared.Start.TheVariants.{Sd1, Sd2, Sd3, Sd4, Sc, Unknown}
use Rattle.codec_frames.specs.declared.Frame.{Frame}
use Rattle.codec_frames.specs.Frames.{read_as, sd1, sd2, sd3, sd4, sc, end_byte, sum_of, check_of, sd1_frame, status_code, response_code, frame_bytes, is_other_request, start_of, is_unknown, is_sd2, is_checked, head_length, body_length, check_place, head_holds, frame_on, frame_of}
use Rattle.theorem_frames.proofs.Whole.{accepted, no_bit}
use Rattle.theorem_frames.proofs.Bytes.{first_byte, byte_at_lem}
use Rattle.theorem_frames.proofs.RoundTrip.{frame_reads_back}
use Rattle.theorem_frames.specs.Changed.{changed, sd1_changed, token_changed}

-- Frames with a check byte

-- a sum with one byte changed
sum_set : (l : List ℕ) (j b : ℕ) → j < length l → sum_of (set l j b) + get_or l j 0 ≡ sum_of l + b
sum_set [] j b h = absurd (omega arith)
sum_set (x ∷ l) zero b h = omega arith
sum_set (x ∷ l) (suc j) b h = omega (arith, sum_set l j b (omega arith))

-- two sums that part by less than 256 and have one check byte are the same
same_check : (a c old b : ℕ) → old < 2 ^ 8 → b < 2 ^ 8 → a + old ≡ c + b → a % 2 ^ 8 ≡ c % 2 ^ 8 → b ≡ old
same_check a c old b ho hb e m = omega arith

-- so a check byte no longer fits where it or one of its bytes was changed
module _ (f : List ℕ) (h n b : ℕ) (room : h + n < length f) (fits : get_or f (h + n) 0 ≡ check_of (take n (drop h f))) (byte : b < 2 ^ 8) where
  check_changed :
      (b ≡ get_or f (h + n) 0 → ⊥) → get_or (set f (h + n) b) (h + n) 0 ≡ check_of (take n (drop h (set f (h + n) b))) → ⊥
  check_changed other e =
      let kept : take n (drop h (set f (h + n) b)) ≡ take n (drop h f) = ap (take n) (drop-set-add h f n b) ∙ take-set-le n (drop h f) n b (omega arith) in
      other (sym (get_or-set_same f (h + n) b 0 room) ∙ e ∙ ap check_of kept ∙ sym fits)

  body_changed :
      (j : ℕ)
      → j < n
      → get_or f (h + j) 0 < 2 ^ 8
      → (b ≡ get_or f (h + j) 0 → ⊥)
      → get_or (set f (h + j) b) (h + n) 0 ≡ check_of (take n (drop h (set f (h + j) b)))
      → ⊥
  unfolding check_of
  body_changed j small old other e =
      let m = take n (drop h f) in
      let long : length m ≡ n = length-take-le n (drop h f) (rw length-drop (omega arith)) in
      let kept : take n (drop h (set f (h + j) b)) ≡ set m j b = ap (take n) (drop-set-add h f j b) ∙ take-set-lt n (drop h f) j b small in
      let at : get_or m j 0 ≡ get_or f (h + j) 0 = get_or-take n (drop h f) j 0 small ∙ get_or-drop h f j 0 in
      let place : get_or (set f (h + j) b) (h + n) 0 ≡ get_or f (h + n) 0 = get_or-set_other f (h + j) (h + n) b 0 (λ z. omega arith) in
      let sums : sum_of (set m j b) + get_or f (h + j) 0 ≡ sum_of m + b = ap (λ (k : ℕ). sum_of (set m j b) + k) (sym at) ∙ sum_set m j b (omega arith) in
      let checks : sum_of (set m j b) % 2 ^ 8 ≡ sum_of m % 2 ^ 8 = ap (λ (l : List ℕ). sum_of l % 2 ^ 8) (sym kept) ∙ sym e ∙ place ∙ fits in
      other (same_check (sum_of (set m j b)) (sum_of m) (get_or f (h + j) 0) b old byte sums checks)

-- the end byte is not among the bytes that are checked
body_kept : (f : List ℕ) (h n b : ℕ) → take n (drop h (set f (h + n + 1) b)) ≡ take n (drop h f)
body_kept f h n b =
    let e : h + n + 1 ≡ h + (n + 1) = omega arith in
    rw (e, drop-set-add h f (n + 1) b) (take-set-le n (drop h f) (n + 1) b (omega arith))

module _ (f : List ℕ) (i b : ℕ) where
  -- a byte behind the head leaves what the head says
  kept_length : (start : Start) → head_length start ≤ i → body_length start (set f i b) ≡ body_length start f
  kept_length Sd1 h = refl
  kept_length Sd2 h = get_or-set_other f i 1 b 0 (λ e. omega arith)
  kept_length Sd3 h = refl
  kept_length Sd4 h = refl
  kept_length Sc h = refl
  kept_length Unknown h = refl

  kept_head : (start : Start) → head_length start ≤ i → (is_sd2 start && not (head_holds (set f i b))) ≡ (is_sd2 start && not (head_holds f))
  kept_head Sd1 h = refl
  kept_head Sd2 h =
      let one : get_or (set f i b) 1 0 ≡ get_or f 1 0 = get_or-set_other f i 1 b 0 (λ e. omega arith) in
      let two : get_or (set f i b) 2 0 ≡ get_or f 2 0 = get_or-set_other f i 2 b 0 (λ e. omega arith) in
      let three : get_or (set f i b) 3 0 ≡ get_or f 3 0 = get_or-set_other f i 3 b 0 (λ e. omega arith) in
      rw (one, two, three)
  kept_head Sd3 h = refl
  kept_head Sd4 h = refl
  kept_head Sc h = refl
  kept_head Unknown h = refl

  kept_start : (start : Start) → head_length start ≤ i → 1 ≤ i
  kept_start Sd1 h = h
  kept_start Sd2 h = omega arith
  kept_start Sd3 h = h
  kept_start Sd4 h = h
  kept_start Sc h = h
  kept_start Unknown h = h

module _ (f : List ℕ) {t : Telegram} {used : ℕ} (read : frame_of f ≡ read_as t used) where
  -- how the frame begins
  abbrev begins : Start
  begins = start_of (get_or f 0 0)

  module _ (checked : is_checked begins ≡ true) where
    -- In a frame with a check byte, SD1, SD2 or SD3, any byte from the destination to the check byte changed is found: 22. Byte j
    -- is counted from the destination; the check byte is the last of them
    pub change_found :
        Bytes f → (j b : ℕ) → j ≤ body_length begins f → b < 2 ^ 8 → (b ≡ get_or f (head_length begins + j) 0 → ⊥) → frame_of (set f (head_length begins + j) b) ≡ Err 22
    unfolding frame_of frame_on
    change_found bytes j b last byte other =
        let start = begins in
        let i = head_length start + j in
        let w = (accepted start f read).0 in
        let behind : head_length start ≤ i = omega arith in
        let first : get_or (set f i b) 0 0 ≡ get_or f 0 0 = get_or-set_other f i 0 b 0 (λ e. omega (arith, kept_start f i b start behind)) in
        let long : check_place start f + 2 ≤ length f = ltb-false (length f) (check_place start f + 2) (rw checked at w.long) in
        let check : get_or f (check_place start f) 0 ≡ check_of (take (body_length start f) (drop (head_length start) f)) =
        eqb-true _ _ (not-false _ (rw checked at w.check)) in
        let room : check_place start f < length f = omega arith in
        let differs : get_or (set f i b) (check_place start f) 0 ≡ check_of (take (body_length start f) (drop (head_length start) (set f i b))) → ⊥ =
        cases (eqb j (body_length start f))
        (λ a.
        let e : j ≡ body_length start f = eqb-true j (body_length start f) a in
        rw e (check_changed f (head_length start) (body_length start f) b room check byte (rw e at other)))
        (λ a.
        let less : j < body_length start f = omega (arith, eqb-false j (body_length start f) a) in
        body_changed f (head_length start) (body_length start f) b room check byte j less (byte_at_lem f i bytes) other) in
        rw (first, length-set f i b, w.some, w.known, w.head, kept_length f i b start behind, kept_head f i b start behind, w.same, w.long, checked, ne_eqb _ _ differs)

    -- and so is the end byte: 23
    pub end_found : (b : ℕ) → (b ≡ end_byte → ⊥) → frame_of (set f (check_place begins f + 1) b) ≡ Err 23
    unfolding frame_of frame_on
    end_found b other =
        let start = begins in
        let place = check_place start f in
        let i = place + 1 in
        let w = (accepted start f read).0 in
        let behind : head_length start ≤ i = omega arith in
        let first : get_or (set f i b) 0 0 ≡ get_or f 0 0 = get_or-set_other f i 0 b 0 (λ e. omega (arith, kept_start f i b start behind)) in
        let long : place + 2 ≤ length f = ltb-false (length f) (place + 2) (rw checked at w.long) in
        let kept : get_or (set f i b) place 0 ≡ get_or f place 0 = get_or-set_other f i place b 0 (λ e. omega arith) in
        let same : take (body_length start f) (drop (head_length start) (set f i b)) ≡ take (body_length start f) (drop (head_length start) f) =
        body_kept f (head_length start) (body_length start f) b in
        let new : get_or (set f i b) i 0 ≡ b = get_or-set_same f i b 0 (omega arith) in
        rw (first, length-set f i b, w.some, w.known, w.head, kept_length f i b start behind, kept_head f i b start behind, w.same, w.long, kept, same, w.check, new, checked, ne_eqb b end_byte other)

-- The frames that are written

-- another first byte for the same
start_changed : (b : ℕ) (f : List ℕ) (x : Result Frame ℕ) (start : ℕ) → b ≡ start → frame_of (start ∷ f) ≡ x → frame_of (b ∷ f) ≡ x
start_changed b f x start e h = ap (λ (k : ℕ). frame_of (k ∷ f)) e ∙ h

-- a byte that begins no frame
none_begins : (b : ℕ) (f : List ℕ) → start_of b ≡ Unknown → frame_of (b ∷ f) ≡ Err 20
unfolding frame_of frame_on
none_begins b f e = rw (e, ne_eqb (length (b ∷ f)) 0 (λ z. omega arith))

no_start :
    (b : ℕ) → eqb b sd1 ≡ false → eqb b sd2 ≡ false → eqb b sd3 ≡ false → eqb b sd4 ≡ false → eqb b sc ≡ false → start_of b ≡ Unknown
unfolding start_of
no_start b e1 e2 e3 e4 e5 = rw (e1, e2, e3, e4, e5)

module _ (d s code check : ℕ) where
  -- what stands behind the start byte of an SD1 frame
  abbrev behind : List ℕ
  behind = d ∷ s ∷ code ∷ check ∷ end_byte ∷ []

  -- read as SD2 and as SD3
  as_sd2 : (code ≡ sd2 → ⊥) → frame_of (sd2 ∷ behind) ≡ Err 21
  unfolding frame_of start_of frame_on
  as_sd2 other = cases (eqb s d) (λ k. rw (k, ne_eqb code sd2 other)) (λ k. rw k)

  as_sd3 : frame_of (sd3 ∷ behind) ≡ Err 19
  unfolding frame_of start_of frame_on
  as_sd3 = refl

  -- the start byte of an SD1 frame changed, of a function code that is not 68h
  sd1_begun : (b : ℕ) → d < 2 ^ 7 → s < 2 ^ 7 → (code ≡ sd2 → ⊥) → (b ≡ sd1 → ⊥) → frame_of (b ∷ behind) ≡ sd1_changed d s 0 b
  sd1_begun b hd hs hc hb =
      cases (eqb b sd4) (λ a. rw a (start_changed b behind _ sd4 (eqb-true b sd4 a) (frame_reads_back (Token d s) (hd, hs) refl (code ∷ check ∷ end_byte ∷ [])))) (λ a.
      cases (eqb b sc) (λ c. rw (a, c) (start_changed b behind _ sc (eqb-true b sc c) (frame_reads_back ShortConfirmation tt refl behind))) (λ c.
      cases (eqb b sd2) (λ g. rw (a, c, g) (start_changed b behind _ sd2 (eqb-true b sd2 g) (as_sd2 hc))) (λ g.
      cases (eqb b sd3) (λ k. rw (a, c, g, k) (start_changed b behind _ sd3 (eqb-true b sd3 k) as_sd3)) (λ k.
      rw (a, c, g, k) (none_begins b behind (no_start b (ne_eqb b sd1 hb) g k a c))))))

-- three bytes, and one, that begin no frame of as many
three_on : (start : Start) (a b c : ℕ) → (start ≡ Sd4 → ⊥) → (start ≡ Sc → ⊥) → frame_on start (a ∷ b ∷ c ∷ []) ≡ cond (is_unknown start) (Err 20) (Err 19)
unfolding frame_on
three_on Sd1 a b c h k = refl
three_on Sd2 a b c h k = refl
three_on Sd3 a b c h k = refl
three_on Sd4 a b c h k = absurd (h refl)
three_on Sc a b c h k = absurd (k refl)
three_on Unknown a b c h k = refl

one_on : (start : Start) (a : ℕ) → (start ≡ Sc → ⊥) → frame_on start (a ∷ []) ≡ cond (is_unknown start) (Err 20) (Err 19)
unfolding frame_on
one_on Sd1 a k = refl
one_on Sd2 a k = refl
one_on Sd3 a k = refl
one_on Sd4 a k = refl
one_on Sc a k = absurd (k refl)
one_on Unknown a k = refl

-- a byte that is not SC begins no short confirmation, and one that is not SD4 no token
not_sc : (b : ℕ) → (b ≡ sc → ⊥) → start_of b ≡ Sc → ⊥
not_sc b h e = h (first_byte e)

not_sd4 : (b : ℕ) → (b ≡ sd4 → ⊥) → start_of b ≡ Sd4 → ⊥
not_sd4 b h e = h (first_byte e)

-- the start byte of a token changed
token_begun : (d s b : ℕ) → (b ≡ sd4 → ⊥) → frame_of (b ∷ d ∷ s ∷ []) ≡ token_changed d s 0 b
unfolding frame_of
token_begun d s b h =
    cases (eqb b sc) (λ a. rw a (start_changed b (d ∷ s ∷ []) _ sc (eqb-true b sc a) (frame_reads_back ShortConfirmation tt refl (d ∷ s ∷ [])))) (λ a.
    rw a (three_on (start_of b) b d s (not_sd4 b h) (not_sc b (eqb-false b sc a))))

-- its addresses
token_destination : (s b : ℕ) → s < 2 ^ 7 → frame_of (sd4 ∷ b ∷ s ∷ []) ≡ cond (bit_at b 7) (Err 24) (read_as (Token b s) 3)
unfolding frame_of start_of frame_on
token_destination s b h = cases (bit_at b 7) (λ a. rw a) (λ a. rw (a, no_bit s 7 h))

token_source : (d b : ℕ) → d < 2 ^ 7 → frame_of (sd4 ∷ d ∷ b ∷ []) ≡ cond (bit_at b 7) (Err 24) (read_as (Token d b) 3)
unfolding frame_of start_of frame_on
token_source d b h = rw (no_bit d 7 h)

module _ (d s code : ℕ) (hd : d < 2 ^ 7) (hs : s < 2 ^ 7) (hc : code < 2 ^ 7) {t : Telegram} (read : frame_of (sd1_frame d s code) ≡ read_as t 6) where
  -- its bytes are bytes
  sd1_bytes : Bytes (sd1_frame d s code)
  unfolding check_of
  sd1_bytes = (lit< tt, (omega arith, (omega arith, (omega arith, (mod-lt (d + (s + (code + 0))) (lit< tt), (lit< tt, tt))))))

  -- a byte of an SD1 frame changed
  sd1_changed_lem :
      (i b : ℕ)
      → i < 6
      → b < 2 ^ 8
      → (code ≡ sd2 → ⊥)
      → (b ≡ get_or (sd1_frame d s code) i 0 → ⊥)
      → frame_of (set (sd1_frame d s code) i b) ≡ sd1_changed d s i b
  unfolding start_of
  sd1_changed_lem zero b h byte plain other = sd1_begun d s code _ b hd hs plain other
  sd1_changed_lem (suc zero) b h byte plain other = change_found (sd1_frame d s code) read refl sd1_bytes 0 b (lit≤ tt) byte other
  sd1_changed_lem (suc (suc zero)) b h byte plain other = change_found (sd1_frame d s code) read refl sd1_bytes 1 b (lit≤ tt) byte other
  sd1_changed_lem (suc (suc (suc zero))) b h byte plain other = change_found (sd1_frame d s code) read refl sd1_bytes 2 b (lit≤ tt) byte other
  sd1_changed_lem (suc (suc (suc (suc zero)))) b h byte plain other = change_found (sd1_frame d s code) read refl sd1_bytes 3 b (lit≤ tt) byte other
  sd1_changed_lem (suc (suc (suc (suc (suc zero))))) b h byte plain other = end_found (sd1_frame d s code) read refl b other
  sd1_changed_lem (suc (suc (suc (suc (suc (suc i)))))) b h byte plain other = absurd (omega arith)

-- One byte of a written frame changed is read as `changed` says: in SD1 every change behind the start byte is refused, and of the
-- start byte every change but those to DCh and E5h; of a token those that set bit 7 of an address, and of its start byte every
-- change but that to E5h; of a short confirmation every change
pub one_byte_changed :
    (t : Telegram)
    → TelegramFits t
    → is_other_request t ≡ false
    → (i b : ℕ)
    → i < length (frame_bytes t)
    → b < 2 ^ 8
    → (b ≡ get_or (frame_bytes t) i 0 → ⊥)
    → frame_of (set (frame_bytes t) i b) ≡ changed t i b
unfolding frame_of
one_byte_changed (Token d s) fits w zero b h byte other = token_begun d s b other
one_byte_changed (Token d s) fits w (suc zero) b h byte other = token_destination s b fits.1
one_byte_changed (Token d s) fits w (suc (suc zero)) b h byte other = token_source d b fits.0
one_byte_changed (Token d s) fits w (suc (suc (suc i))) b h byte other = absurd (omega arith)
one_byte_changed ShortConfirmation fits w zero b h byte other = one_on (start_of b) b (not_sc b other)
one_byte_changed ShortConfirmation fits w (suc i) b h byte other = absurd (omega arith)
one_byte_changed (Request d s true) fits w i b h byte other =
    sd1_changed_lem d s status_code fits.0 fits.1 (lit< tt) (frame_reads_back (Request d s true) fits w []) i b h byte (λ e. omega arith) other
one_byte_changed (Request d s false) fits w i b h byte other = absurd (omega arith)
one_byte_changed (Response d s state n) fits w i b h byte other =
    let k = state_below state in
    let code : response_code state n < 2 ^ 6 = omega arith in
    sd1_changed_lem d s (response_code state n) fits.0 fits.1 (omega arith) (frame_reads_back (Response d s state n) fits w []) i b h byte (λ e. omega arith) other
