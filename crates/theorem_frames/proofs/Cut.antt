-- What stands behind a frame, a frame cut short, and that no frame begins another: the theorems have their statements here.
-- Assumes nothing.
use Rattle.std.specs.Prelude.{ℕ, zero, suc, ◌+◌, ◌<◌, ◌≤◌, refl, List, [], ◌∷◌, ◌++◌, false, length, take, drop, eqb, ltb, Err}
use Rattle.std.proofs.Math.Path.{◌≡◌}
use Rattle.std.proofs.Common.{sym, ap, ◌∙◌, append-nil, arith, length-append, take-append-drop, length-take-le, lit≤}
use borrow.Author.Tests.{lt-ltb, ltb-false}
use borrow.Table.Steps.{cases}
use Rattle.std.proofs.Math.ListN.{get_or, length-take}
use Rattle.std.proofs.Math.Seq.{get_or-take}
use Rattle.codec_telegrams.specs.declared.Telegram.{Telegram}
use Rattle.codec_telegrams.specs.Words.{TelegramFits}
use Rattle.codec_frames.specs.declared.Start.{Start}
use Rattle.codec_frames.specs.declared.Start.TheVariants.{Sd1, Sd2, Sd3, Sd4, Sc, Unknown}
use Rattle.codec_frames.specs.Frames.{read_as, frame_bytes, is_other_request, start_of, is_unknown, frame_length, frame_on, frame_of}
use Rattle.codec_frames.specs.Laws.{empty_way, same_read}
use Rattle.codec_frames.specs.Behind.{Enough, byte_behind, behind_on}
use Rattle.theorem_frames.specs.Whole.{Whole}
use Rattle.theorem_frames.proofs.Whole.{accepted}
use Rattle.theorem_frames.proofs.RoundTrip.{frame_reads_back}

-- What follows a frame

-- a whole frame has bytes enough
enough : (p x : List ℕ) (start : Start) → is_unknown start ≡ false → frame_length start (p ++ x) ≡ length p → Enough start p
enough p x Sd1 known e = omega arith
enough p x Sd2 known e =
    let one : 1 < length p = omega arith in
    let long : 4 + get_or (p ++ x) 1 0 + 2 ≤ length p = omega arith in
    (omega arith, λ a. rw (byte_behind p x 1 one) at long)
enough p x Sd3 known e = omega arith
enough p x Sd4 known e = omega arith
enough p x Sc known e = omega arith
enough p x Unknown known e = let z : ◌≡◌ {A = ℕ} 0 1 = cc in absurd (omega arith)

-- a frame has at least one byte
used_some : (start : Start) (f : List ℕ) → is_unknown start ≡ false → 1 ≤ frame_length start f
used_some Sd1 f known = lit≤ tt
used_some Sd2 f known = omega arith
used_some Sd3 f known = lit≤ tt
used_some Sd4 f known = lit≤ tt
used_some Sc f known = lit≤ tt
used_some Unknown f known = lit≤ tt

-- Whatever follows a frame, of any of the five, it is read as it is alone: bytes behind it are not looked at
pub read_alone : (f rest : List ℕ) {t : Telegram} {used : ℕ} → frame_of f ≡ read_as t used → frame_of (take used f ++ rest) ≡ read_as t used
unfolding frame_of
read_alone f rest {t} {used} e =
    let start = start_of (get_or f 0 0) in
    let a = accepted start f e in
    let w = a.0 in
    let long : used ≤ length f = rw a.2 at (ltb-false (length f) (frame_length start f) w.long) in
    let p = take used f in
    let whole : p ++ drop used f ≡ f = take-append-drop used f in
    let size : length p ≡ used = length-take-le used f long in
    let some : 1 ≤ used = rw a.2 at (used_some start f w.known) in
    let first : get_or (p ++ rest) 0 0 ≡ get_or f 0 0 =
    byte_behind p rest 0 (omega arith) ∙ sym (byte_behind p (drop used f) 0 (omega arith)) ∙ ap (λ (l : List ℕ). get_or l 0 0) whole in
    let long_enough = enough p (drop used f) start w.known (rw whole (a.2 ∙ sym size)) in
    rw first (behind_on p rest start long_enough ∙ sym (behind_on p (drop used f) start long_enough) ∙ ap (frame_on start) whole ∙ e)

-- A cut frame

-- fewer bytes than some number
short : (f : List ℕ) {n m : ℕ} → n < m → length (take n f) < m
short f {n} h = rw length-take (omega arith)

module _ (f : List ℕ) (n : ℕ) where
  -- the first bytes of a whole frame, fewer than it has
  cut_on : (start : Start) → Whole start f → n < frame_length start f → frame_on start (take n f) ≡ Err 19
  unfolding frame_on
  cut_on Sd1 w h = cases (eqb (length (take n f)) 0) (λ a. rw a) (λ a. rw (a, lt-ltb (length (take n f)) 6 (short f h)))
  cut_on Sd2 w h =
      cases (eqb (length (take n f)) 0) (λ a. rw a) (λ a.
      cases (ltb (length (take n f)) 4) (λ b. rw (a, b)) (λ b.
      let few = ltb-false (length (take n f)) 4 b in
      let four : 4 ≤ n = omega (arith, length-take n f) in
      let one : get_or (take n f) 1 0 ≡ get_or f 1 0 = get_or-take n f 1 0 (omega arith) in
      let two : get_or (take n f) 2 0 ≡ get_or f 2 0 = get_or-take n f 2 0 (omega arith) in
      let three : get_or (take n f) 3 0 ≡ get_or f 3 0 = get_or-take n f 3 0 (omega arith) in
      rw (a, b, one, two, three, w.same, lt-ltb (length (take n f)) (4 + get_or f 1 0 + 2) (short f h))))
  cut_on Sd3 w h = cases (eqb (length (take n f)) 0) (λ a. rw a) (λ a. rw (a, lt-ltb (length (take n f)) 14 (short f h)))
  cut_on Sd4 w h = cases (eqb (length (take n f)) 0) (λ a. rw a) (λ a. rw (a, lt-ltb (length (take n f)) 3 (short f h)))
  cut_on Sc w h = cases (eqb (length (take n f)) 0) (λ a. rw a) (λ a. rw (a, lt-ltb (length (take n f)) 1 (short f h)))
  cut_on Unknown w h = let z : ◌≡◌ {A = ℕ} 0 1 = cc w.known in absurd (omega arith)

-- A frame cut short is 19, whichever of the five it is and wherever it is cut: it is never read as something else, so a reader
-- that waits for more bytes misses nothing
pub cut_short : (f : List ℕ) {t : Telegram} {used : ℕ} → frame_of f ≡ read_as t used → (n : ℕ) → n < used → frame_of (take n f) ≡ Err 19
unfolding frame_of
cut_short f e zero h = empty_way _ [] refl
cut_short f e (suc n) h =
    let start = start_of (get_or f 0 0) in
    let a = accepted start f e in
    let first : get_or (take (suc n) f) 0 0 ≡ get_or f 0 0 = get_or-take (suc n) f 0 0 (omega arith) in
    rw first (cut_on f (suc n) start a.0 (rw a.2 h))

-- a list of no length is empty
none : (l : List ℕ) → length l ≡ 0 → l ≡ []
none [] e = refl
none (a ∷ l) e = absurd (omega arith)

-- No frame begins another: of two frames of the written kinds, if one is the beginning of the other they are the same
pub no_frame_begins_another :
    (t u : Telegram)
    → TelegramFits t
    → TelegramFits u
    → is_other_request t ≡ false
    → is_other_request u ≡ false
    → (rest : List ℕ)
    → frame_bytes u ≡ frame_bytes t ++ rest
    → (t ≡ u) × (rest ≡ [])
no_frame_begins_another t u ft fu wt wu rest e =
    let first = frame_reads_back t ft wt rest in
    let second : frame_of (frame_bytes u) ≡ read_as u (length (frame_bytes u)) =
    ap frame_of (sym (append-nil (frame_bytes u))) ∙ frame_reads_back u fu wu [] in
    let both = same_read (sym first ∙ ap frame_of (sym e) ∙ second) in
    let same : length (frame_bytes t) ≡ length (frame_bytes u) = both.1 in
    let sum : length (frame_bytes u) ≡ length (frame_bytes t) + length rest = ap length e ∙ length-append (frame_bytes t) rest in
    (both.0, none rest (omega arith))
