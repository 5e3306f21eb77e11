-- What stands behind a frame is not looked at, and no frame has more than 255 bytes. Assumes nothing.
use Rattle.std.specs.Prelude.{◌≡◌, ℕ, ◌+◌, ◌<◌, ◌≤◌, true, false, List, ◌++◌, length, take, drop, ◌==◌, nat_lt, slice_index, slice_index_or}
use Rattle.std.proofs.Common.{sym, ap, ◌∙◌, arith, ne_eqb, le-ltb, length-append, length-drop, take-append-drop, get_or-take, length-take-le}
use borrow.Table.Steps.{cases}
use Rattle.std.proofs.Math.ListN.{get_or-append}
use Rattle.std.proofs.lemmas.List.{take-append-le, drop-append-le}
use Rattle.codec_frames.specs.declared.Start.{Start}
use Rattle.codec_frames.specs.declared.Start.TheVariants.{Sd1, Sd2, Sd3, Sd4, Sc, Unknown}
use Rattle.codec_frames.specs.Frames.{start_of, head_holds, frame_on, frame_of}
use Rattle.codec_frames.specs.Laws.{head_long, head_short}

-- bytes enough for what a reader makes of a frame that begins so
abbrev pub Enough : Start → List ℕ → Type 0
Enough Sd1 p = 6 ≤ length p
Enough Sd2 p = (4 ≤ length p) × (head_holds p ≡ true → 4 + slice_index p 1 + 2 ≤ length p)
Enough Sd3 p = 14 ≤ length p
Enough Sd4 p = 3 ≤ length p
Enough Sc p = 1 ≤ length p
Enough Unknown p = 1 ≤ length p

module _ (p x : List ℕ) where
  -- what stands in the first part is the same whatever follows it
  pub byte_behind : (i : ℕ) → i < length p → slice_index (p ++ x) i ≡ slice_index p i
  byte_behind i h = get_or-append p x 0 i h

  part_behind : (h n : ℕ) → h + n ≤ length p → take n (drop h (p ++ x)) ≡ take n (drop h p)
  part_behind h n room =
      let low : h ≤ length p = omega arith in
      let rest : n ≤ length (drop h p) = rw length-drop (omega arith) in
      rw (drop-append-le h p x low, take-append-le n (drop h p) x rest)

  -- and the first part is as long
  some_behind : 1 ≤ length p → (length (p ++ x) == 0) ≡ false
  some_behind h = ne_eqb (length (p ++ x)) 0 (λ e. omega (arith, length-append p x))

  long_behind : (n : ℕ) → n ≤ length p → nat_lt (length (p ++ x)) n ≡ false
  long_behind n h = le-ltb (length (p ++ x)) n (omega (arith, length-append p x))

-- there are some
some_bytes : (p : List ℕ) → 1 ≤ length p → (length p == 0) ≡ false
some_bytes p h = ne_eqb (length p) 0 (λ e. omega arith)

-- a frame with enough bytes is read as it is alone, whatever follows it
pub behind_on : (p x : List ℕ) (start : Start) → Enough start p → frame_on start (p ++ x) ≡ frame_on start p
unfolding frame_on
behind_on p x Sd1 e =
    let at = byte_behind p x in
    rw (
      some_behind p x (omega arith),
      some_bytes p (omega arith),
      long_behind p x 6 e,
      le-ltb (length p) 6 e,
      part_behind p x 1 3 (omega arith),
      at 1 (omega arith),
      at 2 (omega arith),
      at 3 (omega arith),
      at 4 (omega arith),
      at 5 (omega arith),
    )
behind_on p x Sd2 e =
    let at = byte_behind p x in
    let n = slice_index_or p 1 0 in
    let four : 4 ≤ length p = e.0 in
    cases (head_holds p)
    (λ a.
    let long : 4 + n + 2 ≤ length p = e.1 a in
    let least : 4 ≤ n = head_long p a in
    rw (
      some_behind p x (omega arith),
      some_bytes p (omega arith),
      long_behind p x 4 four,
      le-ltb (length p) 4 four,
      at 1 (omega arith),
      at 2 (omega arith),
      at 3 (omega arith),
      a,
      long_behind p x (4 + n + 2) long,
      le-ltb (length p) (4 + n + 2) long,
      part_behind p x 4 n (omega arith),
      at (4 + n) (omega arith),
      at (4 + n + 1) (omega arith),
      at 4 (omega arith),
      at 5 (omega arith),
      at 6 (omega arith),
    ))
    (λ a.
    rw (
      some_behind p x (omega arith),
      some_bytes p (omega arith),
      long_behind p x 4 four,
      le-ltb (length p) 4 four,
      at 1 (omega arith),
      at 2 (omega arith),
      at 3 (omega arith),
      a,
    ))
behind_on p x Sd3 e =
    let at = byte_behind p x in
    rw (
      some_behind p x (omega arith),
      some_bytes p (omega arith),
      long_behind p x 14 e,
      le-ltb (length p) 14 e,
      part_behind p x 1 11 (omega arith),
      at 1 (omega arith),
      at 2 (omega arith),
      at 3 (omega arith),
      at 12 (omega arith),
      at 13 (omega arith),
    )
behind_on p x Sd4 e =
    let at = byte_behind p x in
    rw (
      some_behind p x (omega arith),
      some_bytes p (omega arith),
      long_behind p x 3 e,
      le-ltb (length p) 3 e,
      at 1 (omega arith),
      at 2 (omega arith),
    )
behind_on p x Sc e = rw (some_behind p x e, some_bytes p e, long_behind p x 1 e, le-ltb (length p) 1 e)
behind_on p x Unknown e = rw (some_behind p x e, some_bytes p e)

-- 255 bytes are enough for any
enough_255 : (start : Start) (p : List ℕ) → length p ≡ 255 → Enough start p
enough_255 Sd1 p e = omega arith
enough_255 Sd2 p e = (omega arith, λ a. omega (arith, head_short p a))
enough_255 Sd3 p e = omega arith
enough_255 Sd4 p e = omega arith
enough_255 Sc p e = omega arith
enough_255 Unknown p e = omega arith

-- no frame has more than 255 bytes: the first 255 are read as all are
pub first_255 : (f : List ℕ) → 255 ≤ length f → frame_of (take 255 f) ≡ frame_of f
unfolding frame_of
first_255 f h =
    let p = take 255 f in
    let size : length p ≡ 255 = length-take-le 255 f h in
    let start = start_of (slice_index f 0) in
    let first : slice_index_or p 0 0 ≡ slice_index_or f 0 0 = get_or-take 255 f 0 0 (omega arith) in
    rw first (sym (behind_on p (drop 255 f) start (enough_255 start p size)) ∙ ap (frame_on start) (take-append-drop 255 f))
