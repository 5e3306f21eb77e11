-- What a store leaves, and what is loaded after it. Assumes nothing.
use Rattle.std.specs.Prelude.{ℕ, zero, suc, ◌+◌, ◌-◌, ◌*◌, ◌^◌, ◌<◌, ◌≤◌, ◌≡◌, List, [], ◌∷◌, ◌++◌, Bool, true, false, length, take, drop, set, leb}
use Rattle.std.proofs.Common.{sym, ap, ◌∙◌, append_assoc, le-leb, leb-true, length-append, length-drop, take-append-drop, take-suc-set, drop-set-lt, length-take-le, take_at, drop_at, drop-drop}
use native.Mathlib.Omega.{arith}
use borrow.Table.Steps.{cases}
use Rattle.std.proofs.Math.Seq.{append_snoc}
use Rattle.codec_fields.specs.Fields.{field_of, be, has_room, load_of, low_bytes, over_of, stored_of, Bytes}
use Rattle.codec_fields.proofs.Laws.{bytes_total, low_be, be_below}

-- there is room for at most 8 bytes that end within the length
pub room_is : (length at count : ℕ) → count ≤ 8 → at + count ≤ length → has_room length at count ≡ true
room_is length at count c h = rw (le-leb count 8 c, le-leb (at + count) length h)

-- and for no others
pub room_of_lem : (length at count : ℕ) → has_room length at count ≡ true → (count ≤ 8) × (at + count ≤ length)
room_of_lem length at count h =
    cases (leb count 8) (λ a. (leb-true count 8 a, leb-true (at + count) length (rw a at h))) (λ a. let z : ◌≡◌ {A = Bool} false true = rw a at h in let y : ◌≡◌ {A = ℕ} 0 1 = cc in absurd (omega arith))

-- one byte written, and the rest of them after it
over_step :
    (s : List ℕ) (at n word : ℕ)
    → at + suc n ≤ length s
    → over_of (set s at (field_of word (8 * n) 8)) (suc at) n word ≡ over_of s at (suc n) word
unfolding over_of
over_step s at n word h =
    let e : suc at + n ≡ at + suc n = omega arith in
    let l : at < length s = omega arith in
    let m : at < suc at + n = omega arith in
    rw (bytes_total n, take-suc-set s at (field_of word (8 * n) 8) l, drop-set-lt (suc at + n) s at (field_of word (8 * n) 8) m, append_snoc, e)

module _ (s : List ℕ) (at count word : ℕ) where
  -- no byte is written yet
  pub over_none : over_of s (at + 0) (count - 0) word ≡ over_of s at count word
  over_none =
      let a : at + 0 ≡ at = omega arith in
      let b : count - 0 ≡ count = omega arith in
      rw (a, b)

  -- byte i is written
  pub over_more :
      (i : ℕ)
      → i < count
      → at + count ≤ length s
      → over_of (set s (at + i) (field_of word (8 * (count - 1 - i)) 8)) (at + (i + 1)) (count - (i + 1)) word ≡ over_of s (at + i) (count - i) word
  over_more i l h =
      let a : at + (i + 1) ≡ suc (at + i) = omega arith in
      let b : count - (i + 1) ≡ count - 1 - i = omega arith in
      let d : count - i ≡ suc (count - 1 - i) = omega arith in
      let room : at + i + suc (count - 1 - i) ≤ length s = omega arith in
      rw (a, b, d) (over_step s (at + i) (count - 1 - i) word room)

  -- all bytes are written
  pub over_all : over_of s (at + count) (count - count) word ≡ s
  unfolding over_of
  over_all =
      let a : at + count + 0 ≡ at + count = omega arith in
      let b : count - count ≡ 0 = omega arith in
      rw (b, a) (take-append-drop (at + count) s)

-- where there is room, the bytes stand in their places
pub stored_room :
    (s : List ℕ) (at count word : ℕ)
    → count ≤ 8
    → at + count ≤ length s
    → stored_of s at count word ≡ take at s ++ (low_bytes count word ++ drop (at + count) s)
unfolding stored_of over_of
stored_room s at count word c h = rw (room_is (length s) at count c h)

-- where there is room, a load reads the bytes there
pub load_room : (s : List ℕ) (at count : ℕ) → count ≤ 8 → at + count ≤ length s → load_of s at count ≡ be (take count (drop at s))
unfolding load_of
load_room s at count c h = rw (room_is (length s) at count c h)

-- bytes from a place on
pub bytes_drop : (n : ℕ) (s : List ℕ) → Bytes s → Bytes (drop n s)
bytes_drop zero s h = h
bytes_drop (suc n) [] h = h
bytes_drop (suc n) (b ∷ s) h = bytes_drop n s h.1

-- bytes up to a place
pub bytes_take : (n : ℕ) (s : List ℕ) → Bytes s → Bytes (take n s)
bytes_take zero s h = tt
bytes_take (suc n) [] h = tt
bytes_take (suc n) (b ∷ s) h = (h.0, bytes_take n s h.1)

-- the bytes of what is loaded are the bytes that stand there
pub loaded_bytes :
    (s : List ℕ) (at count : ℕ) → Bytes s → count ≤ 8 → at + count ≤ length s → low_bytes count (load_of s at count) ≡ take count (drop at s)
loaded_bytes s at count b c h =
    let part = take count (drop at s) in
    let room : count ≤ length (drop at s) = simp length-drop (omega arith) in
    let e = length-take-le count (drop at s) room in
    ap (low_bytes count) (load_room s at count c h)
    ∙ ap (λ (n : ℕ). low_bytes n (be part)) (sym e)
    ∙ low_be part (bytes_take count (drop at s) (bytes_drop at s b))

-- what is loaded is below 2 to its bits
pub load_below : (s : List ℕ) (at count : ℕ) → Bytes s → count ≤ 8 → at + count ≤ length s → load_of s at count < 2 ^ (8 * count)
load_below s at count b c h =
    let part = take count (drop at s) in
    let room : count ≤ length (drop at s) = simp length-drop (omega arith) in
    rw (load_room s at count c h) (rw (length-take-le count (drop at s) room) at (be_below part (bytes_take count (drop at s) (bytes_drop at s b))))

-- what is loaded and stored at its place again changes nothing
pub store_load : (s : List ℕ) (at count : ℕ) → Bytes s → count ≤ 8 → at + count ≤ length s → stored_of s at count (load_of s at count) ≡ s
store_load s at count b c h =
    stored_room s at count (load_of s at count) c h
    ∙ rw (loaded_bytes s at count b c h, ← drop-drop count at s, take-append-drop count (drop at s)) (take-append-drop at s)

-- a store where what is written so far ends, before what was there
pub store_next :
    (p s : List ℕ) (at count word : ℕ)
    → length p ≡ at
    → count ≤ 8
    → at + count ≤ length s
    → stored_of (p ++ drop at s) at count word ≡ (p ++ low_bytes count word) ++ drop (at + count) s
store_next p s at count word e c h =
    let room : at + count ≤ length (p ++ drop at s) = simp (length-append, length-drop) (omega arith) in
    stored_room (p ++ drop at s) at count word c room
    ∙ rw (take_at p (drop at s) at e, ← drop-drop count at (p ++ drop at s), drop_at p (drop at s) at e, drop-drop count at s)
    (sym (append_assoc p (low_bytes count word) (drop (at + count) s)))
