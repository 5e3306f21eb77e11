-- What the loops write, turn by turn, and a line put together. Assumes nothing.
use Prim.Native.Nat.{ℕ, zero, suc, ◌+◌, ◌-◌, ◌*◌, ◌/◌, ◌%◌, ◌<◌, ◌≤◌}
use Rattle.std.specs.Prelude.{◌≡◌, refl, get_or, take, set, Ok, Err}
use Rattle.std.proofs.Math.Path.{sym, ap}
use Rattle.std.proofs.Common.{◌∙◌, add-zero, zero-add, length-append, length-drop, drop_of_length-le, take_at, drop_at, drop-drop, drop-cons}
use mathlib.Core.List.{List, [], ◌∷◌, ◌++◌, append-nil, append_assoc}
use native.Mathlib.Omega.{arith}
use Rattle.std.proofs.Math.Numerals.{add-one}
use borrow.Author.Tests.{lt-ltb, le-ltb}
use borrow.Rule.Slice.PartMut.{put_mid}
use Rattle.std.proofs.Math.ListN.{length, drop, length-set}
use Rattle.std.proofs.Math.Seq.{length-take-le, append_snoc, drop-length}
use Rattle.std.proofs.lemmas.List.{set_at, set_split}
use Rattle.std.proofs.lemmas.List.Edits.{sets, sets-eq}
use Rattle.codec_frames.specs.Frames.{fitted, written_count, written_over}
use Rattle.capture_lines.specs.Lines.{space, line_feed, zero_digit}
use Rattle.capture_text.specs.Text.{digit_count, last_digits, most_digits, decimal_text, hex_digit, hex_text, line_text}

-- How many digits

-- where the loop stands: the digits of the whole are those counted and those of what is left
pub record Counted (number left count : ℕ) : Type 0 where
  pub within : count ≤ most_digits
  pub same : digit_count most_digits number ≡ count + digit_count (most_digits - count) left

pub counted_none : (number : ℕ) → Counted number number 0
counted_none number = record { within = omega arith; same = sym (zero-add _) }

module _ {number left count : ℕ} (p : Counted number left count) where
  -- one turn more
  fuel : count < most_digits → most_digits - count ≡ suc (most_digits - (count + 1))
  fuel h = omega arith

  -- the last digit
  pub counted_last : count < most_digits → left < 10 → (count + 1 ≡ digit_count most_digits number) × (count + 1 ≤ most_digits)
  unfolding digit_count
  counted_last h l = (sym (p.same ∙ rw (fuel h, lt-ltb left 10 l)), omega arith)

  pub counted_more : count < most_digits → 10 ≤ left → Counted number (left / 10) (count + 1)
  unfolding digit_count
  counted_more h l =
      let e : count + suc (digit_count (most_digits - (count + 1)) (left / 10)) ≡ count + 1 + digit_count (most_digits - (count + 1)) (left / 10) = omega arith in
      record { within = omega arith; same = p.same ∙ rw (fuel h, le-ltb left 10 l) e }

  pub counted_all : most_digits ≤ count → (count ≡ digit_count most_digits number) × (count ≤ most_digits)
  unfolding digit_count
  counted_all h =
      let e : most_digits - count ≡ 0 = omega (arith, p.within) in
      (sym (p.same ∙ rw (e, add-zero)), p.within)

-- Digits

-- where the loop stands: the digits left to write, and those written
pub record Filled (before text : List ℕ) (number left place : ℕ) : Type 0 where
  pub within : place ≤ length text
  pub long : length text ≡ length before
  pub same : last_digits (length before) number ≡ last_digits place left ++ drop place text

pub filled_none : (before : List ℕ) (number : ℕ) → Filled before before number number (length before)
filled_none before number =
    record { within = omega arith; long = refl; same = sym (rw (drop-length before) (append-nil (last_digits (length before) number))) }

-- a byte stored at a place, and what follows it
drop_set : (l : List ℕ) (i v : ℕ) → i < length l → drop i (set l i v) ≡ v ∷ drop (suc i) l
drop_set l i v h =
    rw (set_split l i v h) (drop_at (take i l) (v ∷ drop (suc i) l) i (length-take-le i l (omega arith)))

module _ {before text : List ℕ} {number left place : ℕ} (p : Filled before text number left place) where
  pub filled_more : 0 < place → Filled before (set text (place - 1) (zero_digit + left % 10)) number (left / 10) (place - 1)
  unfolding last_digits
  filled_more h =
      let k = place - 1 in
      let e : place ≡ suc k = omega arith in
      let d = zero_digit + left % 10 in
      let in_range : k < length text = omega (arith, p.within) in
      record {
        within = rw (length-set text k d) (omega arith);
        long = length-set text k d ∙ p.long;
        same =
            p.same
            ∙ ap (λ (n : ℕ). last_digits n left ++ drop n text) e
            ∙ append_snoc (last_digits k (left / 10)) d (drop (suc k) text)
            ∙ ap (λ (l : List ℕ). last_digits k (left / 10) ++ l) (sym (drop_set text k d in_range));
      }

  pub filled_all : place ≤ 0 → text ≡ last_digits (length before) number
  unfolding last_digits
  filled_all h =
      let e : place ≡ 0 = omega arith in
      sym (p.same ∙ rw e)

-- Hex digits

-- where the loop stands: what is left to write over what is written
pub record Hexed (before text bytes : List ℕ) (i : ℕ) : Type 0 where
  pub within : i ≤ length bytes
  pub long : length text ≡ length before
  pub same : sets before 0 (hex_text bytes) ≡ sets text (2 * i) (hex_text (drop i bytes))

pub hexed_none : (before bytes : List ℕ) → Hexed before before bytes 0
hexed_none before bytes = record { within = omega arith; long = refl; same = refl }

module _ {before text bytes : List ℕ} {i : ℕ} (p : Hexed before text bytes i) where
  pub hexed_more :
      i < length bytes
      → {high low : ℕ}
      → high ≡ hex_digit (get_or bytes i 0 / 16)
      → low ≡ hex_digit (get_or bytes i 0 % 16)
      → Hexed before (set (set text (2 * i) high) (2 * i + 1) low) bytes (i + 1)
  unfolding hex_text
  hexed_more h {high} {low} is-high is-low =
      let two : 2 * suc i ≡ suc (suc (2 * i)) = omega arith in
      record {
        within = omega arith;
        long = length-set (set text (2 * i) high) (2 * i + 1) low ∙ length-set text (2 * i) high ∙ p.long;
        same = p.same ∙ rw (drop-cons bytes i 0 h, ← is-high, ← is-low, add-one (2 * i), add-one i, two);
      }

  pub hexed_all : length bytes ≤ i → text ≡ sets before 0 (hex_text bytes)
  unfolding hex_text
  hexed_all h = sym (p.same ∙ rw (drop_of_length-le bytes h))

-- two digits for each byte
pub hex_length : (bytes : List ℕ) → length (hex_text bytes) ≡ 2 * length bytes
unfolding hex_text
hex_length [] = refl
hex_length (b ∷ bytes) = omega (arith, hex_length bytes)

pub last_length : (k n : ℕ) → length (last_digits k n) ≡ k
unfolding last_digits
last_length zero n = refl
last_length (suc k) n = length-append (last_digits k (n / 10)) ((zero_digit + n % 10) ∷ []) ∙ rw (last_length k (n / 10)) (omega arith)

-- A line put together

-- bytes that stand at the start of others: as many in all
pub over_length : (p before : List ℕ) (at : ℕ) → length p ≡ at → at ≤ length before → length (p ++ drop at before) ≡ length before
over_length p before at e h = length-append p (drop at before) ∙ rw (length-drop, e) (omega arith)

-- a part behind them that was handed on, back in its place
part_next :
    (p q before : List ℕ) (at k : ℕ)
    → length p ≡ at
    → length q ≡ k
    → put_mid at k (p ++ drop at before) q ≡ (p ++ q) ++ drop (at + k) before
part_next p q before at k e f =
    rw (take_at p (drop at before) at e, drop_at p (drop at before) at e, drop-drop k at before) (sym (append_assoc p q (drop (at + k) before)))

-- a byte behind them
byte_next : (p before : List ℕ) (at b : ℕ) → length p ≡ at → at < length before → set (p ++ drop at before) at b ≡ (p ++ (b ∷ [])) ++ drop (at + 1) before
byte_next p before at b e h =
    rw (drop-cons before at 0 h, set_at p (get_or before at 0) (drop (suc at) before) b at e, add-one at) (sym (append_snoc p b (drop (suc at) before)))

-- the text of a line before its hex digits
abbrev timed : ℕ → List ℕ
timed time = decimal_text time ++ (space ∷ [])

decimal_length : (time : ℕ) → length (decimal_text time) ≡ digit_count most_digits time
unfolding decimal_text
decimal_length time = last_length (digit_count most_digits time) time

pub line_length : (time : ℕ) (frame : List ℕ) → length (line_text time frame) ≡ digit_count most_digits time + 1 + 2 * length frame + 1
unfolding line_text
line_length time frame =
    omega (arith, length-append (decimal_text time) ((space ∷ []) ++ (hex_text frame ++ (line_feed ∷ []))), decimal_length time, length-append (hex_text frame) (line_feed ∷ []), hex_length frame)

module _ (time : ℕ) (frame before : List ℕ) {digits : ℕ} (is : digits ≡ digit_count most_digits time) (room : digits + 1 + 2 * length frame < length before) where
  timed_length : length (timed time) ≡ digits + 1
  timed_length = length-append (decimal_text time) (space ∷ []) ∙ rw (decimal_length time, is)

  module _ {d : List ℕ} (writes : d ≡ last_digits (length (take digits before)) time) where
    -- the time stands
    time_stands : d ++ drop digits before ≡ decimal_text time ++ drop digits before
    unfolding decimal_text
    time_stands =
        let size : length (take digits before) ≡ digits = length-take-le digits before (omega arith) in
        let whole : d ≡ last_digits (digit_count most_digits time) time = writes ∙ rw (size, is) in
        rw whole

    pub time_length : length ((d ++ drop digits before)) ≡ length before
    time_length = ap length time_stands ∙ over_length (decimal_text time) before digits (decimal_length time ∙ sym is) (omega arith)

    -- and the space
    pub space_stands : set ((d ++ drop digits before)) digits space ≡ timed time ++ drop (digits + 1) before
    space_stands = rw time_stands (byte_next (decimal_text time) before digits space (decimal_length time ∙ sym is) (omega arith))

    pub space_length : length (set ((d ++ drop digits before)) digits space) ≡ length before
    space_length = length-set ((d ++ drop digits before)) digits space ∙ time_length

    -- the place for the hex digits
    pub hex_room : length (take (digits + 1 + 2 * length frame - (digits + 1)) (drop (digits + 1) (set ((d ++ drop digits before)) digits space))) ≡ 2 * length frame
    hex_room =
        let e : digits + 1 + 2 * length frame - (digits + 1) ≡ 2 * length frame = omega arith in
        rw e (length-take-le (2 * length frame) _ (rw (length-drop, space_length) (omega arith)))

    module _
        {h : List ℕ}
        (hexes : h ≡ sets (take (digits + 1 + 2 * length frame - (digits + 1)) (drop (digits + 1) (set ((d ++ drop digits before)) digits space))) 0 (hex_text frame)) where
      hex_is : h ≡ hex_text frame
      hex_is =
          let part = take (digits + 1 + 2 * length frame - (digits + 1)) (drop (digits + 1) (set ((d ++ drop digits before)) digits space)) in
          let fits : 0 + length (hex_text frame) ≤ length part = omega (arith, hex_room, hex_length frame) in
          let none : drop (0 + length (hex_text frame)) part ≡ [] = drop_of_length-le part {i = 0 + length (hex_text frame)} (omega (arith, hex_room, hex_length frame)) in
          hexes ∙ sets-eq (hex_text frame) part 0 fits ∙ rw none (append-nil (hex_text frame))

      -- the hex digits stand
      hex_stands :
          put_mid (digits + 1) (digits + 1 + 2 * length frame - (digits + 1)) (set ((d ++ drop digits before)) digits space) h
          ≡ (timed time ++ hex_text frame) ++ drop (digits + 1 + 2 * length frame) before
      hex_stands =
          let e : digits + 1 + 2 * length frame - (digits + 1) ≡ 2 * length frame = omega arith in
          rw (space_stands, e, hex_is) (part_next (timed time) (hex_text frame) before (digits + 1) (2 * length frame) timed_length (hex_length frame))

      hexed_length : length (timed time ++ hex_text frame) ≡ digits + 1 + 2 * length frame
      hexed_length = length-append (timed time) (hex_text frame) ∙ rw (timed_length, hex_length frame)

      pub hex_whole : length (put_mid (digits + 1) (digits + 1 + 2 * length frame - (digits + 1)) (set ((d ++ drop digits before)) digits space) h) ≡ length before
      hex_whole = ap length hex_stands ∙ over_length (timed time ++ hex_text frame) before (digits + 1 + 2 * length frame) hexed_length (omega arith)

      pub line_whole :
          length (set (put_mid (digits + 1) (digits + 1 + 2 * length frame - (digits + 1)) (set ((d ++ drop digits before)) digits space) h) (digits + 1 + 2 * length frame) line_feed)
          ≡ length before
      line_whole = length-set (put_mid (digits + 1) (digits + 1 + 2 * length frame - (digits + 1)) (set ((d ++ drop digits before)) digits space) h) (digits + 1 + 2 * length frame) line_feed ∙ hex_whole

      -- the line stands
      line_stands :
          set (put_mid (digits + 1) (digits + 1 + 2 * length frame - (digits + 1)) (set ((d ++ drop digits before)) digits space) h) (digits + 1 + 2 * length frame) line_feed
          ≡ line_text time frame ++ drop (length (line_text time frame)) before
      unfolding line_text
      line_stands =
          let size : length (line_text time frame) ≡ digits + 1 + 2 * length frame + 1 = line_length time frame ∙ rw (← is) in
          rw (hex_stands, size)
          (byte_next (timed time ++ hex_text frame) before (digits + 1 + 2 * length frame) line_feed hexed_length room
          ∙ ap (λ (l : List ℕ). l ++ drop (digits + 1 + 2 * length frame + 1) before)
          (append_assoc (timed time) (hex_text frame) (line_feed ∷ []) ∙ append_assoc (decimal_text time) (space ∷ []) (hex_text frame ++ (line_feed ∷ []))))

      pub line_fits :
          (Ok (digits + 1 + 2 * length frame + 1) ≡ written_count (fitted (line_text time frame) (length before)))
          × (set (put_mid (digits + 1) (digits + 1 + 2 * length frame - (digits + 1)) (set ((d ++ drop digits before)) digits space) h) (digits + 1 + 2 * length frame) line_feed
          ≡ written_over (fitted (line_text time frame) (length before)) before)
      unfolding fitted
      line_fits =
          let size : length (line_text time frame) ≡ digits + 1 + 2 * length frame + 1 = line_length time frame ∙ rw (← is) in
          rw (le-ltb (length before) (length (line_text time frame)) (omega arith)) (rw size, line_stands)

-- no room for a line
pub line_full :
    (time : ℕ) (frame before : List ℕ) {digits : ℕ}
    → digits ≡ digit_count most_digits time
    → length before ≤ digits + 1 + 2 * length frame
    → (Err 18 ≡ written_count (fitted (line_text time frame) (length before))) × (before ≡ written_over (fitted (line_text time frame) (length before)) before)
unfolding fitted
line_full time frame before is few =
    let full : length before < length (line_text time frame) = omega (arith, line_length time frame) in
    rw (lt-ltb (length before) (length (line_text time frame)) full) (refl, refl)
