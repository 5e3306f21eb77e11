-- What the reader accepts is a whole frame (`Whole` of specs/Whole), and each whole frame is accepted; and facts on bits of a byte.
-- Assumes nothing.
use Rattle.std.specs.Prelude.{ℕ, ◌+◌, ◌/◌, ◌%◌, ◌^◌, ◌<◌, ◌≡◌, refl, List, Bool, true, false, cond, not, ◌&&◌, length, get_or, eqb, ltb, Err, Result}
use Rattle.std.proofs.Math.Nat.{div-eq_of_lt}
use Rattle.std.proofs.Common.{arith}
use Rattle.std.proofs.lemmas.Bool.{eqb-false}
use Rattle.codec_fields.specs.Fields.{field_of, bit_at}
use Rattle.codec_telegrams.specs.declared.Telegram.{Telegram}
use Rattle.codec_frames.specs.declared.Start.{Start}
use Rattle.codec_frames.specs.declared.Frame.{Frame}
use Rattle.codec_frames.specs.Frames.{read_as, end_byte, check_of, is_unknown, is_sd2, is_checked, is_addressed, head_holds, frame_length, check_place, body, destination_in, source_in, code_in, extended, telegram_in, frame_on}
use Rattle.codec_frames.specs.Laws.{same_read}
use Rattle.theorem_frames.specs.Whole.{Whole}

-- a refusal is no telegram
refused_not : {n used : ℕ} {t : Telegram} {A : Type 0} → Err n ≡ read_as t used → A
refused_not e = let z : ◌≡◌ {A = ℕ} 0 1 = cc in absurd (omega arith)

-- where a telegram is read, a line of the refusals does not apply
past : (b : Bool) (n : ℕ) (x : Result Frame ℕ) {t : Telegram} {used : ℕ} → cond b (Err n) x ≡ read_as t used → (b ≡ false) × (x ≡ read_as t used)
past true n x e = refused_not e
past false n x e = (refl, e)

-- what is accepted is a whole frame, with its telegram and its length
pub accepted :
    (start : Start) (f : List ℕ) {t : Telegram} {used : ℕ}
    → frame_on start f ≡ read_as t used
    → Whole start f × (telegram_in start f ≡ t) × (frame_length start f ≡ used)
unfolding frame_on
accepted start f e =
    let a = past (eqb (length f) 0) _ _ e in
    let b = past (is_unknown start) _ _ a.1 in
    let c = past (is_sd2 start && ltb (length f) 4) _ _ b.1 in
    let d = past (is_sd2 start && not (head_holds f)) _ _ c.1 in
    let g = past (ltb (length f) (frame_length start f)) _ _ d.1 in
    let h = past (is_checked start && not (eqb (get_or f (check_place start f) 0) (check_of (body start f)))) _ _ g.1 in
    let i = past (is_checked start && not (eqb (get_or f (check_place start f + 1) 0) end_byte)) _ _ h.1 in
    let j = past (is_addressed start && extended (destination_in start f) (source_in start f)) _ _ i.1 in
    let k = past (is_checked start && bit_at (code_in start f) 7) _ _ j.1 in
    let l = same_read k.1 in (
      record {
        some = a.0;
        known = b.0;
        head = c.0;
        same = d.0;
        long = g.0;
        check = h.0;
        end = i.0;
        addresses = j.0;
        code = k.0;
      },
      l.0,
      l.1,
    )

-- a whole frame is accepted
pub whole_read : (start : Start) (f : List ℕ) → Whole start f → frame_on start f ≡ read_as (telegram_in start f) (frame_length start f)
unfolding frame_on
whole_read start f w = rw (w.some, w.known, w.head, w.same, w.long, w.check, w.end, w.addresses, w.code)

-- a number below 2 to the power of a bit's place does not have the bit
pub no_bit : (n at : ℕ) → n < 2 ^ at → bit_at n at ≡ false
unfolding field_of
no_bit n at h = rw (div-eq_of_lt h)

-- a number below twice that power without the bit is below the power
pub below_128 : (n : ℕ) → n < 2 ^ 8 → bit_at n 7 ≡ false → n < 2 ^ 7
unfolding field_of
below_128 n h e = let d = eqb-false (n / 2 ^ 7 % 2 ^ 1) 1 e in omega arith

pub below_64 : (n : ℕ) → n < 2 ^ 7 → bit_at n 6 ≡ false → n < 2 ^ 6
unfolding field_of
below_64 n h e = let d = eqb-false (n / 2 ^ 6 % 2 ^ 1) 1 e in omega arith
