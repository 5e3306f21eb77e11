-- What a whole frame is, line by line. That the reader accepts each whole frame and nothing else is proved in proofs/Whole. Assumes
-- nothing.
use Rattle.std.specs.Prelude.{ℕ, ◌+◌, ◌≡◌, List, false, not, ◌&&◌, length, get_or, eqb, ltb}
use Rattle.codec_fields.specs.Fields.{bit_at}
use Rattle.codec_frames.specs.declared.Start.{Start}
use Rattle.codec_frames.specs.Frames.{end_byte, check_of, is_unknown, is_sd2, is_checked, is_addressed, head_holds, frame_length, check_place, body, destination_in, source_in, code_in, extended}

-- bytes that begin so are a whole frame: no line of the refusals applies
pub record Whole (start : Start) (f : List ℕ) : Type 0 where
  pub some : eqb (length f) 0 ≡ false
  pub known : is_unknown start ≡ false
  pub head : (is_sd2 start && ltb (length f) 4) ≡ false
  pub same : (is_sd2 start && not (head_holds f)) ≡ false
  pub long : ltb (length f) (frame_length start f) ≡ false
  pub check : (is_checked start && not (eqb (get_or f (check_place start f) 0) (check_of (body start f)))) ≡ false
  pub end : (is_checked start && not (eqb (get_or f (check_place start f + 1) 0) end_byte)) ≡ false
  pub addresses : (is_addressed start && extended (destination_in start f) (source_in start f)) ≡ false
  pub code : (is_checked start && bit_at (code_in start f) 7) ≡ false
