-- What a start byte is. The laws are in proofs/Bytes. Assumes nothing.
use Rattle.std.specs.Prelude.{ℕ}
use Rattle.codec_frames.specs.declared.Start.{Start}
use Rattle.codec_frames.specs.declared.Start.TheVariants.{Sd1, Sd2, Sd3, Sd4, Sc, Unknown}
use Rattle.codec_frames.specs.Frames.{sd1, sd2, sd3, sd4, sc}

-- the byte that begins a frame so, or any other
abbrev pub start_byte : Start → ℕ → ℕ
start_byte Sd1 b = sd1
start_byte Sd2 b = sd2
start_byte Sd3 b = sd3
start_byte Sd4 b = sd4
start_byte Sc b = sc
start_byte Unknown b = b
