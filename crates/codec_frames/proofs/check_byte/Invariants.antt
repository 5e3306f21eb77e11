use Rattle.std.proofs.Common.{◌≡◌, take}
use Rattle.codec_frames.specs.Frames.{check_of}
use Rattle.codec_frames.proofs.check_byte.Given as goal

abbrev pub invariant-loop-byte : goal.invariant-loop-byte
invariant-loop-byte l = l.sum ≡ check_of (take l.byte-index l.bytes)
