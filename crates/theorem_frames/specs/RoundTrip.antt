-- Which frames are written. The theorems on frames written and read have their statements in proofs/RoundTrip. Assumes nothing.
use Rattle.std.specs.Prelude.{Bool, true, false}
use Rattle.codec_frames.specs.declared.Start.{Start}
use Rattle.codec_frames.specs.declared.Start.TheVariants.{Sd1, Sd2, Sd3, Sd4, Sc, Unknown}

-- SD4, SC and SD1, the frames that are written
abbrev pub is_written : Start → Bool
is_written Sd1 = true
is_written Sd2 = false
is_written Sd3 = false
is_written Sd4 = true
is_written Sc = true
is_written Unknown = false
