use Rattle.std.proofs.Common.{length}
use Rattle.run_frames.proofs.read_all.Given as goal

-- what is left of the input
abbrev pub decreases-loop-length : goal.decreases-loop-length
decreases-loop-length l = length l.input
