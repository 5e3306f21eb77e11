use Rattle.std.proofs.Common.{length}
use Rattle.run_polls.proofs.poll_all.Given as goal

-- what is left of the input
abbrev pub decreases-loop-rest : goal.decreases-loop-rest
decreases-loop-rest l = length l.rest
