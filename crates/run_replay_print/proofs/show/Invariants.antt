use Rattle.std.proofs.Common.{◌≤◌, length}
use Rattle.run_replay_print.proofs.show.Given as goal

abbrev pub invariant-loop : goal.invariant-loop
invariant-loop g l = l.at ≤ length l.answers
