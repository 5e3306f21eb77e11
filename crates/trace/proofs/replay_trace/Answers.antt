-- A refused header leaves the buffer. A trace that starts a station has its header, and no more bytes than a trace may have.
use Rattle.std.proofs.Common.{sym}
use Rattle.trace.proofs.Laws.{start_long, replay_refused}
use Rattle.trace.proofs.replay_trace.Goals as goal

pub run-requires : goal.run-requires
run-requires c = start_long _ _ (sym c.in-Ok.ensures)

pub returns-in-Err-clause-answers_after : goal.returns-in-Err-clause-answers_after
returns-in-Err-clause-answers_after c = (replay_refused _ _ _ (sym c.in-Err.ensures)).1
