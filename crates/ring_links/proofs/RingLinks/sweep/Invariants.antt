use Rattle.ring_links.proofs.Sweeps.{Swept}
use Rattle.ring_links.proofs.RingLinks.sweep.Given as goal

abbrev pub invariant-loop-step : goal.invariant-loop-step
invariant-loop-step l = Swept l.own l.d l.s l.fn.self l._step l.place l.self
