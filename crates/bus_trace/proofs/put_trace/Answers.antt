use Rattle.std.proofs.Common.{arith}
use Rattle.bus_run.specs.Sized.{sized}
use Rattle.bus_trace.specs.Traces.{trace_put}
use Rattle.bus_trace.proofs.put_trace.Goals as goal

pub returns-clause-value : goal.returns-clause-value
returns-clause-value c =
    let bounded = (sized _ c.requires.0).bounded in
    let put = c.put_entries.ensures in
    let made = trace_put _ c.requires.0 _ c.requires.1 _ _ _ _ _ _ _ _ _ _ _ c.stations-n.ensures c.placed.ensures c.write_header.ensures c.put_bytes.ensures c.put_byte.ensures c.tick.ensures c.ticks.ensures c.open_bus.ensures put.1 in
    (made.0, omega (arith, put.0, c.ticks.ensures))

pub returns-clause-trace_after : goal.returns-clause-trace_after
returns-clause-trace_after c =
    (trace_put _ c.requires.0 _ c.requires.1 _ _ _ _ _ _ _ _ _ _ _ c.stations-n.ensures c.placed.ensures c.write_header.ensures c.put_bytes.ensures c.put_byte.ensures c.tick.ensures c.ticks.ensures c.open_bus.ensures c.put_entries.ensures.1).1
