use Rattle.std.proofs.Common.{sym, ◌∙◌}
use Rattle.bus_trace.specs.Traces.{trace_refused, trace_nobody, trace_no_room, trace_done}
use Rattle.bus_trace.proofs.simulated_trace.Goals as goal

pub returns-then-refusal-ne0-clause-trace_after : goal.returns-then-refusal-ne0-clause-trace_after
returns-then-refusal-ne0-clause-trace_after c =
    (trace_refused _ _ _ _ c.setup_refusal-refusal.ensures c.if-refusal-ne0.true).1

pub returns-then-stations-station-clause-trace_after :
    goal.returns-then-stations-station-clause-trace_after
returns-then-stations-station-clause-trace_after c =
    (trace_nobody _ _ _ _ (sym c.setup_refusal-refusal.ensures ∙ c.if-refusal-ne0.false) c.stations.ensures c.if-stations-station.true).1

pub returns-then-trace-put_trace-clause-trace_after :
    goal.returns-then-trace-put_trace-clause-trace_after
returns-then-trace-put_trace-clause-trace_after c =
    (trace_no_room _ _ _ _ _ (sym c.setup_refusal-refusal.ensures ∙ c.if-refusal-ne0.false) c.stations.ensures c.if-stations-station.false c.put_trace.ensures.value.0 c.if-trace-put_trace.true).1

pub returns-clause-trace_after : goal.returns-clause-trace_after
returns-clause-trace_after c =
    (trace_done _ _ _ _ _ _ _ (sym c.setup_refusal-refusal.ensures ∙ c.if-refusal-ne0.false) c.stations.ensures c.if-stations-station.false c.put_trace.ensures.value.0 c.if-trace-put_trace.false c.put_trace-2.ensures.value.0 c.put_trace-2.ensures.trace_after).1
