use Rattle.std.proofs.Common.{refl, arith}
use Rattle.bus_trace.specs.Traces.{tracing_first, tracing_next, tracing_done}
use Rattle.bus_trace.proofs.put_entries.Goals as goal

pub loop-tick-init : goal.loop-tick-init
loop-tick-init c =
    (omega arith, omega arith, refl, λ setup s b one. tracing_first setup _ _ _ _ _ _ _ s b)

pub loop-tick-preserved : goal.loop-tick-preserved
loop-tick-preserved c =
    let inv = c.loop-tick.invariant in
    let short = c.tick.ensures.short in (
      omega arith,
      omega arith,
      omega arith,
      λ setup s b one. tracing_next s (inv.3 setup s b one) one _ c.tick.result c.tick.ensures _ c.put_entry.ensures,
    )

pub returns : goal.returns
returns c =
    let inv = c.loop-tick.invariant in
    (omega arith, λ setup s b one. tracing_done setup _ _ _ _ _ _ _ _ _ _ _ (omega arith) (inv.3 setup s b one))
