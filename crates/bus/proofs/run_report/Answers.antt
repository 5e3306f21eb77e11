use Rattle.std.proofs.Common.{refl, arith}
use Rattle.bus.specs.Reports.{running_first, running_next, running_done, at_first, at_more}
use Rattle.bus.proofs.run_report.Goals as goal

pub loop-tick-init : goal.loop-tick-init
loop-tick-init c =
    (omega arith, omega arith, refl, at_first _, λ setup s b room. running_first setup _ _ _ _ _ s b)

pub loop-tick-preserved : goal.loop-tick-preserved
loop-tick-preserved c =
    let inv = c.loop-tick.invariant in (
      omega arith,
      omega arith,
      omega arith,
      at_more _ _ _ inv.3,
      λ setup s b room. running_next s (inv.4 setup s b room) (omega arith) room inv.3 0 _ c.tick-ticked.result c.tick-ticked.ensures _ c.write_answers.ensures,
    )

pub returns : goal.returns
returns c = λ setup s b room. running_done setup _ _ _ _ _ _ _ _ _ (omega arith) (c.loop-tick.invariant.4 setup s b room)
