use Rattle.std.proofs.Common.{sym, ◌∙◌}
use Rattle.bus.specs.Reports.{room_short, simulate_refused, simulate_no_room, simulate_ran}
use Rattle.bus.proofs.simulate.Goals as goal

pub returns-then-refusal-ne0-clause-report_after :
    goal.returns-then-refusal-ne0-clause-report_after
returns-then-refusal-ne0-clause-report_after c =
    (simulate_refused _ _ _ c.setup_refusal-refusal.ensures c.if-refusal-ne0.true).1

pub returns-then-report-stations-clause-report_after :
    goal.returns-then-report-stations-clause-report_after
returns-then-report-stations-clause-report_after c =
    (simulate_no_room _ _ (sym c.setup_refusal-refusal.ensures ∙ c.if-refusal-ne0.false)
    (room_short _ _ _ _ c.stations-stations.ensures c.ticks-ticks.ensures c.if-report-stations.true)).1

pub returns-clause-value : goal.returns-clause-value
returns-clause-value c =
    (simulate_ran _ _ _ _ _ _ _ (sym c.setup_refusal-refusal.ensures ∙ c.if-refusal-ne0.false)
    c.stations-stations.ensures c.tick.ensures c.ticks-ticks.ensures c.if-report-stations.false c.open_bus.ensures c.run_report.ensures).0

pub returns-clause-report_after : goal.returns-clause-report_after
returns-clause-report_after c =
    (simulate_ran _ _ _ _ _ _ _ (sym c.setup_refusal-refusal.ensures ∙ c.if-refusal-ne0.false)
    c.stations-stations.ensures c.tick.ensures c.ticks-ticks.ensures c.if-report-stations.false c.open_bus.ensures c.run_report.ensures).1
