-- There is no room, the station is written, or the header is refused.
use Rattle.std.proofs.Common.{◌∙◌}
use Rattle.live.specs.Laws.{open_refused, open_full, open_done}
use Rattle.live.proofs.open_station.Goals as goal

pub returns-then-station-lt96-clause-value : goal.returns-then-station-lt96-clause-value
returns-then-station-lt96-clause-value c =
    c.from.ensures ∙ c.number.ensures ∙ (open_full c.args.header.now c.args.station.now _ (rw c.in-Ok.is at c.start.ensures) c.if-station-lt96.true).0

pub returns-then-station-lt96-clause-station_after : goal.returns-then-station-lt96-clause-station_after
returns-then-station-lt96-clause-station_after c =
    (open_full c.args.header.now c.args.station.now _ (rw c.in-Ok.is at c.start.ensures) c.if-station-lt96.true).1

pub returns-else-station-lt96-clause-value : goal.returns-else-station-lt96-clause-value
returns-else-station-lt96-clause-value c =
    (open_done c.args.header.now c.args.station.now _ _ (rw c.in-Ok.is at c.start.ensures) c.if-station-lt96.false c.write_station.ensures).0

pub returns-else-station-lt96-clause-station_after : goal.returns-else-station-lt96-clause-station_after
returns-else-station-lt96-clause-station_after c =
    (open_done c.args.header.now c.args.station.now _ _ (rw c.in-Ok.is at c.start.ensures) c.if-station-lt96.false c.write_station.ensures).1

pub returns-in-Err-clause-station_after : goal.returns-in-Err-clause-station_after
returns-in-Err-clause-station_after c =
    (open_refused c.args.header.now c.args.station.now _ (rw c.in-Err.is at c.start.ensures)).1
