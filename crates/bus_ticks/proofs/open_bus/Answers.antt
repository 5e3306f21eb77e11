use Rattle.bus_ticks.specs.Starts.{bus_opened}
use Rattle.bus_ticks.proofs.open_bus.Goals as goal

pub returns : goal.returns
returns c =
    bus_opened _ _ _ _ _ _ _ _ _ _ _ c.requires c.open_seat.ensures c.open_seat-2.ensures c.open_seat-3.ensures c.open_seat-4.ensures c.open_seat-5.ensures c.open_seat-6.ensures c.open_seat-7.ensures c.open_seat-8.ensures c.quiet_wire.ensures
