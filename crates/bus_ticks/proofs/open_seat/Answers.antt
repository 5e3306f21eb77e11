use Rattle.std.proofs.Common.{refl, sym, ◌∙◌}
use Rattle.bus_ticks.specs.Starts.{one_is_few, seat_opened}
use Rattle.bus_ticks.proofs.open_seat.Goals as goal

-- one application is not refused
pub unreachable-requires : goal.unreachable-requires
unreachable-requires c = one_is_few _ _ (sym c.in_default.is ∙ c.new.ensures)

pub returns : goal.returns
returns c =
    record {
      station = seat_opened _ _ _ _ _ _ _ _ _ c.placed.ensures c.write_header.ensures c.trace_settings.ensures c.settings_in-settings.ensures (sym c.in-Ok.is ∙ c.new.ensures) c.set_online.ensures;
      waiting = c.nothing_waits.ensures;
      until = refl;
    }
