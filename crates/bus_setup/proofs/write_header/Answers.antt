use Rattle.bus_setup.specs.Laws.{header_made}
use Rattle.bus_setup.proofs.write_header.Goals as goal

pub returns : goal.returns
returns c =
    header_made _ _ _ _ _ _ _ _ _ c.station_place-at.ensures.0 c.load.ensures c.store.ensures c.load-2.ensures c.store-2.ensures c.load-3.ensures c.store-3.ensures
