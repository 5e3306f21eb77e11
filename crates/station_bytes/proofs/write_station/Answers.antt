-- The words, and the set behind them.
use Rattle.station_bytes.specs.Laws.{station_stands}
use Rattle.station_bytes.proofs.write_station.Goals as goal

pub returns : goal.returns
returns c =
    station_stands c.args.station.now c.links.result.now c.args.out.now _ _ _ c.if-out-lt96.false c.words_of.ensures c.write_words.ensures c.links.ensures c.write_members.ensures
