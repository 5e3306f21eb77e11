-- What the station that was found has counted.
use Rattle.station_bytes.specs.Laws.{counts_read}
use Rattle.station_bytes.proofs.read_counts.Goals as goal

pub returns : goal.returns
returns c = counts_read _ _ _ c.if-bytes-lt96.false c.read_words.ensures c.in_ok-station.ensures
