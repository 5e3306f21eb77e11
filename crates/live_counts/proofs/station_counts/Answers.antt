-- The counts are told.
use Rattle.live_counts.specs.Laws.{counts_told}
use Rattle.live_counts.proofs.station_counts.Goals as goal

pub returns-else-counts-lt-COUNTS_LENGTH-clause-counts_after : goal.returns-else-counts-lt-COUNTS_LENGTH-clause-counts_after
returns-else-counts-lt-COUNTS_LENGTH-clause-counts_after c = counts_told _ _ _ _ c.in-Some.ensures c.write_counts.ensures
