-- The counts of a station (document 02): three of 32 bits, each of which stops at its largest value.
use Rattle.std.specs.Prelude.{ℕ, ◌+◌, ◌-◌, ◌^◌, min}
use Rattle.station.specs.declared.parts.Counts.{Counts}
use Rattle.station.specs.declared.done.Event.{Event}
use Rattle.station.specs.declared.done.Event.TheVariants.{Nothing, Claim, Removal, Meetings}

-- the largest value of a count
abbrev pub largest_count : ℕ
largest_count = 2 ^ 32 - 1

-- a count, so many higher, at most the largest
unfoldable pub raised_by : ℕ → ℕ → ℕ
raised_by count more = min largest_count (count + more)

-- the counts after what happened in a step
unfoldable pub counted_of : Counts → Event → Counts
counted_of k Nothing = k
counted_of k Claim = record { claims = raised_by k.claims 1; removals = k.removals; meetings = k.meetings }
counted_of k Removal = record { claims = k.claims; removals = raised_by k.removals 1; meetings = k.meetings }
counted_of k (Meetings met) = record { claims = k.claims; removals = k.removals; meetings = raised_by k.meetings met }
