-- Where counting stops: a station whose counts stand one below the largest value of 32 bits. Worked out from the definitions.
use Rattle.std.specs.Prelude.{ℕ, ◌-◌, ◌^◌, ◌≡◌}
use Rattle.std.proofs.Common.{ap}
use Rattle.settings.specs.declared.parameters.Parameters.{Parameters}
use Rattle.station.specs.declared.parts.Counts.{Counts}
use Rattle.station.specs.declared.done.Event.TheVariants.{Claim, Removal, Meetings}
use Rattle.station.specs.Whole.{RingStep}
use Rattle.station_answer.specs.Counted.{raised_by, counted_of}
use Rattle.station_answer.specs.Answer.{polled_of}

-- all three at this value
abbrev pub all_at : ℕ → Counts
all_at k = record { claims = k; removals = k; meetings = k }

abbrev pub below : ℕ
below = 2 ^ 32 - 2

abbrev pub last : ℕ
last = 2 ^ 32 - 1

-- of any settings, applications and step: what the station has counted after a step in which this happened
pub record StopsAt (p : Parameters) (n : ℕ) (x : RingStep) : Type 0 where
  -- a claim is the last that is counted, and the next one changes nothing
  pub claims_once : x.step.event ≡ Claim → (polled_of p n (all_at below) x).station.counts ≡ record { claims = last; removals = below; meetings = below }
  pub claims_more : x.step.event ≡ Claim → (polled_of p n (all_at last) x).station.counts ≡ all_at last
  -- so with a removal
  pub removes_once : x.step.event ≡ Removal → (polled_of p n (all_at below) x).station.counts ≡ record { claims = below; removals = last; meetings = below }
  pub removes_more : x.step.event ≡ Removal → (polled_of p n (all_at last) x).station.counts ≡ all_at last
  -- of three meetings in a poll one is counted
  pub meets_three : x.step.event ≡ Meetings 3 → (polled_of p n (all_at below) x).station.counts ≡ record { claims = below; removals = below; meetings = last }
  pub meets_more : x.step.event ≡ Meetings 3 → (polled_of p n (all_at last) x).station.counts ≡ all_at last

pub stops_at : (p : Parameters) (n : ℕ) (x : RingStep) → StopsAt p n x
unfolding polled_of counted_of raised_by
stops_at p n x =
    record {
      claims_once = λ e. ap (counted_of (all_at below)) e;
      claims_more = λ e. ap (counted_of (all_at last)) e;
      removes_once = λ e. ap (counted_of (all_at below)) e;
      removes_more = λ e. ap (counted_of (all_at last)) e;
      meets_three = λ e. ap (counted_of (all_at below)) e;
      meets_more = λ e. ap (counted_of (all_at last)) e;
    }
