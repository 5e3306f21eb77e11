-- The station, and what a step of the definitions is. A step speaks of the station's parts: it takes the settings, which never
-- change, the core, the ring where it needs it, the clock and what its state holds, and gives the new ones in a record. The code
-- makes the step on the station itself: `after` is the station that a step leaves, beside what the code hands back.
use Rattle.std.specs.Prelude.{ℕ, Bool}
use Rattle.ring.specs.Ring.{Ring}
use Rattle.codec_answers.specs.declared.Outcome.{Outcome}
use Rattle.codec_answers.specs.declared.Sent.{Sent}
use Rattle.codec_answers.specs.declared.Notice.{Notice}
use Rattle.station.specs.declared.state.State.{State}
use Rattle.station.specs.declared.parts.Core.{Core}
use Rattle.station.specs.declared.done.Event.{Event}
use Rattle.station.specs.declared.done.Done.{Done}
use Rattle.station.specs.declared.done.Hearing.{Hearing}
use Rattle.station.specs.declared.station.Station.{Station}

-- a new station, and the refusal's number: 0 where there is none
pub record Started : Type 0 where
  pub station : Station
  pub refusal : ℕ

-- what asking for a time of quiet came to: the core, whose last activity is now where none was known, and whether the time has
-- passed since the last activity
pub record Waited : Type 0 where
  pub core : Core
  pub over : Bool

-- what a step came to: the new state, the core, what it sent and told, how the poll ended, and what is counted of it
pub record Step : Type 0 where
  pub state : State
  pub core : Core
  pub sent : Sent
  pub notice : Notice
  pub outcome : Outcome
  pub consumed : ℕ
  pub event : Event

-- a step that may change the ring too
pub record RingStep : Type 0 where
  pub step : Step
  pub ring : Ring

-- what a telegram of a poll has led to, or all of them, and how many collisions are counted: of one telegram one or none
pub record Heard : Type 0 where
  pub state : State
  pub core : Core
  pub ring : Ring
  pub outcome : Outcome
  pub met : ℕ

-- the same station but for the core
abbrev pub with_core : Station → Core → Station
with_core s c = record s { core = c }

-- the station that a step leaves, and what the step came to besides. The settings, the counts and the number of applications stay
abbrev pub after : Station → RingStep → Station × Done
after s r =
    (record s { state = r.step.state; core = r.step.core; token_ring = r.ring }, record { sent = r.step.sent; notice = r.step.notice; outcome = r.step.outcome; consumed = r.step.consumed; event = r.step.event })

-- the station that a telegram leaves, and what it led to besides; the same for all telegrams of a poll
abbrev pub after_hearing : Station → Heard → Station × Hearing
after_hearing s h =
    (record s { state = h.state; core = h.core; token_ring = h.ring }, record { outcome = h.outcome; met = h.met })
