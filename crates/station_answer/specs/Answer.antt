-- What a call hands back (document 01, "Answer, 64 bits"): the station and the answer.
use Rattle.std.specs.Prelude.{ℕ}
use Rattle.settings.specs.declared.parameters.Parameters.{Parameters}
use Rattle.ring.specs.Ring.{next_of, next_number}
use Rattle.codec_answers.specs.declared.Answer.{Answer}
use Rattle.codec_answers.specs.Answers.{refused_answer}
use Rattle.station.specs.declared.station.Station.{Station}
use Rattle.station.specs.Whole.{RingStep}
use Rattle.station.specs.declared.parts.Counts.{Counts}
use Rattle.station.specs.declared.done.Done.{Done}
use Rattle.station.specs.Parts.{state_number}
use Rattle.station_answer.specs.Counted.{counted_of}

-- what a call hands back: the station that it leaves, and its answer
pub record Polled : Type 0 where
  pub station : Station
  pub answer : Answer

abbrev pub polled_at : Station → Answer → Polled
polled_at s a = record { station = s; answer = a }

-- the step that left this station and came to this besides, whose `after` they are
abbrev pub stepped : Station → Done → RingStep
stepped s d =
    record { step = record { state = s.state; core = s.core; sent = d.sent; notice = d.notice; outcome = d.outcome; consumed = d.consumed; event = d.event }; ring = s.token_ring }

-- document 01: the answer of an entry that is not refused, with the state, next application and next station after it (document 02: nobody's number when we are alone)
unfoldable pub step_answer : RingStep → Answer
step_answer s =
    record {
      refusal = 0;
      outcome = s.step.outcome;
      state = state_number s.step.state;
      sent = s.step.sent;
      consumed = s.step.consumed;
      notice = s.step.notice;
      next_application = s.step.core.next_application;
      next_station = next_number (next_of s.ring);
    }

-- the station after a step, with what happened in it counted, and the answer
unfoldable pub polled_of : Parameters → ℕ → Counts → RingStep → Polled
polled_of p n counts s =
    record {
      station =
          record {
            state = s.step.state;
            core = s.step.core;
            token_ring = s.ring;
            p = p;
            counts = counted_of counts s.step.event;
            applications = n;
          };
      answer = step_answer s;
    }

-- a refused entry: the station is unchanged
unfoldable pub refused_poll : Station → ℕ → Polled
refused_poll s refusal =
    record { station = s; answer = refused_answer refusal (state_number s.state) s.core.next_application (next_number (next_of s.token_ring)) }
