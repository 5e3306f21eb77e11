-- The rings and the stations by which the premises of Silence are shown met; and the letter's case by the clock. The proofs are in
-- proofs/Shown.
use Rattle.std.specs.Prelude.{ℕ, zero, suc, true, false, ◌≡◌, List, [], ◌∷◌}
use Rattle.bit_times.specs.declared.baud.Baud.TheVariants.{B500000}
use Rattle.settings.specs.declared.parameters.Parameters.{Parameters}
use Rattle.settings.specs.Settings.{default_of}
use Rattle.ring.specs.Ring.{Ring, make, others, fresh_of, witness_of}
use Rattle.ring.specs.Worked.{among}
use Rattle.codec_answers.specs.declared.Sent.TheVariants.{Token, Application}
use Rattle.station.specs.declared.station.Station.{Station}
use Rattle.station.specs.Parts.{fresh_station}
use Rattle.theorem_sound.specs.Sound.{Call, run}
use Rattle.theorem_sound.specs.Sound as call
use Rattle.theorem_silence.specs.Silence.{Start, AllQuiet, counted_in}
use Rattle.theorem_silence.specs.Letter.{sent_in}
use Rattle.theorem_silence.specs.Scripts.{token, declines, sends_nine, record_of, poll_hearing, poll_silent, claims}
use Rattle.theorem_silence.specs.Made.{ring_all, ring_alone, ring_but_one}

-- With the look at the gap.

-- the ring, once the others are heard
abbrev pub ring_of : ℕ → Ring
ring_of zero = fresh_of 0
ring_of (suc k) = witness_of ring_all (suc k) 0

-- the last activity of the station that listens, when it has heard them
abbrev pub heard_at : ℕ → ℕ
heard_at zero = 0
heard_at (suc k) = 900

-- Without it: after a gap question.

-- the ring, once the others but 1 are heard
abbrev pub before_one : ℕ → Ring
before_one zero = ring_alone
before_one (suc zero) = ring_alone
before_one (suc (suc k)) = witness_of ring_but_one (suc (suc k)) 0

-- The letter's case, by the clock.

-- document 01's example settings: address 5, code 6, slot 200; so a slot is 400 µs, a pause or a token 66 µs, a token is lost after
-- 6,400 µs
abbrev pub here : Parameters
here = default_of 5 B500000

-- a station with the neighbour 9, which starts a token pass: online, a token from 9 to us is heard, then the bus is silent, and the
-- station claims the token, sends it twice to itself, holds it, and its application declines
abbrev pub letter_calls : List Call
letter_calls = call.online ∷ poll_silent 0 ∷ poll_hearing 100 (token 9 5 ∷ []) ∷ claims 6600

abbrev pub letter_station : Station
letter_station = run (fresh_station here 1) letter_calls

-- five silent polls of the station with the neighbour 9, each a token and a slot after the one before; in the last the application
-- sends
abbrev pub five : List (List ℕ)
five = record_of 7266 declines [] ∷ record_of 7732 declines [] ∷ record_of 8198 declines [] ∷ record_of 8664 declines [] ∷ record_of 9130 sends_nine [] ∷ []

-- document 01's example 10 and the letter's case, by the clock: all five polls are counted; tokens go to 9, 9, 9 and 5, and then the
-- application's telegram goes out
pub record LetterRun : Type 0 where
  pub starts : Start letter_station
  pub neighbour : others letter_station.token_ring ≡ 9 ∷ []
  pub quiet : AllQuiet 1 five
  pub all_counted : counted_in letter_station five ≡ 5
  pub sent : sent_in letter_station five ≡ Token 9 ∷ Token 9 ∷ Token 9 ∷ Token 5 ∷ Application 0 0 false 9 ∷ []

-- the same station with another ring, and with its own
abbrev pub with_ring : Station → Ring → Station
with_ring s r = record { state = s.state; core = s.core; token_ring = r; p = s.p; counts = s.counts; applications = s.applications }

-- the ring, which heard a token from 9 and was claimed twice; it is told by its members
abbrev pub ring_nine : Ring
ring_nine = make 5 (among (5 ∷ 9 ∷ [])) 1 true
