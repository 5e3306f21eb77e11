-- The stations that the calls of Scripts make, stage by stage, and their rings. That they make them is proved in proofs/Made.
use Rattle.std.specs.Prelude.{ℕ, ◌<◌, true, false, not, ◌≡◌, List, [], ◌∷◌, eqb, Some}
use Rattle.ring.specs.declared.GapState.{GapState}
use Rattle.ring.specs.declared.GapState.TheVariants.{Waiting, DoPoll}
use Rattle.ring.specs.Ring.{Ring, has, fresh_of, claim_of, add_of}
use Rattle.codec_telegrams.specs.declared.Telegram.TheVariants as telegram
use Rattle.codec_records.specs.Records as records
use Rattle.station.specs.declared.state.ConnectivityState.TheVariants as connectivity
use Rattle.station.specs.declared.state.PassTokenAttempt.TheVariants.{First}
use Rattle.station.specs.declared.state.State.{State}
use Rattle.station.specs.declared.state.State.TheVariants.{PassToken, AwaitStatusResponse}
use Rattle.station.specs.declared.parts.Core.{Core}
use Rattle.station.specs.declared.station.Station.{Station}
use Rattle.station.specs.Parts.{fresh_station}
use Rattle.station.specs.Steps as steps
use Rattle.theorem_sound.specs.Sound.{run}
use Rattle.theorem_silence.specs.Theorem.{station_of}
use Rattle.theorem_silence.specs.Scripts.{token, response_of1, poll_hearing, lowest, hears_all, claims, begins_look, begins_question}

-- the station with this state, core and ring, which claimed and met its own address so often and removed nobody
abbrev pub lowest_with : ℕ → ℕ → State → Core → Ring → Station
lowest_with claimed met s c r = station_of lowest 1 (record { claims = claimed; removals = 0; meetings = met }) s c r

-- an online core: the last token time, the end of hold, last activity, gap state
abbrev pub core_at : ℕ → ℕ → ℕ → GapState → Core
core_at token hold last gap =
    record { last_token_time = record { 0 = token }; end_token_hold_time = record { 0 = hold }; last_bus_activity = Some (record { 0 = last }); gap_state = gap; pending_bytes = 0; next_application = 0; connectivity_state = connectivity.Online }

-- The stations on the way, each with any ring.

-- to a pass with the look at the gap: it listens, its last activity at this time; then it starts the pass
abbrev pub listens_look : ℕ → Ring → Station
listens_look last r = lowest_with 0 0 steps.to_listen_token (core_at 0 0 last (Waiting 0)) r

abbrev pub pass_look : Ring → Station
pass_look r = lowest_with 1 0 (PassToken true First) (core_at 3500 64872 3566 (Waiting 0)) r

-- to a pass after a gap question: it listens, the gap count at 2; it starts a pass, in which the question is due; it awaits the answer
-- of 1; it has it and starts the pass
abbrev pub listens_question : ℕ → Ring → Station
listens_question last r = lowest_with 1 2 steps.to_listen_token (core_at 3400 67872 last (Waiting 2)) r

abbrev pub pass_question : Ring → Station
pass_question r = lowest_with 2 2 (PassToken true First) (core_at 7600 68272 7666 (Waiting 2)) r

abbrev pub awaits_one : Ring → Station
awaits_one r = lowest_with 2 2 (AwaitStatusResponse 1) (core_at 7600 68272 8132 (DoPoll 1)) r

abbrev pub pass_answered : Ring → Station
pass_answered r = lowest_with 2 2 (PassToken false First) (core_at 7600 68272 8300 (DoPoll 1)) r

-- The start, and who is heard.

-- a pass with the look at the gap: online and listening from time 0; then all are heard
abbrev pub begun_look : Station
begun_look = listens_look 0 (fresh_of 0)

abbrev pub ring_all : Ring
ring_all = (run begun_look (hears_all 100 1 7)).token_ring

-- a pass after a gap question: the token was passed twice, and it listens again; then all but 1 are heard
abbrev pub ring_alone : Ring
ring_alone = (run (fresh_station lowest 1) begins_question).token_ring

abbrev pub begun_question : Station
begun_question = listens_question 4100 ring_alone

abbrev pub ring_but_one : Ring
ring_but_one = (run begun_question (hears_all 4200 2 6)).token_ring

-- these four runs, worked out from the definitions, but for the ring
pub record FirstRuns : Type 0 where
  pub look : run (fresh_station lowest 1) begins_look ≡ begun_look
  pub heard_all : run begun_look (hears_all 100 1 7) ≡ listens_look 800 ring_all
  pub question : run (fresh_station lowest 1) begins_question ≡ begun_question
  pub heard_but_one : run begun_question (hears_all 4200 2 6) ≡ listens_question 4900 ring_but_one

-- the rings' members
pub record Members : Type 0 where
  pub all : (x : ℕ) → x < 126 → has ring_all x ≡ true
  pub alone : (x : ℕ) → x < 126 → has ring_alone x ≡ eqb x 0
  pub but_one : (x : ℕ) → x < 126 → has ring_but_one x ≡ not (eqb x 1)
  pub own_all : ring_all.own ≡ 0
  pub own_alone : ring_alone.own ≡ 0
  pub own_but_one : ring_but_one.own ≡ 0

-- The token from k to us.

-- what a record says that reports one token, from k to 0
pub record SaysToken (bytes : List ℕ) (clock k : ℕ) : Type 0 where
  pub accepted : records.record_refusal bytes 1 ≡ 0
  pub head : records.head_of bytes ≡ record { clock = clock; pending = 0; telegrams = 1; transmitting = false }
  pub telegram : records.telegram_at bytes 1 0 ≡ telegram.Token 0 k

-- What follows does not look at the ring but for the question.

-- the token is claimed, sent twice and used
pub record Claimed (r : Ring) : Type 0 where
  pub look_none : run (listens_look 0 r) (claims 3300) ≡ pass_look (claim_of (claim_of r))
  pub look_heard : run (listens_look 900 r) (claims 3300) ≡ pass_look (claim_of (claim_of r))
  pub question_none : run (listens_question 4100 r) (claims 7400) ≡ pass_question (claim_of (claim_of r))
  pub question_heard : run (listens_question 5000 r) (claims 7400) ≡ pass_question (claim_of (claim_of r))

pub record OneAnswers (r : Ring) : Type 0 where
  pub in_ring : run (awaits_one r) (poll_hearing 8300 (response_of1 3 ∷ []) ∷ []) ≡ pass_answered (add_of r 1)
  pub not_ready : run (awaits_one r) (poll_hearing 8300 (response_of1 1 ∷ []) ∷ []) ≡ pass_answered r
