-- Refused means unchanged: a call whose answer carries a refusal leaves the station as it was. And no call changes the settings.
use Rattle.std.specs.Prelude.{ℕ, ◌≡◌, refl, false, List, [], ◌∷◌, eqb}
use Rattle.std.proofs.Common.{sym, ◌∙◌, eqb-true}
use borrow.Table.Steps.{cases}
use Rattle.settings.specs.declared.parameters.Parameters.{Parameters}
use Rattle.codec_records.specs.Records.{record_refusal}
use Rattle.codec_answers.specs.Answers.{refused_answer}
use Rattle.station.specs.declared.station.Station.{Station}
use Rattle.station.specs.Parts.{fresh_station}
use Rattle.station_answer.specs.Answer.{step_answer, polled_of, refused_poll}
use Rattle.station_command.specs.Command.{connect_of, online_of, offline_of, passive_of}
use Rattle.station_poll.specs.Poll.{accepted_after, accepted_poll, poll_of}
use Rattle.theorem_sound.specs.Sound.{Call, poll, online, offline, passive, after, run}

-- a refused entry has its number and leaves the station
refused_station : (s : Station) (k : ℕ) → (refused_poll s k).station ≡ s
unfolding refused_poll
refused_station s k = refl

refused_number : (s : Station) (k : ℕ) → (refused_poll s k).answer.refusal ≡ k
unfolding refused_poll refused_answer
refused_number s k = refl

-- a poll whose record is good is not refused
accepted_number : (s : Station) (bytes : List ℕ) → (accepted_poll s bytes).answer.refusal ≡ 0
unfolding accepted_poll accepted_after polled_of step_answer
accepted_number s bytes = refl

-- a poll is refused exactly with its record's number
pub poll_refusal : (s : Station) (bytes : List ℕ) → (poll_of s bytes).answer.refusal ≡ record_refusal bytes s.applications
unfolding poll_of
poll_refusal s bytes =
    cases (eqb (record_refusal bytes s.applications) 0)
    (λ e. rw e (accepted_number s bytes ∙ sym (eqb-true (record_refusal bytes s.applications) 0 e)))
    (λ e. rw e (refused_number s (record_refusal bytes s.applications)))

kept : (s : Station) (bytes : List ℕ) → eqb (record_refusal bytes s.applications) 0 ≡ false → (poll_of s bytes).station ≡ s
unfolding poll_of
kept s bytes e = rw e (refused_station s (record_refusal bytes s.applications))

-- a refused poll leaves the station as it was
pub poll_unchanged : (s : Station) (bytes : List ℕ) → ((poll_of s bytes).answer.refusal ≡ 0 → ⊥) → (poll_of s bytes).station ≡ s
poll_unchanged s bytes n =
    cases (eqb (record_refusal bytes s.applications) 0)
    (λ e. absurd (n (poll_refusal s bytes ∙ eqb-true (record_refusal bytes s.applications) 0 e)))
    (λ e. kept s bytes e)

-- no command is refused
pub online_refusal : (s : Station) → (online_of s).answer.refusal ≡ 0
unfolding online_of connect_of polled_of step_answer
online_refusal s = refl

pub passive_refusal : (s : Station) → (passive_of s).answer.refusal ≡ 0
unfolding passive_of connect_of polled_of step_answer
passive_refusal s = refl

pub offline_refusal : (s : Station) → (offline_of s).answer.refusal ≡ 0
unfolding offline_of polled_of step_answer
offline_refusal s = refl

-- no call changes the settings
pub poll_settings : (s : Station) (bytes : List ℕ) → (poll_of s bytes).station.p ≡ s.p
unfolding poll_of accepted_poll accepted_after polled_of refused_poll
poll_settings s bytes = cases (eqb (record_refusal bytes s.applications) 0) (λ e. rw e) (λ e. rw e)

after_settings : (s : Station) (c : Call) → (after s c).p ≡ s.p
unfolding after online_of offline_of passive_of connect_of polled_of
after_settings s (poll bytes) = poll_settings s bytes
after_settings s online = refl
after_settings s offline = refl
after_settings s passive = refl

run_settings : (cs : List Call) (s : Station) → (run s cs).p ≡ s.p
unfolding run
run_settings [] s = refl
run_settings (c ∷ cs) s = run_settings cs (after s c) ∙ after_settings s c

-- so a station that calls make has the settings that the new one was given
pub made_settings : (p : Parameters) (n : ℕ) (cs : List Call) → (run (fresh_station p n) cs).p ≡ p
unfolding fresh_station
made_settings p n cs = run_settings cs (fresh_station p n)
