-- Every answer names the next station of the ring that the call leaves, by its number: that of a poll, accepted or refused, and that of
-- a command. When we are alone it is the number of nobody (document 02, P5).
use Rattle.std.specs.Prelude.{ℕ, ◌≡◌, refl, List, [], ◌∷◌, eqb, None}
use Rattle.std.proofs.Common.{ap}
use borrow.Table.Steps.{cases}
use Rattle.ring.specs.Ring.{others, next_number}
use Rattle.ring.proofs.Laws.{next_is, next_alone}
use Rattle.codec_records.specs.Records.{record_refusal}
use Rattle.codec_answers.specs.Answers.{refused_answer}
use Rattle.station.specs.declared.station.Station.{Station}
use Rattle.station_answer.specs.Answer.{step_answer, polled_of, refused_poll}
use Rattle.station_command.specs.Command.{connect_of, online_of, offline_of, passive_of}
use Rattle.station_poll.specs.Poll.{accepted_after, accepted_poll, poll_of}
use Rattle.theorem_sound.specs.Sound.{SoundStation}
use Rattle.theorem_sound.specs.Names.{NamesNext, next_in}

-- a refused entry's answer does
refused_names : (s : Station) (k : ℕ) → NamesNext (refused_poll s k)
unfolding refused_poll refused_answer
refused_names s k = refl

-- a poll's answer does, whether its record is accepted or refused
pub poll_names : (s : Station) (bytes : List ℕ) → NamesNext (poll_of s bytes)
unfolding poll_of accepted_poll accepted_after polled_of step_answer
poll_names s bytes =
    cases (eqb (record_refusal bytes s.applications) 0) (λ e. rw e) (λ e. rw e (refused_names s (record_refusal bytes s.applications)))

-- the answers to the commands do
pub online_names : (s : Station) → NamesNext (online_of s)
unfolding online_of connect_of polled_of step_answer
online_names s = refl

pub offline_names : (s : Station) → NamesNext (offline_of s)
unfolding offline_of polled_of step_answer
offline_names s = refl

pub passive_names : (s : Station) → NamesNext (passive_of s)
unfolding passive_of connect_of polled_of step_answer
passive_names s = refl

-- what is named when we are alone: nobody
pub alone_named : (s : Station) → SoundStation s → others s.token_ring ≡ [] → next_in s ≡ next_number None
alone_named s w e = ap next_number (next_alone s.token_ring w.ring_sound e)

-- and with others: the first of them
pub neighbour_named : (s : Station) (x : ℕ) (xs : List ℕ) → SoundStation s → others s.token_ring ≡ x ∷ xs → next_in s ≡ x
neighbour_named s x xs w e = ap next_number (next_is s.token_ring x xs w.ring_sound e)
