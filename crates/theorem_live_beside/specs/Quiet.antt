-- A command and an entry that is refused consume nothing, so a step by them leaves the table as it was. Assumes nothing.
use Rattle.std.specs.Prelude.{ℕ, ◌<◌, ◌≡◌, refl, List, ◌⊎◌, eqb}
use Rattle.std.proofs.Common.{⊎_elim, arith}
use Rattle.std.proofs.lemmas.Bool.{eqb-false}
use borrow.Table.Steps.{cases}
use Rattle.codec_answers.specs.Answers.{refused_answer}
use Rattle.codec_records.specs.Records.{record_refusal}
use Rattle.station.specs.Steps.{done_of}
use Rattle.station.specs.declared.station.Station.{Station}
use Rattle.station_answer.specs.Answer.{step_answer, polled_of, refused_poll}
use Rattle.station_command.specs.Command.{connect_of, online_of, offline_of, passive_of}
use Rattle.station_poll.specs.Poll.{accepted_after, accepted_poll, poll_of}
use Rattle.trace.specs.Entries.{entry_of}
use Rattle.heard.specs.Heard.{hear_all, consumed_in}
use Rattle.live.specs.Live.{Stepped, Answers}
use Rattle.live_heard.specs.LiveHeard.{step_table}

-- the three commands
online_quiet : (s : Station) → (online_of s).answer.consumed ≡ 0
unfolding online_of connect_of polled_of step_answer done_of
online_quiet s = refl

offline_quiet : (s : Station) → (offline_of s).answer.consumed ≡ 0
unfolding offline_of polled_of step_answer done_of
offline_quiet s = refl

passive_quiet : (s : Station) → (passive_of s).answer.consumed ≡ 0
unfolding passive_of connect_of polled_of step_answer done_of
passive_quiet s = refl

-- a poll that is refused
poll_quiet : (s : Station) (bytes : List ℕ) → ((poll_of s bytes).answer.refusal ≡ 0 → ⊥) → (poll_of s bytes).answer.consumed ≡ 0
unfolding poll_of accepted_poll accepted_after polled_of step_answer refused_poll refused_answer
poll_quiet s bytes n = cases (eqb (record_refusal bytes s.applications) 0) (λ t. absurd (n (rw t refl))) (λ f. rw f refl)

-- a command has a first byte below 3
pub quiet_entry : (s : Station) (kind : ℕ) (bytes : List ℕ) → (kind < 3) ⊎ ((entry_of s kind bytes).answer.refusal ≡ 0 → ⊥) → (entry_of s kind bytes).answer.consumed ≡ 0
unfolding entry_of
quiet_entry s kind bytes q =
    cases (eqb kind 0) (λ a. rw a (online_quiet s))
    (λ a. cases (eqb kind 1) (λ b. rw (a, b) (offline_quiet s))
    (λ b. cases (eqb kind 2) (λ d. rw (a, b, d) (passive_quiet s))
    (λ d. rw (a, b, d)
    (⊎_elim (λ l. absurd (omega (arith, l, eqb-false kind 0 a, eqb-false kind 1 b, eqb-false kind 2 d))) (λ n. poll_quiet s bytes (λ z. n (rw (a, b, d) z))) q))))

-- The theorem: a step by such an entry leaves the table.
pub quiet_step_lem :
    (x : Stepped) (entry table : List ℕ) (s : Station) (kind : ℕ) (bytes : List ℕ) (size : ℕ)
    → x ≡ Answers (entry_of s kind bytes) size
    → (kind < 3) ⊎ ((entry_of s kind bytes).answer.refusal ≡ 0 → ⊥)
    → step_table x entry table ≡ table
unfolding step_table consumed_in hear_all
quiet_step_lem x entry table s kind bytes size e q = rw (e, quiet_entry s kind bytes q) refl
