-- The proof of the first theorem over a trace's entries: from PassiveIdle, through entries that are polls.
use Rattle.std.specs.Prelude.{ℕ, ◌≤◌, ◌≡◌, List, [], ◌∷◌}
use Rattle.std.proofs.Common.{sym, subst, ◌∙◌, arith, ne_eqb}
use Rattle.station.specs.declared.station.Station.{Station}
use Rattle.station_answer.specs.Answer.{Polled}
use Rattle.station_poll.specs.Poll.{poll_of}
use Rattle.trace.specs.Entries.{entry_of}
use Rattle.trace.specs.Trace.{Run, answered}
use Rattle.theorem_passive.specs.Theorem.{PollIdle}
use Rattle.theorem_passive.proofs.Theorem.{one_idle, same_stays, stays_then}
use Rattle.theorem_passive.specs.InTrace.{RunPassive, PassiveInTrace}

-- an entry with a first byte of 3 or more is a poll of its record
poll_entry_lem : (s : Station) (kind : ℕ) (bytes : List ℕ) → 3 ≤ kind → entry_of s kind bytes ≡ poll_of s bytes
unfolding entry_of
poll_entry_lem s kind bytes l = rw (ne_eqb kind 0 (λ z. omega arith), ne_eqb kind 1 (λ z. omega arith), ne_eqb kind 2 (λ z. omega arith))

one_more_lem : (s : Station) (x : Polled) (r : Run) → PollIdle s x → RunPassive x.station r → RunPassive s (answered x.answer r)
one_more_lem s x r one more =
    record { answers_say = (one.answered, more.answers_say); in_passive_idle = more.in_passive_idle; stays = stays_then _ _ _ one.stays more.stays }

pub passive_in_trace : PassiveInTrace
passive_in_trace [] s e i all = record { answers_say = tt; in_passive_idle = i; stays = same_stays s }
passive_in_trace (x ∷ es) s e i all =
    let here = subst (PollIdle s) (sym (poll_entry_lem s x.kind x.bytes all.0)) (one_idle s x.bytes e i) in
    one_more_lem s _ _ here (passive_in_trace es _ (here.stays.core_stays.connected ∙ e) here.nine all.1)
