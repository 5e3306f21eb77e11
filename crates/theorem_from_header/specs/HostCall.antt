-- The theorems of the calls that hosts make, `amsulfezd_replay_trace(trace, answers)` and `amsulfezd_other_edition(header, out)`: they hold
-- of whatever a call's contract allows it to return and to leave in the lent buffer. `Post` is the contract as the checker reads it, of lifetimes, arguments (`a.0` the trace,
-- `a.1.0` the buffer), result and the parameters at exit (`s.1.0` the buffer); that the code meets it is proved of the call.
use Rattle.std.specs.Prelude.{ℕ, ◌*◌, ◌≤◌, ◌≡◌, List, ◌++◌, length, take, drop}
use Rattle.std.proofs.Common.{sym, ◌∙◌, subst}
use Rattle.amsulfezd.proofs.amsulfezd_replay_trace.Reads as reads
use Rattle.amsulfezd.proofs.amsulfezd_other_edition.Reads as moving
use Rattle.trace_headers.specs.Headers.{header_length}
use Rattle.trace_editions.specs.Editions.{lent_refusal, other_length}
use Rattle.trace_editions.specs.Moves.{moved}
use Rattle.theorem_every_trace.specs.Moved.{other_edition_writes}
use Rattle.trace.specs.Trace.{replay_of, number_of, buffer_of}
use Rattle.theorem_every_trace.specs.Statement.{Replayed}
use Rattle.theorem_every_trace.proofs.Theorem.{every_trace}
use Rattle.theorem_from_header.specs.SilentTrace.{SilentTrace, SilenceRead}
use Rattle.theorem_from_header.specs.SilentTraceProof.{silence_in_trace}

-- demand 1 of a number that is the definition's and of a buffer that is
replayed_so : (trace before : List ℕ) (returned : ℕ) (left : List ℕ) → returned ≡ number_of (replay_of trace (length before)) → left ≡ buffer_of (replay_of trace (length before)) before → Replayed trace before returned left
replayed_so trace before returned left n b =
    subst (λ (l : List ℕ). Replayed trace before returned l) (sym b)
    (subst (λ (k : ℕ). Replayed trace before k (buffer_of (replay_of trace (length before)) before)) (sym n) (every_trace trace before))

-- Demand 1 of the hosts' call: whatever trace and buffer a host lends, what the call returns and leaves is as `Replayed` says: a refused
-- header's number and nothing written, or the answers to the whole entries. (Each of these answers then reads back:
-- `every_answer_reads`.)
pub host_call_replays : (κs : _) (a : _) (returned : _) (s : _) → reads.Post κs a returned s → Replayed a.0.now a.1.0.now returned s.1.0.now
host_call_replays κs a returned s post = replayed_so a.0.now a.1.0.now returned s.1.0.now post.0 post.1

-- Demand 3 of the hosts' call: if the trace that a host lends is one in which a station passes its token into silence, the answers in
-- the buffer that the call leaves are as `SilenceRead` says.
pub host_call_silence : (κs : _) (a : _) (returned : _) (s : _) → reads.Post κs a returned s → (t : SilentTrace a.0.now a.1.0.now) → SilenceRead t s.1.0.now
host_call_silence κs a returned s post t = subst (SilenceRead t) (sym post.1) (silence_in_trace a.0.now a.1.0.now t)

-- The other call: a lent header that is not refused, with room for the other edition, is written there as `moved` says, and every other
-- byte stays. That `moved` leads back to the same bytes and says the same is `header_moves` of trace_editions; that a trace with its
-- header so moved gives the same answers is `moves_alike` of theorem_every_trace.
pub host_call_moves :
    (κs : _) (a : _) (returned : _) (s : _)
    → moving.Post κs a returned s
    → lent_refusal a.0.now ≡ 0
    → other_length a.0.now ≤ length a.1.0.now
    → (returned ≡ other_length a.0.now * 256)
    × (s.1.0.now ≡ moved (take (header_length a.0.now) a.0.now) ++ drop (other_length a.0.now) a.1.0.now)
host_call_moves κs a returned s post none room =
    let w = other_edition_writes a.0.now a.1.0.now none room in
    (post.0 ∙ w.0, post.1 ∙ w.1)
