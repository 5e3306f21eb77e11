-- The theorems on every trace, over the definitions of trace. That the call answers and ends on every trace and buffer is its contract.
use Rattle.std.specs.Prelude.{ℕ, ◌-◌, ◌*◌, ◌/◌, ◌%◌, ◌<◌, ◌≤◌, ◌≡◌, List, [], ◌∷◌, ◌++◌, length, take, drop, eqb}
use Rattle.std.proofs.Common.{sym, ap, ◌∙◌, inl, inr, arith, le_refl, length-append, length-drop, take_at, drop_at}
use borrow.Table.Steps.{cases}
use Rattle.std.proofs.Math.Pow.{high, low}
use Rattle.station.specs.declared.station.Station.{Station}
use Rattle.trace_headers.specs.Headers.{header_length}
use Rattle.theorem_sound.proofs.Unchanged.{poll_unchanged, online_refusal, offline_refusal, passive_refusal}
use Rattle.trace.specs.Trace.{TraceStart, Accepted, Refused, start_of, answered, run_of, ran_of, replay_on, replay_of, number_of, written, buffer_of}
use Rattle.trace.specs.Entries.{entry_of}
use Rattle.trace.specs.Laws.{preceded_by}
use Rattle.trace.proofs.Laws.{replay_refused, run_none, run_more}
use Rattle.theorem_every_trace.specs.Endings.{Small, start_small}
use Rattle.theorem_every_trace.specs.Statement.{Entry, Whole, laid, along}
use Rattle.theorem_every_trace.specs.Runs.{run_enough, run_on, run_ends, written_length}

-- a refused header: the call returns its number, and writes nothing
pub refused_header_writes_nothing :
    (trace before : List ℕ) (n : ℕ)
    → start_of trace ≡ Refused n
    → (number_of (replay_of trace (length before)) ≡ n) × (buffer_of (replay_of trace (length before)) before ≡ before)
refused_header_writes_nothing trace before n e = let r = replay_refused trace before n e in (sym r.0, sym r.1)

-- an entry whose answer carries a refusal leaves the station as it was
pub refused_entry_changes_nothing :
    (s : Station) (kind : ℕ) (bytes : List ℕ)
    → ((entry_of s kind bytes).answer.refusal ≡ 0 → ⊥)
    → (entry_of s kind bytes).station ≡ s
unfolding entry_of
refused_entry_changes_nothing s kind bytes n =
    cases (eqb kind 0)
    (λ a. absurd (n (rw a (online_refusal s))))
    (λ a. cases (eqb kind 1)
    (λ b. absurd (n (rw (a, b) (offline_refusal s))))
    (λ b. cases (eqb kind 2)
    (λ d. absurd (n (rw (a, b, d) (passive_refusal s))))
    (λ d. rw (a, b, d) (poll_unchanged s bytes (λ z. n (rw (a, b, d) z))))))

-- the run over a longer trace begins with the run over a part of it that ends at an entry: the same answers, then those of the rest, from
-- the station that the part left and in the room that it left
pub longer_trace_begins_alike :
    (s : Station) (part rest : List ℕ) (room : ℕ)
    → (run_of s part room).ending ≡ 0
    → run_of s (part ++ rest) room
    ≡ preceded_by (run_of s part room).answers (run_of (run_of s part room).station rest (room - 8 * length (run_of s part room).answers))
longer_trace_begins_alike s part rest room e = run_on s part rest room e

-- the answers of a started run, or of none, have room
replay_room : (x : TraceStart) (trace : List ℕ) (room : ℕ) → 8 * length (replay_on x trace room).answers ≤ room
unfolding replay_on ran_of
replay_room (Accepted s) trace room = (run_ends (length (drop (header_length trace) trace)) s (drop (header_length trace) trace) room).fits
replay_room (Refused n) trace room = omega arith

of_replay : (trace : List ℕ) (room : ℕ) → 8 * length (replay_of trace room).answers ≤ room
unfolding replay_of
of_replay trace room = replay_room (start_of trace) trace room

-- the answers of a replay have room in the buffer
pub answers_have_room : (trace before : List ℕ) → 8 * length (replay_of trace (length before)).answers ≤ length before
answers_have_room trace before = of_replay trace (length before)

-- the buffer's first bytes at exit are the answers given, 8 each
pub answers_stand :
    (trace before : List ℕ)
    → take (8 * length (replay_of trace (length before)).answers) (buffer_of (replay_of trace (length before)) before)
    ≡ written (replay_of trace (length before)).answers
unfolding buffer_of
answers_stand trace before = take_at _ _ _ (written_length (replay_of trace (length before)).answers)

-- the bytes past the answers given are untouched
pub past_them_untouched :
    (trace before : List ℕ)
    → drop (8 * length (replay_of trace (length before)).answers) (buffer_of (replay_of trace (length before)) before)
    ≡ drop (8 * length (replay_of trace (length before)).answers) before
unfolding buffer_of
past_them_untouched trace before =
    let r = replay_of trace (length before) in
    drop_at (written r.answers) (drop (8 * length r.answers) before) _ (written_length r.answers)

-- the buffer keeps its length
pub buffer_keeps_its_length : (trace before : List ℕ) → length (buffer_of (replay_of trace (length before)) before) ≡ length before
unfolding buffer_of
buffer_keeps_its_length trace before =
    let r = replay_of trace (length before) in
    length-append (written r.answers) (drop (8 * length r.answers) before)
    ∙ rw (written_length r.answers, length-drop) (omega (arith, of_replay trace (length before)))

-- every entry that is whole and has room for its answer is answered, and by the station's definition on the entry
pub each_entry_is_answered : (s : Station) (es : List Entry) (room : ℕ) → Whole es → 8 * length es ≤ room → run_of s (laid es) room ≡ along s es
each_entry_is_answered s [] room w h = run_none 0 s room
each_entry_is_answered s (e ∷ es) room w h =
    run_more (length (e.bytes ++ laid es)) s e.kind (e.bytes ++ laid es) room (rw (length-append, w.0) (omega arith)) (omega (arith, h))
    ∙ rw (take_at e.bytes (laid es) _ w.0, drop_at e.bytes (laid es) _ w.0)
    (ap (answered (entry_of s e.kind e.bytes).answer)
    (run_enough (length (e.bytes ++ laid es)) (length (laid es)) (entry_of s e.kind e.bytes).station (laid es) (room - 8) (rw length-append (omega arith)) (le_refl (length (laid es)))
    ∙ each_entry_is_answered (entry_of s e.kind e.bytes).station es (room - 8) w.1 (omega (arith, h))))

-- a replay ends with a number below 256: at most 18 after a header that was taken, and else the header's refusal, at most 25
replay_ending : (x : TraceStart) (trace : List ℕ) (room : ℕ) → Small x → (replay_on x trace room).ending < 256
unfolding replay_on ran_of
replay_ending (Accepted s) trace room h = omega (arith, (run_ends (length (drop (header_length trace) trace)) s (drop (header_length trace) trace) room).number)
replay_ending (Refused n) trace room (inl h) = omega (arith, h)
replay_ending (Refused n) trace room (inr h) = omega (arith, h)

pub ending_below_256 : (trace : List ℕ) (room : ℕ) → (replay_of trace room).ending < 256
unfolding replay_of
ending_below_256 trace room = replay_ending (start_of trace) trace room (start_small trace)

-- so the number that the call returns tells both: the entries answered are its quotient by 256, the ending its rest
pub number_tells_both :
    (trace : List ℕ) (room : ℕ)
    → (number_of (replay_of trace room) / 256 ≡ length (replay_of trace room).answers) × (number_of (replay_of trace room) % 256 ≡ (replay_of trace room).ending)
unfolding number_of
number_tells_both trace room =
    (high (length (replay_of trace room).answers) 8 (ending_below_256 trace room), low (length (replay_of trace room).answers) 8 (ending_below_256 trace room))
