-- A trace is its header's station stepped along its entries: what is said of the bytes, entry by entry. Its proof is `stepped_along`.
use Rattle.std.specs.Prelude.{ℕ, ◌+◌, ◌-◌, ◌≤◌, Bool, cond, ◌≡◌, refl, List, [], ◌∷◌, ◌++◌, length, get_or, take, drop, replicate, eqb, Option, Some, Ok}
use Rattle.std.proofs.Common.{sym, ap, subst, ◌∙◌, append-nil, arith, le-ltb, length-append, take_all, drop_at, lit≤}
use Rattle.std.proofs.Math.Nat.{min-le_left}
use borrow.Author.Tests.{ne_eqb}
use Rattle.codec_fields.specs.Fields.{bytes_of, stored_of}
use Rattle.codec_fields.proofs.Stores.{stored_room}
use Rattle.codec_answers.specs.Answers.{answer_word}
use Rattle.settings.specs.declared.parameters.Parameters.{Parameters}
use Rattle.settings_build.specs.Build.{plain_of}
use Rattle.ring.specs.Ring.{has}
use Rattle.ring_members.specs.Members.{set_bytes}
use Rattle.station.specs.declared.station.Station.{Station}
use Rattle.station.specs.declared.parts.Counts.{Counts}
use Rattle.station.specs.declared.done.Event.{Event}
use Rattle.station.specs.declared.done.Event.TheVariants.{Nothing, Claim, Removal, Meetings}
use Rattle.station_answer.specs.Answer.{Polled, polled_of, refused_poll}
use Rattle.station_answer.specs.Counted.{largest_count, raised_by, counted_of}
use Rattle.codec_records.specs.Records.{record_refusal}
use Rattle.station_poll.specs.Poll.{accepted_after, accepted_poll, poll_of}
use Rattle.station_command.specs.Command.{connect_of, online_of, offline_of, passive_of}
use Rattle.trace_headers.specs.Finished.{header_with}
use Rattle.trace.specs.Trace.{settings_of, written}
use Rattle.trace.specs.Entries.{record_length, entry_of}
use Rattle.station_words.specs.Laws.{CountsFit, PlainFits}
use Rattle.station_bytes.specs.Bytes.{read_of, word_list, all_bytes, station_words, station_bytes, station_into}
use Rattle.station_bytes.specs.Laws.{all_length, set_length}
use Rattle.live.specs.Live.{Stepped, Answers, step_found, step_on, step_of, step_into, step_answer}
use Rattle.theorem_sound.specs.Keeps.{either}
use Rattle.theorem_sound.specs.Sound.{Call, poll, online, offline, passive, after}
use Rattle.theorem_sound.proofs.Sound.{call_made, call_sound}
use Rattle.theorem_every_trace.specs.Statement.{Entry, Whole, along}
use Rattle.theorem_live.specs.Back.{Kept, station_back}

-- What is said.

-- an entry's bytes
abbrev pub entry_bytes : Entry → List ℕ
entry_bytes e = e.kind ∷ e.bytes

-- the bytes of a station stepped along entries: those that it leaves, and those of its answers, 8 each
abbrev pub bytes_after : List ℕ → List Entry → List ℕ
bytes_after station [] = station
bytes_after station (e ∷ es) = bytes_after (step_into (step_of station (entry_bytes e) 8) station) es

abbrev pub bytes_said : List ℕ → List Entry → List ℕ
bytes_said station [] = []
bytes_said station (e ∷ es) = step_answer (step_of station (entry_bytes e) 8) (replicate 8 0) ++ bytes_said (step_into (step_of station (entry_bytes e) 8) station) es

-- the station after an entry
abbrev pub then : Station → Entry → Station
then s e = (entry_of s e.kind e.bytes).station

-- Its proof.

-- a station's bytes are 96
bytes_long : (s : Station) → length (station_bytes s) ≡ 96
unfolding station_bytes
bytes_long s =
    length-append (all_bytes (word_list (station_words s))) (set_bytes (has s.token_ring)) ∙ rw (all_length (word_list (station_words s)), set_length (has s.token_ring)) refl

-- written over 96 bytes they are all that is there
pub into_any : (out : List ℕ) (t : Station) → length out ≡ 96 → station_into out t ≡ station_bytes t
unfolding station_into
into_any out t l =
    let rest : drop 96 out ≡ [] = ap (drop 96) (sym (append-nil out)) ∙ drop_at out [] 96 l in
    ap (λ (b : Bool). cond b out (station_bytes t ++ drop 96 out)) (le-ltb (length out) 96 (omega (arith, l)))
    ∙ ap (λ (l : List ℕ). station_bytes t ++ l) rest
    ∙ append-nil (station_bytes t)

-- an answer in 8 bytes
said_whole : (word : ℕ) → stored_of (replicate 8 0) 0 8 word ≡ bytes_of word
said_whole word = stored_room (replicate 8 0) 0 8 word (lit≤ tt) (lit≤ tt) ∙ append-nil (bytes_of word)

-- a station that is kept is what its bytes are
pub kept_back : (s : Station) → Kept s → read_of (station_bytes s) ≡ Some s
kept_back s k = ap read_of (sym (append-nil (station_bytes s))) ∙ station_back s k []

-- a step by a whole entry, with room for its answer
found_answered :
    (s : Station) (entry : List ℕ) (room : ℕ)
    → (length entry ≡ 0 → ⊥)
    → record_length (get_or entry 0 0) ≤ length entry - 1
    → 8 ≤ room
    → step_found s entry room ≡ Answers (entry_of s (get_or entry 0 0) (take (record_length (get_or entry 0 0)) (drop 1 entry))) (1 + record_length (get_or entry 0 0))
unfolding step_found
found_answered s entry room some l f =
    rw (ne_eqb (length entry) 0 some, le-ltb (length entry - 1) (record_length (get_or entry 0 0)) l, le-ltb room 8 f) refl

-- a step of a station that is kept, by a whole entry
pub step_is : (s : Station) (e : Entry) → Kept s → length e.bytes ≡ record_length e.kind → step_of (station_bytes s) (entry_bytes e) 8 ≡ Answers (entry_of s e.kind e.bytes) (1 + record_length e.kind)
unfolding step_of step_on
step_is s e k w =
    let n = record_length e.kind in
    let all : take n e.bytes ≡ e.bytes = take_all n e.bytes (omega (arith, w)) in
    ap (λ (r : Option Station). step_on r (entry_bytes e) 8) (kept_back s k)
    ∙ found_answered s (entry_bytes e) 8 (λ z. omega (arith, z)) (omega (arith, w)) (lit≤ tt)
    ∙ ap (λ (l : List ℕ). Answers (entry_of s e.kind l) (1 + n)) all

-- counts stop at their largest value
counted_fit : (k : Counts) (e : Event) → CountsFit k → CountsFit (counted_of k e)
unfolding counted_of raised_by
counted_fit k Nothing f = f
counted_fit k Claim f = record { claims_fit = omega (arith, min-le_left largest_count (k.claims + 1)); removals_fit = f.removals_fit; meetings_fit = f.meetings_fit }
counted_fit k Removal f = record { claims_fit = f.claims_fit; removals_fit = omega (arith, min-le_left largest_count (k.removals + 1)); meetings_fit = f.meetings_fit }
counted_fit k (Meetings met) f = record { claims_fit = f.claims_fit; removals_fit = f.removals_fit; meetings_fit = omega (arith, min-le_left largest_count (k.meetings + met)) }

call_counts : (s : Station) (c : Call) → CountsFit s.counts → CountsFit (after s c).counts
unfolding after online_of offline_of passive_of connect_of poll_of accepted_poll accepted_after polled_of refused_poll
call_counts s (poll bytes) f =
    either (λ (x : Polled). CountsFit x.station.counts) (eqb (record_refusal bytes s.applications) 0) _ _ (counted_fit s.counts _ f) f
call_counts s online f = counted_fit s.counts _ f
call_counts s offline f = counted_fit s.counts _ f
call_counts s passive f = counted_fit s.counts _ f

-- what an entry leaves is kept: with the same settings and applications
call_kept : (s : Station) (c : Call) → Kept s → Kept (after s c)
call_kept s c k =
    let m = call_made s c k.sound in
    record {
      sound = call_sound s c k.sound;
      given =
          ap (λ (q : Parameters). settings_of (header_with q (after s c).applications)) m.settings_stay
          ∙ ap (λ (n : ℕ). settings_of (header_with s.p n)) m.applications_stay
          ∙ k.given
          ∙ ap Ok (sym m.settings_stay);
      settings_fit = subst (λ (q : Parameters). PlainFits (plain_of q)) (sym m.settings_stay) k.settings_fit;
      counts_fit = call_counts s c k.counts_fit;
    }

pub entry_kept : (s : Station) (e : Entry) → Kept s → Kept (then s e)
unfolding entry_of after
entry_kept s e k =
    let P : Polled → Type 0 = λ x. Kept x.station in
    either P (eqb e.kind 0) _ _ (call_kept s online k)
    (either P (eqb e.kind 1) _ _ (call_kept s offline k)
    (either P (eqb e.kind 2) _ _ (call_kept s passive k) (call_kept s (poll e.bytes) k)))

-- The theorem: stepped along whole entries, a station that is kept leaves the bytes of the station that the trace's run leaves, and its
-- answers are the trace's, byte by byte.
pub stepped_along :
    (s : Station) (es : List Entry)
    → Kept s
    → Whole es
    → (bytes_after (station_bytes s) es ≡ station_bytes (along s es).station) × (bytes_said (station_bytes s) es ≡ written (along s es).answers)
unfolding step_into step_answer written
stepped_along s [] k w = (refl, refl)
stepped_along s (e ∷ es) k w =
    let polled = entry_of s e.kind e.bytes in
    let is = step_is s e k w.0 in
    let left : step_into (step_of (station_bytes s) (entry_bytes e) 8) (station_bytes s) ≡ station_bytes (then s e) = ap (λ (x : Stepped). step_into x (station_bytes s)) is ∙ into_any (station_bytes s) (then s e) (bytes_long s) in
    let said : step_answer (step_of (station_bytes s) (entry_bytes e) 8) (replicate 8 0) ≡ bytes_of (answer_word polled.answer) = ap (λ (x : Stepped). step_answer x (replicate 8 0)) is ∙ said_whole (answer_word polled.answer) in
    let more = stepped_along (then s e) es (entry_kept s e k) w.1 in (
      ap (λ (b : List ℕ). bytes_after b es) left ∙ more.0,
      ap (λ (b : List ℕ). b ++ bytes_said (step_into (step_of (station_bytes s) (entry_bytes e) 8) (station_bytes s)) es) said
          ∙ ap (λ (b : List ℕ). bytes_of (answer_word polled.answer) ++ bytes_said b es) left
          ∙ ap (λ (b : List ℕ). bytes_of (answer_word polled.answer) ++ b) more.1,
    )
