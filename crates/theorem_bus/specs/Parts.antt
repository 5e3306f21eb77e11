-- A station's entries, answered one by one, and its part of the report. Assumes nothing.
use Prim.Native.Nat.{ℕ, zero, suc, ◌+◌, ◌*◌, ◌<◌, ◌≤◌}
use Rattle.std.specs.Prelude.{◌≡◌, length, take, drop}
use Rattle.std.proofs.Math.Path.{refl, sym, ap}
use Rattle.std.proofs.Common.{◌∙◌, ⊎_elim, arith, eq-or-lt_of_le, mul-zero, mul-suc, mul-le-mul_left, ne_eqb, le-ltb, length-drop, drop_at, drop-drop}
use mathlib.Core.List.{List, [], ◌∷◌, ◌++◌, append_assoc, append-nil}
use Rattle.std.proofs.Math.ListN.{length-append}
use Rattle.std.proofs.lemmas.List.{drop-append-le, take-append-le}
use Rattle.codec_fields.specs.Fields.{bytes_of}
use Rattle.codec_fields.proofs.Laws.{low_length}
use Rattle.codec_answers.specs.declared.Answer.{Answer}
use Rattle.codec_answers.specs.Answers.{answer_word}
use Rattle.codec_records_written.specs.Whole.{record_bytes}
use Rattle.station.specs.declared.station.Station.{Station}
use Rattle.station_answer.specs.Answer.{Polled}
use Rattle.station_command.specs.Command.{online_of}
use Rattle.station_poll.specs.Poll.{poll_of}
use Rattle.trace.specs.Entries.{record_length, entry_of}
use Rattle.theorem_every_trace.specs.Statement.{Entry, Whole, laid, along}
use Rattle.bus_setup.specs.Setup.{stations_of}
use Rattle.bus_run.specs.Run.{start_seat, record_of, record_for, polled_for, seat_after, bus_after, bus_at, answer_at, record_at, tick_report, report_of, entries_of}
use Rattle.theorem_bus.specs.Statement.{fresh_at, part_of}

-- Entries after entries.

laid_append : (es fs : List Entry) → laid (es ++ fs) ≡ laid es ++ laid fs
laid_append [] fs = refl
laid_append (e ∷ es) fs = ap (λ (l : List ℕ). e.kind ∷ (e.bytes ++ l)) (laid_append es fs) ∙ ap (λ (l : List ℕ). e.kind ∷ l) (sym (append_assoc e.bytes (laid es) (laid fs)))

whole_append : (es fs : List Entry) → Whole es → Whole fs → Whole (es ++ fs)
whole_append [] fs w v = v
whole_append (e ∷ es) fs w v = (w.0, whole_append es fs w.1 v)

along_answers : (s : Station) (es fs : List Entry) → (along s (es ++ fs)).answers ≡ (along s es).answers ++ (along (along s es).station fs).answers
along_answers s [] fs = refl
along_answers s (e ∷ es) fs = ap (λ (l : List Answer). (entry_of s e.kind e.bytes).answer ∷ l) (along_answers (entry_of s e.kind e.bytes).station es fs)

along_station : (s : Station) (es fs : List Entry) → (along s (es ++ fs)).station ≡ (along (along s es).station fs).station
along_station s [] fs = refl
along_station s (e ∷ es) fs = along_station (entry_of s e.kind e.bytes).station es fs

-- whole entries end with 0
pub along_ending : (s : Station) (es : List Entry) → (along s es).ending ≡ 0
along_ending s [] = refl
along_ending s (e ∷ es) = along_ending (entry_of s e.kind e.bytes).station es

-- An entry that is a record.

record_long : (setup : List ℕ) (k place : ℕ) → 8 ≤ length (record_at setup k place)
unfolding record_for record_of record_bytes
record_long setup k place = rw (length-append, low_length) (omega arith)

polls : (s : Station) (bytes : List ℕ) → 8 ≤ length bytes → entry_of s (length bytes) bytes ≡ poll_of s bytes
unfolding entry_of
polls s bytes h =
    rw (ne_eqb (length bytes) 0 (λ e. omega arith), ne_eqb (length bytes) 1 (λ e. omega arith), ne_eqb (length bytes) 2 (λ e. omega arith))

own_length : (n : ℕ) → 8 ≤ n → n ≡ record_length n
unfolding record_length
own_length n h = rw (le-ltb n 3 (omega arith))

module _ (setup : List ℕ) (place : ℕ) where
  -- the entry of tick k, and those of the first k ticks
  abbrev pub entry_at : ℕ → Entry
  entry_at k = record { kind = length (record_at setup k place); bytes = record_at setup k place }

  unfoldable pub entries_to : ℕ → List Entry
  entries_to zero = []
  entries_to (suc k) = entries_to k ++ (entry_at k ∷ [])

  pub entries_laid : (k : ℕ) → laid (entries_to k) ≡ entries_of setup place k
  unfolding entries_to entries_of
  entries_laid zero = refl
  entries_laid (suc k) =
      laid_append (entries_to k) (entry_at k ∷ [])
      ∙ rw (entries_laid k, append-nil (record_at setup k place))

  pub entries_whole : (k : ℕ) → Whole (entries_to k)
  unfolding entries_to
  entries_whole zero = tt
  entries_whole (suc k) = whole_append (entries_to k) (entry_at k ∷ []) (entries_whole k) (own_length (length (record_at setup k place)) (record_long setup k place), tt)

  pub entries_many : (k : ℕ) → length (entries_to k) ≡ k
  unfolding entries_to
  entries_many zero = refl
  entries_many (suc k) = length-append (entries_to k) (entry_at k ∷ []) ∙ rw (entries_many k) (omega arith)

  pub start_online : ((bus_at setup 0).seats place).station ≡ (online_of (fresh_at setup place)).station
  unfolding bus_at start_seat
  start_online = refl

  pub next_station : (k : ℕ) → (poll_of ((bus_at setup k).seats place).station (record_at setup k place)).station ≡ ((bus_at setup (suc k)).seats place).station
  unfolding bus_at bus_after seat_after polled_for
  next_station k = refl

  pub next_answer : (k : ℕ) → (poll_of ((bus_at setup k).seats place).station (record_at setup k place)).answer ≡ answer_at setup k place
  unfolding polled_for
  next_answer k = refl

  -- the station after the entries of the first k ticks is the one on the bus
  station_is : (k : ℕ) → (along (online_of (fresh_at setup place)).station (entries_to k)).station ≡ ((bus_at setup k).seats place).station
  unfolding entries_to
  station_is zero = sym start_online
  station_is (suc k) =
      along_station (online_of (fresh_at setup place)).station (entries_to k) (entry_at k ∷ [])
      ∙ ap (λ (s : Station). (along s (entry_at k ∷ [])).station) (station_is k)
      ∙ ap (λ (x : Polled). x.station) (polls ((bus_at setup k).seats place).station (record_at setup k place) (record_long setup k place))
      ∙ next_station k

  -- and their answers are its part of the report
  pub answers_are : (k : ℕ) → (along (online_of (fresh_at setup place)).station (entries_to k)).answers ≡ part_of setup place k
  unfolding entries_to part_of
  answers_are zero = refl
  answers_are (suc k) =
      along_answers (online_of (fresh_at setup place)).station (entries_to k) (entry_at k ∷ [])
      ∙ ap (λ (l : List Answer). l ++ (along (along (online_of (fresh_at setup place)).station (entries_to k)).station (entry_at k ∷ [])).answers) (answers_are k)
      ∙ ap (λ (s : Station). part_of setup place k ++ (along s (entry_at k ∷ [])).answers) (station_is k)
      ∙ ap (λ (x : Polled). part_of setup place k ++ (x.answer ∷ [])) (polls ((bus_at setup k).seats place).station (record_at setup k place) (record_long setup k place))
      ∙ ap (λ (a : Answer). part_of setup place k ++ (a ∷ [])) (next_answer k)

-- The report's bytes.

tick_length : (setup : List ℕ) (k n : ℕ) → length (tick_report setup k n) ≡ 8 * n
unfolding tick_report
tick_length setup k zero = refl
tick_length setup k (suc n) =
    length-append (tick_report setup k n) (bytes_of (answer_word (answer_at setup k n)))
    ∙ rw (tick_length setup k n, low_length 8 (answer_word (answer_at setup k n))) (omega arith)

report_length_lem : (setup : List ℕ) (k : ℕ) → length (report_of setup k) ≡ 8 * (stations_of setup * k)
unfolding report_of
report_length_lem setup zero = rw (mul-zero (stations_of setup))
report_length_lem setup (suc k) =
    length-append (report_of setup k) (tick_report setup k (stations_of setup))
    ∙ rw (report_length_lem setup k, tick_length setup k (stations_of setup), mul-suc (stations_of setup) k) (omega arith)

-- a part of the front of a list
front : (n : ℕ) (l m : List ℕ) (part : List ℕ) → n + 8 ≤ length l → take 8 (drop n l) ≡ part → take 8 (drop n (l ++ m)) ≡ part
front n l m part h e =
    let a : n ≤ length l = omega arith in
    let b : 8 ≤ length (drop n l) = rw length-drop (omega arith) in
    rw (drop-append-le n l m a, take-append-le 8 (drop n l) m b) e

tick_part : (setup : List ℕ) (k place n : ℕ) → place < n → take 8 (drop (8 * place) (tick_report setup k n)) ≡ bytes_of (answer_word (answer_at setup k place))
unfolding tick_report
tick_part setup k place zero h = absurd (omega arith)
tick_part setup k place (suc n) h =
    ⊎_elim
    (λ (e : place ≡ n).
    rw (e, drop_at (tick_report setup k n) (bytes_of (answer_word (answer_at setup k n))) (8 * n) (tick_length setup k n)))
    (λ (l : place < n).
    front (8 * place) (tick_report setup k n) (bytes_of (answer_word (answer_at setup k n))) (bytes_of (answer_word (answer_at setup k place))) (rw (tick_length setup k n) (omega arith)) (tick_part setup k place n l))
    (eq-or-lt_of_le (omega arith))

-- the 8 bytes of a station at a tick
pub report_part :
    (setup : List ℕ) (place k t : ℕ)
    → place < stations_of setup
    → k < t
    → take 8 (drop (8 * (stations_of setup * k + place)) (report_of setup t)) ≡ bytes_of (answer_word (answer_at setup k place))
unfolding report_of
report_part setup place k zero h l = absurd (omega arith)
report_part setup place k (suc t) h l =
    ⊎_elim
    (λ (e : k ≡ t). rw e (last t))
    (λ (m : k < t).
    front (8 * (stations_of setup * k + place)) (report_of setup t) (tick_report setup t (stations_of setup)) (bytes_of (answer_word (answer_at setup k place))) (rw (report_length_lem setup t) (earlier m)) (report_part setup place k t h m))
    (eq-or-lt_of_le (omega arith))
  where
    earlier : k < t → 8 * (stations_of setup * k + place) + 8 ≤ 8 * (stations_of setup * t)
    earlier m =
        let more : stations_of setup * suc k ≤ stations_of setup * t = mul-le-mul_left (stations_of setup) (omega arith) in
        let is : stations_of setup * suc k ≡ stations_of setup * k + stations_of setup = mul-suc (stations_of setup) k in
        omega arith

    last : (t : ℕ) → take 8 (drop (8 * (stations_of setup * t + place)) (report_of setup t ++ tick_report setup t (stations_of setup))) ≡ bytes_of (answer_word (answer_at setup t place))
    last t =
        let e : 8 * (stations_of setup * t + place) ≡ 8 * (stations_of setup * t) + 8 * place = omega arith in
        rw (e, ← drop-drop (8 * place) (8 * (stations_of setup * t)) (report_of setup t ++ tick_report setup t (stations_of setup)), drop_at (report_of setup t) (tick_report setup t (stations_of setup)) (8 * (stations_of setup * t)) (report_length_lem setup t))
        (tick_part setup t place (stations_of setup) h)
