-- Laws of runs: how many entries a run may take does not matter, a run goes on where another ended, and what is written. Assumes nothing.
use Rattle.std.specs.Prelude.{ℕ, zero, suc, ◌+◌, ◌-◌, ◌*◌, ◌<◌, ◌≤◌, ◌≡◌, refl, List, [], ◌∷◌, ◌++◌, length, take, drop, ltb}
use Rattle.std.proofs.Common.{sym, ap, ◌∙◌, arith, le_refl, suc-add, ltb-true, ltb-false, length-drop, length-append, lit≤}
use Rattle.std.proofs.Math.Nat.{sub-zero}
use borrow.Table.Steps.{cases}
use Rattle.std.proofs.lemmas.List.{take-append-le, drop-append-le}
use Rattle.codec_fields.specs.Fields.{bytes_of}
use Rattle.codec_answers.specs.declared.Answer.{Answer}
use Rattle.codec_answers.specs.Answers.{answer_word}
use Rattle.station.specs.declared.station.Station.{Station}
use Rattle.station_answer.specs.Answer.{Polled}
use Rattle.trace.specs.Entries.{record_length, entry_of}
use Rattle.trace.specs.Trace.{Run, answered, run_from, run_of, written}
use Rattle.trace.specs.Laws.{preceded_by}
use Rattle.trace.proofs.Laws.{run_none, run_cut, run_full, run_more}

-- the three ways of an entry
pub data Way (kind : ℕ) (rest : List ℕ) (room : ℕ) : Type 0 where
  cuts : length rest < record_length kind → Way kind rest room
  fills : record_length kind ≤ length rest → room < 8 → Way kind rest room
  goes : record_length kind ≤ length rest → 8 ≤ room → Way kind rest room

pub way : (kind : ℕ) (rest : List ℕ) (room : ℕ) → Way kind rest room
way kind rest room =
    cases (ltb (length rest) (record_length kind))
    (λ a. cuts (ltb-true _ _ a))
    (λ a. cases (ltb room 8) (λ b. fills (ltb-false _ _ a) (ltb-true _ _ b)) (λ b. goes (ltb-false _ _ a) (ltb-false _ _ b)))

-- one entry of two runs that may take different numbers of entries, where the rest is the same
enough_step :
    (m n : ℕ) (s : Station) (kind : ℕ) (rest : List ℕ) (room : ℕ)
    → ((x : Station) → run_from m x (drop (record_length kind) rest) (room - 8) ≡ run_from n x (drop (record_length kind) rest) (room - 8))
    → Way kind rest room
    → run_from (suc m) s (kind ∷ rest) room ≡ run_from (suc n) s (kind ∷ rest) room
enough_step m n s kind rest room same (cuts c) = run_cut m s kind rest room c ∙ sym (run_cut n s kind rest room c)
enough_step m n s kind rest room same (fills c f) = run_full m s kind rest room c f ∙ sym (run_full n s kind rest room c f)
enough_step m n s kind rest room same (goes c f) =
    run_more m s kind rest room c f
    ∙ ap (answered (entry_of s kind (take (record_length kind) rest)).answer) (same (entry_of s kind (take (record_length kind) rest)).station)
    ∙ sym (run_more n s kind rest room c f)

-- what follows an entry is shorter than what begins with it
pub shorter : (kind m : ℕ) (rest : List ℕ) → suc (length rest) ≤ suc m → length (drop (record_length kind) rest) ≤ m
shorter kind m rest h = rw (length-drop (record_length kind) rest) (omega (arith, h))

-- the same for any list of entries, where m says how many the first run may take
abbrev Same : ℕ → Type 0
Same m = (n : ℕ) (s : Station) (l : List ℕ) (room : ℕ) → length l ≤ m → length l ≤ n → run_from m s l room ≡ run_from n s l room

enough_more : (m : ℕ) → Same m → Same (suc m)
enough_more m same n s [] room h k = run_none (suc m) s room ∙ sym (run_none n s room)
enough_more m same zero s (kind ∷ rest) room h k = absurd (omega (arith, k))
enough_more m same (suc n) s (kind ∷ rest) room h k =
    enough_step m n s kind rest room (λ x. same n x (drop (record_length kind) rest) (room - 8) (shorter kind m rest h) (shorter kind n rest k)) (way kind rest room)

enough_none : Same zero
enough_none n s [] room h k = run_none zero s room ∙ sym (run_none n s room)
enough_none n s (kind ∷ rest) room h k = absurd (omega (arith, h))

-- a run may take as many entries as there are bytes, or more: nothing changes
pub run_enough : (m : ℕ) → Same m
run_enough zero = enough_none
run_enough (suc m) = enough_more m (run_enough m)

-- where a run over t from s ended with 0, the run over what follows it goes on: with the station that it left, in the room that it left
abbrev Goes : ℕ → ℕ → Station → List ℕ → List ℕ → ℕ → Type 0
Goes m n s t u room =
    (run_from m s t room).ending ≡ 0
    → run_from n s (t ++ u) room
    ≡ preceded_by (run_from m s t room).answers (run_from (length u) (run_from m s t room).station u (room - 8 * length (run_from m s t room).answers))

-- one entry of it
goes_step :
    (m n : ℕ) (s : Station) (kind : ℕ) (rest u : List ℕ) (room : ℕ)
    → ((x : Station) → Goes m n x (drop (record_length kind) rest) u (room - 8))
    → Way kind rest room
    → Goes (suc m) (suc n) s (kind ∷ rest) u room
goes_step m n s kind rest u room on (cuts c) e = absurd (omega (arith, sym (ap (λ (r : Run). r.ending) (run_cut m s kind rest room c)) ∙ e))
goes_step m n s kind rest u room on (fills c f) e = absurd (omega (arith, sym (ap (λ (r : Run). r.ending) (run_full m s kind rest room c f)) ∙ e))
goes_step m n s kind rest u room on (goes c f) e =
    rw first
    (rw (take-append-le (record_length kind) rest u c, drop-append-le (record_length kind) rest u c) at
    (run_more n s kind (rest ++ u) room (rw (length-append rest u) (omega (arith, c))) f)
    ∙ ap (answered polled.answer) (on polled.station (sym (ap (λ (r : Run). r.ending) first) ∙ e))
    ∙ ap (λ (k : ℕ). preceded_by (polled.answer ∷ left.answers) (run_from (length u) left.station u k)) (eight room (length left.answers)))
  where
    polled : Polled
    polled = entry_of s kind (take (record_length kind) rest)

    left : Run
    left = run_from m polled.station (drop (record_length kind) rest) (room - 8)

    first : run_from (suc m) s (kind ∷ rest) room ≡ answered polled.answer left
    first = run_more m s kind rest room c f

    eight : (a n : ℕ) → a - 8 - 8 * n ≡ a - 8 * suc n
    eight a n = omega arith

-- a run that takes no more entries than m goes on where it ended
abbrev On : ℕ → Type 0
On m = (s : Station) (t u : List ℕ) (room : ℕ) → length t ≤ m → Goes m (m + length u) s t u room

on_empty : (m : ℕ) (s : Station) (u : List ℕ) (room : ℕ) → Goes m (m + length u) s [] u room
on_empty m s u room e =
    rw (run_none m s room)
    (run_enough (m + length u) (length u) s u room (omega arith) (omega arith)
    ∙ ap (λ (k : ℕ). run_from (length u) s u k) (sym (sub-zero room)))

on_more : (m : ℕ) → On m → On (suc m)
on_more m on s [] u room h e = on_empty (suc m) s u room e
on_more m on s (kind ∷ rest) u room h e =
    rw (suc-add m (length u))
    (goes_step m (m + length u) s kind rest u room (λ x. on x (drop (record_length kind) rest) u (room - 8) (shorter kind m rest h)) (way kind rest room) e)

on_none : On zero
on_none s [] u room h e = on_empty zero s u room e
on_none s (kind ∷ rest) u room h e = absurd (omega (arith, h))

-- a run goes on where another ended
run_on_from : (m : ℕ) → On m
run_on_from zero = on_none
run_on_from (suc m) = on_more m (run_on_from m)

-- a run over t that ended with 0 is the beginning of every run over t and more
pub run_on :
    (s : Station) (t u : List ℕ) (room : ℕ)
    → (run_of s t room).ending ≡ 0
    → run_of s (t ++ u) room ≡ preceded_by (run_of s t room).answers (run_of (run_of s t room).station u (room - 8 * length (run_of s t room).answers))
run_on s t u room e =
    ap (λ (k : ℕ). run_from k s (t ++ u) room) (length-append t u) ∙ run_on_from (length t) s t u room (le_refl (length t)) e

-- the answers of a run have room, and it ends with at most 18
pub record Ends (room : ℕ) (run : Run) : Type 0 where
  pub fits : 8 * length run.answers ≤ room
  pub number : run.ending ≤ 18

-- one entry of it
ends_step :
    (m : ℕ) (s : Station) (kind : ℕ) (rest : List ℕ) (room : ℕ)
    → ((x : Station) → Ends (room - 8) (run_from m x (drop (record_length kind) rest) (room - 8)))
    → Way kind rest room
    → Ends room (run_from (suc m) s (kind ∷ rest) room)
ends_step m s kind rest room ends (cuts c) = rw (run_cut m s kind rest room c) (record { fits = omega arith; number = lit≤ tt })
ends_step m s kind rest room ends (fills c f) = rw (run_full m s kind rest room c f) (record { fits = omega arith; number = lit≤ tt })
ends_step m s kind rest room ends (goes c f) =
    let more = ends (entry_of s kind (take (record_length kind) rest)).station in
    rw (run_more m s kind rest room c f) (record { fits = omega (arith, more.fits, f); number = more.number })

-- of every run that takes no entry
ends_none : (s : Station) (l : List ℕ) (room : ℕ) → Ends room (run_from zero s l room)
unfolding run_from
ends_none s l room = record { fits = omega arith; number = lit≤ tt }

ends_more : (m : ℕ) → ((s : Station) (l : List ℕ) (room : ℕ) → Ends room (run_from m s l room)) → (s : Station) (l : List ℕ) (room : ℕ) → Ends room (run_from (suc m) s l room)
ends_more m ends s [] room = rw (run_none (suc m) s room) (record { fits = omega arith; number = lit≤ tt })
ends_more m ends s (kind ∷ rest) room = ends_step m s kind rest room (λ x. ends x (drop (record_length kind) rest) (room - 8)) (way kind rest room)

-- of every run
pub run_ends : (m : ℕ) (s : Station) (l : List ℕ) (room : ℕ) → Ends room (run_from m s l room)
run_ends zero = ends_none
run_ends (suc m) = ends_more m (run_ends m)

-- how many bytes answers take
pub written_length : (given : List Answer) → length (written given) ≡ 8 * length given
unfolding written
written_length [] = refl
written_length (a ∷ rest) = length-append (bytes_of (answer_word a)) (written rest) ∙ ap (λ (k : ℕ). 8 + k) (written_length rest) ∙ eight (length rest)
  where
    eight : (n : ℕ) → 8 + 8 * n ≡ 8 * suc n
    eight n = omega arith
