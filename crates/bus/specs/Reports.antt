-- The run over the ticks and the report that it writes. Assumes nothing.
use Prim.Native.Nat.{ℕ, zero, suc, ◌+◌, ◌*◌, ◌<◌, ◌≤◌}
use Rattle.std.specs.Prelude.{◌≡◌, refl, List, ◌++◌, length, get_or}
use Rattle.std.proofs.Common.{ap, ◌∙◌, subst, append_assoc, append-nil, add-one, mul-suc, mul-le-mul_left, mul-le-mul, mul-zero}
use Rattle.std.proofs.Math.Bool.{false}
use native.Mathlib.Omega.{arith}
use Rattle.std.proofs.Math.Nat.{add-zero}
use borrow.Author.Tests.{eq-eqb, ne_eqb, lt-ltb, le-ltb}
use Rattle.std.proofs.Math.ListN.{drop, length-append}
use Rattle.std.proofs.Math.Dec.{eqb}
use Rattle.codec_fields.specs.Fields.{bytes_of, stored_of}
use Rattle.codec_fields.proofs.Laws.{low_length}
use Rattle.codec_fields.proofs.Stores.{store_next}
use Rattle.codec_answers.specs.Answers.{answer_word}
use Rattle.bus_setup.specs.Setup.{stations_of, tick_of, ticks_of, setup_refusal}
use Rattle.bus_ticks.specs.declared.Bus.{Bus as BusKept}
use Rattle.bus_ticks.specs.declared.Ticked.{Ticked}
use Rattle.bus_ticks.specs.Ticks.{Ticks}
use Rattle.bus_ticks.specs.Starts.{BusStarts, Set, RunIs, run_first, ticked, run_next}
use Rattle.bus_run.specs.Sized.{Sized, sized}
use Rattle.bus_run.specs.Run.{answer_at, tick_report, report_of, report_length, simulate_refusal, simulate_number, simulate_into}

-- A tick's answers.

-- s with the words of the first k places written from a place on, where there is room
unfoldable pub answers_stored : List ℕ → ℕ → List ℕ → ℕ → List ℕ
answers_stored s at words zero = s
answers_stored s at words (suc k) = stored_of (answers_stored s at words k) (at + 8 * k) 8 (get_or words k 0)

pub answers_none : (s : List ℕ) (at : ℕ) (words : List ℕ) → s ≡ answers_stored s at words 0
unfolding answers_stored
answers_none s at words = refl

pub answers_more : (s before after : List ℕ) (at k place word : ℕ) (words : List ℕ) → before ≡ answers_stored s at words k → place ≡ at + 8 * k → word ≡ get_or words k 0 → after ≡ stored_of before place 8 word → after ≡ answers_stored s at words (k + 1)
unfolding answers_stored
answers_more s before after at k place word words p q r e = rw (add-one k, ← p, ← q, ← r, e)

report_length_lem : (setup : List ℕ) (k place : ℕ) → length (tick_report setup k place) ≡ 8 * place
unfolding tick_report
report_length_lem setup k zero = refl
report_length_lem setup k (suc place) =
    length-append (tick_report setup k place) (bytes_of (answer_word (answer_at setup k place)))
    ∙ rw (report_length_lem setup k place, low_length 8 (answer_word (answer_at setup k place))) (omega arith)

module _ (setup : List ℕ) (t n : ℕ) (words : List ℕ) (are : (k : ℕ) → k < n → get_or words k 0 ≡ answer_word (answer_at setup t k)) where
  answers_are :
      (p s : List ℕ) (at k : ℕ)
      → k ≤ n
      → length p ≡ at
      → at + 8 * n ≤ length s
      → answers_stored (p ++ drop at s) at words k ≡ (p ++ tick_report setup t k) ++ drop (at + 8 * k) s
  unfolding answers_stored tick_report
  answers_are p s at zero h e room = rw (append-nil p, add-zero at)
  answers_are p s at (suc k) h e room =
      rw (answers_are p s at k (omega arith) e room, are k (omega arith))
      (store_next (p ++ tick_report setup t k) s (at + 8 * k) 8 (answer_word (answer_at setup t k)) (length-append p (tick_report setup t k) ∙ rw (e, report_length_lem setup t k)) (omega arith) (omega arith)
      ∙ rw (append_assoc p (tick_report setup t k) (bytes_of (answer_word (answer_at setup t k)))) (ap (λ (m : ℕ). (p ++ (tick_report setup t k ++ bytes_of (answer_word (answer_at setup t k)))) ++ drop m s) (more at k)))
    where
      more : (at k : ℕ) → at + 8 * k + 8 ≡ at + 8 * suc k
      more at k = omega arith

-- The run.

-- where the loop over the ticks stands, before tick k
pub record Running (setup : List ℕ) (n tick k clock : ℕ) (c : BusKept) (at : ℕ) (before report : List ℕ) : Type 0 where
  pub run : RunIs setup n tick k clock c
  pub at_is : length (report_of setup k) ≡ at
  pub report_is : report ≡ report_of setup k ++ drop at before

-- what a run leaves: the report, where there is room for it
abbrev pub Reported : BusKept → ℕ → ℕ → ℕ → List ℕ → List ℕ → Type 0
Reported opened n tick ticks before left =
    (setup : List ℕ)
    → Set setup n tick ticks
    → BusStarts setup n opened
    → 8 * (n * ticks) ≤ length before
    → left ≡ report_of setup ticks ++ drop (length (report_of setup ticks)) before

pub running_first : (setup : List ℕ) (n tick ticks : ℕ) (c : BusKept) (before : List ℕ) → Set setup n tick ticks → BusStarts setup n c → Running setup n tick 0 0 c 0 before before
unfolding report_of
running_first setup n tick ticks c before s b =
    record { run = run_first setup n tick ticks c s b; at_is = refl; report_is = refl }

module _ {setup : List ℕ} {n tick ticks k clock : ℕ} {c : BusKept} {at : ℕ} {before report : List ℕ}
    (s : Set setup n tick ticks) (g : Running setup n tick k clock c at before report) (here : k < ticks) (room : 8 * (n * ticks) ≤ length before)
    (sofar : at ≡ 8 * (n * k))
    (chosen : ℕ) (next : BusKept) (r : Ticked) (t : Ticks n clock chosen c next r) (left : List ℕ) (l : left ≡ answers_stored report at r.words n) where
  words_are : (j : ℕ) → j < n → get_or r.words j 0 ≡ answer_word (answer_at setup k j)
  words_are j h = (ticked s g.run chosen next r t).words j h ∙ rw (g.run.clock_is, s.tick_is)

  enough : at + 8 * n ≤ length before
  enough =
      let more : n * suc k ≤ n * ticks = mul-le-mul_left n (omega arith) in
      let is : n * suc k ≡ n * k + n = mul-suc n k in
      omega arith

  length_next : length (report_of setup (suc k)) ≡ at + 8 * n
  unfolding report_of
  length_next =
      length-append (report_of setup k) (tick_report setup k (stations_of setup))
      ∙ rw (g.at_is, report_length_lem setup k (stations_of setup), ← s.stations)

  report_next : left ≡ report_of setup (suc k) ++ drop (at + 8 * n) before
  unfolding report_of
  report_next = rw (l, g.report_is, ← s.stations) (answers_are setup k n r.words words_are (report_of setup k) before at n (omega arith) g.at_is enough)

  pub running_next : Running setup n tick (k + 1) (clock + tick) next (at + 8 * n) before left
  running_next =
      rw (add-one k)
      (record {
        run = run_next s g.run chosen next r t;
        at_is = length_next;
        report_is = report_next;
      })

-- how many bytes were written
pub at_first : (n : ℕ) → 0 ≡ 8 * (n * 0)
at_first n = rw (mul-zero n)

pub at_more : (n k at : ℕ) → at ≡ 8 * (n * k) → at + 8 * n ≡ 8 * (n * (k + 1))
at_more n k at e = let is : n * suc k ≡ n * k + n = mul-suc n k in rw (add-one k) (omega arith)

-- after the last tick
pub running_done :
    (setup : List ℕ) (n tick k ticks clock : ℕ) (c : BusKept) (at : ℕ) (before report : List ℕ)
    → k ≡ ticks
    → Running setup n tick k clock c at before report
    → report ≡ report_of setup ticks ++ drop (length (report_of setup ticks)) before
running_done setup n tick k ticks clock c at before report e g =
    subst (λ (m : ℕ). report ≡ report_of setup m ++ drop (length (report_of setup m)) before) e (rw g.at_is g.report_is)

-- The call.

module _ (setup report : List ℕ) where
  -- refused
  pub simulate_refused : (n : ℕ) → n ≡ setup_refusal setup → (n ≡ 0 → ⊥) → (n ≡ simulate_number setup (length report)) × (report ≡ simulate_into setup report)
  unfolding simulate_number simulate_into simulate_refusal
  simulate_refused n e h =
      let no : eqb (setup_refusal setup) 0 ≡ false = ne_eqb _ _ (λ z. h (e ∙ z)) in
      rw (no, no) (e, refl)

  -- no room
  pub simulate_no_room : setup_refusal setup ≡ 0 → length report < report_length setup → (18 ≡ simulate_number setup (length report)) × (report ≡ simulate_into setup report)
  unfolding simulate_number simulate_into simulate_refusal
  simulate_no_room e h = rw (eq-eqb _ _ e, lt-ltb _ _ h) (refl, refl)

  -- run
  pub simulate_done :
      (left : List ℕ)
      → setup_refusal setup ≡ 0
      → report_length setup ≤ length report
      → left ≡ report_of setup (ticks_of setup) ++ drop (length (report_of setup (ticks_of setup))) report
      → (ticks_of setup * 256 ≡ simulate_number setup (length report)) × (left ≡ simulate_into setup report)
  unfolding simulate_number simulate_into simulate_refusal
  simulate_done left e h l = rw (eq-eqb _ _ e, le-ltb _ _ h) (refl, l)

-- how much is asked for
pub product_small : (setup : List ℕ) (n t : ℕ) → Sized setup → n ≡ stations_of setup → t ≡ ticks_of setup → n * t ≤ 8 * 1000000
product_small setup n t s e f = rw (e, f) (mul-le-mul s.few s.bounded)

pub room_short : (setup : List ℕ) (n t room : ℕ) → n ≡ stations_of setup → t ≡ ticks_of setup → room < 8 * (n * t) → room < report_length setup
room_short setup n t room e f h = rw (e, f) at h

-- the call that runs
pub simulate_ran :
    (setup report left : List ℕ) (n step t : ℕ) (opened : BusKept)
    → setup_refusal setup ≡ 0
    → n ≡ stations_of setup
    → step ≡ tick_of setup
    → t ≡ ticks_of setup
    → 8 * (n * t) ≤ length report
    → BusStarts setup n opened
    → Reported opened n step t report left
    → (t * 256 ≡ simulate_number setup (length report)) × (left ≡ simulate_into setup report)
simulate_ran setup report left n step t opened z en es et room starts r =
    let some = (sized setup z).some in
    let l = r setup (record { stations = en; tick_is = es; ticks_are = et; some = rw es some }) starts room in
    let fits : report_length setup ≤ length report = rw (en, et) at room in
    rw et (simulate_done setup report left z fits (rw et at l))
