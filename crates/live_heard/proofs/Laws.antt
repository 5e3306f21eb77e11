-- What the proof uses: each way in which the call ends. Assumes nothing.
use Rattle.std.specs.Prelude.{ℕ, ◌-◌, ◌*◌, ◌<◌, ◌≤◌, ◌≡◌, List, length, take, drop, Option, Some, None}
use Rattle.std.proofs.Math.Path.{refl, ap}
use Rattle.std.proofs.Common.{◌∙◌, arith, lt-ltb, le-ltb}
use Rattle.heard.specs.Heard.{hear_all, consumed_in}
use Rattle.heard.specs.Afresh.{table_length}
use Rattle.live.specs.declared.Consumed.{Consumed}
use Rattle.live.specs.Live.{Stepped, Refusal, Answers, step_of, step_number, step_into, step_answer, consumed_for, Done, done_of}
use Rattle.live.specs.Laws.{Refuses, Begins, no_room_refuses, step_begins, done_number}
use Rattle.live_heard.specs.LiveHeard.{step_beside, step_table}

-- beside a table that is long enough it is the step without; beside a short one the step without room
pub beside_long : (station entry : List ℕ) (room long : ℕ) → table_length ≤ long → step_beside station entry room long ≡ step_of station entry room
unfolding step_beside
beside_long station entry room long l = rw (le-ltb long table_length l)

pub beside_short : (station entry : List ℕ) (room long : ℕ) → long < table_length → step_beside station entry room long ≡ step_of station entry 0
unfolding step_beside
beside_short station entry room long l = rw (lt-ltb long table_length l)

-- a step that refuses leaves answer and table
pub refuses_leaves : (x : Stepped) (entry answer table : List ℕ) → Refuses x → (answer ≡ step_answer x answer) × (table ≡ step_table x entry table)
unfolding step_answer step_table
refuses_leaves (Refusal n) entry answer table r = (refl, refl)
refuses_leaves (Answers polled size) entry answer table r = absurd r

-- What is consumed ends within the entry's bytes, and its record stands behind the first of them; a refusal leaves the table.
module _ (entry table : List ℕ) where
  abbrev size_in : Option Consumed → ℕ
  size_in None = 0
  size_in (Some c) = c.size

  abbrev fed_by : Option Consumed → List ℕ
  fed_by None = table
  fed_by (Some c) = hear_all table (consumed_in (take (c.size - 1) (drop 1 entry)) c.applications c.telegrams)

  pub done_within : (x : Stepped) (c : Consumed) → record { number = c.size * 256; consumed = Some c } ≡ done_of x → Begins entry x → (1 ≤ c.size) × (c.size ≤ length entry)
  unfolding done_of consumed_for
  done_within (Refusal n) c e b = absurd (cc (ap (λ (z : Done). z.consumed) e))
  done_within (Answers polled size) c e b =
      let s : c.size ≡ size = ap (λ (z : Done). size_in z.consumed) e in
      (omega (arith, s, b.0), omega (arith, s, b.1))

  pub done_refused : (x : Stepped) (n : ℕ) → record { number = n; consumed = None } ≡ done_of x → table ≡ step_table x entry table
  unfolding done_of step_table
  done_refused (Refusal m) n e = refl
  done_refused (Answers polled size) n e = absurd (cc (ap (λ (z : Done). z.consumed) e))

  pub done_heard : (x : Stepped) (c : Consumed) (z : List ℕ) → record { number = c.size * 256; consumed = Some c } ≡ done_of x → z ≡ fed_by (Some c) → z ≡ step_table x entry table
  unfolding done_of step_table consumed_for
  done_heard (Refusal n) c z e is = absurd (cc (ap (λ (y : Done). y.consumed) e))
  done_heard (Answers polled size) c z e is = is ∙ ap (λ (y : Done). fed_by y.consumed) e

-- The call's ends: what it returns, and what it leaves of the station, the answer and the table.
module _ (station entry answer table : List ℕ) where
  abbrev Ends : ℕ → List ℕ → List ℕ → List ℕ → Type 0
  Ends n after said fed =
      (n ≡ step_number (step_beside station entry (length answer) (length table)))
      × ((after ≡ step_into (step_beside station entry (length answer) (length table)) station)
      × ((said ≡ step_answer (step_beside station entry (length answer) (length table)) answer) × (fed ≡ step_table (step_beside station entry (length answer) (length table)) entry table)))

  -- the table is too short
  pub ends_short :
      (n : ℕ) (after : List ℕ)
      → length table < table_length
      → n ≡ step_number (step_of station entry 0)
      → after ≡ step_into (step_of station entry 0) station
      → Ends n after answer table
  ends_short n after l a b =
      rw (beside_short station entry (length answer) (length table) l) (a, (b, refuses_leaves (step_of station entry 0) entry answer table (no_room_refuses station entry)))

  module _ (after said : List ℕ) (l : table_length ≤ length table) (a : after ≡ step_into (step_of station entry (length answer)) station) (b : said ≡ step_answer (step_of station entry (length answer)) answer) where
    -- the step refuses
    pub ends_refused : (n : ℕ) → record { number = n; consumed = None } ≡ done_of (step_of station entry (length answer)) → Ends n after said table
    ends_refused n e =
        rw (beside_long station entry (length answer) (length table) l)
        (done_number (step_of station entry (length answer)) _ e, (a, (b, done_refused entry table (step_of station entry (length answer)) n e)))

    module _ (c : Consumed) (e : record { number = c.size * 256; consumed = Some c } ≡ done_of (step_of station entry (length answer))) where
      -- the entry is within its bytes
      pub ends_within : (1 ≤ c.size) × (c.size ≤ length entry)
      ends_within = done_within entry table (step_of station entry (length answer)) c e (step_begins station entry (length answer))

      -- the table is fed
      pub ends_heard : (z : List ℕ) → z ≡ hear_all table (consumed_in (take (c.size - 1) (drop 1 entry)) c.applications c.telegrams) → Ends (c.size * 256) after said z
      ends_heard z is =
          rw (beside_long station entry (length answer) (length table) l)
          (done_number (step_of station entry (length answer)) _ e, (a, (b, done_heard entry table (step_of station entry (length answer)) c z e is)))
