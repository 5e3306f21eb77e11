-- What the steps of station_hold come to. Where they may end is said in specs/Hold.
use Rattle.std.specs.Prelude.{ℕ, zero, suc, ◌+◌, ◌<◌, Bool, ◌≡◌, List, ltb, eqb, Option, Some, None}
use Rattle.std.proofs.Math.Bool.{true, false}
use Rattle.std.proofs.Math.Path.{refl}
use Rattle.std.proofs.Common.{arith, ltb-true}
use borrow.Table.Steps.{cases}
use Rattle.bit_times.specs.declared.micros.Micros.{Micros}
use Rattle.settings.specs.declared.parameters.Parameters.{Parameters}
use Rattle.codec_decisions.specs.declared.Decision.{Decision}
use Rattle.codec_decisions.specs.declared.Decision.TheVariants as decision
use Rattle.codec_telegrams.specs.declared.Telegram.{Telegram}
use Rattle.codec_answers.specs.declared.Notice.{Notice}
use Rattle.station.specs.declared.state.PassTokenAttempt.TheVariants.{First}
use Rattle.station.specs.declared.state.UseTokenData.{UseTokenData}
use Rattle.station.specs.declared.state.State.{State}
use Rattle.station.specs.declared.state.State.TheVariants.{UseToken, AwaitDataResponse}
use Rattle.station.specs.declared.parts.Core.{Core}
use Rattle.station.specs.Whole.{Step}
use Rattle.station.specs.Parts.{with_activity, with_next_application}
use Rattle.station.specs.Steps.{to_active_idle, waited_of, pause_of, slot_expired_of}
use Rattle.station_hold.specs.Hold.{Asked, declines_at, first_or, valid_response, holds_of, turn_of, asked_from, asked_of, app_transmit_of, use_pass_of, use_apps_after, use_apps_of, use_token_timed, use_token_of, received_of, with_notice, timeout_of, await_data_of}
use Rattle.theorem_sound.specs.Moves.{OneOf}
use Rattle.theorem_sound.proofs.Kept.{hold_last}
use Rattle.theorem_sound.specs.Keeps.{DecisionLow, either, decision_low}
use Rattle.theorem_sound.specs.Walk.{Came, Made}
use Rattle.theorem_sound.proofs.Walk.{sound_at, held_at, paused, slotted, rx, rx_known, hold_set_at, turned, cycle_done, to_idle, to_await_data, to_pass, to_use_again, done_made, transmit_made}
use Rattle.theorem_sound.specs.Hold.{AskedGood, HoldEnds}

-- asking ends with a first application that is none or one of the n
record FirstGood (n : ℕ) (a : Asked) : Type 0 where
  pub asked_first : OneOf n a.first_app

pub turn_good : (a n : ℕ) → a < n → turn_of a n < n
unfolding turn_of
turn_good a n l = cases (ltb (a + 1) n) (λ e. rw e (ltb-true (a + 1) n e)) (λ e. rw e (omega arith))

pub asked_good : (k : ℕ) (bytes : List ℕ) (n a : ℕ) (first : Option ℕ) (high : Bool) → a < n → AskedGood n (asked_from k bytes n a first high)
unfolding asked_from
asked_good zero bytes n a first high l = record { asked = l }
asked_good (suc k) bytes n a first high l =
    let t = turn_good a n l in
    either (AskedGood n) (declines_at bytes n a high) _ _
    (either (AskedGood n) (eqb (turn_of a n) (first_or first a)) _ _ (record { asked = t }) (asked_good k bytes n (turn_of a n) _ high t))
    (record { asked = l })

pub first_or_good : (n : ℕ) (first : Option ℕ) (a : ℕ) → OneOf n first → a < n → first_or first a < n
unfolding first_or
first_or_good n None a f l = l
first_or_good n (Some b) a f l = f

first_good : (k : ℕ) (bytes : List ℕ) (n a : ℕ) (first : Option ℕ) (high : Bool) → a < n → OneOf n first → FirstGood n (asked_from k bytes n a first high)
unfolding asked_from
first_good zero bytes n a first high l f = record { asked_first = f }
first_good (suc k) bytes n a first high l f =
    let o = first_or_good n first a f l in
    either (FirstGood n) (declines_at bytes n a high) _ _
    (either (FirstGood n) (eqb (turn_of a n) (first_or first a)) _ _ (record { asked_first = o }) (first_good k bytes n (turn_of a n) _ high (turn_good a n l) o))
    (record { asked_first = f })

module _ {p : Parameters} {n : ℕ} {now : Micros} {x₀ : State} {c₀ : Core} {E : State → Type 0} where
  -- do_use_token
  use_pass_made : {cycled : Bool} {held : UseTokenData} {c : Core} → HoldEnds E → Came p n now x₀ c₀ (UseToken cycled held) c → Made p n now x₀ c₀ E (use_pass_of c)
  unfolding use_pass_of
  use_pass_made o k = done_made _ (to_pass true First refl k) o.ends_pass

  app_made : {held : UseTokenData} {c : Core} (d : Decision) (high : Bool) → DecisionLow d → held.token_time.0 ≡ c.last_token_time.0 → HoldEnds E → Came p n now x₀ c₀ (UseToken true held) c → Made p n now x₀ c₀ E (app_transmit_of p c now held d high)
  unfolding app_transmit_of
  app_made decision.Decline high l t o k = use_pass_made o k
  app_made (decision.Send length) high l t o k = transmit_made _ l k (o.ends_use _ _)
  app_made {held} (decision.SendExpectReply address length) high l t o k =
      transmit_made _ l.1 (to_await_data address held refl l.0 (held_at k) t k) (o.ends_await _ _)

  apps_after_made : {cycled : Bool} {held : UseTokenData} {c : Core} (bytes : List ℕ) (high : Bool) (a : Asked) → AskedGood n a → FirstGood n a → held.token_time.0 ≡ c.last_token_time.0 → HoldEnds E → Came p n now x₀ c₀ (UseToken cycled held) c → Made p n now x₀ c₀ E (use_apps_after p c now held bytes n high a)
  unfolding use_apps_after with_next_application
  apps_after_made bytes high a g f t o k =
      let q = cycle_done _ (record { token_time = (held_at k).token_time; first_one = f.asked_first }) t (turned a.application g.asked k) in
      either (Made p n now x₀ c₀ E) a.sends _ _ (app_made _ high (decision_low bytes n _ high) t o q) (use_pass_made o q)

  apps_made : {cycled : Bool} {held : UseTokenData} {c : Core} (bytes : List ℕ) (high : Bool) → held.token_time.0 ≡ c.last_token_time.0 → HoldEnds E → Came p n now x₀ c₀ (UseToken cycled held) c → Made p n now x₀ c₀ E (use_apps_of p c now held bytes n high)
  unfolding use_apps_of asked_of
  apps_made bytes high t o k =
      let l = (sound_at k).next_one in
      apps_after_made bytes high _ (asked_good n bytes n _ _ high l) (first_good n bytes n _ _ high l (held_at k).first_one) t o k

  use_timed_made : {held : UseTokenData} {c : Core} (cycled : Bool) (bytes : List ℕ) → held.token_time.0 ≡ c.last_token_time.0 → HoldEnds E → Came p n now x₀ c₀ (UseToken cycled held) c → Made p n now x₀ c₀ E (use_token_timed p c now held cycled bytes n)
  unfolding use_token_timed pause_of waited_of with_activity
  use_timed_made {c = c} cycled bytes t o k =
      let q = paused k in
      either (Made p n now x₀ c₀ E) (pause_of p c now).over _ _
      (either (Made p n now x₀ c₀ E) (holds_of now (pause_of p c now).core.end_token_hold_time) _ _ (apps_made bytes false t o q)
      (either (Made p n now x₀ c₀ E) cycled _ _ (use_pass_made o q) (apps_made bytes true t o q)))
      (done_made _ q (o.ends_use _ _))

  pub use_token_made : {held : UseTokenData} {c : Core} (cycled : Bool) (bytes : List ℕ) → HoldEnds E → Came p n now x₀ c₀ (UseToken cycled held) c → Made p n now x₀ c₀ E (use_token_of p c now held cycled bytes n)
  unfolding use_token_of
  use_token_made {held} {c} cycled bytes o k = use_timed_made cycled bytes (hold_last p c held.token_time) o (hold_set_at k)

  -- do_await_data_response
  received_made : {address : ℕ} {held : UseTokenData} {c : Core} (t : Telegram) → HoldEnds E → E to_active_idle → Came p n now x₀ c₀ (AwaitDataResponse address held) c → Made p n now x₀ c₀ E (received_of p c now address held t)
  unfolding received_of
  received_made {address} {c = c} t o i k =
      let u = to_use_again (rx k) in
      let d = to_idle refl (rx_known c now) (rx k) in
      either (Made p n now x₀ c₀ E) (valid_response t address p.address) _ _ (record { moves = u.by; ends = o.ends_use _ _ }) (record { moves = d.by; ends = i })

  notice_made : (s : Step) (x : Notice) → Made p n now x₀ c₀ E s → Made p n now x₀ c₀ E (with_notice s x)
  unfolding with_notice
  notice_made s x g = record { moves = g.moves; ends = g.ends }

  timeout_made : {address : ℕ} {held : UseTokenData} {c : Core} (bytes : List ℕ) → HoldEnds E → Came p n now x₀ c₀ (AwaitDataResponse address held) c → Made p n now x₀ c₀ E (timeout_of p c now address held bytes n)
  unfolding timeout_of
  timeout_made bytes o k = notice_made _ _ (use_token_made true bytes o (to_use_again k))

  pub await_data_made : {address : ℕ} {held : UseTokenData} {c : Core} (bytes : List ℕ) (count : ℕ) → HoldEnds E → E to_active_idle → Came p n now x₀ c₀ (AwaitDataResponse address held) c → Made p n now x₀ c₀ E (await_data_of p c now address held bytes n count)
  unfolding await_data_of
  await_data_made {c = c} bytes count o i k =
      either (Made p n now x₀ c₀ E) (ltb 0 count) _ _ (received_made _ o i k)
      (either (Made p n now x₀ c₀ E) (slot_expired_of p c now).over _ _ (timeout_made bytes o (slotted k)) (done_made _ (slotted k) (o.ends_await _ _)))
