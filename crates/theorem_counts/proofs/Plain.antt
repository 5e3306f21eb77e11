-- Which steps are plain: of all but those that hear telegrams, claim, or remove, nothing is counted, and they do not lead to ClaimToken.
use Rattle.std.specs.Prelude.{ℕ, Bool, true, List, ltb, eqb, Option, Some, None}
use Rattle.std.proofs.Math.Bool.{false}
use Rattle.std.proofs.Math.Path.{refl}
use Rattle.bit_times.specs.declared.micros.Micros.{Micros}
use Rattle.settings.specs.declared.parameters.Parameters.{Parameters}
use Rattle.ring.specs.Ring.{Ring}
use Rattle.ring.specs.declared.GapState.{GapState}
use Rattle.ring.specs.declared.GapState.TheVariants.{Waiting, DoPoll}
use Rattle.codec_decisions.specs.declared.Decision.{Decision}
use Rattle.codec_decisions.specs.declared.Decision.TheVariants as decision
use Rattle.codec_telegrams.specs.declared.Telegram.{Telegram}
use Rattle.codec_telegrams.specs.declared.Telegram.TheVariants as telegram
use Rattle.codec_answers.specs.declared.Outcome.{Outcome}
use Rattle.codec_answers.specs.declared.Sent.{Sent}
use Rattle.codec_answers.specs.declared.Notice.{Notice}
use Rattle.station.specs.declared.state.PassTokenAttempt.{PassTokenAttempt}
use Rattle.station.specs.declared.state.PassTokenAttempt.TheVariants.{First}
use Rattle.station.specs.declared.state.UseTokenData.{UseTokenData}
use Rattle.station.specs.declared.state.State.{State}
use Rattle.station.specs.declared.state.State.TheVariants.{PassiveIdle}
use Rattle.station.specs.declared.parts.Core.{Core}
use Rattle.station.specs.Whole.{Step}
use Rattle.station.specs.Steps.{to_passive_idle, pause_of, slot_expired_of, done_of, transmit_of}
use Rattle.station_hold.specs.Hold.{Asked, valid_response, holds_of, app_transmit_of, use_pass_of, use_apps_after, use_apps_of, use_token_timed, use_token_of, received_of, with_notice, timeout_of, await_data_of}
use Rattle.station_listen.specs.Listen.{respond_of, listen_answered, listen_response, active_response}
use Rattle.codec_telegrams.specs.declared.ResponseState.TheVariants.{Slave}
use Rattle.station_pass.specs.Pass.{pass_sent_on, pass_send, pass_poll_on, pass_poll, pass_token_of}
use Rattle.station_await_status.specs.AwaitStatus.{status_answered, status_unexpected, status_received, await_status_of}
use Rattle.theorem_sound.specs.Keeps.{either}
use Rattle.theorem_counts.specs.Plain.{Elsewhere, Plain, Calm, CalmRing, PlainRing}

pub done_calm : (x : State) (c : Core) (o : Outcome) → Elsewhere x → Calm (done_of x c o)
unfolding done_of
done_calm x c o e = record { plain = record { nothing = refl; elsewhere = e }; none = refl }

pub transmit_calm : (p : Parameters) (x : State) (c : Core) (now : Micros) (s : Sent) → Elsewhere x → Calm (transmit_of p x c now s)
unfolding transmit_of
transmit_calm p x c now s e = record { plain = record { nothing = refl; elsewhere = e }; none = refl }

module _ (p : Parameters) (n : ℕ) (bytes : List ℕ) (count : ℕ) (now : Micros) where
  -- do_use_token
  use_pass_calm : (c : Core) → Calm (use_pass_of c)
  unfolding use_pass_of
  use_pass_calm c = done_calm _ _ _ refl

  app_calm : (c : Core) (held : UseTokenData) (d : Decision) (high : Bool) → Calm (app_transmit_of p c now held d high)
  unfolding app_transmit_of
  app_calm c held decision.Decline high = use_pass_calm c
  app_calm c held (decision.Send size) high = transmit_calm p _ _ now _ refl
  app_calm c held (decision.SendExpectReply a size) high = transmit_calm p _ _ now _ refl

  apps_after_calm : (c : Core) (held : UseTokenData) (high : Bool) (a : Asked) → Calm (use_apps_after p c now held bytes n high a)
  unfolding use_apps_after
  apps_after_calm c held high a = either Calm a.sends _ _ (app_calm _ _ _ high) (use_pass_calm _)

  apps_calm : (c : Core) (held : UseTokenData) (high : Bool) → Calm (use_apps_of p c now held bytes n high)
  unfolding use_apps_of
  apps_calm c held high = apps_after_calm c held high _

  use_timed_calm : (c : Core) (held : UseTokenData) (cycled : Bool) → Calm (use_token_timed p c now held cycled bytes n)
  unfolding use_token_timed
  use_timed_calm c held cycled =
      either Calm (pause_of p c now).over _ _
      (either Calm (holds_of now (pause_of p c now).core.end_token_hold_time) _ _ (apps_calm _ held false)
      (either Calm cycled _ _ (use_pass_calm _) (apps_calm _ held true)))
      (done_calm _ _ _ refl)

  use_token_calm : (c : Core) (held : UseTokenData) (cycled : Bool) → Calm (use_token_of p c now held cycled bytes n)
  unfolding use_token_of
  use_token_calm c held cycled = use_timed_calm _ held cycled

  pub use_token_plain : (c : Core) (held : UseTokenData) (cycled : Bool) → Plain (use_token_of p c now held cycled bytes n)
  use_token_plain c held cycled = (use_token_calm c held cycled).plain

  -- do_await_data_response
  received_plain : (c : Core) (a : ℕ) (held : UseTokenData) (t : Telegram) → Plain (received_of p c now a held t)
  unfolding received_of
  received_plain c a held t =
      either Plain (valid_response t a p.address) _ _ (record { nothing = refl; elsewhere = refl }) (record { nothing = refl; elsewhere = refl })

  noticed_plain : (s : Step) (x : Notice) → Plain s → Plain (with_notice s x)
  unfolding with_notice
  noticed_plain s x g = record { nothing = g.nothing; elsewhere = g.elsewhere }

  pub await_data_plain : (c : Core) (a : ℕ) (held : UseTokenData) → Plain (await_data_of p c now a held bytes n count)
  unfolding await_data_of timeout_of
  await_data_plain c a held =
      either Plain (ltb 0 count) _ _ (received_plain c a held _)
      (either Plain (slot_expired_of p c now).over _ _ (noticed_plain _ _ (use_token_plain _ held true)) (done_calm _ _ _ refl).plain)

  -- do_listen_token, do_active_idle: the answer to a status request
  answered_elsewhere : (r : Ring) (k : ℕ) → Elsewhere (listen_answered r k)
  unfolding listen_answered
  answered_elsewhere r k = either Elsewhere r.ready _ _ refl refl

  pub response_calm : (c : Core) (r : Ring) (source k : ℕ) → CalmRing (listen_response p c r now source k)
  unfolding listen_response respond_of
  response_calm c r source k = either CalmRing (pause_of p c now).over _ _ (transmit_calm p _ _ now _ (answered_elsewhere r k)) (done_calm _ _ _ refl)

  pub active_response_calm : (c : Core) (r : Ring) (source : ℕ) (m : Option ℕ) (k : ℕ) → CalmRing (active_response p c r now source m k)
  unfolding active_response respond_of
  active_response_calm c r source m k = either CalmRing (pause_of p c now).over _ _ (transmit_calm p _ _ now _ refl) (done_calm _ _ _ refl)

  pub passive_response_calm : (c : Core) (r : Ring) (source : ℕ) → CalmRing (respond_of p (PassiveIdle (Some source)) to_passive_idle c r now source Slave)
  unfolding respond_of
  passive_response_calm c r source = either CalmRing (pause_of p c now).over _ _ (transmit_calm p _ _ now _ refl) (done_calm _ _ _ refl)

  -- do_pass_token
  sent_calm : (x : Option ℕ) (c : Core) (a : PassTokenAttempt) (to : ℕ) (r : Ring) → CalmRing (pass_sent_on x p c now a to r)
  unfolding pass_sent_on
  sent_calm None c a to r = transmit_calm p _ _ now _ refl
  sent_calm (Some next) c a to r = transmit_calm p _ _ now _ refl

  send_calm : (c : Core) (r : Ring) (a : PassTokenAttempt) → CalmRing (pass_send p c r now a)
  unfolding pass_send
  send_calm c r a = sent_calm _ c a _ _

  poll_calm : (s : GapState) (c : Core) (r : Ring) (a : PassTokenAttempt) → CalmRing (pass_poll_on s p c r now a)
  unfolding pass_poll_on
  poll_calm (Waiting k) c r a = send_calm c r a
  poll_calm (DoPoll current) c r a = transmit_calm p _ _ now _ refl

  pub pass_calm : (c : Core) (r : Ring) (gap : Bool) (a : PassTokenAttempt) → CalmRing (pass_token_of p c r now gap a)
  unfolding pass_token_of pass_poll
  pass_calm c r gap a =
      either CalmRing (pause_of p c now).over _ _ (either CalmRing gap _ _ (poll_calm _ _ r a) (send_calm _ r a)) (done_calm _ _ _ refl)

  -- do_await_status_response
  answered_plain : (c : Core) (r : Ring) → PlainRing (status_answered c r)
  unfolding status_answered
  answered_plain c r = record { nothing = refl; elsewhere = refl }

  unexpected_plain : (c : Core) (r : Ring) → PlainRing (status_unexpected c r)
  unfolding status_unexpected
  unexpected_plain c r = record { nothing = refl; elsewhere = refl }

  status_plain : (c : Core) (r : Ring) (a : ℕ) (t : Telegram) → PlainRing (status_received p c r a t)
  unfolding status_received
  status_plain c r a (telegram.Token destination source) = unexpected_plain c r
  status_plain c r a telegram.ShortConfirmation = unexpected_plain c r
  status_plain c r a (telegram.Request destination source asks) = unexpected_plain c r
  status_plain c r a (telegram.Response destination source state status) =
      either PlainRing (eqb source a) _ _ (either PlainRing (eqb destination p.address) _ _ (answered_plain c _) (unexpected_plain c r)) (unexpected_plain c r)

  pub await_status_plain : (c : Core) (r : Ring) (a : ℕ) → PlainRing (await_status_of p c r now a bytes n count)
  unfolding await_status_of
  await_status_plain c r a =
      either PlainRing (ltb 0 count) _ _ (status_plain _ r a _)
      (either PlainRing (slot_expired_of p c now).over _ _ (pass_calm _ r false First).plain (done_calm _ _ _ refl).plain)
