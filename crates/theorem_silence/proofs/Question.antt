-- Why Silence asks that no gap question is due: with one due, the token pass asks it in place of the first token.
use Rattle.std.specs.Prelude.{ℕ, Bool, true, ◌≡◌, List}
use Rattle.std.proofs.Common.{ap, ◌∙◌}
use Rattle.bit_times.specs.declared.micros.Micros.{Micros}
use Rattle.settings.specs.declared.parameters.Parameters.{Parameters}
use Rattle.settings_build.specs.Build.{first_refusal, plain_of}
use Rattle.settings.specs.Settings.{slot_time_of}
use Rattle.ring.specs.Ring.{Ring}
use Rattle.codec_answers.specs.declared.Sent.TheVariants.{StatusRequest}
use Rattle.station.specs.declared.state.PassTokenAttempt.{PassTokenAttempt}
use Rattle.station.specs.declared.state.PassTokenAttempt.TheVariants.{First}
use Rattle.station.specs.declared.state.State.{State}
use Rattle.station.specs.declared.state.State.TheVariants.{PassToken}
use Rattle.station.specs.declared.parts.Core.{Core}
use Rattle.station.specs.declared.station.Station.{Station}
use Rattle.station.specs.Whole.{RingStep}
use Rattle.station.specs.Steps.{pause_of, transmit_of}
use Rattle.station_pass.specs.Pass.{pass_poll_on, pass_token_of}
use Rattle.station_answer.specs.Answer.{Polled, polled_of, step_answer}
use Rattle.station_poll.specs.Poll.{poll_of}
use Rattle.theorem_silence.specs.Silence.{gap_due, Online, Quiet, slot_after, counted}
use Rattle.theorem_silence.specs.Times.{Slotted, slotted, counted_free, counted_paused}
use Rattle.theorem_silence.specs.OnePoll.{quiet_step}
use Rattle.theorem_silence.proofs.OnePoll.{dispatch_pass, asked_step, due_whom}
use Rattle.theorem_silence.specs.Theorem.{clock_of}
use Rattle.theorem_silence.proofs.Theorem.{poll_is, connected_pass}

-- a pass whose pause is over and that has a question due
asked_over : (p : Parameters) (c : Core) (r : Ring) (now : Micros) (gap : Bool) (k : PassTokenAttempt) → gap_due p c r gap ≡ true → (pause_of p c now).over ≡ true → (a : ℕ) × ((pass_token_of p c r now gap k).step.sent ≡ StatusRequest a)
unfolding pass_poll_on transmit_of
asked_over p c r now gap k due e =
    let d = due_whom p c r gap due in
    (d.whom, ap (λ (b : Bool). (pass_token_of p c r now b k).step.sent) d.looks ∙ ap (λ (x : RingStep). x.step.sent) (asked_step p c r now k d.whom d.is_due e))

-- the step of a counted poll in PassToken is the pass
pass_step : (p : Parameters) (w : Slotted p) (s : State) (c : Core) (r : Ring) (now : Micros) (bytes : List ℕ) (n : ℕ) (gap : Bool) → s ≡ PassToken gap First → slot_after c.last_bus_activity now.0 (slot_time_of p).0 ≡ true → quiet_step p s c r now bytes n ≡ pass_token_of p c r now gap First
unfolding quiet_step
pass_step p w s c r now bytes n gap state e = rw (counted_free p w c now e) (dispatch_pass p s c r now bytes n gap First state)

-- with a question due, a counted poll sends a status request
pub question_first : (s : Station) (bytes : List ℕ) (gap : Bool) → first_refusal (plain_of s.p) ≡ 0 → Online s → s.state ≡ PassToken gap First → gap_due s.p s.core s.token_ring gap ≡ true → Quiet s.applications bytes → counted s bytes ≡ true → (a : ℕ) × ((poll_of s bytes).answer.sent ≡ StatusRequest a)
unfolding counted polled_of step_answer
question_first s bytes gap settings on state due q e =
    let c = s.core in
    let r = s.token_ring in
    let w = slotted s.p settings in
    let polled = poll_is s.p s.applications s.counts s.state c r bytes q on (connected_pass s.state gap First state) in
    let step = pass_step s.p w s.state c r (clock_of bytes) bytes s.applications gap state e in
    let asked = asked_over s.p c r (clock_of bytes) gap First due (counted_paused s.p w c (clock_of bytes) e) in
    (asked.0, ap (λ (y : Polled). y.answer.sent) polled ∙ ap (λ (x : RingStep). x.step.sent) step ∙ asked.1)
