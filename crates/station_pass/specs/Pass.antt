-- do_pass_token, in the order of active.rs.
use Rattle.std.specs.Prelude.{ℕ, ◌+◌, Bool, Option, Some, None, cond, ltb}
use Rattle.bit_times.specs.declared.micros.Micros.{Micros}
use Rattle.settings.specs.declared.parameters.Parameters.{Parameters}
use Rattle.ring.specs.declared.GapState.{GapState}
use Rattle.ring.specs.declared.GapState.TheVariants.{Waiting, DoPoll}
use Rattle.ring.specs.Ring.{Ring, next_of, witness_of, gap_of}
use Rattle.codec_answers.specs.declared.Outcome.TheVariants as outcome
use Rattle.codec_answers.specs.declared.Sent.TheVariants as sent
use Rattle.station.specs.declared.state.PassTokenAttempt.{PassTokenAttempt}
use Rattle.station.specs.declared.state.State.TheVariants.{PassToken, CheckTokenPass, AwaitStatusResponse}
use Rattle.station.specs.declared.parts.Core.{Core}
use Rattle.station.specs.Whole.{RingStep}
use Rattle.station.specs.Parts.{with_gap}
use Rattle.station.specs.Steps.{to_use_token, pause_of, done_of, transmit_of, ring_step_of}

-- do_pass_token: the gap's turn: a count above the settings' starts a walk from own, a walk goes on from
-- where it is. The pass that ends a walk is not counted
unfoldable pub gap_advanced : Parameters → Ring → GapState → GapState
gap_advanced p ring (Waiting count) =
    cond (ltb p.gap_wait_rotations count) (gap_of ring p.address p.highest_station_address) (Waiting (count + 1))
gap_advanced p ring (DoPoll current) = gap_of ring current p.highest_station_address

-- whom the token is passed to, by who is next: the next station, and ourselves when we are alone (document 02)
abbrev pub destination_of : ℕ → Option ℕ → ℕ
destination_of own None = own
destination_of own (Some a) = a

-- do_pass_token, on who is next once the ring has witnessed the pass: with nobody the token is ours again, else the pass is checked
unfoldable pub pass_sent_on : Option ℕ → Parameters → Core → Micros → PassTokenAttempt → ℕ → Ring → RingStep
pass_sent_on None p c now attempt destination witnessed = ring_step_of (transmit_of p (to_use_token now) c now (sent.Token destination)) witnessed
pass_sent_on (Some a) p c now attempt destination witnessed = ring_step_of (transmit_of p (CheckTokenPass attempt) c now (sent.Token destination)) witnessed

-- do_pass_token: the token is sent, and the ring witnesses the pass. Who is next is asked for before that and again after it, as in
-- the Rust (`asked_again` of Laws: both answers are the same)
unfoldable pub pass_send : Parameters → Core → Ring → Micros → PassTokenAttempt → RingStep
pass_send p c ring now attempt =
    let destination = destination_of p.address (next_of ring) in
    let witnessed = witness_of ring p.address destination in
    pass_sent_on (next_of witnessed) p c now attempt destination witnessed

-- do_pass_token, on the gap state: a gap question or the token
unfoldable pub pass_poll_on : GapState → Parameters → Core → Ring → Micros → PassTokenAttempt → RingStep
pass_poll_on (Waiting count) p c ring now attempt = pass_send p c ring now attempt
pass_poll_on (DoPoll current) p c ring now attempt =
    ring_step_of (transmit_of p (AwaitStatusResponse current) c now (sent.StatusRequest current)) ring

-- do_pass_token: a gap question or the token
unfoldable pub pass_poll : Parameters → Core → Ring → Micros → PassTokenAttempt → RingStep
pass_poll p c ring now attempt = pass_poll_on c.gap_state p c ring now attempt

-- do_pass_token
unfoldable pub pass_token_of : Parameters → Core → Ring → Micros → Bool → PassTokenAttempt → RingStep
pass_token_of p c ring now gap attempt =
    let pause = pause_of p c now in
    cond pause.over
    (cond gap (pass_poll p (with_gap pause.core (gap_advanced p ring c.gap_state)) ring now attempt) (pass_send p pause.core ring now attempt))
    (ring_step_of (done_of (PassToken gap attempt) pause.core outcome.Delay) ring)
