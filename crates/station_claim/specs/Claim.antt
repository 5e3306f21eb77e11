-- do_claim_token, which handle_lost_token needs too.
use Rattle.std.specs.Prelude.{Bool, false, cond}
use Rattle.bit_times.specs.declared.micros.Micros.{Micros}
use Rattle.settings.specs.declared.parameters.Parameters.{Parameters}
use Rattle.ring.specs.Ring.{Ring, claim_of}
use Rattle.codec_answers.specs.declared.Outcome.TheVariants as outcome
use Rattle.codec_answers.specs.declared.Sent.TheVariants as sent
use Rattle.station.specs.declared.state.State.{State}
use Rattle.station.specs.declared.state.State.TheVariants.{ClaimToken}
use Rattle.station.specs.declared.parts.Core.{Core}
use Rattle.station.specs.Whole.{RingStep}
use Rattle.station.specs.Steps.{to_use_token, pause_of, done_of, transmit_of, ring_step_of}

-- do_claim_token: the token is sent once more, or is ours
unfoldable pub claim_next : Micros → Bool → State
claim_next now first = cond first (ClaimToken false) (to_use_token now)

-- do_claim_token
unfoldable pub claim_token_of : Parameters → Core → Ring → Micros → Bool → RingStep
claim_token_of p c ring now first =
    let pause = pause_of p c now in
    cond pause.over (ring_step_of (transmit_of p (claim_next now first) pause.core now (sent.Token p.address)) (claim_of ring))
    (ring_step_of (done_of (ClaimToken first) pause.core outcome.Delay) ring)
