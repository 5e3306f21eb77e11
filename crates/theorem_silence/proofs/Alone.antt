-- Nobody next to us in a token pass (document 02, P5): the token goes to ourselves and is held. Whom a pass goes to, and that the question
-- who is next is answered alike before and after the ring has witnessed the pass, are laws of station_pass.
use Rattle.std.specs.Prelude.{ℕ, true, ◌≡◌, [], ◌∷◌}
use Rattle.bit_times.specs.declared.micros.Micros.{Micros}
use Rattle.settings.specs.declared.parameters.Parameters.{Parameters}
use Rattle.ring.specs.Ring.{Ring}
use Rattle.codec_answers.specs.declared.Sent.TheVariants.{Token}
use Rattle.station.specs.declared.state.PassTokenAttempt.TheVariants.{Third}
use Rattle.station.specs.declared.parts.Core.{Core}
use Rattle.station.specs.Steps.{pause_of}
use Rattle.station_check_pass.specs.CheckPass.{resend_of}
use Rattle.theorem_silence.specs.Phases.{holding}
use Rattle.theorem_silence.specs.OnePoll.{Ready, Sends}
use Rattle.theorem_silence.proofs.OnePoll.{resent}

-- the third attempt at the only other station fails: it is taken out, and the next token goes to ourselves and is held
pub third_leaves_nobody : (p : Parameters) (c : Core) (r : Ring) (now : Micros) (x : ℕ) → Ready p c r (x ∷ []) → (pause_of p c now).over ≡ true → Sends p now (Token p.address) (holding []) (resend_of p c r now Third)
third_leaves_nobody p c r now x w e = resent Third p c r now (x ∷ []) w e

-- a third attempt with nobody there takes out nobody, and the token goes to ourselves and is held
pub third_alone : (p : Parameters) (c : Core) (r : Ring) (now : Micros) → Ready p c r [] → (pause_of p c now).over ≡ true → Sends p now (Token p.address) (holding []) (resend_of p c r now Third)
third_alone p c r now w e = resent Third p c r now [] w e
