-- The ring after a third attempt, and how many are missing from it. The proof is in proofs/Removals.
use Rattle.std.specs.Prelude.{None, Option, Some}
use Prim.Native.Nat.{ℕ}
use Rattle.std.proofs.Math.Bool.{false}
use Rattle.bit_times.specs.declared.micros.Micros.{Micros}
use Rattle.settings.specs.declared.parameters.Parameters.{Parameters}
use Rattle.ring.specs.Ring.{Ring, next_of, remove_of}
use Rattle.station.specs.declared.state.PassTokenAttempt.{PassTokenAttempt}
use Rattle.station.specs.declared.parts.Core.{Core}
use Rattle.station_pass.specs.Pass.{destination_of, pass_token_of}

-- how many are missing once the next station is taken out: it alone, and nobody where there is none
abbrev pub goes : Option ℕ → ℕ
goes None = 0
goes (Some a) = 1

-- the ring after a third attempt
abbrev pub after_third : Parameters → Core → Ring → Micros → PassTokenAttempt → Ring
after_third p c r now k = (pass_token_of p c (remove_of r (destination_of p.address (next_of r))) now false k).ring
