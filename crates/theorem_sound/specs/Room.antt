-- What rule 25 buys, as a statement: in accepted settings the end of hold is never before the token time that it is counted from, a gap
-- question due or not. The proof is in proofs/Room, with what settings without that room came to.
use Rattle.std.specs.Prelude.{ℕ, ◌+◌, ◌≤◌, ◌≡◌, List, ◌⊎◌}
use Rattle.bit_times.specs.declared.micros.Micros.{Micros}
use Rattle.settings.specs.declared.parameters.Parameters.{Parameters}
use Rattle.settings_rules.specs.Rules.{applications_refusal}
use Rattle.settings.specs.Settings.{rotation_time_of}
use Rattle.settings_build.specs.Build.{first_refusal, plain_of}
use Rattle.station.specs.Parts.{fresh_station}
use Rattle.station_hold.specs.Hold.{hold_less}
use Rattle.theorem_sound.specs.Lines.{NoToken, HoldSet}
use Rattle.theorem_sound.specs.Sound.{Call, run}

-- What is said.

-- an end of hold with room: it was set as `HoldSet` of Lines.antt says, and is not before the token time that it counts from. It is the
-- very sum of document 01, that time + the rotation time − what a gap poll takes off: neither the 0 nor the largest number, at which
-- `end_of` stops, has acted
pub record Roomy (p : Parameters) (last end : Micros) : Type 0 where
  pub set : HoldSet p last end
  pub not_before : set.from.0 ≤ end.0
  pub exact : end.0 + (hold_less p set.gap).0 ≡ set.from.0 + (rotation_time_of p).0

-- every station that calls make of a new one with accepted settings: no token was used yet, or its end of hold has room
abbrev pub Theorem : Type 0
Theorem =
    (p : Parameters) (n : ℕ) (cs : List Call)
    → first_refusal (plain_of p) ≡ 0
    → applications_refusal n ≡ 0
    → NoToken (run (fresh_station p n) cs).core.last_token_time (run (fresh_station p n) cs).core.end_token_hold_time
    ⊎ Roomy p (run (fresh_station p n) cs).core.last_token_time (run (fresh_station p n) cs).core.end_token_hold_time
