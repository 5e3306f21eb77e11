-- The room that a rotation leaves for a gap poll, by rule 25. That of settings as calls make them the check of a whole record asks this
-- rule alone is proved in proofs/Made.
use Rattle.std.specs.Prelude.{ℕ}
use Rattle.settings.specs.declared.parameters.Parameters.{Parameters}
use Rattle.settings_rules.specs.Rules.{room_refusal}

-- the room that rotation leaves, by rule 25
abbrev pub room_of : Parameters → ℕ
room_of p = room_refusal p.slot_bits p.token_rotation_bits
