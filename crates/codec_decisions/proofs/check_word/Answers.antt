use Rattle.std.proofs.Common.{[], ◌∷◌, sym, ap, ◌∙◌}
use Rattle.std.proofs.lemmas.Bool.{lt-leb}
use Rattle.codec_fields.specs.Fields.{zero_or14, zeros_or14}
use Rattle.codec_fields.proofs.Laws.{zeros_field}
use Rattle.codec_decisions.specs.Decisions.{decision_refusal}
use Rattle.codec_decisions.proofs.check_word.Goals as goal

-- fields that end the word are zero if they are as one
pub returns-then-not-field : goal.returns-then-not-field
unfolding decision_refusal zeros_or14
returns-then-not-field c =
    simp (lt-leb _ _ c.if-word.false, ← c.field.ensures, c.if-not-field.true)
    (c.check_zero.ensures ∙ ap zero_or14 c.bits_at.ensures ∙ sym (zeros_field (1 ∷ 7 ∷ 8 ∷ 7 ∷ []) _))
