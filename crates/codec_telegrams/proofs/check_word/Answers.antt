use Rattle.std.proofs.Common.{[], ◌∷◌, sym, ap, ◌∙◌}
use Rattle.std.proofs.lemmas.Bool.{lt-leb}
use Rattle.codec_fields.specs.Fields.{zero_or14, zeros_or14}
use Rattle.codec_fields.proofs.Laws.{zeros_field}
use Rattle.codec_telegrams.specs.Words.{telegram_refusal}
use Rattle.codec_telegrams.proofs.check_word.Goals as goal

-- fields that end the word are zero if they are as one
pub returns-in-0 : goal.returns-in-0
unfolding telegram_refusal zeros_or14
returns-in-0 c =
    simp (lt-leb _ _ c.if-word.false, ← c.field.ensures, c.in-0.is)
    (c.check_zero.ensures ∙ ap zero_or14 c.bits_at.ensures ∙ sym (zeros_field (1 ∷ 2 ∷ 4 ∷ 9 ∷ []) _))

pub returns-in-1 : goal.returns-in-1
unfolding telegram_refusal zeros_or14
returns-in-1 c =
    simp (lt-leb _ _ c.if-word.false, ← c.field.ensures, c.in-1.is)
    (c.check_zero-in-1.ensures ∙ ap zero_or14 c.bits_at-in-1.ensures ∙ sym (zeros_field (7 ∷ 7 ∷ 1 ∷ 2 ∷ 4 ∷ 9 ∷ []) _))

pub returns-in-2 : goal.returns-in-2
unfolding telegram_refusal zeros_or14
returns-in-2 c =
    simp (lt-leb _ _ c.if-word.false, ← c.field.ensures, c.in-2.is)
    (c.check_zero-in-2.ensures ∙ ap zero_or14 c.bits_at-in-2.ensures ∙ sym (zeros_field (2 ∷ 4 ∷ 9 ∷ []) _))
