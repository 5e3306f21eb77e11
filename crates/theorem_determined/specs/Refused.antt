-- A call that gives nothing but a refusal says it by its number: where two such answers have one number, they are one.
use Rattle.std.specs.Prelude.{◌≡◌, refl, Result, Ok, Err, IfOk}
use Rattle.std.proofs.Common.{◌∙◌, sym, ap}
use Rattle.refusals.specs.declared.refusal.Refusal.{Refusal}
use Rattle.refusals.specs.Refusals.{number_in, named}
use Rattle.refusals.proofs.Numbers.{refused, named_back}

pub same_answer : (r q : Result (Unit {0}) Refusal) → number_in r ≡ number_in q → r ≡ q
same_answer (Ok x) (Ok y) h = refl
same_answer (Ok x) (Err e) h = absurd (refused e (sym h))
same_answer (Err e) (Ok x) h = absurd (refused e h)
same_answer (Err e) (Err f) h = ap Err (sym (named_back e) ∙ ap named h ∙ named_back f)

-- where an answer that is not refused has one value, such answers of one number are one
pub same_value : {A : Type 0} (a : A) (r q : Result A Refusal) → number_in r ≡ number_in q → IfOk r (λ x. x ≡ a) → IfOk q (λ x. x ≡ a) → r ≡ q
same_value a (Ok x) (Ok y) h p q = ap Ok (p ∙ sym q)
same_value a (Ok x) (Err e) h p q = absurd (refused e (sym h))
same_value a (Err e) (Ok x) h p q = absurd (refused e h)
same_value a (Err e) (Err f) h p q = ap Err (sym (named_back e) ∙ ap named h ∙ named_back f)
