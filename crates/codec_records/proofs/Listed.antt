-- The telegrams of a record one after the other, as a loop over them goes. Assumes nothing.
use Rattle.std.specs.Prelude.{ℕ, suc, ◌+◌, ◌-◌, ◌<◌, ◌≡◌, refl, List, [], ◌∷◌, eqb}
use Rattle.std.proofs.Common.{◌∙◌, ap, add-one, arith}
use Rattle.codec_records.specs.Records.{telegram_at}
use Rattle.codec_records.specs.Telegrams.{telegrams_from}

-- telegram j and those after it
pub telegrams_next :
    (s : List ℕ) (n count j : ℕ)
    → j < count
    → telegrams_from s n count j (count - j) ≡ (telegram_at s n j, eqb (j + 1) count) ∷ telegrams_from s n count (j + 1) (count - (j + 1))
telegrams_next s n count j h =
    let e : count - j ≡ suc (count - (j + 1)) = omega arith in
    ap (telegrams_from s n count j) e ∙ rw add-one refl

-- none after the last
pub telegrams_none : (s : List ℕ) (n count j : ℕ) → (j < count → ⊥) → telegrams_from s n count j (count - j) ≡ []
telegrams_none s n count j h = let e : count - j ≡ 0 = omega arith in ap (telegrams_from s n count j) e
