-- The telegrams of a record as a list. Assumes nothing.
use Rattle.std.specs.Prelude.{ℕ, zero, suc, List, [], ◌∷◌, Bool, eqb}
use Rattle.codec_telegrams.specs.declared.Telegram.{Telegram}
use Rattle.codec_records.specs.Records.{telegram_at}

-- telegrams j, j + 1, .. of a record with count telegrams after n applications, as many as are asked for, each with whether it is the
-- record's last
abbrev pub telegrams_from : List ℕ → ℕ → ℕ → ℕ → ℕ → List (Telegram × Bool)
telegrams_from s n count j zero = []
telegrams_from s n count j (suc left) = (telegram_at s n j, eqb (suc j) count) ∷ telegrams_from s n count (suc j) left

-- all of them
abbrev pub telegrams_of : List ℕ → ℕ → ℕ → List (Telegram × Bool)
telegrams_of s n count = telegrams_from s n count 0 count
