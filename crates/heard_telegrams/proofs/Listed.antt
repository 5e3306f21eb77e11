-- The telegrams that a record lists, heard one after the other as a loop over them goes, are those that are consumed. Assumes nothing.
use Rattle.std.specs.Prelude.{ℕ, zero, suc, ◌+◌, ◌≡◌, List, [], ◌∷◌, Bool}
use Rattle.std.proofs.Common.{◌∙◌, sym, ap, arith}
use Rattle.codec_telegrams.specs.declared.Telegram.{Telegram}
use Rattle.codec_records.specs.Records.{head_of, telegram_at}
use Rattle.codec_records.specs.Telegrams.{telegrams_from, telegrams_of}
use Rattle.heard.specs.Heard.{hear_of, hear_all, consumed_in}
use Rattle.heard.specs.Steps.{hear_more}

-- a table after listed telegrams, all at one clock
abbrev pub hear_listed : List ℕ → ℕ → List (Telegram × Bool) → List ℕ
hear_listed table clock [] = table
hear_listed table clock (t ∷ ts) = hear_listed (hear_of table clock t.0) clock ts

module _ (table s : List ℕ) (n count : ℕ) where
  -- one telegram more
  one_more : (i : ℕ) → hear_all table (consumed_in s n (suc i)) ≡ hear_of (hear_all table (consumed_in s n i)) (head_of s).clock (telegram_at s n i)
  unfolding consumed_in
  one_more i = hear_more table (consumed_in s n i) (record { clock = (head_of s).clock; telegram = telegram_at s n i })

  -- after the first j of them, so many more
  listed_from : (j left : ℕ) → hear_listed (hear_all table (consumed_in s n j)) (head_of s).clock (telegrams_from s n count j left) ≡ hear_all table (consumed_in s n (j + left))
  listed_from j zero = ap (λ (k : ℕ). hear_all table (consumed_in s n k)) (omega arith)
  listed_from j (suc left) =
      ap (λ (x : List ℕ). hear_listed x (head_of s).clock (telegrams_from s n count (suc j) left)) (sym (one_more j))
      ∙ listed_from (suc j) left
      ∙ ap (λ (k : ℕ). hear_all table (consumed_in s n k)) (omega arith)

-- all of them
pub listed_all : (table s : List ℕ) (n count : ℕ) → hear_listed table (head_of s).clock (telegrams_of s n count) ≡ hear_all table (consumed_in s n count)
unfolding hear_all consumed_in
listed_all table s n count =
    let whole : 0 + count ≡ count = omega arith in
    listed_from table s n count 0 count ∙ ap (λ (k : ℕ). hear_all table (consumed_in s n k)) whole
