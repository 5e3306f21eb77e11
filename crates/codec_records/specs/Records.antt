-- What a poll record says, by its bytes (document 01, "Station": poll record, and "Refusal numbers": order of a poll). Assumes nothing.
use Rattle.std.specs.Prelude.{ℕ, zero, suc, ◌+◌, ◌-◌, ◌*◌, List, [], ◌∷◌, Bool, cond, length, eqb, ltb}
use Rattle.codec_fields.specs.Fields.{is_one, bit_number, load_of, reads}
use Rattle.codec_telegrams.specs.Words.{telegram_of, telegram_refusal}
use Rattle.codec_decisions.specs.Decisions.{decision_of, decision_refusal}
use Rattle.codec_telegrams.specs.declared.Telegram.{Telegram}
use Rattle.codec_telegrams.specs.declared.Telegram.TheVariants.{ShortConfirmation}
use Rattle.codec_decisions.specs.declared.Decision.{Decision}
use Rattle.codec_decisions.specs.declared.Decision.TheVariants.{Decline}
use Rattle.codec_records.specs.declared.Head.{Head}

-- the first 64 bits: clock 48, transmitting 1, telegram count 4, pending bytes 11
abbrev pub head_widths : List ℕ
head_widths = 48 ∷ 1 ∷ 4 ∷ 11 ∷ []

-- what they say; zeros where there are fewer
unfoldable pub head_of : List ℕ → Head
head_of s =
    reads head_widths
    (λ clock transmitting telegrams pending. record { clock = clock; pending = pending; telegrams = telegrams; transmitting = is_one transmitting })
    (load_of s 0 8)

-- the telegram count
abbrev pub count_of : List ℕ → ℕ
count_of s = reads head_widths (λ clock transmitting telegrams pending. telegrams) (load_of s 0 8)

-- then two decisions of 24 bits for each application, normal and high priority: decision i
abbrev pub decision_word_at : List ℕ → ℕ → ℕ
decision_word_at s i = load_of s (8 + 3 * i) 3

-- then the telegrams of 32 bits, after n applications: telegram j
abbrev pub telegram_word_at : List ℕ → ℕ → ℕ → ℕ
telegram_word_at s n j = load_of s (8 + 6 * n + 4 * j) 4

-- the decision of application a of n; past the last it declines
unfoldable pub decision_at : List ℕ → ℕ → ℕ → Bool → Decision
decision_at s n a high = cond (ltb a n) (decision_of (decision_word_at s (2 * a + bit_number high))) Decline

-- telegram j after n applications; past the end a short confirmation
unfoldable pub telegram_at : List ℕ → ℕ → ℕ → Telegram
telegram_at s n j = cond (ltb (length s) (8 + 6 * n + 4 * j + 4)) ShortConfirmation (telegram_of (telegram_word_at s n j))

-- the refusal of entry i of a record for n applications: first the 2 n decisions, then the telegrams
unfoldable pub entry_refusal : List ℕ → ℕ → ℕ → ℕ
entry_refusal s n i = cond (ltb i (2 * n)) (decision_refusal (decision_word_at s i)) (telegram_refusal (telegram_word_at s n (i - 2 * n)))

-- the first that is not 0 among the refusals of entries 0, 1, .. k - 1, or 0
unfoldable pub words_refusal : (ℕ → ℕ) → ℕ → ℕ
words_refusal refusal zero = 0
words_refusal refusal (suc k) = cond (eqb (words_refusal refusal k) 0) (refusal k) (words_refusal refusal k)

-- the most telegrams that a record lists
abbrev pub most_telegrams : ℕ
most_telegrams = 8

-- under 8 bytes 12; a count above 8 is 13; a length other than 8 + 6 n + 4 times the count 12; then left to right
unfoldable pub record_refusal : List ℕ → ℕ → ℕ
record_refusal s n =
    cond (ltb (length s) 8) 12
    (cond (ltb most_telegrams (count_of s)) 13
    (cond (eqb (length s) (8 + 6 * n + 4 * count_of s)) (words_refusal (entry_refusal s n) (2 * n + count_of s)) 12))
