-- What the calls write into a poll record (document 01, "Station": poll record). Assumes nothing.
use Rattle.std.specs.Prelude.{ℕ, ◌+◌, ◌*◌, ◌^◌, ◌<◌, ◌≤◌, List, [], ◌∷◌, Bool, cond, ltb}
use Rattle.codec_fields.specs.Fields.{bit_number, stored_of, put_all}
use Rattle.codec_telegrams.specs.Words.{telegram_word}
use Rattle.codec_decisions.specs.Decisions.{decision_word}
use Rattle.codec_telegrams.specs.declared.Telegram.{Telegram}
use Rattle.codec_decisions.specs.declared.Decision.{Decision}
use Rattle.codec_records.specs.declared.Head.{Head}
use Rattle.codec_records.specs.Records.{head_widths, most_telegrams}

-- the values of a head's fields, in the order of head_widths
abbrev pub head_values : Head → List ℕ
head_values h = h.clock ∷ bit_number h.transmitting ∷ h.telegrams ∷ h.pending ∷ []

-- the word that says a head
unfoldable pub head_word : Head → ℕ
head_word h = put_all 0 head_widths (head_values h)

-- a head whose numbers fit their widths, with at most 8 telegrams
abbrev pub HeadFits : Head → Type 0
HeadFits h = (h.clock < 2 ^ 48) × (h.telegrams ≤ most_telegrams) × (h.pending < 2 ^ 11)

-- s with a head written into its first 8 bytes
unfoldable pub head_stored : List ℕ → Head → List ℕ
head_stored s h = stored_of s 0 8 (head_word h)

-- s with the decision of application a of n written into its 3 bytes; as it is for an application past the last
unfoldable pub decision_stored : List ℕ → ℕ → ℕ → Bool → Decision → List ℕ
decision_stored s n a high d = cond (ltb a n) (stored_of s (8 + 3 * (2 * a + bit_number high)) 3 (decision_word d)) s

-- s with telegram j after n applications written into its 4 bytes
unfoldable pub telegram_stored : List ℕ → ℕ → ℕ → Telegram → List ℕ
telegram_stored s n j t = stored_of s (8 + 6 * n + 4 * j) 4 (telegram_word t)
