-- Worked poll records for one application. Assumes nothing.
use Rattle.std.specs.Prelude.{ℕ, ◌≡◌, refl, Bool, true, false, cond, List, [], ◌∷◌, ◌++◌, replicate}
use Rattle.codec_fields.specs.Fields.{field_of, put_of, zeros_or14, be_from, load_of, over_of, stored_of}
use Rattle.codec_telegrams.specs.Words.{telegram_of, telegram_refusal, telegram_word}
use Rattle.codec_decisions.specs.Decisions.{decision_of, length_refusal, decision_refusal, decision_word}
use Rattle.codec_telegrams.specs.declared.Telegram.{Telegram}
use Rattle.codec_telegrams.specs.declared.Telegram.TheVariants.{Token}
use Rattle.codec_decisions.specs.declared.Decision.{Decision}
use Rattle.codec_decisions.specs.declared.Decision.TheVariants.{Decline, SendExpectReply}
use Rattle.codec_records.specs.declared.Head.{Head}
use Rattle.codec_records.specs.Records.{head_of, decision_at, telegram_at, entry_refusal, words_refusal, record_refusal}
use Rattle.codec_records_written.specs.Stored.{head_word, head_stored, decision_stored, telegram_stored}
use Rattle.codec_records_written.specs.Whole.{each, record_bytes, decisions_stored, telegrams_stored, record_stored}

-- clock 1000, 5 pending bytes; the argument is 8 × the telegram count
abbrev start : ℕ → List ℕ
start eights = 0 ∷ 0 ∷ 0 ∷ 0 ∷ 3 ∷ 232 ∷ eights ∷ 5 ∷ []

-- the normal decision sends 9 bytes and awaits a reply from 7; the high one is given
abbrev asked : List ℕ → List ℕ
asked high = 195 ∷ 132 ∷ 128 ∷ [] ++ high

-- a token from 5 to 9, with its last byte given
abbrev token : ℕ → List ℕ
token last = 4 ∷ 133 ∷ 0 ∷ last ∷ []

-- a decision that declines
abbrev none : List ℕ
none = 0 ∷ 0 ∷ 0 ∷ []

-- the same by its head, decisions and telegrams
abbrev said : Head
said = record { clock = 1000; pending = 5; telegrams = 1; transmitting = false }

abbrev decided : ℕ → Bool → Decision
decided a high = cond high Decline (SendExpectReply 7 9)

abbrev heard : ℕ → Telegram
heard j = Token 9 5

-- a good record, what it says and how it is written over other bytes; then each refusal: short, nine telegrams, a byte more, a zero bit, no bytes, both at once, a telegram's zero bit
pub examples :
    (record_refusal (start 8 ++ asked none ++ token 0) 1 ≡ 0)
    × (head_of (start 8 ++ asked none ++ token 0) ≡ said)
    × (decision_at (start 8 ++ asked none ++ token 0) 1 0 false ≡ SendExpectReply 7 9)
    × (decision_at (start 8 ++ asked none ++ token 0) 1 0 true ≡ Decline)
    × (telegram_at (start 8 ++ asked none ++ token 0) 1 0 ≡ Token 9 5)
    × (record_bytes said 1 decided heard ≡ start 8 ++ asked none ++ token 0)
    × (record_stored (replicate 18 255) said 1 decided heard ≡ start 8 ++ asked none ++ token 0)
    × (record_refusal (0 ∷ 0 ∷ 0 ∷ []) 1 ≡ 12)
    × (record_refusal (start 72 ++ asked none) 1 ≡ 13)
    × (record_refusal (start 0 ++ asked none ++ (0 ∷ [])) 1 ≡ 12)
    × (record_refusal (start 0 ++ asked (0 ∷ 0 ∷ 128 ∷ [])) 1 ≡ 14)
    × (record_refusal (start 0 ++ asked (128 ∷ 0 ∷ 0 ∷ [])) 1 ≡ 15)
    × (record_refusal (start 0 ++ asked (128 ∷ 0 ∷ 1 ∷ [])) 1 ≡ 14)
    × (record_refusal (start 8 ++ asked none ++ token 1) 1 ≡ 14)
unfolding head_of decision_at telegram_at entry_refusal words_refusal record_refusal telegram_of telegram_refusal zeros_or14 decision_of length_refusal decision_refusal field_of be_from load_of head_word head_stored decision_stored telegram_stored decision_word telegram_word put_of over_of stored_of each record_bytes decisions_stored telegrams_stored record_stored
examples = (refl, refl, refl, refl, refl, refl, refl, refl, refl, refl, refl, refl, refl, refl)
