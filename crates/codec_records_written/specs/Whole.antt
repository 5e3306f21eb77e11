-- What a poll record is, byte by byte, and what the calls write (document 01, "Station": poll record). And that writing and reading
-- undo each other, as a statement; the proof is in proofs/Written.
use Rattle.std.specs.Prelude.{ℕ, zero, suc, ◌+◌, ◌*◌, ◌<◌, ◌≡◌, List, [], ◌++◌, Bool, true, false, length}
use Rattle.codec_fields.specs.Fields.{low_bytes, Bytes}
use Rattle.codec_telegrams.specs.Words.{telegram_word, TelegramFits}
use Rattle.codec_decisions.specs.Decisions.{decision_word, DecisionFits}
use Rattle.codec_telegrams.specs.declared.Telegram.{Telegram}
use Rattle.codec_decisions.specs.declared.Decision.{Decision}
use Rattle.codec_records.specs.declared.Head.{Head}
use Rattle.codec_records.specs.Records.{head_of, decision_at, telegram_at, record_refusal}
use Rattle.codec_records_written.specs.Stored.{head_word, HeadFits, head_stored, decision_stored, telegram_stored}

-- parts 0, 1, .. k - 1, one after the other
unfoldable pub each : (ℕ → List ℕ) → ℕ → List ℕ
each part zero = []
each part (suc k) = each part k ++ part k

-- the two decisions of an application, normal then high priority
abbrev pub application_bytes : (ℕ → Bool → Decision) → ℕ → List ℕ
application_bytes decisions a = low_bytes 3 (decision_word (decisions a false)) ++ low_bytes 3 (decision_word (decisions a true))

-- a telegram
abbrev pub telegram_bytes : (ℕ → Telegram) → ℕ → List ℕ
telegram_bytes telegrams j = low_bytes 4 (telegram_word (telegrams j))

-- a poll record for n applications: 8 bytes of head, then per application two decisions of 3 bytes, then per telegram 4 bytes
unfoldable pub record_bytes : Head → ℕ → (ℕ → Bool → Decision) → (ℕ → Telegram) → List ℕ
record_bytes h n decisions telegrams =
    low_bytes 8 (head_word h) ++ (each (application_bytes decisions) n ++ each (telegram_bytes telegrams) h.telegrams)

-- s with the decisions of the first k of n applications written, one call each
unfoldable pub decisions_stored : List ℕ → ℕ → (ℕ → Bool → Decision) → ℕ → List ℕ
decisions_stored s n decisions zero = s
decisions_stored s n decisions (suc a) =
    decision_stored (decision_stored (decisions_stored s n decisions a) n a false (decisions a false)) n a true (decisions a true)

-- s with the first k telegrams after n applications written, one call each
unfoldable pub telegrams_stored : List ℕ → ℕ → (ℕ → Telegram) → ℕ → List ℕ
telegrams_stored s n telegrams zero = s
telegrams_stored s n telegrams (suc j) = telegram_stored (telegrams_stored s n telegrams j) n j (telegrams j)

-- s with a whole record written: the head, each decision, each telegram
unfoldable pub record_stored : List ℕ → Head → ℕ → (ℕ → Bool → Decision) → (ℕ → Telegram) → List ℕ
record_stored s h n decisions telegrams = telegrams_stored (decisions_stored (head_stored s h) n decisions n) n telegrams h.telegrams

-- the numbers of a whole record fit their widths, and no decision sends 0 bytes
pub record RecordFits (h : Head) (n : ℕ) (decisions : ℕ → Bool → Decision) (telegrams : ℕ → Telegram) : Type 0 where
  pub head : HeadFits h
  pub decided : (a : ℕ) (high : Bool) → a < n → DecisionFits (decisions a high)
  pub heard : (j : ℕ) → j < h.telegrams → TelegramFits (telegrams j)

-- s is accepted and says this head, these decisions and these telegrams
pub record Says (s : List ℕ) (h : Head) (n : ℕ) (decisions : ℕ → Bool → Decision) (telegrams : ℕ → Telegram) : Type 0 where
  pub accepted : record_refusal s n ≡ 0
  pub head : head_of s ≡ h
  pub decided : (a : ℕ) (high : Bool) → a < n → decision_at s n a high ≡ decisions a high
  pub heard : (j : ℕ) → j < h.telegrams → telegram_at s n j ≡ telegrams j

-- writing and reading undo each other
pub record RoundTrip : Type 0 where
  -- bytes of the right length, with a whole record written over them by the calls, are that record
  pub written :
      (s : List ℕ) (h : Head) (n : ℕ) (decisions : ℕ → Bool → Decision) (telegrams : ℕ → Telegram)
      → length s ≡ 8 + 6 * n + 4 * h.telegrams
      → record_stored s h n decisions telegrams ≡ record_bytes h n decisions telegrams
  -- a record whose numbers fit is accepted and says what it is made of
  pub says :
      (h : Head) (n : ℕ) (decisions : ℕ → Bool → Decision) (telegrams : ℕ → Telegram)
      → RecordFits h n decisions telegrams
      → Says (record_bytes h n decisions telegrams) h n decisions telegrams
  -- an accepted record is the record of what it says, and the numbers that it says fit
  pub is : (s : List ℕ) (n : ℕ) → Bytes s → record_refusal s n ≡ 0 → s ≡ record_bytes (head_of s) n (decision_at s n) (telegram_at s n)
  pub fits : (s : List ℕ) (n : ℕ) → record_refusal s n ≡ 0 → RecordFits (head_of s) n (decision_at s n) (telegram_at s n)
  -- what is written reads back, over any bytes of the right length
  pub reads_back :
      (s : List ℕ) (h : Head) (n : ℕ) (decisions : ℕ → Bool → Decision) (telegrams : ℕ → Telegram)
      → RecordFits h n decisions telegrams
      → length s ≡ 8 + 6 * n + 4 * h.telegrams
      → Says (record_stored s h n decisions telegrams) h n decisions telegrams
  -- what is read is written back as it was, over any bytes of its length
  pub writes_back :
      (s : List ℕ) (n : ℕ)
      → Bytes s
      → record_refusal s n ≡ 0
      → (over : List ℕ)
      → length over ≡ length s
      → record_stored over (head_of s) n (decision_at s n) (telegram_at s n) ≡ s
