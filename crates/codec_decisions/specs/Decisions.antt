-- An application's decision (document 01, "Station": poll record). The list of widths says how a word is cut, most significant bit
-- first. Assumes nothing.
use Rattle.std.specs.Prelude.{ℕ, ◌^◌, ◌<◌, List, [], ◌∷◌, cond, eqb, leb}
use Rattle.codec_fields.specs.Fields.{is_one, zeros_or14, put_all, reads}
use Rattle.codec_decisions.specs.declared.Decision.{Decision}
use Rattle.codec_decisions.specs.declared.Decision.TheVariants.{Decline, Send, SendExpectReply}

-- sends 1, expects reply 1, reply address 7, length 8, zero 7
abbrev pub decision_widths : List ℕ
decision_widths = 1 ∷ 1 ∷ 7 ∷ 8 ∷ 7 ∷ []

-- what a decision's word says
unfoldable pub decision_of : ℕ → Decision
decision_of w =
    reads decision_widths
    (λ sends expects address length spare. cond (is_one sends) (cond (is_one expects) (SendExpectReply address length) (Send length)) Decline)
    w

-- 15 for a send of 0 bytes
unfoldable pub length_refusal : ℕ → ℕ
length_refusal length = cond (eqb length 0) 15 0

-- 14 where a bit is one that should be zero: all of them without a send, the address without a reply, the last 7, whatever stands
-- above the 24 bits; after that 15 for a send of 0 bytes
unfoldable pub decision_refusal : ℕ → ℕ
decision_refusal w =
    cond (leb (2 ^ 24) w) 14
    (reads decision_widths
    (λ sends expects address length spare.
    cond (is_one sends)
    (cond (eqb spare 0) (cond (is_one expects) (length_refusal length) (cond (eqb address 0) (length_refusal length) 14)) 14)
    (zeros_or14 (expects ∷ address ∷ length ∷ spare ∷ [])))
    w)

-- the values of a decision's fields, in that order
abbrev pub decision_values : Decision → List ℕ
decision_values Decline = 0 ∷ 0 ∷ 0 ∷ 0 ∷ 0 ∷ []
decision_values (Send length) = 1 ∷ 0 ∷ 0 ∷ length ∷ 0 ∷ []
decision_values (SendExpectReply address length) = 1 ∷ 1 ∷ address ∷ length ∷ 0 ∷ []

-- the word that says a decision
unfoldable pub decision_word : Decision → ℕ
decision_word d = put_all 0 decision_widths (decision_values d)

-- a decision whose numbers fit their widths, and which sends no 0 bytes
abbrev pub DecisionFits : Decision → Type 0
DecisionFits Decline = Unit {0}
DecisionFits (Send length) = (0 < length) × (length < 2 ^ 8)
DecisionFits (SendExpectReply address length) = (address < 2 ^ 7) × (0 < length) × (length < 2 ^ 8)
