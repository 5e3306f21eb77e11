-- Determined, for the public calls of codec_records.
use Rattle.std.specs.Prelude.{◌≡◌, refl, List, ◌∷◌, length, Option, Some, None}
use Rattle.std.specs.Iterator.{YieldsFirst}
use Rattle.std.proofs.Common.{◌∙◌, sym, ap, arith}
use Rattle.theorem_determined.specs.Claim.{Determined, DeterminedLent}
use Rattle.theorem_determined.specs.Refused.{same_value}
use Rattle.codec_records.proofs.Head.read.Reads as read-reads
use Rattle.codec_records.proofs.Record.check.Reads as check-reads
use Rattle.codec_records.proofs.Record.head.Reads as head-reads
use Rattle.codec_records.proofs.Record.decision.Reads as record-decision-reads
use Rattle.codec_records.proofs.Record.telegram.Reads as record-telegram-reads
use Rattle.codec_records.proofs.Record.telegrams.Reads as telegrams-reads
use Rattle.codec_records.proofs.telegrams.Telegrams.new.Reads as new-reads
use Rattle.codec_records.proofs.telegrams.TelegramsIterator.next.Reads as next-reads
use Rattle.codec_records.proofs.decision_place.Reads as decision-place-reads
use Rattle.codec_records.proofs.telegram_place.Reads as telegram-place-reads
use Rattle.codec_records.proofs.record_refusal.Reads as record-refusal-reads
use Rattle.codec_records.proofs.read_head.Reads as read-head-reads
use Rattle.codec_records.proofs.decision.Reads as decision-reads
use Rattle.codec_records.proofs.telegram.Reads as telegram-reads

pub read : Determined read-reads.Post
read κs a r₁ r₂ s₁ s₂ p q = p ∙ sym q

pub head : Determined head-reads.Post
head κs a r₁ r₂ s₁ s₂ p q = p ∙ sym q

pub record_decision : Determined record-decision-reads.Post
record_decision κs a r₁ r₂ s₁ s₂ p q = p ∙ sym q

pub record_telegram : Determined record-telegram-reads.Post
record_telegram κs a r₁ r₂ s₁ s₂ p q = p ∙ sym q

pub telegrams : Determined telegrams-reads.Post
telegrams κs a r₁ r₂ s₁ s₂ p q = p ∙ sym q

pub new : Determined new-reads.Post
new κs a r₁ r₂ s₁ s₂ p q = p ∙ sym q

pub decision_place : Determined decision-place-reads.Post
decision_place κs a r₁ r₂ s₁ s₂ p q = p ∙ sym q

pub telegram_place : Determined telegram-place-reads.Post
telegram_place κs a r₁ r₂ s₁ s₂ p q = p ∙ sym q

pub record_refusal : Determined record-refusal-reads.Post
record_refusal κs a r₁ r₂ s₁ s₂ p q = p ∙ sym q

pub read_head : Determined read-head-reads.Post
read_head κs a r₁ r₂ s₁ s₂ p q = p ∙ sym q

pub decision : Determined decision-reads.Post
decision κs a r₁ r₂ s₁ s₂ p q = p ∙ sym q

pub telegram : Determined telegram-reads.Post
telegram κs a r₁ r₂ s₁ s₂ p q = p ∙ sym q

-- the first of the telegrams that are left, if one is, and the others
first : {A : Type 0} (xs : List A) (r₁ r₂ : Option A) (left₁ left₂ : List A) → YieldsFirst (λ left. left) xs r₁ left₁ → YieldsFirst (λ left. left) xs r₂ left₂ → (r₁ ≡ r₂) × (left₁ ≡ left₂)
first xs None None l m p q = (refl, p.1 ∙ sym q.1)
first xs None (Some x) l m p q = absurd (omega (arith, ap length (sym p.0 ∙ q)))
first xs (Some x) None l m p q = absurd (omega (arith, ap length (sym q.0 ∙ p)))
first xs (Some x) (Some y) l m p q = let e : x ∷ l ≡ y ∷ m = sym p ∙ q in (cc, cc)

pub next : DeterminedLent next-reads.Post (λ k s. s.0.now)
next κs a r₁ r₂ s₁ s₂ p q = first _ r₁ r₂ _ _ p.0 q.0

pub check : Determined check-reads.Post
check κs a r₁ r₂ s₁ s₂ p q = same_value _ r₁ r₂ (p.0 ∙ sym q.0) p.1 q.1
