-- Determined, for the public calls of codec_frames.
use Rattle.std.specs.Prelude.{ℕ, ◌≡◌, Result, Err}
use Rattle.std.proofs.Common.{◌∙◌, sym}
use Rattle.theorem_determined.specs.Claim.{Determined}
use Rattle.codec_frames.specs.declared.Frame.{Frame}
use Rattle.codec_frames.specs.Laws.{numbered_same}
use Rattle.codec_frames.proofs.FrameRefusal.number.Reads as refusal-number-reads
use Rattle.codec_frames.proofs.RefusalFrameRefusal.number.Reads as refusal-refusal-number-reads
use Rattle.codec_frames.proofs.U8FrameRefusal.number.Reads as byte-refusal-number-reads
use Rattle.codec_frames.proofs.StartFromU8.from.Reads as from-reads
use Rattle.codec_frames.proofs.check_byte.Reads as check-byte-reads
use Rattle.codec_frames.proofs.read_frame.Reads as read-frame-reads
use Rattle.codec_frames.proofs.read_number.Reads as read-number-reads
use Rattle.codec_frames.proofs.write_frame.Reads as write-frame-reads

pub from : Determined from-reads.Post
from κs a r₁ r₂ s₁ s₂ p q = p ∙ sym q

pub check_byte : Determined check-byte-reads.Post
check_byte κs a r₁ r₂ s₁ s₂ p q = p ∙ sym q

pub read_frame : Determined read-frame-reads.Post
read_frame κs a r₁ r₂ s₁ s₂ p q = numbered_same r₁ r₂ (p ∙ sym q)

-- and of `read_number` at each type that refuses
pub read_number :
    (T : _) (L : _) (C : _) (F : _) (d : _) (G : _) (e : _) (κs : _) (a : _) (r₁ r₂ : _) (s₁ s₂ : _)
    → read-number-reads.Post T L C F d G e κs a r₁ s₁
    → read-number-reads.Post T L C F d G e κs a r₂ s₂
    → r₁ ≡ r₂
read_number T L C F d G e κs a r₁ r₂ s₁ s₂ p q = p ∙ sym q

-- `write_frame` returns how many bytes or a refusal and writes: both are fixed, the lent slice in every byte
pub write_frame :
    (κs : _) (a : _) (r₁ r₂ : _) (s₁ s₂ : _)
    → write-frame-reads.Post κs a r₁ s₁
    → write-frame-reads.Post κs a r₂ s₂
    → (r₁ ≡ r₂) × (s₁.1.0.now ≡ s₂.1.0.now)
write_frame κs a r₁ r₂ s₁ s₂ p q = (numbered_same r₁ r₂ (p.0 ∙ sym q.0), p.1 ∙ sym q.1)

-- an error says the number that stands in it
err_same : (x y : ℕ) → ◌≡◌ {A = Result Frame ℕ} (Err x) (Err y) → x ≡ y
err_same x y e = cc

-- of the trait of what `read_number` takes: at each such type the number of a refusal
pub refusal_number :
    (T : _) (L : _) (C : _) (F : _) (d : _) (G : _) (e : _) (κs : _) (a : _) (r₁ r₂ : _) (s₁ s₂ : _)
    → refusal-number-reads.Post T L C F d G e κs a r₁ s₁
    → refusal-number-reads.Post T L C F d G e κs a r₂ s₂
    → r₁ ≡ r₂
refusal_number T L C F d G e κs a r₁ r₂ s₁ s₂ p q = err_same r₁ r₂ (sym p ∙ q)

-- and of the two types themselves
pub refusal_refusal_number : Determined refusal-refusal-number-reads.Post
refusal_refusal_number κs a r₁ r₂ s₁ s₂ p q = err_same r₁ r₂ (sym p ∙ q)

pub byte_refusal_number : Determined byte-refusal-number-reads.Post
byte_refusal_number κs a r₁ r₂ s₁ s₂ p q = err_same r₁ r₂ (sym p ∙ q)
