-- Determined, for the public calls of codec_fields.
use Rattle.std.specs.Prelude.{◌≡◌}
use Rattle.std.proofs.Common.{◌∙◌, sym}
use Rattle.theorem_determined.specs.Claim.{Determined}
use Rattle.theorem_determined.specs.Refused.{same_answer}
use Rattle.codec_fields.proofs.value.FieldValue.from_number.Reads as from-number-reads
use Rattle.codec_fields.proofs.value.FieldValue.number.Reads as number-reads
use Rattle.codec_fields.proofs.value.U8FieldValue.from_number.Reads as u8-from-number-reads
use Rattle.codec_fields.proofs.value.U8FieldValue.number.Reads as u8-number-reads
use Rattle.codec_fields.proofs.value.U16FieldValue.from_number.Reads as u16-from-number-reads
use Rattle.codec_fields.proofs.value.U16FieldValue.number.Reads as u16-number-reads
use Rattle.codec_fields.proofs.value.U32FieldValue.from_number.Reads as u32-from-number-reads
use Rattle.codec_fields.proofs.value.U32FieldValue.number.Reads as u32-number-reads
use Rattle.codec_fields.proofs.value.U64FieldValue.from_number.Reads as u64-from-number-reads
use Rattle.codec_fields.proofs.value.U64FieldValue.number.Reads as u64-number-reads
use Rattle.codec_fields.proofs.value.BoolFieldValue.from_number.Reads as bool-from-number-reads
use Rattle.codec_fields.proofs.value.BoolFieldValue.number.Reads as bool-number-reads
use Rattle.codec_fields.proofs.words.bits_at.Reads as bits-at-reads
use Rattle.codec_fields.proofs.words.field.Reads as field-reads
use Rattle.codec_fields.proofs.words.put.Reads as put_reads
use Rattle.codec_fields.proofs.words.check_zero.Reads as check-zero-reads
use Rattle.codec_fields.proofs.bytes.load.Reads as load-reads
use Rattle.codec_fields.proofs.bytes.store.Reads as store-reads

-- of the trait of the types that a field may hold: at each such type the value with a number, and the number of a value
pub from_number :
    (T : _) (L : _) (C : _) (F : _) (d : _) (G : _) (e : _) (κs : _) (a : _) (r₁ r₂ : _) (s₁ s₂ : _)
    → from-number-reads.Post T L C F d G e κs a r₁ s₁
    → from-number-reads.Post T L C F d G e κs a r₂ s₂
    → r₁ ≡ r₂
from_number T L C F d G e κs a r₁ r₂ s₁ s₂ p q = p ∙ sym q

pub number :
    (T : _) (L : _) (C : _) (F : _) (d : _) (G : _) (e : _) (κs : _) (a : _) (r₁ r₂ : _) (s₁ s₂ : _)
    → number-reads.Post T L C F d G e κs a r₁ s₁
    → number-reads.Post T L C F d G e κs a r₂ s₂
    → r₁ ≡ r₂
number T L C F d G e κs a r₁ r₂ s₁ s₂ p q = p ∙ sym q

-- and of the five types themselves
pub u8_from_number : Determined u8-from-number-reads.Post
u8_from_number κs a r₁ r₂ s₁ s₂ p q = p ∙ sym q

pub u8_number : Determined u8-number-reads.Post
u8_number κs a r₁ r₂ s₁ s₂ p q = p ∙ sym q

pub u16_from_number : Determined u16-from-number-reads.Post
u16_from_number κs a r₁ r₂ s₁ s₂ p q = p ∙ sym q

pub u16_number : Determined u16-number-reads.Post
u16_number κs a r₁ r₂ s₁ s₂ p q = p ∙ sym q

pub u32_from_number : Determined u32-from-number-reads.Post
u32_from_number κs a r₁ r₂ s₁ s₂ p q = p ∙ sym q

pub u32_number : Determined u32-number-reads.Post
u32_number κs a r₁ r₂ s₁ s₂ p q = p ∙ sym q

pub u64_from_number : Determined u64-from-number-reads.Post
u64_from_number κs a r₁ r₂ s₁ s₂ p q = p ∙ sym q

pub u64_number : Determined u64-number-reads.Post
u64_number κs a r₁ r₂ s₁ s₂ p q = p ∙ sym q

pub bool_from_number : Determined bool-from-number-reads.Post
bool_from_number κs a r₁ r₂ s₁ s₂ p q = p ∙ sym q

pub bool_number : Determined bool-number-reads.Post
bool_number κs a r₁ r₂ s₁ s₂ p q = p ∙ sym q

pub bits_at : Determined bits-at-reads.Post
bits_at κs a r₁ r₂ s₁ s₂ p q = p ∙ sym q

-- and of `field` at each type that a field may hold
pub field :
    (T : _) (L : _) (C : _) (F : _) (d : _) (G : _) (e : _) (κs : _) (a : _) (r₁ r₂ : _) (s₁ s₂ : _)
    → field-reads.Post T L C F d G e κs a r₁ s₁
    → field-reads.Post T L C F d G e κs a r₂ s₂
    → r₁ ≡ r₂
field T L C F d G e κs a r₁ r₂ s₁ s₂ p q = p ∙ sym q

-- and of `put` at each type that a field may hold
pub put :
    (T : _) (L : _) (C : _) (F : _) (d : _) (G : _) (e : _) (κs : _) (a : _) (r₁ r₂ : _) (s₁ s₂ : _)
    → put_reads.Post T L C F d G e κs a r₁ s₁
    → put_reads.Post T L C F d G e κs a r₂ s₂
    → r₁ ≡ r₂
put T L C F d G e κs a r₁ r₂ s₁ s₂ p q = p ∙ sym q

pub check_zero : Determined check-zero-reads.Post
check_zero κs a r₁ r₂ s₁ s₂ p q = same_answer r₁ r₂ (p ∙ sym q)

pub load : Determined load-reads.Post
load κs a r₁ r₂ s₁ s₂ p q = p ∙ sym q

-- `store` returns nothing and writes: what it leaves in the lent slice is fixed, every byte
pub store : (κs : _) (a : _) (r₁ r₂ : _) (s₁ s₂ : _) → store-reads.Post κs a r₁ s₁ → store-reads.Post κs a r₂ s₂ → s₁.0.now ≡ s₂.0.now
store κs a r₁ r₂ s₁ s₂ p q = p ∙ sym q
