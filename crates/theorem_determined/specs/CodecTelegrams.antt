-- Determined, for the public calls of codec_telegrams.
use Rattle.std.proofs.Common.{◌∙◌, sym}
use Rattle.theorem_determined.specs.Refused.{same_answer}
use Rattle.theorem_determined.specs.Claim.{Determined}
use Rattle.codec_telegrams.proofs.ResponseState.from_number.Reads as from-number-reads
use Rattle.codec_telegrams.proofs.U8FromResponseState.from.Reads as from-response-state-reads
use Rattle.codec_telegrams.proofs.TelegramFromU64.from.Reads as to-telegram-reads
use Rattle.codec_telegrams.proofs.U64FromTelegram.from.Reads as from-telegram-reads
use Rattle.codec_telegrams.proofs.check_word.Reads as check-word-reads

pub from_number : Determined from-number-reads.Post
from_number κs a r₁ r₂ s₁ s₂ p q = p ∙ sym q

pub from_response_state : Determined from-response-state-reads.Post
from_response_state κs a r₁ r₂ s₁ s₂ p q = p ∙ sym q

pub to_telegram : Determined to-telegram-reads.Post
to_telegram κs a r₁ r₂ s₁ s₂ p q = p ∙ sym q

pub from_telegram : Determined from-telegram-reads.Post
from_telegram κs a r₁ r₂ s₁ s₂ p q = p ∙ sym q

pub check_word : Determined check-word-reads.Post
check_word κs a r₁ r₂ s₁ s₂ p q = same_answer r₁ r₂ (p ∙ sym q)
