-- Determined, for the public calls of codec_answers.
use Rattle.std.proofs.Common.{◌∙◌, sym}
use Rattle.theorem_determined.specs.Claim.{Determined}
use Rattle.codec_answers.proofs.U8FromOutcome.from.Reads as from-outcome-reads
use Rattle.codec_answers.proofs.Sent.bytes.Reads as bytes-reads
use Rattle.codec_answers.proofs.SentFieldsFromSent.from.Reads as sent-fields-reads
use Rattle.codec_answers.proofs.SentFromSentFields.from.Reads as fields-sent-reads
use Rattle.codec_answers.proofs.NoticeFieldsFromNotice.from.Reads as notice-fields-reads
use Rattle.codec_answers.proofs.NoticeFromNoticeFields.from.Reads as fields-notice-reads
use Rattle.codec_answers.proofs.Answer.refused.Reads as refused-reads
use Rattle.codec_answers.proofs.Answer.pack.Reads as pack-reads
use Rattle.codec_answers.proofs.Answer.unpack.Reads as unpack-reads

pub from_outcome : Determined from-outcome-reads.Post
from_outcome κs a r₁ r₂ s₁ s₂ p q = p ∙ sym q

pub bytes : Determined bytes-reads.Post
bytes κs a r₁ r₂ s₁ s₂ p q = p ∙ sym q

pub refused : Determined refused-reads.Post
refused κs a r₁ r₂ s₁ s₂ p q = p ∙ sym q

pub pack : Determined pack-reads.Post
pack κs a r₁ r₂ s₁ s₂ p q = p ∙ sym q

pub unpack : Determined unpack-reads.Post
unpack κs a r₁ r₂ s₁ s₂ p q = p ∙ sym q

pub sent_fields : Determined sent-fields-reads.Post
sent_fields κs a r₁ r₂ s₁ s₂ p q = p ∙ sym q

pub fields_sent : Determined fields-sent-reads.Post
fields_sent κs a r₁ r₂ s₁ s₂ p q = p ∙ sym q

pub notice_fields : Determined notice-fields-reads.Post
notice_fields κs a r₁ r₂ s₁ s₂ p q = p ∙ sym q

pub fields_notice : Determined fields-notice-reads.Post
fields_notice κs a r₁ r₂ s₁ s₂ p q = p ∙ sym q
