use Rattle.std.proofs.Common.{◌≡◌}
use Rattle.codec_records.specs.Records.{words_refusal}
use Rattle.codec_records.specs.Shortcut.{decisions_refusal, telegram_refusal_at}
use Rattle.codec_records.proofs.check_entries.Given as goal

abbrev pub invariant-loop-application : goal.invariant-loop-application
invariant-loop-application l = words_refusal (decisions_refusal l.bytes) l.application ≡ 0

abbrev pub invariant-loop-index : goal.invariant-loop-index
invariant-loop-index l =
    (words_refusal (decisions_refusal l.bytes) l.applications ≡ 0) × (words_refusal (telegram_refusal_at l.bytes l.applications) l.index ≡ 0)
