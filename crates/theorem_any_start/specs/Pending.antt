-- Why AnyStart asks that no byte is pending, as a statement: a poll that reports more pending bytes than the station knew of marks the bus
-- active. A station that waits for the lost token then sends nothing, however late the poll comes. The proof is in proofs/Pending.
use Rattle.std.specs.Prelude.{ℕ, ◌<◌, ◌≡◌, List, Option}
use Rattle.settings_build.specs.Build.{first_refusal, plain_of}
use Rattle.codec_records.specs.Records.{head_of, record_refusal}
use Rattle.codec_answers.specs.declared.Sent.TheVariants.{Nothing}
use Rattle.station.specs.declared.station.Station.{Station}
use Rattle.station_poll.specs.Poll.{poll_of}
use Rattle.theorem_silence.specs.Silence.{Online}
use Rattle.theorem_any_start.specs.Listening.{Hears}

-- the poll is accepted and hears no telegram; its clock and whether a transmission goes on are free
abbrev pub PendingHoldsOff : Type 0
PendingHoldsOff = (s : Station) (bytes : List ℕ) (request : Option ℕ) → first_refusal (plain_of s.p) ≡ 0 → Online s → Hears request s.state → record_refusal bytes s.applications ≡ 0 → (head_of bytes).telegrams ≡ 0 → s.core.pending_bytes < (head_of bytes).pending → (poll_of s bytes).answer.sent ≡ Nothing
