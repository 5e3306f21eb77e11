-- The entries of a trace as they are taken off its bytes, one after the other: what an entry says, and what is left behind it.
use Rattle.std.specs.Prelude.{ℕ, ◌≡◌, ◌<◌, ◌≤◌, List, [], ◌∷◌, length, take, drop, Option, None, Result, Ok, Err, MatchOption}
use Rattle.refusals.specs.declared.refusal.Refusal.{Refusal}
use Rattle.refusals.specs.declared.refusal.Refusal.TheVariants.{TraceLength}
use Rattle.trace.specs.declared.entries.Entry.{Entry}
use Rattle.trace.specs.declared.entries.Entry.TheVariants.{Online, Offline, Passive, Poll}
use Rattle.station.specs.declared.station.Station.{Station}
use Rattle.station_answer.specs.Answer.{Polled}
use Rattle.station_poll.specs.Poll.{poll_of}
use Rattle.station_command.specs.Command.{online_of, offline_of, passive_of}
use Rattle.trace.specs.Entries.{record_length}

-- the record's bytes; a command has none
abbrev pub record_of : Entry → List ℕ
record_of (Poll bytes) = bytes.now
record_of Online = []
record_of Offline = []
record_of Passive = []

-- an entry whose first byte is this kind, and whose record these bytes are
abbrev pub IsEntry : Entry → ℕ → List ℕ → Type 0
IsEntry Online kind bytes = (kind ≡ 0) × (bytes ≡ [])
IsEntry Offline kind bytes = (kind ≡ 1) × (bytes ≡ [])
IsEntry Passive kind bytes = (kind ≡ 2) × (bytes ≡ [])
IsEntry (Poll taken) kind bytes = (3 ≤ kind) × (taken.now ≡ bytes)

-- what is taken where a kind and then these bytes stand: an entry with as many of them as the kind says, or refusal 17 where they are
-- fewer, and then nothing is left
abbrev pub ItemIs : Result Entry Refusal → ℕ → List ℕ → List ℕ → Type 0
ItemIs (Ok entry) kind rest left =
    (record_length kind ≤ length rest) × IsEntry entry kind (take (record_length kind) rest) × (left ≡ drop (record_length kind) rest)
ItemIs (Err refusal) kind rest left = (length rest < record_length kind) × (refusal ≡ TraceLength) × (left ≡ [])

-- what is taken of bytes, and what is left: nothing of none
abbrev pub TakesEntry : List ℕ → Option (Result Entry Refusal) → List ℕ → Type 0
TakesEntry [] taken left = (taken ≡ None) × (left ≡ [])
TakesEntry (kind ∷ rest) taken left = MatchOption taken ⊥ (λ item. ItemIs item kind rest left)

-- what an entry comes to, by what it says
unfoldable pub told : Station → Entry → Polled
told s Online = online_of s
told s Offline = offline_of s
told s Passive = passive_of s
told s (Poll bytes) = poll_of s bytes.now
