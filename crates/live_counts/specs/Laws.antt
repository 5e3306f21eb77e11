-- What the proof uses: each way in which the call ends, by what was read. Assumes nothing.
use Rattle.std.specs.Prelude.{ℕ, ◌<◌, ◌≤◌, ◌≡◌, refl, List, length, Option, Some, None}
use Rattle.std.proofs.Common.{ap, ◌∙◌, lt-ltb, le-ltb}
use Rattle.station.specs.declared.parts.Counts.{Counts}
use Rattle.station.specs.declared.station.Station.{Station}
use Rattle.station_bytes.specs.Bytes.{counts_of}
use Rattle.trace_counts.specs.TraceCounts.{counts_over}
use Rattle.live_counts.specs.LiveCounts.{read_counts_number, read_counts_into}

-- what was counted, where something was
abbrev told_of : Counts → Option Counts → Counts
told_of k (Some c) = c
told_of k None = k

-- the bytes are no station
pub number_unread : (x : Option Station) (room : ℕ) → None ≡ counts_of x → 36 ≡ read_counts_number x room
unfolding read_counts_number
number_unread None room e = refl
number_unread (Some s) room e = absurd (cc e)

pub kept_unread : (x : Option Station) (before : List ℕ) → None ≡ counts_of x → before ≡ read_counts_into x before
unfolding read_counts_into
kept_unread None before e = refl
kept_unread (Some s) before e = absurd (cc e)

-- there is no room
pub number_untold : (x : Option Station) (k : Counts) (room : ℕ) → Some k ≡ counts_of x → room < 12 → 18 ≡ read_counts_number x room
unfolding read_counts_number
number_untold None k room e h = absurd (cc e)
number_untold (Some s) k room e h = rw (lt-ltb room 12 h) refl

pub kept_untold : (x : Option Station) (k : Counts) (before : List ℕ) → Some k ≡ counts_of x → length before < 12 → before ≡ read_counts_into x before
unfolding read_counts_into counts_over
kept_untold None k before e h = absurd (cc e)
kept_untold (Some s) k before e h = rw (lt-ltb (length before) 12 h) refl

-- the counts are told
pub number_told : (x : Option Station) (k : Counts) (room : ℕ) → Some k ≡ counts_of x → 12 ≤ room → 0 ≡ read_counts_number x room
unfolding read_counts_number
number_told None k room e h = absurd (cc e)
number_told (Some s) k room e h = rw (le-ltb room 12 h) refl

pub counts_told : (x : Option Station) (k : Counts) (before after : List ℕ) → Some k ≡ counts_of x → after ≡ counts_over before k → after ≡ read_counts_into x before
unfolding read_counts_into
counts_told None k before after e is = absurd (cc e)
counts_told (Some s) k before after e is = is ∙ ap (λ (c : Counts). counts_over before c) (ap (told_of k) e)
