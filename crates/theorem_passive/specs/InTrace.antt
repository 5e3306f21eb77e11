-- The first theorem over a trace's entries, as a statement: from PassiveIdle, through entries that are polls. The proof is in
-- proofs/InTrace.
use Rattle.std.specs.Prelude.{◌≤◌, List, [], ◌∷◌}
use Rattle.codec_answers.specs.declared.Answer.{Answer}
use Rattle.station.specs.declared.station.Station.{Station}
use Rattle.trace.specs.Trace.{Run}
use Rattle.theorem_every_trace.specs.Statement.{Entry, along}
use Rattle.theorem_passive.specs.Statement.{IsPassive, In, StationStays, Answered}

-- entries that are polls: a first byte of 3 or more
abbrev pub Polls : List Entry → Type 0
Polls [] = Unit {0}
Polls (e ∷ es) = (3 ≤ e.kind) × Polls es

-- each of these answers says no more than it may
abbrev pub AllAnswered : List Answer → Type 0
AllAnswered [] = Unit {0}
AllAnswered (a ∷ more) = Answered a × AllAnswered more

-- what a run from the station s has come to
pub record RunPassive (s : Station) (r : Run) : Type 0 where
  pub answers_say : AllAnswered r.answers
  pub in_passive_idle : In 9 r.station
  pub stays : StationStays s r.station

abbrev pub PassiveInTrace : Type 0
PassiveInTrace = (es : List Entry) (s : Station) → IsPassive s → In 9 s → Polls es → RunPassive s (along s es)
