-- Document 02, P14: a setter on the caller's record, over the answer of the setter by value (`Settings.antt` of settings).
-- An accepted call makes the record that the answer holds, a refused call leaves the record as it was.
use Rattle.std.specs.Prelude.{◌≡◌, Result, Ok, Err}
use Rattle.refusals.specs.declared.refusal.Refusal.{Refusal}
use Rattle.refusals.specs.Refusals.{number_in}
use Rattle.settings.specs.declared.parameters.Parameters.{Parameters}
use Rattle.settings.specs.declared.not_set.NotSet.{NotSet}
use Rattle.settings.specs.Settings.{changed_number}

-- the caller's record after the call: the one that an accepted answer holds; after a refusal the record p as it was
abbrev pub left_by : Result Parameters NotSet → Parameters → Parameters
left_by (Ok set) p = set
left_by (Err e) p = p

-- what the setter on the caller's record makes of a record p and of the answer by value: it returns the answer's number, 0
-- where it is accepted, and leaves the record `left_by` says
abbrev pub InPlace : Parameters → Result Parameters NotSet → Result (Unit {0}) Refusal → Parameters → Type 0
InPlace p answer r left = (number_in r ≡ changed_number answer) × (left ≡ left_by answer p)
