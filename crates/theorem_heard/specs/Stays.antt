-- What stays of an entry that was heard. Assumes nothing.
use Rattle.std.specs.Prelude.{◌≤◌, ◌≡◌, None, Some, Ok, Err}
use Rattle.heard.specs.declared.AddressEntry.{AddressEntry}
use Rattle.heard.specs.Heard.{Found}

-- an entry that was there is there, with its first clock and heard no less often
abbrev pub StillHeard : AddressEntry → Found → Type 0
StillHeard e (Ok (Some f)) = (f.first ≡ e.first) × (e.times ≤ f.times)
StillHeard e (Ok None) = ⊥
StillHeard e (Err refusal) = ⊥
