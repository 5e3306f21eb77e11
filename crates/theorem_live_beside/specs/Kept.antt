-- A station that is kept has as many applications after an entry, and stays kept along entries. Assumes nothing.
use Rattle.std.specs.Prelude.{◌≡◌, List, [], ◌∷◌}
use Rattle.std.proofs.Common.{ap, ◌∙◌}
use Rattle.station.specs.declared.station.Station.{Station}
use Rattle.theorem_sound.proofs.Sound.{call_made}
use Rattle.theorem_every_trace.specs.Statement.{Entry, along}
use Rattle.theorem_from_header.specs.FromHeader.{call_of, entry_leaves}
use Rattle.theorem_live.specs.Back.{Kept}
use Rattle.theorem_live.specs.Stepped.{then, entry_kept}

pub then_applications : (s : Station) (e : Entry) → Kept s → (then s e).applications ≡ s.applications
then_applications s e k = ap (λ (t : Station). t.applications) (entry_leaves s e) ∙ (call_made s (call_of e) k.sound).applications_stay

pub along_kept : (s : Station) (es : List Entry) → Kept s → Kept (along s es).station
along_kept s [] k = k
along_kept s (e ∷ es) k = along_kept (then s e) es (entry_kept s e k)
