-- Every station that calls make meets the first two premises of Silence: accepted settings, and sound.
use Rattle.std.specs.Prelude.{ℕ, Bool, false, ◌≡◌, List}
use Rattle.std.proofs.Common.{sym, ap, subst, ◌∙◌}
use Rattle.settings.specs.declared.parameters.Parameters.{Parameters}
use Rattle.settings_rules.specs.Rules.{applications_refusal}
use Rattle.settings_build.specs.Build.{first_refusal, plain_of}
use Rattle.settings_build.proofs.Passes.{address_low}
use Rattle.station.specs.declared.state.PassTokenAttempt.TheVariants.{First}
use Rattle.station.specs.declared.state.State.TheVariants.{PassToken}
use Rattle.station.specs.declared.station.Station.{Station}
use Rattle.station.specs.Parts.{fresh_station}
use Rattle.theorem_sound.specs.Sound.{Call, run, SoundStation}
use Rattle.theorem_sound.proofs.Sound.{every_station_sound}
use Rattle.theorem_sound.proofs.Unchanged.{made_settings}
use Rattle.theorem_silence.specs.Silence.{Start, Online, gap_due}

-- a station that any list of polls and commands makes of a new one with accepted settings and an accepted number of applications
pub record ByCalls (s : Station) : Type 0 where
  pub settings : Parameters
  pub applications : ℕ
  pub accepted : first_refusal (plain_of settings) ≡ 0
  pub number_accepted : applications_refusal applications ≡ 0
  pub calls : List Call
  pub makes : run (fresh_station settings applications) calls ≡ s

-- its settings are those that `new` was given, and so accepted ones; and it is sound
pub settings_given : (s : Station) (b : ByCalls s) → s.p ≡ b.settings
settings_given s b = ap (λ (x : Station). x.p) (sym b.makes) ∙ made_settings b.settings b.applications b.calls

pub settings_of_calls : (s : Station) → ByCalls s → first_refusal (plain_of s.p) ≡ 0
settings_of_calls s b = subst (λ (q : Parameters). first_refusal (plain_of q) ≡ 0) (sym (settings_given s b)) b.accepted

pub sound_of_calls : (s : Station) → ByCalls s → SoundStation s
sound_of_calls s b =
    subst SoundStation b.makes
    (every_station_sound b.settings b.applications b.calls (address_low b.settings b.accepted) b.number_accepted)

-- so it meets the premises of Silence as soon as it is online, in PassToken at its first attempt, with no gap question due
pub start_of_calls : (s : Station) → ByCalls s → Online s → (gap : Bool) → s.state ≡ PassToken gap First → gap_due s.p s.core s.token_ring gap ≡ false → Start s
start_of_calls s b on gap state due =
    record { settings = settings_of_calls s b; sound = sound_of_calls s b; not_offline = on; gap = gap; passing = state; no_question = due }
