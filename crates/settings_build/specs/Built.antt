-- What it is that `build` accepts: a record whose fields have no refusal, and its settings are the same numbers again. The proof is in
-- proofs/Built.
use Rattle.std.specs.Prelude.{◌≡◌}
use Rattle.settings.specs.declared.parameters.Parameters.{Parameters}
use Rattle.settings_build.specs.declared.plain.PlainSettings.{PlainSettings}
use Rattle.settings_build.specs.Build.{first_refusal, plain_of}

-- settings that `build` makes of the plain numbers f: f has no refusal, and the settings are the numbers of f again
pub record Built (f : PlainSettings) (p : Parameters) : Type 0 where
  pub no_refusal : first_refusal f ≡ 0
  pub same_numbers : plain_of p ≡ f
