use Rattle.std.specs.Prelude.{◌≡◌}
use Rattle.codec_records.specs.Records.{words_refusal}
use Rattle.bus_setup.specs.Setup.{station_refusal}
use Rattle.bus_setup.proofs.check_settings.Given as goal

abbrev pub invariant-loop-j : goal.invariant-loop-j
invariant-loop-j l = words_refusal (station_refusal l.setup) l.j ≡ 0
