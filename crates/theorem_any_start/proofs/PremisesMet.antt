-- A station that calls make meets the premises of AnyStart.
use Rattle.std.specs.Prelude.{◌≡◌}
use Rattle.station.specs.declared.station.Station.{Station}
use Rattle.station.specs.Parts.{state_number}
use Rattle.theorem_sound.proofs.Sound.{part_ring}
use Rattle.theorem_silence.specs.Silence.{Online}
use Rattle.theorem_silence.specs.Calls.{ByCalls, settings_of_calls, sound_of_calls}
use Rattle.theorem_any_start.specs.AnyStart.{AnyStart}

-- a station that calls make meets the premises as soon as it is online and in a state that is not left out
pub met_by_calls : (s : Station) → ByCalls s → Online s → (state_number s.state ≡ 3 → ⊥) → (state_number s.state ≡ 5 → ⊥) → AnyStart s
met_by_calls s b on held reply =
    record { settings = settings_of_calls s b; ring_good = part_ring s (sound_of_calls s b); is_online = on; not_use_token = held; not_await_data = reply }
