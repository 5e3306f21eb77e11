-- Settings finished, as statements: what `finish` answers, and that the order of setting does not matter; and the site's settings. The
-- proofs are in proofs/FinishLaws.
use Rattle.std.specs.Prelude.{◌+◌, ◌<◌, ◌≤◌, ◌≡◌, ◌↔◌, None, Result, Ok}
use Rattle.bit_times.specs.declared.baud.Baud.TheVariants as baud
use Rattle.refusals.specs.declared.refusal.Refusal.TheVariants.{NoRoomForGapPoll}
use Rattle.settings.specs.declared.parameters.Parameters.{Parameters}
use Rattle.settings.specs.declared.not_set.NotSet.{NotSet}
use Rattle.settings.specs.Settings.{changed_number, changed_settings, not_set}
use Rattle.settings_build.specs.Build.{finish_of}

-- finishing accepts the settings, as they are, exactly if the rotation is at least slot bits + 100; and refuses them with 25, and hands
-- them back as they were, exactly if it is less
pub record Finishes (p : Parameters) : Type 0 where
  pub accepted : (finish_of p ≡ Ok p) ↔ (p.slot_bits + 100 ≤ p.token_rotation_bits)
  pub refused : (finish_of p ≡ not_set NoRoomForGapPoll p) ↔ (p.token_rotation_bits < p.slot_bits + 100)

-- two setters in either order, the second on the settings that the first one's answer has: each answers the same number, first or
-- second, the settings that are left are the same, and so they finish alike
pub record EitherOrder (f g : Parameters → Result Parameters NotSet) (p : Parameters) : Type 0 where
  pub same_number : changed_number (f p) ≡ changed_number (f (changed_settings (g p)))
  pub same_other : changed_number (g (changed_settings (f p))) ≡ changed_number (g p)
  pub same_settings : changed_settings (g (changed_settings (f p))) ≡ changed_settings (f (changed_settings (g p)))
  pub same_finish : finish_of (changed_settings (g (changed_settings (f p)))) ≡ finish_of (changed_settings (f (changed_settings (g p))))

-- Document 02's site: rotation 256 with slot 200. Address 5 and baud code 6 are document 01's example; gap wait 1, so that a run comes
-- soon to a gap poll; the rest are defaults.
abbrev pub site : Parameters
site =
    record {
      token_rotation_bits = 256;
      slot_bits = 200;
      address = 5;
      baudrate = baud.B500000;
      gap_wait_rotations = 1;
      highest_station_address = 126;
      max_retry_limit = 1;
      min_tsdr_bits = 11;
      watchdog_factors = None;
    }
