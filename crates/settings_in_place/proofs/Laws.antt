-- Laws of the setters on the caller's record: the record that they leave is the one that the answer by value carries, and
-- settings that calls make stay such.
use Rattle.std.specs.Prelude.{ℕ, ◌≡◌, refl, eqb, Result, Ok, Err}
use borrow.Table.Steps.{cases}
use Rattle.settings.specs.declared.parameters.Parameters.{Parameters}
use Rattle.settings.specs.declared.not_set.NotSet.{NotSet}
use Rattle.settings.specs.Settings.{changed_settings, unless, slot_bits_of, hsa_of, rotation_of}
use Rattle.settings.specs.Made.{MadeSettings, by_slot_bits, by_hsa, by_rotation}
use Rattle.settings_in_place.specs.InPlace.{left_by}

-- a setter that refuses with n, or that sets the settings: the record left is the one that its answer carries
carried : (n : ℕ) (p set : Parameters) → left_by (unless n p (Ok set)) p ≡ changed_settings (unless n p (Ok set))
unfolding unless
carried n p set = cases (eqb n 0) (λ t. rw t) (λ f. rw f)

-- each setter on the caller's record leaves what the setter by value hands back, accepted or refused
pub left_is_carried :
    (p : Parameters) (v : ℕ) →
    (left_by (slot_bits_of p v) p ≡ changed_settings (slot_bits_of p v))
    × (left_by (hsa_of p v) p ≡ changed_settings (hsa_of p v))
    × (left_by (rotation_of p v) p ≡ changed_settings (rotation_of p v))
unfolding slot_bits_of hsa_of rotation_of
left_is_carried p v = (carried _ p _, carried _ p _, carried _ p _)

-- a record that calls made, and an answer that makes one where it accepts: the record left is one that calls made
made_left : (p : Parameters) (r : Result Parameters NotSet) → MadeSettings p → ((q : Parameters) → r ≡ Ok q → MadeSettings q) → MadeSettings (left_by r p)
made_left p (Ok set) m by = by set refl
made_left p (Err e) m by = m

-- settings that calls made stay such under each setter on the caller's record, and so stay sound (`made_sound` of settings)
pub stays_made :
    (p : Parameters) (v : ℕ) →
    MadeSettings p →
    MadeSettings (left_by (slot_bits_of p v) p)
    × MadeSettings (left_by (hsa_of p v) p)
    × MadeSettings (left_by (rotation_of p v) p)
stays_made p v m = (
  made_left p (slot_bits_of p v) m (λ q e. by_slot_bits v m e),
  made_left p (hsa_of p v) m (λ q e. by_hsa v m e),
  made_left p (rotation_of p v) m (λ q e. by_rotation v m e),
)
