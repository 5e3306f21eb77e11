-- The theorem on settings as calls make them: of a record that `new` and accepted setters make, the check of a whole record asks rule
-- 25 alone. One whose rotation has room for a gap poll passes it and is built from its own fields again.
use Rattle.std.specs.Prelude.{ℕ, ◌≡◌, refl, [], ◌∷◌, eqb, Option, Some, None, Ok}
use Rattle.std.proofs.Common.{sym, ◌∙◌, arith, ne_eqb, eqb-true}
use borrow.Table.Steps.{cases}
use Rattle.bit_times.proofs.Laws.{listed}
use Rattle.settings.specs.declared.parameters.Parameters.{Parameters}
use Rattle.settings_rules.specs.Rules.{baud_refusal, factors_refusal, first_of}
use Rattle.settings.specs.Made.{MadeSettings, Watched, SoundSettings}
use Rattle.settings.proofs.Made.{made_sound}
use Rattle.settings_build.specs.Build.{early_refusal, first_refusal, pair_of, built_at, build_of, factors_pair, plain_of}
use Rattle.settings_build.specs.Made.{room_of}

-- sound factors pass the rule of a whole record, and are kept as they were
watched_passes : (w : Option (ℕ × ℕ)) → Watched w → factors_refusal (factors_pair w).0 (factors_pair w).1 ≡ 0
unfolding factors_refusal
watched_passes None h = refl
watched_passes (Some (f1, f2)) h = rw (ne_eqb f1 0 (λ e. omega (arith, h.0)), ne_eqb f2 0 (λ e. omega (arith, h.1)))

watched_pair : (w : Option (ℕ × ℕ)) → Watched w → pair_of (factors_pair w).0 (factors_pair w).1 ≡ w
unfolding pair_of
watched_pair None h = refl
watched_pair (Some (f1, f2)) h = rw (ne_eqb f1 0 (λ e. omega (arith, h.0)))

-- a number alone between rules that refuse nothing
alone : (n : ℕ) → first_of (first_of (n ∷ []) ∷ []) ≡ n
alone n = cases (eqb n 0) (λ t. rw t (sym (eqb-true n 0 t))) (λ f. rw (f, f))

-- of sound settings the check of a whole record asks rule 25 alone
pub sound_number : (p : Parameters) → SoundSettings p → first_refusal (plain_of p) ≡ room_of p
unfolding first_refusal early_refusal plain_of baud_refusal
sound_number p s =
    simp (
      s.address,
      (listed p.baudrate).back,
      s.slot_bits,
      s.hsa,
      s.rotation,
      s.gap_wait,
      s.retry,
      s.min_tsdr,
      watched_passes p.watchdog_factors s.watchdog,
    )
    (alone (room_of p))

-- sound settings with room for a gap poll are built from their own fields again
pub sound_built : (p : Parameters) → SoundSettings p → room_of p ≡ 0 → build_of (plain_of p) ≡ Ok p
unfolding build_of built_at plain_of
sound_built p s room =
    simp
    (sound_number p s, room, (listed p.baudrate).back, watched_pair p.watchdog_factors s.watchdog)

-- every record that `new` and accepted setters make, with room for a gap poll, passes the check of a whole record, and is built as it is
pub made_passes : {p : Parameters} → MadeSettings p → room_of p ≡ 0 → (first_refusal (plain_of p) ≡ 0) × (build_of (plain_of p) ≡ Ok p)
made_passes {p} m room = (sound_number p (made_sound m) ∙ room, sound_built p (made_sound m) room)
