-- What rule 25 buys: in accepted settings the end of hold is never before the token time that it is counted from, a gap question due or
-- not. And what settings without that room came to: with those of document 02's site the hold ended before that time.
use Rattle.std.specs.Prelude.{ℕ, ◌+◌, ◌-◌, ◌≤◌, ◌≡◌, ◌⊎◌}
use Rattle.std.proofs.Common.{subst, inl, inr, arith}
use Rattle.bit_times.specs.declared.micros.Micros.{Micros}
use Rattle.bit_times.specs.Times.{rounded, time_of}
use Rattle.bit_times.proofs.Laws.{time_grows}
use Rattle.settings.specs.declared.parameters.Parameters.{Parameters}
use Rattle.settings.specs.Settings.{rotation_time_of}
use Rattle.settings_build.specs.Build.{first_refusal, plain_of}
use Rattle.settings_build.proofs.Passes.{address_low, rotation_top, rotation_room}
use Rattle.settings_build.specs.Finish.{site}
use Rattle.ring.specs.declared.GapState.{GapState}
use Rattle.ring.specs.declared.GapState.TheVariants.{Waiting, DoPoll}
use Rattle.station.specs.declared.station.Station.{Station}
use Rattle.station.specs.Parts.{fresh_station}
use Rattle.station_hold.specs.Hold.{hold_less, end_of}
use Rattle.station_hold.specs.Laws.{capped_fits}
use Rattle.theorem_sound.specs.Moves.{Clock}
use Rattle.theorem_sound.specs.Lines.{NoToken, HoldSet, HoldMade}
use Rattle.theorem_sound.specs.Sizes.{hold_itself}
use Rattle.theorem_sound.specs.Sound.{run}
use Rattle.theorem_sound.proofs.Sound.{every_station_sound}
use Rattle.theorem_sound.proofs.Unchanged.{made_settings}
use Rattle.theorem_sound.specs.Room.{Roomy, Theorem}

-- The proof of `Theorem` of specs/Room.

-- what is taken off is at most the rotation time. Both are rounded up, each by itself: more bits take no less time
pub less_within : (p : Parameters) (gap : GapState) → first_refusal (plain_of p) ≡ 0 → (hold_less p gap).0 ≤ (rotation_time_of p).0
unfolding hold_less rotation_time_of
less_within p (Waiting count) e = omega arith
less_within p (DoPoll a) e = time_grows (p.slot_bits + 100) p.token_rotation_bits p.baudrate (rotation_room p e)

-- so an end of hold that was set has room
pub hold_roomy : (p : Parameters) (last end : Micros) → first_refusal (plain_of p) ≡ 0 → HoldSet p last end → Roomy p last end
hold_roomy p last end e h =
    let is = hold_itself p last end (rotation_top p e) h in
    let within = less_within p h.gap e in
    record { set = h; not_before = omega arith; exact = omega arith }

roomy : (p : Parameters) (last end : Micros) → first_refusal (plain_of p) ≡ 0 → HoldMade p last end → NoToken last end ⊎ Roomy p last end
roomy p last end e (inl none) = inl none
roomy p last end e (inr set) = inr (hold_roomy p last end e set)

pub every_hold_roomy : Theorem
every_hold_roomy p n cs e a =
    let s : Station = run (fresh_station p n) cs in
    let made = (every_station_sound p n cs (address_low p e) a).core_sound.hold_made in
    roomy p s.core.last_token_time s.core.end_token_hold_time e
    (subst (λ (q : Parameters). HoldMade q s.core.last_token_time s.core.end_token_hold_time) (made_settings p n cs) made)

-- The site: a token that comes while the gap is polled has an end of hold 88 µs before the token time that it is counted from (where
-- that is below 88 µs, below zero, for which `end_of` has 0).
pub site_hold : (from : Micros) (a : ℕ) → Clock from → (end_of from (rotation_time_of site) (hold_less site (DoPoll a))).0 ≡ from.0 - 88
unfolding end_of rotation_time_of hold_less time_of rounded
site_hold from a l = capped_fits _ _ (omega arith) (omega arith)
