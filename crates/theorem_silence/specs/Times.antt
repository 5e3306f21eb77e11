-- What accepted settings give: a slot time that is not zero and not shorter than the pause; and what a counted poll then knows.
use Rattle.std.specs.Prelude.{ℕ, ◌+◌, ◌≤◌, ◌≡◌, Option, Some, None}
use Rattle.std.proofs.Math.Bool.{true, false}
use Rattle.std.proofs.Math.Path.{refl}
use Rattle.std.proofs.Common.{sym, arith}
use borrow.Author.Tests.{le-leb, lt-leb, leb-true}
use Rattle.bit_times.specs.declared.micros.Micros.{Micros}
use Rattle.bit_times.specs.Times.{pause_bits, least_slot_bits, time_of}
use Rattle.bit_times.proofs.Laws.{listed, time_some, time_grows}
use Rattle.settings.specs.declared.parameters.Parameters.{Parameters}
use Rattle.ring_addresses.specs.SetLaws.{true≢false}
use Rattle.station.specs.declared.parts.Core.{Core}
use Rattle.station.specs.Parts.{with_activity}
use Rattle.station.specs.Steps.{known_at, elapsed_of, busy_of, waited_of, pause_of, slot_expired_of}
use Rattle.theorem_silence.specs.Silence.{slot_after}
use Rattle.settings_rules.specs.Rules.{slot_bits_refusal}
use Rattle.settings_rules.proofs.Laws.{below_in}
use Rattle.settings.specs.Settings.{slot_time_of}
use Rattle.settings_build.specs.Build.{first_refusal, plain_of}
use Rattle.settings_build.proofs.Passes.{passes}

-- accepted settings have at least the rate's least slot bits
pub slot_bits_least : (p : Parameters) → first_refusal (plain_of p) ≡ 0 → least_slot_bits p.baudrate ≤ p.slot_bits
unfolding plain_of slot_bits_refusal
slot_bits_least p e = below_in _ _ 2 (omega arith) (rw (listed p.baudrate).back at (passes (plain_of p) e).slot_bits)

-- the time of the pause
abbrev pub pause_time : Parameters → ℕ
pause_time p = (time_of (record { 0 = pause_bits }) p.baudrate).0

-- accepted settings: the slot time is not zero, and the pause is not longer
pub record Slotted (p : Parameters) : Type 0 where
  pub some : 1 ≤ (slot_time_of p).0
  pub pause : pause_time p ≤ (slot_time_of p).0

pub slotted : (p : Parameters) → first_refusal (plain_of p) ≡ 0 → Slotted p
unfolding slot_time_of
slotted p e =
    let least = slot_bits_least p e in
    let hundred : 100 ≤ p.slot_bits = omega (arith, (listed p.baudrate).slot_low) in
    record { some = time_some _ p.baudrate (omega arith); pause = time_grows 33 _ p.baudrate (omega arith) }

-- what comes after a longer time comes after a shorter one
pub after_shorter : (a : Option Micros) (now short long : ℕ) → short ≤ long → slot_after a now long ≡ true → slot_after a now short ≡ true
unfolding slot_after
after_shorter None now short long l e = absurd (true≢false (sym e))
after_shorter (Some last) now short long l e = le-leb (last.0 + short) now (omega (arith, leb-true (last.0 + long) now e))

-- What the poll's tests say of a counted poll, and what a counted poll's tests say.
module _ (p : Parameters) (w : Slotted p) (c : Core) (now : Micros) where
  -- a counted poll finds no transmission going on
  pub counted_free : slot_after c.last_bus_activity now.0 (slot_time_of p).0 ≡ true → busy_of c.last_bus_activity now ≡ false
  unfolding slot_after busy_of
  counted_free = go c.last_bus_activity
    where
      go : (a : Option Micros) → slot_after a now.0 (slot_time_of p).0 ≡ true → busy_of a now ≡ false
      go None e = refl
      go (Some last) e = lt-leb now.0 last.0 (omega (arith, leb-true (last.0 + (slot_time_of p).0) now.0 e, w.some))

  -- a time that has passed since known last activity is found over
  pub after_over : (time : Micros) → slot_after c.last_bus_activity now.0 time.0 ≡ true → (waited_of c now time).over ≡ true
  unfolding slot_after waited_of elapsed_of known_at
  after_over time = go c.last_bus_activity
    where
      go : (a : Option Micros) → slot_after a now.0 time.0 ≡ true → elapsed_of now (known_at a now) time ≡ true
      go None e = absurd (true≢false (sym e))
      go (Some last) e = e

  -- a counted poll finds the pause over
  pub counted_paused : slot_after c.last_bus_activity now.0 (slot_time_of p).0 ≡ true → (pause_of p c now).over ≡ true
  unfolding pause_of
  counted_paused e = after_over _ (after_shorter c.last_bus_activity now.0 (pause_time p) (slot_time_of p).0 w.pause e)

  -- a counted poll finds the slot expired
  pub counted_expired : slot_after c.last_bus_activity now.0 (slot_time_of p).0 ≡ true → (slot_expired_of p c now).over ≡ true
  unfolding slot_expired_of
  counted_expired e = after_over (slot_time_of p) e

  -- where a time that is not shorter than the pause has passed, the pause since the same activity is over
  pub waited_paused : (time : Micros) → pause_time p ≤ time.0 → (waited_of c now time).over ≡ true → (pause_of p (waited_of c now time).core now).over ≡ true
  unfolding pause_of waited_of elapsed_of known_at with_activity
  waited_paused time l e =
      let last = (known_at c.last_bus_activity now).0 in
      le-leb (last + pause_time p) now.0 (omega (arith, leb-true (last + time.0) now.0 e))

  -- so where the slot has expired
  pub expired_paused : (slot_expired_of p c now).over ≡ true → (pause_of p (slot_expired_of p c now).core now).over ≡ true
  unfolding slot_expired_of
  expired_paused e = waited_paused (slot_time_of p) w.pause e
