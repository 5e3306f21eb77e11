-- What it is that a factor is the least that will do, and the other its quotient. The laws of the watchdog factors are in proofs/Laws.
use Rattle.std.specs.Prelude.{ℕ, ◌+◌, ◌<◌, ◌≤◌, ◌≡◌}
use Rattle.settings_watchdog.specs.Watchdog.{ceil_of}

-- f1 is the least of the numbers from f on, before f + k, with u / f1 rounded up below 256, and f2 is that quotient
pub record LeastFrom (u k f f1 f2 : ℕ) : Type 0 where
  pub from : f ≤ f1
  pub before : f1 < f + k
  pub quotient : f2 ≡ ceil_of u f1
  pub small : f2 < 256
  pub least : (e : ℕ) → f ≤ e → e < f1 → 256 ≤ ceil_of u e
