-- The premises of AnyStart can be met, in each of its states; as a statement. Its proof is in proofs/Shown.
--
-- Which numbers of others a state allows: Offline has a fresh ring, so none. A pass is checked only where there is somebody else, and a
-- gap question is due, or its answer awaited, only where somebody is not in the ring, so with at most 124.
use Rattle.std.specs.Prelude.{ℕ, ◌+◌, ◌*◌, ◌≤◌, ◌≡◌, length}
use Rattle.ring.specs.Ring.{others}
use Rattle.station.specs.declared.station.Station.{Station}
use Rattle.station.specs.Parts.{state_number}
use Rattle.theorem_silence.specs.Calls.{ByCalls}
use Rattle.theorem_any_start.specs.AnyStart.{AnyStart}
use Rattle.theorem_any_start.specs.Sharp.{SharpAt}

-- a station that calls make, that meets the premises, in the state of this number and with k others in its ring
pub record Met (number k : ℕ) : Type 0 where
  pub station : Station
  pub by_calls : ByCalls station
  pub starts : AnyStart station
  pub in_state : state_number station.state ≡ number
  pub size : length (others station.token_ring) ≡ k

-- one in PassToken, with runs of it that show that 3k + 2 is sharp
pub record MetSharp (k : ℕ) : Type 0 where
  pub met : Met 6 k
  pub is_sharp : SharpAt met.station (3 * k + 1)

-- there is one in each state, for every number of others that the state allows
pub record PremisesMet : Type 0 where
  pub offline : Met 0 0
  pub was_passive : Met 9 0
  pub listening : (k : ℕ) → k ≤ 125 → Met 1 k
  pub idle : (k : ℕ) → k ≤ 125 → Met 2 k
  pub claiming : (k : ℕ) → k ≤ 125 → Met 4 k
  pub passing : (k : ℕ) → k ≤ 125 → Met 6 k
  pub question_due : (k : ℕ) → k ≤ 124 → MetSharp k
  pub checking : (k : ℕ) → 1 ≤ k → k ≤ 125 → Met 7 k
  pub awaiting : (k : ℕ) → k ≤ 124 → Met 8 k
