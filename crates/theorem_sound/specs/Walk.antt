-- What a step comes to: moves from a sound state and core, which lead to a state and its core. The laws are in proofs/Walk.
use Rattle.std.specs.Prelude.{ℕ}
use Rattle.bit_times.specs.declared.micros.Micros.{Micros}
use Rattle.settings.specs.declared.parameters.Parameters.{Parameters}
use Rattle.station.specs.declared.state.State.{State}
use Rattle.station.specs.declared.parts.Core.{Core}
use Rattle.station.specs.Whole.{Step, RingStep, Heard}
use Rattle.theorem_sound.specs.Moves.{Clock, Moves}
use Rattle.theorem_sound.specs.Lines.{SoundCore}
use Rattle.theorem_sound.specs.Keeps.{RingGood}

-- from a sound state x₀ and core c₀, at a time of a clock, moves have led to the state x and the core c
pub record Came (p : Parameters) (n : ℕ) (now : Micros) (x₀ : State) (c₀ : Core) (x : State) (c : Core) : Type 0 where
  pub clock : Clock now
  pub start : SoundCore p n x₀ c₀
  pub by : Moves p n now x₀ c₀ x c

-- what a step that leaves the ring alone comes to: moves, and a state of which E holds
pub record Made (p : Parameters) (n : ℕ) (now : Micros) (x₀ : State) (c₀ : Core) (E : State → Type 0) (s : Step) : Type 0 where
  pub moves : Moves p n now x₀ c₀ s.state s.core
  pub ends : E s.state

-- what a step comes to
pub record RingMade (p : Parameters) (n : ℕ) (now : Micros) (x₀ : State) (c₀ : Core) (E : State → Type 0) (s : RingStep) : Type 0 where
  pub made_step : Made p n now x₀ c₀ E s.step
  pub made_ring : RingGood p s.ring

-- what the telegrams of a poll come to
pub record HeardMade (p : Parameters) (n : ℕ) (now : Micros) (x₀ : State) (c₀ : Core) (E : State → Type 0) (h : Heard) : Type 0 where
  pub heard_moves : Moves p n now x₀ c₀ h.state h.core
  pub heard_ends : E h.state
  pub heard_ring : RingGood p h.ring
