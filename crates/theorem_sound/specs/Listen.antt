-- Where a step of the two hearing crates, station_listen and station_passive, may end. What the steps come to is proved in proofs/Listen.
use Prim.Native.Nat.{ℕ}
use Rattle.std.specs.Prelude.{◌≡◌, Option, Some, None}
use Rattle.std.proofs.Math.Bool.{false}
use Rattle.station.specs.declared.state.UseTokenData.{UseTokenData}
use Rattle.station.specs.declared.state.State.{State}
use Rattle.station.specs.declared.state.State.TheVariants.{Offline, ListenToken, ActiveIdle, UseToken, PassiveIdle}
use Rattle.station.specs.Steps.{to_listen_token, to_active_idle}

-- where hearing may end: if listening in ListenToken or by a second collision in Offline, and from PassiveIdle in PassiveIdle; else in
-- ActiveIdle, by a token accepted in UseToken, or by a second collision in ListenToken
pub record ListenEnds (E : State → Type 0) : Type 0 where
  pub ends_offline : E Offline
  pub ends_listen : (q : Option ℕ) (k : ℕ) → E (ListenToken q k)
  pub ends_passive : (q : Option ℕ) → E (PassiveIdle q)

pub record ActiveEnds (E : State → Type 0) : Type 0 where
  pub ends_idle : (q m : Option ℕ) (k : ℕ) → E (ActiveIdle q m k)
  pub ends_accepted : (held : UseTokenData) → E (UseToken false held)
  pub ends_left : E to_listen_token

-- the state is PassiveIdle
abbrev pub Passive : State → Type 0
Passive x = (q : Option ℕ) × (x ≡ PassiveIdle q)

-- where do_listen_token may end but for a claim: hearing telegrams, or, with a request noted, answering it
abbrev pub ListenedEnds : (State → Type 0) → Option ℕ → ℕ → Type 0
ListenedEnds E None k = ListenEnds E
ListenedEnds E (Some source) k =
    E (ListenToken (Some source) k) × E (ListenToken None k) × E to_active_idle
