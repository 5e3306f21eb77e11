-- What it is that the code keeps enough of a bus: of all that was sent at most one telegram can still arrive, it is the one that was
-- sent last, and it meets none. That it does is proved in proofs/ArrivesLaws. Assumes nothing.
use Rattle.std.specs.Prelude.{ℕ, ◌+◌, ◌<◌, ◌≤◌, ◌≡◌, Bool, true, false, cond, ◌⊎◌, eqb}
use mathlib.Core.List.{List, [], ◌∷◌}
use Rattle.codec_telegrams.specs.Words.{telegram_word}
use Rattle.codec_telegrams.specs.declared.Telegram.{Telegram}
use Rattle.bus_wire.specs.declared.Wire.{Wire}
use Rattle.bus_wire.specs.Wire.{Transmission, lost_in}
use Rattle.bus_wire.specs.Kept.{later_of, arrives_at}

-- what holds of each transmission of a list
abbrev pub All : (Transmission → Type 0) → List Transmission → Type 0
All P [] = Unit {0}
All P (t ∷ l) = P t × All P l

-- the last end of all that was sent
abbrev pub latest : List Transmission → ℕ
latest [] = 0
latest (t ∷ l) = later_of (latest l) t.ends

-- Where the bus stands.

-- a transmission that does not arrive any more at the tick `next` or later: it is lost, or it has arrived
abbrev pub Gone : List Transmission → ℕ → ℕ → Transmission → Type 0
Gone all tick next u = (lost_in all u ≡ true) ⊎ (u.ends + tick ≤ next)

-- it takes some time, and started at a tick before `next`
abbrev pub Past : ℕ → ℕ → Transmission → Type 0
Past tick next u = (u.starts < u.ends) × (u.starts + tick ≤ next)

-- the one that may still arrive: the last that was sent, which started when all else had ended
pub record Live (all : List Transmission) (tick next : ℕ) (w : Wire) : Type 0 where
  pub newest : Transmission
  pub earlier : List Transmission
  pub is : all ≡ newest ∷ earlier
  pub sender : newest.sender ≡ w.sender
  pub word : telegram_word newest.telegram ≡ w.word
  pub ends : newest.ends ≡ w.until
  pub before : All (λ u. u.ends ≤ newest.starts) earlier
  pub soon : next < newest.ends + tick

abbrev pub Going : Bool → List Transmission → ℕ → ℕ → Wire → Type 0
Going true all tick next w = Live all tick next w
Going false all tick next w = All (Gone all tick next) all

-- what the code keeps of all that was sent before the tick `next`
pub record OnWire (all : List Transmission) (tick next : ℕ) (w : Wire) : Type 0 where
  pub busy : w.until ≡ latest all
  pub past : All (Past tick next) all
  pub going : Going w.live all tick next w

-- what arrives at a place: nothing, or one telegram, whose word the code keeps
pub record Arrival (w : Wire) (next place : ℕ) (heard : List Telegram) : Type 0 where
  pub none : arrives_at w next place ≡ false → heard ≡ []
  pub one : arrives_at w next place ≡ true → (t : Telegram) × (w.word ≡ telegram_word t) × (heard ≡ t ∷ [])

-- A telegram is sent.

-- all that was sent is of earlier ticks or, at this tick, of places below
abbrev pub Before : ℕ → ℕ → List Transmission → Type 0
Before place now all = All (λ u. (u.sender < place) ⊎ (u.starts < now)) all

-- Who is transmitting.

-- when the last of a place's transmissions ends
unfoldable pub own_latest : List Transmission → ℕ → ℕ
own_latest [] place = 0
own_latest (t ∷ l) place = cond (eqb t.sender place) (later_of (own_latest l place) t.ends) (own_latest l place)
