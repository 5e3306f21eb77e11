-- What the code keeps of a bus, and how its calls change it: of what was sent until when the bus is busy, and the one telegram that may
-- still arrive; for a station the words of the telegrams that wait. (Waits and ArrivesLaws in proofs/ say why that is enough.) Assumes nothing.
use Rattle.std.specs.Prelude.{ℕ, zero, suc, ◌+◌, ◌-◌, List, [], ◌∷◌, Bool, true, false, cond, take, set, get_or, eqb, ltb, leb}
use Rattle.bus_wire.specs.declared.Wire.{Wire}
use Rattle.bus_wire.specs.declared.Waiting.{Waiting}

-- the later of two times
unfoldable pub later_of : ℕ → ℕ → ℕ
later_of a b = cond (ltb a b) b a

-- nothing was sent yet
unfoldable pub quiet : Wire
quiet = record { until = 0; word = 0; sender = 0; live = false }

-- a telegram is sent while the bus is busy: nothing that is on it arrives. Else it is what may arrive
unfoldable pub sent_on : Wire → ℕ → ℕ → ℕ → ℕ → Wire
sent_on w start ends sender word =
    cond (ltb start w.until)
    (record { until = later_of w.until ends; word = w.word; sender = w.sender; live = false })
    (record { until = ends; word = word; sender = sender; live = true })

-- whether the telegram arrives at a place at this tick
unfoldable pub arrives_at : Wire → ℕ → ℕ → Bool
arrives_at w now place = cond w.live (cond (leb w.until now) (cond (eqb w.sender place) false true) false) false

-- after its arrival it does not arrive again
unfoldable pub cleared_at : Wire → ℕ → Wire
cleared_at w now = cond (leb w.until now) (record { until = w.until; word = w.word; sender = w.sender; live = false }) w

-- no telegram waits
unfoldable pub nothing_waits : Waiting
nothing_waits = record { words = 0 ∷ 0 ∷ 0 ∷ 0 ∷ 0 ∷ 0 ∷ 0 ∷ 0 ∷ []; count = 0 }

-- the oldest is gone
unfoldable pub dropped_of : Waiting → Waiting
dropped_of w =
    record {
      words =
          get_or w.words 1 0 ∷ get_or w.words 2 0 ∷ get_or w.words 3 0 ∷ get_or w.words 4 0 ∷ get_or w.words 5 0 ∷ get_or w.words 6 0 ∷ get_or w.words 7 0 ∷ 0 ∷ [];
      count = w.count - 1;
    }

-- one more waits, where there is room
unfoldable pub appended_of : Waiting → ℕ → Waiting
appended_of w word = cond (ltb w.count 8) (record { words = set w.words w.count word; count = w.count + 1 }) w

-- one more waits; the oldest falls away where there are 8
unfoldable pub joined_of : Waiting → ℕ → Waiting
joined_of w word = cond (ltb w.count 8) (appended_of w word) (appended_of (dropped_of w) word)

-- the k oldest are gone
unfoldable pub left_of : Waiting → ℕ → Waiting
left_of w zero = w
left_of w (suc k) = dropped_of (left_of w k)

-- the words that wait, the oldest first
abbrev pub listed : Waiting → List ℕ
listed w = take w.count w.words
