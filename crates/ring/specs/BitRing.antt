-- The ring as it was kept before the tables: 126 bits in two words, and a search for the neighbours. No code has it any more; it is
-- what the tables are held against (Alike).
use Rattle.std.specs.Prelude.{ℕ, Bool, true, false, cond, ◌&&◌, ◌||◌, List, [], ◌∷◌, ltb, leb, eqb, Option}
use Rattle.ring_addresses.specs.Set.{up, walk, nearest, only, add_to, take_out, keeps_all, same_set}
use Rattle.ring_addresses.specs.Words.{word_of, has_in}
use Rattle.ring.specs.declared.GapState.{GapState}
use Rattle.ring.specs.declared.GapState.TheVariants.{Waiting, DoPoll}
use Rattle.ring.specs.Ring.{first_of, laps_of, candidate_of, polls_on}
use Rattle.ring.specs.Laws.{RingCall, claim, add, remove, witness}

-- address a is bit a of `low` below 64, and bit a - 64 of `high` from there on
pub record BitRing : Type 0 where
  pub low : ℕ
  pub high : ℕ
  pub own : ℕ
  pub laps : ℕ
  pub ready : Bool

-- what `member` answered
unfoldable pub has_bit : BitRing → ℕ → Bool
has_bit b = has_in b.low b.high

-- the ring with these members
unfoldable pub make_bits : ℕ → (ℕ → Bool) → ℕ → Bool → BitRing
make_bits own f laps ready = record { low = word_of f 0 64; high = word_of f 64 62; own = own; laps = laps; ready = ready }

-- what `next_station` answered: the first member going up from own, nobody when we are alone
unfoldable pub next_bits : BitRing → Option ℕ
next_bits b = first_of (walk (has_bit b) (up b.own) 125 1)

-- what `previous_station` answered: the first member going down from own, own if alone
unfoldable pub prev_bits : BitRing → ℕ
prev_bits b = nearest false (has_bit b) b.own

-- what `next_gap_poll` answered
unfoldable pub gap_bits : BitRing → ℕ → ℕ → GapState
gap_bits b a hsa =
    let x = candidate_of a hsa in
    cond (cond (ltb x 126) (polls_on (next_bits b) b.own x) false) (DoPoll x) (Waiting 0)

-- what `fresh` made
unfoldable pub fresh_bits : ℕ → BitRing
fresh_bits own = make_bits own (only own) 0 false

-- what `witness_token_pass` made of it, between two addresses
unfoldable pub passed_bits : BitRing → ℕ → ℕ → BitRing
passed_bits b s d =
    let f = keeps_all b.own s d (has_bit b) in
    let laps = laps_of (same_set (has_bit b) f 126) b.laps s d in
    make_bits b.own f laps (b.ready || leb 2 laps)

-- the ring after a call: `claim_token`, `set_next_station`, `remove_station`, `witness_token_pass`
unfoldable pub after_bits : BitRing → RingCall → BitRing
after_bits b claim = record { low = b.low; high = b.high; own = b.own; laps = b.laps; ready = true }
after_bits b (add a) = cond (ltb a 126) (make_bits b.own (add_to a (has_bit b)) b.laps b.ready) b
after_bits b (remove a) =
    cond (eqb a b.own) b (cond (ltb a 126) (make_bits b.own (take_out a (has_bit b)) b.laps b.ready) b)
after_bits b (witness s d) = cond (ltb s 126 && ltb d 126) (passed_bits b s d) b

-- the ring after a list of calls
unfoldable pub after_all_bits : BitRing → List RingCall → BitRing
after_all_bits b [] = b
after_all_bits b (c ∷ cs) = after_all_bits (after_bits b c) cs
