-- Document 01's example 8, worked out from the definitions, and how example 10 begins.
use Rattle.std.specs.Prelude.{◌≡◌, refl, false, [], ◌∷◌}
use Rattle.std.proofs.Common.{lit<, lit≤}
use Rattle.ring_addresses.specs.Set.{walk, nearest, between_of, only, keeps, same_set}
use Rattle.ring.specs.declared.GapState.TheVariants.{Waiting, DoPoll}
use Rattle.ring.specs.Ring.{listed, after_of, before_of, link_at, tab, links_of, has, make, others, next_of, fresh_of, round_of, laps_of, witness_of, candidate_of, polls, gap_of}
use Rattle.ring.specs.Worked.{among}
use Rattle.ring.proofs.Worked.{witness_of_members}

-- own 5 alone, highest station address 126: the walk from 5 polls 6, from 125 polls 0, from 4 waits
pub example_8 : (gap_of (fresh_of 5) 5 126 ≡ DoPoll 6) × (gap_of (fresh_of 5) 125 126 ≡ DoPoll 0) × (gap_of (fresh_of 5) 4 126 ≡ Waiting 0)
unfolding walk nearest between_of candidate_of listed after_of before_of link_at tab links_of has make others next_of fresh_of polls gap_of
example_8 = (refl, refl, refl)

-- own 5 alone hears the token go from 9 to it: 9 is in the ring, and the token came round once
pub heard_nine : witness_of (fresh_of 5) 9 5 ≡ make 5 (among (5 ∷ 9 ∷ [])) 1 false
unfolding between_of keeps same_set fresh_of round_of laps_of
heard_nine = witness_of_members 5 0 9 5 false (only 5) (among (5 ∷ 9 ∷ [])) (lit< tt) refl (lit≤ tt) (lit< tt) (lit< tt) refl
