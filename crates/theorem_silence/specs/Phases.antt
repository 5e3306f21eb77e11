-- The places that a silent station goes through until it holds the token, and what is still to be sent at each. A token pass into silence
-- (Silence) starts at `starting First`. Nothing here knows of a poll.
use Rattle.std.specs.Prelude.{ℕ, zero, suc, Bool, true, false, List, [], ◌∷◌, ◌++◌, drop}
use Rattle.ring_addresses.specs.Set.{head_or}
use Rattle.codec_answers.specs.declared.Sent.{Sent}
use Rattle.codec_answers.specs.declared.Sent.TheVariants.{Token, StatusRequest}
use Rattle.station.specs.declared.state.PassTokenAttempt.{PassTokenAttempt}
use Rattle.station.specs.declared.state.PassTokenAttempt.TheVariants.{First, Second, Third}
use Rattle.theorem_silence.specs.Silence.{thrice, tokens}

-- The places, each with the others in the ring: a gap question to this address is due; its answer is awaited; a token pass starts, at
-- this attempt; the token was sent for this time to the first of the others, to ourselves if there is none; the token is claimed, for
-- the first time or again; it is held.
pub data Phase : Type 0 where
  asking : ℕ → List ℕ → Phase
  awaiting : List ℕ → Phase
  starting : PassTokenAttempt → List ℕ → Phase
  checking : PassTokenAttempt → List ℕ → Phase
  claiming : Bool → List ℕ → Phase
  holding : List ℕ → Phase

-- the place once a token was sent for the given time, with these others: alone it is held
abbrev pub sent_to : PassTokenAttempt → List ℕ → Phase
sent_to attempt [] = holding []
sent_to attempt (x ∷ more) = checking attempt (x ∷ more)

-- those behind the first
abbrev pub behind : List ℕ → List ℕ
behind [] = []
behind (x ∷ more) = more

-- the attempt after this one, and the others then: after a third token the first of them is taken out
abbrev pub next_attempt : PassTokenAttempt → PassTokenAttempt
next_attempt First = Second
next_attempt Second = Third
next_attempt Third = First

abbrev pub still_tried : PassTokenAttempt → List ℕ → List ℕ
still_tried First os = os
still_tried Second os = os
still_tried Third os = behind os

-- the place after one telegram more
abbrev pub next : Phase → Phase
next (asking a os) = awaiting os
next (awaiting os) = sent_to First os
next (starting attempt os) = sent_to attempt os
next (checking attempt os) = sent_to (next_attempt attempt) (still_tried attempt os)
next (claiming true os) = claiming false os
next (claiming false os) = holding os
next (holding os) = holding os

-- that telegram
abbrev pub next_sent : ℕ → Phase → Sent
next_sent own (asking a os) = StatusRequest a
next_sent own (awaiting os) = Token (head_or own os)
next_sent own (starting attempt os) = Token (head_or own os)
next_sent own (checking attempt os) = Token (head_or own (still_tried attempt os))
next_sent own (claiming first os) = Token own
next_sent own (holding os) = Token own

-- the bytes of the longest telegram from a place on: a question has 6, a token 3
abbrev pub longest : Phase → ℕ
longest (asking a os) = 6
longest (awaiting os) = 3
longest (starting attempt os) = 3
longest (checking attempt os) = 3
longest (claiming first os) = 3
longest (holding os) = 3

-- how many tokens the first of the others has had before this attempt
abbrev pub tried_before : PassTokenAttempt → ℕ
tried_before First = 0
tried_before Second = 1
tried_before Third = 2

-- Silence's tokens, from this attempt at the first of the others on
abbrev pub tokens_from : ℕ → List ℕ → ℕ → List Sent
tokens_from tried os own = drop tried (thrice os) ++ (Token own ∷ [])

-- the token to ourselves, twice or once more
abbrev pub claim_tokens : Bool → ℕ → List Sent
claim_tokens true own = Token own ∷ Token own ∷ []
claim_tokens false own = Token own ∷ []

-- what is still to be sent
abbrev pub todo : ℕ → Phase → List Sent
todo own (asking a os) = StatusRequest a ∷ tokens os own
todo own (awaiting os) = tokens os own
todo own (starting attempt os) = tokens_from (tried_before attempt) os own
todo own (checking attempt os) = tokens_from (suc (tried_before attempt)) os own
todo own (claiming first os) = claim_tokens first own
todo own (holding os) = []

-- the others in the ring
abbrev pub in_ring : Phase → List ℕ
in_ring (asking a os) = os
in_ring (awaiting os) = os
in_ring (starting attempt os) = os
in_ring (checking attempt os) = os
in_ring (claiming first os) = os
in_ring (holding os) = os

-- the others in the ring once the token is held: a pass takes all out, a claim nobody
abbrev pub end_ring : Phase → List ℕ
end_ring (asking a os) = []
end_ring (awaiting os) = []
end_ring (starting attempt os) = []
end_ring (checking attempt os) = []
end_ring (claiming first os) = os
end_ring (holding os) = os

-- the token is not held yet
abbrev pub Under : Phase → Type 0
Under (asking a os) = Unit {0}
Under (awaiting os) = Unit {0}
Under (starting attempt os) = Unit {0}
Under (checking attempt os) = Unit {0}
Under (claiming first os) = Unit {0}
Under (holding os) = ⊥

-- the place after m telegrams more
unfoldable pub advance : ℕ → Phase → Phase
advance zero ph = ph
advance (suc m) ph = advance m (next ph)
