-- What is still to be sent at each place of specs/Phases, telegram by telegram, and which others are left in the ring.
use Rattle.std.specs.Prelude.{ℕ, zero, suc, ◌+◌, ◌-◌, ◌*◌, ◌/◌, ◌≤◌, true, false, ◌≡◌, refl, ◌⊎◌, List, [], ◌∷◌, length, drop}
use Rattle.std.proofs.Common.{sym, ◌∙◌, inl, inr, arith}
use Rattle.ring_addresses.specs.Set.{head_or}
use Rattle.codec_answers.specs.declared.Sent.TheVariants.{Token}
use Rattle.codec_answers.specs.Answers.{sent_bytes}
use Rattle.station.specs.declared.state.PassTokenAttempt.{PassTokenAttempt}
use Rattle.station.specs.declared.state.PassTokenAttempt.TheVariants.{First, Second, Third}
use Rattle.theorem_silence.specs.Silence.{told, tokens}
use Rattle.theorem_silence.specs.Phases.{Phase, asking, awaiting, checking, claiming, holding, starting, sent_to, behind, next_attempt, still_tried, next, next_sent, longest, tried_before, tokens_from, todo, in_ring, end_ring, Under, advance}

-- the next telegram is one
pub told_next : (own : ℕ) (ph : Phase) → told (next_sent own ph) ≡ next_sent own ph ∷ []
told_next own (asking a os) = refl
told_next own (awaiting os) = refl
told_next own (starting attempt os) = refl
told_next own (checking attempt os) = refl
told_next own (claiming first os) = refl
told_next own (holding os) = refl

pub longest_now : (own : ℕ) (ph : Phase) → sent_bytes (next_sent own ph) ≡ longest ph
longest_now own (asking a os) = refl
longest_now own (awaiting os) = refl
longest_now own (starting attempt os) = refl
longest_now own (checking attempt os) = refl
longest_now own (claiming first os) = refl
longest_now own (holding os) = refl

pub longest_most : (ph : Phase) → longest ph ≤ 6
longest_most (asking a os) = omega arith
longest_most (awaiting os) = omega arith
longest_most (starting attempt os) = omega arith
longest_most (checking attempt os) = omega arith
longest_most (claiming first os) = omega arith
longest_most (holding os) = omega arith

sent_longest : (attempt : PassTokenAttempt) (os : List ℕ) → longest (sent_to attempt os) ≡ 3
sent_longest attempt [] = refl
sent_longest attempt (x ∷ more) = refl

pub longest_next : (ph : Phase) → longest (next ph) ≤ longest ph
longest_next (asking a os) = omega arith
longest_next (awaiting os) = omega (arith, sent_longest First os)
longest_next (starting attempt os) = omega (arith, sent_longest attempt os)
longest_next (checking attempt os) = omega (arith, sent_longest (next_attempt attempt) (still_tried attempt os))
longest_next (claiming true os) = omega arith
longest_next (claiming false os) = omega arith
longest_next (holding os) = omega arith

-- at each place the token is not held yet or is
pub under_or_held : (ph : Phase) → Under ph ⊎ (ph ≡ holding (end_ring ph))
under_or_held (asking a os) = inl tt
under_or_held (awaiting os) = inl tt
under_or_held (starting attempt os) = inl tt
under_or_held (checking attempt os) = inl tt
under_or_held (claiming first os) = inl tt
under_or_held (holding os) = inr refl

-- a token that is sent is the first of the tokens from its attempt on
begun : (own : ℕ) (attempt : PassTokenAttempt) (os : List ℕ) → tokens_from (tried_before attempt) os own ≡ Token (head_or own os) ∷ todo own (sent_to attempt os)
begun own First [] = refl
begun own First (x ∷ more) = refl
begun own Second [] = refl
begun own Second (x ∷ more) = refl
begun own Third [] = refl
begun own Third (x ∷ more) = refl

-- after the third token to the first of the others come those to the ones behind it
thirded : (own : ℕ) (os : List ℕ) → tokens_from 3 os own ≡ tokens (behind os) own
thirded own [] = refl
thirded own (x ∷ more) = refl

-- the next telegram is the first of what is still to be sent
pub todo_next : (own : ℕ) (ph : Phase) → Under ph → todo own ph ≡ next_sent own ph ∷ todo own (next ph)
todo_next own (asking a os) u = refl
todo_next own (awaiting os) u = begun own First os
todo_next own (starting attempt os) u = begun own attempt os
todo_next own (checking First os) u = begun own Second os
todo_next own (checking Second os) u = begun own Third os
todo_next own (checking Third os) u = thirded own os ∙ begun own First (behind os)
todo_next own (claiming true os) u = refl
todo_next own (claiming false os) u = refl
todo_next own (holding os) u = absurd u

-- while the token is not held something is still to be sent
pub todo_some : (own : ℕ) (ph : Phase) → Under ph → todo own ph ≡ [] → ⊥
todo_some own ph u e =
    let z : ◌≡◌ {A = ℕ} 0 1 = cc (todo_next own ph u) in
    omega arith

-- and the other way round
pub some_under : (own : ℕ) (ph : Phase) → 1 ≤ length (todo own ph) → Under ph
some_under own (asking a os) l = tt
some_under own (awaiting os) l = tt
some_under own (starting attempt os) l = tt
some_under own (checking attempt os) l = tt
some_under own (claiming first os) l = tt
some_under own (holding os) l = omega arith

-- who is left in the end stays the same on the way
sent_end : (attempt : PassTokenAttempt) (os : List ℕ) → end_ring (sent_to attempt os) ≡ []
sent_end attempt [] = refl
sent_end attempt (x ∷ more) = refl

pub end_next : (ph : Phase) → end_ring (next ph) ≡ end_ring ph
end_next (asking a os) = refl
end_next (awaiting os) = sent_end First os
end_next (starting attempt os) = sent_end attempt os
end_next (checking attempt os) = sent_end (next_attempt attempt) (still_tried attempt os)
end_next (claiming true os) = refl
end_next (claiming false os) = refl
end_next (holding os) = refl

-- 3k + 1 tokens
pub tokens_length : (os : List ℕ) (own : ℕ) → length (tokens os own) ≡ 3 * length os + 1
tokens_length [] own = refl
tokens_length (x ∷ more) own = omega (arith, tokens_length more own)

pub end_advance : (m : ℕ) (ph : Phase) → end_ring (advance m ph) ≡ end_ring ph
unfolding advance
end_advance zero ph = refl
end_advance (suc m) ph = end_advance m (next ph) ∙ end_next ph

-- once held, the others are none whatever follows
held_ring : (m : ℕ) → in_ring (advance m (holding [])) ≡ []
unfolding advance
held_ring zero = refl
held_ring (suc m) = held_ring m

-- alone: one token, and nobody is there to be taken out
alone_ring : (m : ℕ) → in_ring (advance m (starting First [])) ≡ []
unfolding advance
alone_ring zero = refl
alone_ring (suc m) = held_ring m

drop_none : (n : ℕ) → drop {A = ℕ} n [] ≡ []
drop_none zero = refl
drop_none (suc n) = refl

-- each three tokens take one out, the one after them being the first that is sent without it
pub ring_after : (os : List ℕ) (m : ℕ) → in_ring (advance m (starting First os)) ≡ drop ((m - 1) / 3) os
unfolding advance
ring_after [] m = alone_ring m ∙ sym (drop_none ((m - 1) / 3))
ring_after (x ∷ more) zero = refl
ring_after (x ∷ more) (suc zero) = refl
ring_after (x ∷ more) (suc (suc zero)) = refl
ring_after (x ∷ more) (suc (suc (suc zero))) = refl
ring_after (x ∷ more) (suc (suc (suc (suc m)))) =
    let shift : (suc (suc (suc (suc m))) - 1) / 3 ≡ suc ((suc m - 1) / 3) = omega arith in
    rw shift (ring_after more (suc m))
