-- What a step leans on beside the moves: a sound ring with the station's own address, which the ring's calls keep, and what the fields of a
-- record are below.
use Rattle.std.specs.Prelude.{ℕ, ◌+◌, ◌*◌, ◌<◌, ◌≤◌, Bool, true, false, cond, List, ◌≡◌, refl, length, ltb}
use Rattle.std.proofs.Common.{sym, ◌∙◌, arith}
use Rattle.codec_fields.specs.Fields.{field_of, bit_at}
use Rattle.codec_fields.proofs.Widths.{field_below}
use Rattle.settings.specs.declared.parameters.Parameters.{Parameters}
use Rattle.ring.specs.declared.GapState.{GapState}
use Rattle.ring.specs.declared.GapState.TheVariants.{Waiting, DoPoll}
use Rattle.ring.specs.Ring.{Ring, fresh_of, claim_of, add_of, remove_of, witness_of, gap_of}
use Rattle.ring.specs.Laws.{SoundRing}
use Rattle.ring.proofs.Laws.{sound_fresh, sound_claim, sound_add, sound_remove, sound_witness, fresh_made, claim_own, add_own, remove_own, witness_own, gap_polls_lem}
use Rattle.codec_decisions.specs.declared.Decision.{Decision}
use Rattle.codec_decisions.specs.declared.Decision.TheVariants as decision
use Rattle.codec_telegrams.specs.Words.{TelegramFits}
use Rattle.codec_decisions.specs.Decisions.{decision_of}
use Rattle.codec_telegrams.specs.Laws.{telegram_fits}
use Rattle.codec_records.specs.Records.{telegram_word_at, decision_at, telegram_at}
use Rattle.theorem_sound.specs.Moves.{GapAddressed}

-- a sound ring whose own address is that of the settings
pub record RingGood (p : Parameters) (r : Ring) : Type 0 where
  pub sound : SoundRing r
  pub own : r.own ≡ p.address

-- a choice keeps what both of its ways keep
pub either : {A : Type 0} (P : A → Type 0) (b : Bool) (x y : A) → P x → P y → P (cond b x y)
either P true x y px py = px
either P false x y px py = py

-- the same, where the test is looked at
pub decided : {A : Type 0} (P : A → Type 0) (b : Bool) (x y : A) → (b ≡ true → P x) → (b ≡ false → P y) → P (cond b x y)
decided P true x y px py = px refl
decided P false x y px py = py refl

-- a telegram of a record has low addresses
pub telegram_low : (bytes : List ℕ) (n j : ℕ) → TelegramFits (telegram_at bytes n j)
unfolding telegram_at
telegram_low bytes n j =
    either TelegramFits (ltb (length bytes) (8 + 6 * n + 4 * j + 4)) _ _ tt (telegram_fits (telegram_word_at bytes n j))

-- the address whose reply a decision expects is low, and what it sends has at most 255 bytes
abbrev pub DecisionLow : Decision → Type 0
DecisionLow decision.Decline = Unit {0}
DecisionLow (decision.Send length) = length ≤ 255
DecisionLow (decision.SendExpectReply a length) = (a < 128) × (length ≤ 255)

word_low : (w : ℕ) → DecisionLow (decision_of w)
unfolding decision_of
word_low w =
    let size : field_of w 7 8 ≤ 255 = omega (arith, field_below w 7 8) in
    either DecisionLow (bit_at w 23) _ _ (either DecisionLow (bit_at w 22) _ _ (field_below w 15 7, size) size) tt

pub decision_low : (bytes : List ℕ) (n a : ℕ) (high : Bool) → DecisionLow (decision_at bytes n a high)
unfolding decision_at
decision_low bytes n a high = either DecisionLow (ltb a n) _ _ (word_low _) tt

-- the gap walk polls addresses of the gap only
pub gap_asked : (p : Parameters) (r : Ring) (a : ℕ) → RingGood p r → GapAddressed p (gap_of r a p.highest_station_address)
gap_asked p r a g = go (gap_of r a p.highest_station_address) refl
  where
    go : (x : GapState) → gap_of r a p.highest_station_address ≡ x → GapAddressed p x
    go (Waiting count) e = tt
    go (DoPoll x) e =
        let q = gap_polls_lem r a p.highest_station_address x g.sound e in
        record { low = q.low; not_own = λ i. q.not_own (i ∙ sym g.own); below = q.below }

-- a station's ring, by the calls of ring
pub fresh_good : (p : Parameters) → p.address < 126 → RingGood p (fresh_of p.address)
fresh_good p l = record { sound = sound_fresh p.address l; own = (fresh_made p.address).own_is }

pub again_good : (p : Parameters) (r : Ring) → RingGood p r → RingGood p (fresh_of p.address)
again_good p r g = fresh_good p (rw g.own at g.sound.own_low)

pub claim_good : (p : Parameters) (r : Ring) → RingGood p r → RingGood p (claim_of r)
claim_good p r g = record { sound = sound_claim r g.sound; own = claim_own r ∙ g.own }

pub add_good : (p : Parameters) (r : Ring) (a : ℕ) → RingGood p r → RingGood p (add_of r a)
add_good p r a g = record { sound = sound_add r a g.sound; own = add_own r a ∙ g.own }

pub remove_good : (p : Parameters) (r : Ring) (a : ℕ) → RingGood p r → RingGood p (remove_of r a)
remove_good p r a g = record { sound = sound_remove r a g.sound; own = remove_own r a ∙ g.own }

pub witness_good : (p : Parameters) (r : Ring) (s d : ℕ) → RingGood p r → RingGood p (witness_of r s d)
witness_good p r s d g = record { sound = sound_witness r s d g.sound; own = witness_own r s d ∙ g.own }
