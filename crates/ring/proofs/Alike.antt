-- The tables beside the bits that they replace: after any calls from fresh the two answer alike.
use Rattle.std.specs.Prelude.{ℕ, zero, suc, ◌<◌, ◌≡◌, refl, Bool, true, false, cond, not, ◌&&◌, ◌||◌, List, [], ◌∷◌, ltb, leb, eqb, Option}
use Rattle.std.proofs.Common.{sym, ap, ◌∙◌, arith, ltb-true, ltb-false, eqb-true}
use Rattle.std.proofs.lemmas.Bool.{eqb-false}
use Rattle.ring_addresses.specs.Set.{up, walk, nearest, only, add_to, take_out, keeps, keeps_all, same_set}
use Rattle.ring_addresses.specs.SetLaws.{walk_ext}
use Rattle.ring_addresses.specs.WordLaws.{has_words, has_out as bits_out}
use Rattle.ring.specs.declared.GapState.TheVariants.{Waiting, DoPoll}
use Rattle.ring.specs.Ring.{Ring, has, others, first_of, next_of, fresh_of, add_of, remove_of, laps_of, witness_of, candidate_of, polls_on, polls, gap_of}
use Rattle.ring_links.specs.Sets.{nearest_ext}
use Rattle.ring.specs.Laws.{SoundRing, MadeWith, laps_after, RingCall, claim, add, remove, witness, after_call, after_calls}
use Rattle.ring.proofs.Laws.{has_out, fresh_made, fresh_has, claim_made, claim_has, add_made, add_has, add_out, remove_out, remove_made, remove_has, remove_me, witness_made, witness_has, witness_out_s, witness_out_d, next_first, previous_nearest, sound_fresh, sound_after, sound_made}
use Rattle.ring.specs.BitRing.{BitRing, has_bit, make_bits, next_bits, prev_bits, gap_bits, fresh_bits, passed_bits, after_bits, after_all_bits}
use Rattle.ring.specs.Alike.{AnswerAlike}

-- the two forms hold the same set, own, laps and ready
record HoldAlike (r : Ring) (b : BitRing) : Type 0 where
  own_same : r.own ≡ b.own
  laps_same : r.laps ≡ b.laps
  ready_same : r.ready ≡ b.ready
  set_same : (x : ℕ) → x < 126 → has r x ≡ has_bit b x

-- a ring that has these members holds what the bits made of them hold
made_alike : (r : Ring) (own laps : ℕ) (ready : Bool) (f : ℕ → Bool) → MadeWith r own laps ready → ((x : ℕ) → x < 126 → has r x ≡ f x)
    → (own' laps' : ℕ) (ready' : Bool) (g : ℕ → Bool) → own ≡ own' → laps ≡ laps' → ready ≡ ready' → ((x : ℕ) → x < 126 → f x ≡ g x)
    → HoldAlike r (make_bits own' g laps' ready')
unfolding make_bits has_bit
made_alike r own laps ready f m h own' laps' ready' g eo el er eg =
    record {
      own_same = m.own_is ∙ eo;
      laps_same = m.laps_is ∙ el;
      ready_same = m.ready_is ∙ er;
      set_same = λ x l. h x l ∙ eg x l ∙ sym (has_words g x l);
    }

-- sets that agree compare alike
pub same_alike : (f f' g g' : ℕ → Bool) (n : ℕ) → ((x : ℕ) → x < n → f x ≡ f' x) → ((x : ℕ) → x < n → g x ≡ g' x) → same_set f g n ≡ same_set f' g' n
unfolding same_set
same_alike f f' g g' zero p q = refl
same_alike f f' g g' (suc n) p q =
    rw (same_alike f f' g g' n (λ x l. p x (omega arith)) (λ x l. q x (omega arith)), p n (omega arith), q n (omega arith))

pass_alike : (r : Ring) (b : BitRing) (s d : ℕ) → SoundRing r → HoldAlike r b → s < 126 → d < 126 → HoldAlike (witness_of r s d) (passed_bits b s d)
unfolding passed_bits
pass_alike r b s d w a ls ld =
    let set : (x : ℕ) → x < 126 → keeps_all r.own s d (has r) x ≡ keeps_all b.own s d (has_bit b) x = (λ x l. ap (λ (o : ℕ). keeps o s d (has r x) x) a.own_same ∙ ap (λ (v : Bool). keeps b.own s d v x) (a.set_same x l)) in
    let same = same_alike (has r) (has_bit b) (keeps_all r.own s d (has r)) (keeps_all b.own s d (has_bit b)) 126 a.set_same set in
    let laps : laps_after r s d ≡ laps_of (same_set (has_bit b) (keeps_all b.own s d (has_bit b)) 126) b.laps s d = rw (same, a.laps_same) in
    made_alike (witness_of r s d) r.own (laps_after r s d) (r.ready || leb 2 (laps_after r s d)) (keeps_all r.own s d (has r)) (witness_made r s d w ls ld) (λ x l. witness_has r s d x w ls ld l) b.own _ _ (keeps_all b.own s d (has_bit b)) a.own_same laps (rw (laps, a.ready_same)) set

-- each call keeps what they hold the same
call_alike : (r : Ring) (b : BitRing) (c : RingCall) → SoundRing r → HoldAlike r b → HoldAlike (after_call r c) (after_bits b c)
unfolding after_call after_bits add_to take_out has_bit
call_alike r b claim w a =
    let m = claim_made r in
    record {
      own_same = m.own_is ∙ a.own_same;
      laps_same = m.laps_is ∙ a.laps_same;
      ready_same = m.ready_is;
      set_same = λ x l. claim_has r x ∙ unfold has_bit in a.set_same x l;
    }
call_alike r b (add y) w a = go (ltb y 126) refl
  where
    go : (t : Bool) → ltb y 126 ≡ t → HoldAlike (add_of r y) (cond t (make_bits b.own (add_to y (has_bit b)) b.laps b.ready) b)
    go true q =
        made_alike (add_of r y) r.own r.laps r.ready (add_to y (has r)) (add_made r y) (λ x l. add_has r y x w (ltb-true y 126 q) l) b.own b.laps b.ready (add_to y (has_bit b)) a.own_same a.laps_same a.ready_same
        (λ x l. ap (λ (t : Bool). eqb x y || t) (a.set_same x l))
    go false q = rw (add_out r y (ltb-false y 126 q)) a
call_alike r b (remove y) w a =
    rw (ap (eqb y) (sym a.own_same)) (go (eqb y r.own) (ltb y 126) refl refl)
  where
    go : (t u : Bool) → eqb y r.own ≡ t → ltb y 126 ≡ u
        → HoldAlike (remove_of r y) (cond t b (cond u (make_bits b.own (take_out y (has_bit b)) b.laps b.ready) b))
    go true u q p = rw (ap (remove_of r) (eqb-true y r.own q) ∙ remove_me r) a
    go false true q p =
        made_alike (remove_of r y) r.own r.laps r.ready (take_out y (has r)) (remove_made r y) (λ x l. remove_has r y x w l (eqb-false y r.own q)) b.own b.laps b.ready (take_out y (has_bit b)) a.own_same a.laps_same a.ready_same
        (λ x l. ap (λ (t : Bool). not (eqb x y) && t) (a.set_same x l))
    go false false q p = rw (remove_out r y (ltb-false y 126 p)) a
call_alike r b (witness s d) w a = go (ltb s 126) (ltb d 126) refl refl
  where
    go : (t u : Bool) → ltb s 126 ≡ t → ltb d 126 ≡ u → HoldAlike (witness_of r s d) (cond (t && u) (passed_bits b s d) b)
    go true true p q = pass_alike r b s d w a (ltb-true s 126 p) (ltb-true d 126 q)
    go true false p q = rw (witness_out_d r s d (ltb-false d 126 q)) a
    go false u p q = rw (witness_out_s r s d (ltb-false s 126 p)) a

start_alike : (own : ℕ) → HoldAlike (fresh_of own) (fresh_bits own)
unfolding fresh_bits
start_alike own = made_alike (fresh_of own) own 0 false (only own) (fresh_made own) (fresh_has own) own 0 false (only own) refl refl refl (λ x l. refl)

calls_alike : (cs : List RingCall) (r : Ring) (b : BitRing) → SoundRing r → HoldAlike r b → HoldAlike (after_calls r cs) (after_all_bits b cs)
unfolding after_calls after_all_bits
calls_alike [] r b s a = a
calls_alike (c ∷ cs) r b s a = calls_alike cs (after_call r c) (after_bits b c) (sound_after r c s) (call_alike r b c s a)

-- who hold the same answer alike
answer_alike : (r : Ring) (b : BitRing) → SoundRing r → HoldAlike r b → AnswerAlike r b
unfolding has_bit others next_bits prev_bits gap_bits gap_of polls
answer_alike r b s a =
    record {
      own_same = a.own_same;
      laps_same = a.laps_same;
      ready_same = a.ready_same;
      members_same = λ x. member x (ltb x 126) refl;
      next_same = next;
      previous_same =
          previous_nearest r s ∙ ap (nearest false (has r)) a.own_same ∙ nearest_ext false (has r) (has_bit b) b.own a.set_same;
      gap_same = λ y hsa. ap (λ (n : Option ℕ). cond (cond (ltb (candidate_of y hsa) 126) (polls_on n r.own (candidate_of y hsa)) false) (DoPoll (candidate_of y hsa)) (Waiting 0)) next ∙ ap (λ (o : ℕ). cond (cond (ltb (candidate_of y hsa) 126) (polls_on (next_bits b) o (candidate_of y hsa)) false) (DoPoll (candidate_of y hsa)) (Waiting 0)) a.own_same;
    }
  where
    member : (x : ℕ) (t : Bool) → ltb x 126 ≡ t → has r x ≡ has_bit b x
    member x true q = a.set_same x (ltb-true x 126 q)
    member x false q = has_out r x (ltb-false x 126 q) ∙ sym (bits_out b.low b.high x (ltb-false x 126 q))

    next : next_of r ≡ next_bits b
    next =
        next_first r s
        ∙ ap (λ (o : ℕ). first_of (walk (has r) (up o) 125 1)) a.own_same
        ∙ ap first_of (walk_ext (has r) (has_bit b) (up b.own) 125 1 (λ e l u. a.set_same (up b.own e) (omega arith)))

-- document 02: after any sequence of ring calls from fresh the two forms answer alike
pub answers_alike : (own : ℕ) (cs : List RingCall) → own < 126 → AnswerAlike (after_calls (fresh_of own) cs) (after_all_bits (fresh_bits own) cs)
answers_alike own cs l =
    answer_alike (after_calls (fresh_of own) cs) (after_all_bits (fresh_bits own) cs) (sound_made own cs l) (calls_alike cs (fresh_of own) (fresh_bits own) (sound_fresh own l) (start_alike own))
