-- Why what the code keeps of a bus (`OnWire`) is enough: of all that was sent at most one telegram can still arrive, it is the one that
-- was sent last, and it meets none. Assumes nothing.
use Rattle.std.specs.Prelude.{ℕ, ◌+◌, ◌<◌, ◌≤◌, ◌≡◌, Bool, true, false, cond, ◌&&◌, ◌⊎◌, eqb, ltb, leb}
use Rattle.std.proofs.Math.Path.{refl, sym, ap, subst}
use Rattle.std.proofs.Common.{◌∙◌}
use mathlib.Core.List.{List, [], ◌∷◌}
use Rattle.std.proofs.Math.Bool.{not}
use Rattle.std.proofs.Math.Logic.{inl, inr}
use native.Mathlib.Omega.{arith}
use borrow.Author.Tests.{eq-eqb, ne_eqb, lt-ltb, le-ltb, ltb-true, ltb-false, leb-true, leb-false}
use borrow.Table.Steps.{cases}
use Rattle.codec_telegrams.specs.Words.{telegram_word}
use Rattle.bus_wire.specs.declared.Wire.{Wire}
use Rattle.bus_wire.specs.Wire.{Transmission, some, same, meets, lost_in, hears, heard_among, heard_at, transmitting_at}
use Rattle.bus_wire.specs.Kept.{later_of, quiet, sent_on, arrives_at, cleared_at}
use Rattle.bus_wire.specs.Arrives.{All, Arrival, Before, Going, Gone, Live, OnWire, Past, latest, own_latest}

pub all_map : (P Q : Transmission → Type 0) → ((t : Transmission) → P t → Q t) → (l : List Transmission) → All P l → All Q l
all_map P Q f [] a = tt
all_map P Q f (t ∷ l) a = (f t a.0, all_map P Q f l a.1)

off_right : (a : Bool) → (a && false) ≡ false
off_right true = refl
off_right false = refl

-- Some of a list.

none_such : (f : Transmission → Bool) (l : List Transmission) → All (λ t. f t ≡ false) l → some f l ≡ false
unfolding some
none_such f [] a = refl
none_such f (t ∷ l) a = rw a.0 (none_such f l a.1)

here_such : (f : Transmission → Bool) (t : Transmission) (l : List Transmission) → f t ≡ true → some f (t ∷ l) ≡ true
unfolding some
here_such f t l e = rw e

there_such : (f : Transmission → Bool) (t : Transmission) (l : List Transmission) → some f l ≡ true → some f (t ∷ l) ≡ true
unfolding some
there_such f t l e = cases (f t) (λ h. rw h) (λ h. rw (h, e))

-- When all has ended.

later_left : (a b : ℕ) → a ≤ later_of a b
unfolding later_of
later_left a b = cases (ltb a b) (λ t. let h = ltb-true a b t in rw t (omega arith)) (λ t. rw t (omega arith))

later_right : (a b : ℕ) → b ≤ later_of a b
unfolding later_of
later_right a b = cases (ltb a b) (λ t. rw t (omega arith)) (λ t. let h = ltb-false a b t in rw t h)

later_is_right : (a b : ℕ) → ltb a b ≡ true → later_of a b ≡ b
unfolding later_of
later_is_right a b e = rw e

later_is_left : (a b : ℕ) → ltb a b ≡ false → later_of a b ≡ a
unfolding later_of
later_is_left a b e = rw e

ended_by : (l : List Transmission) (k : ℕ) → latest l ≤ k → All (λ u. u.ends ≤ k) l
ended_by [] k h = tt
ended_by (t ∷ l) k h =
    let a = later_left (latest l) t.ends in
    let b = later_right (latest l) t.ends in
    (omega arith, ended_by l k (omega arith))

-- where the last end lies ahead, one that ends after now is among them
ahead :
    (f : Transmission → Bool) (P : Transmission → Type 0) (now : ℕ)
    → ((u : Transmission) → P u → now < u.ends → f u ≡ true)
    → (l : List Transmission) → All P l → now < latest l → some f l ≡ true
ahead f P now such [] a h = absurd (omega arith)
ahead f P now such (t ∷ l) a h =
    cases (ltb (latest l) t.ends)
    (λ e. here_such f t l (such t a.0 (subst (λ (k : ℕ). now < k) (later_is_right _ _ e) h)))
    (λ e. there_such f t l (ahead f P now such l a.1 (subst (λ (k : ℕ). now < k) (later_is_left _ _ e) h)))

-- at the start
pub wire_quiet : (tick next : ℕ) → OnWire [] tick next quiet
unfolding quiet
wire_quiet tick next = record { busy = refl; past = tt; going = tt }

-- What is heard.

module _ (all : List Transmission) (tick next place : ℕ) where
  gone_unheard : (u : Transmission) → Gone all tick next u → hears all tick next place u ≡ false
  gone_unheard u (inl e) = simp (e, off_right)
  gone_unheard u (inr h) = simp (le-ltb next (u.ends + tick) h, off_right)

  none_heard : (l : List Transmission) → All (Gone all tick next) l → heard_among all tick next place l ≡ []
  unfolding heard_among
  none_heard [] a = refl
  none_heard (t ∷ l) a = rw (gone_unheard t a.0, none_heard l a.1)

heard_by : (a b : Bool) → ((a && true) && (not b && true)) ≡ cond a (cond b false true) false
heard_by true true = refl
heard_by true false = refl
heard_by false true = refl
heard_by false false = refl

module _ {all : List Transmission} {tick next : ℕ} {w : Wire} (past : All (Past tick next) all) (g : Live all tick next w) where
  newest_past : Past tick next g.newest
  newest_past = (subst (All (Past tick next)) g.is past).0

  -- all else has arrived
  earlier_gone : All (Gone all tick next) g.earlier
  earlier_gone = all_map (λ u. u.ends ≤ g.newest.starts) (Gone all tick next) (λ u h. let p = newest_past.1 in inr (omega arith)) g.earlier g.before

  -- it meets none
  newest_kept : lost_in all g.newest ≡ false
  unfolding lost_in some
  newest_kept =
      subst (λ (l : List Transmission). lost_in l g.newest ≡ false) (sym g.is)
      (rw (eq-eqb g.newest.sender g.newest.sender refl, eq-eqb g.newest.starts g.newest.starts refl)
      (none_such (λ u. not (same g.newest u) && meets g.newest u) g.earlier
      (all_map (λ u. u.ends ≤ g.newest.starts) (λ u. (not (same g.newest u) && meets g.newest u) ≡ false) (λ u h. simp (le-ltb g.newest.starts u.ends h, off_right)) g.earlier g.before)))

  live_heard : (place : ℕ) → w.live ≡ true → hears all tick next place g.newest ≡ arrives_at w next place
  unfolding arrives_at
  live_heard place e =
      rw (newest_kept, lt-ltb next (g.newest.ends + tick) g.soon, e, ← g.ends, ← g.sender)
      (heard_by (leb g.newest.ends next) (eqb g.newest.sender place))

  live_among : (place : ℕ) → w.live ≡ true → heard_at all tick next place ≡ cond (arrives_at w next place) (g.newest.telegram ∷ []) []
  unfolding heard_among
  live_among place e =
      ap (heard_among all tick next place) g.is
      ∙ rw (none_heard all tick next place g.earlier earlier_gone, live_heard place e)

-- what is not live does not arrive
never_arrives : (w : Wire) (next place : ℕ) → w.live ≡ false → arrives_at w next place ≡ true → ⊥
unfolding arrives_at
never_arrives w next place e f = let z : ◌≡◌ {A = Bool} false true = rw e at f in subst (λ (b : Bool). cond b ⊥ (Unit {0})) z tt

pub arrival : (all : List Transmission) (tick next place : ℕ) (w : Wire) → OnWire all tick next w → Arrival w next place (heard_at all tick next place)
arrival all tick next place w g = cases w.live on off
  where
    on : w.live ≡ true → Arrival w next place (heard_at all tick next place)
    on e =
        let l : Live all tick next w = subst (λ (b : Bool). Going b all tick next w) e g.going in
        let h = live_among g.past l place e in
        record {
          none = λ f. h ∙ rw f;
          one = λ f. (l.newest.telegram, sym l.word, h ∙ rw f);
        }

    off : w.live ≡ false → Arrival w next place (heard_at all tick next place)
    off e =
        let l : All (Gone all tick next) all = subst (λ (b : Bool). Going b all tick next w) e g.going in
        record {
          none = λ f. none_heard all tick next place all l;
          one = λ f. absurd (never_arrives w next place e f);
        }

-- After the arrivals.

gone_later : (all : List Transmission) (tick next more : ℕ) → next ≤ more → (u : Transmission) → Gone all tick next u → Gone all tick more u
gone_later all tick next more h u (inl e) = inl e
gone_later all tick next more h u (inr k) = inr (omega arith)

past_later : (all : List Transmission) (tick next more : ℕ) → next ≤ more → (l : List Transmission) → All (Past tick next) l → All (Past tick more) l
past_later all tick next more h = all_map (Past tick next) (Past tick more) (λ u p. let q = p.1 in (p.0, omega arith))

pub wire_cleared : (all : List Transmission) (tick now : ℕ) (w : Wire) → OnWire all tick now w → OnWire all tick (now + tick) (cleared_at w now)
unfolding cleared_at
wire_cleared all tick now w g =
    cases (leb w.until now)
    (λ t. rw t (record { busy = g.busy; past = passed; going = all_gone (leb-true _ _ t) }))
    (λ t. rw t (record { busy = g.busy; past = passed; going = cases w.live (still (leb-false _ _ t)) still_gone }))
  where
    passed : All (Past tick (now + tick)) all
    passed = past_later all tick now (now + tick) (omega arith) all g.past

    later : (u : Transmission) → Gone all tick now u → Gone all tick (now + tick) u
    later = gone_later all tick now (now + tick) (omega arith)

    all_gone : w.until ≤ now → All (Gone all tick (now + tick)) all
    all_gone h = all_map (λ u. u.ends ≤ now) (Gone all tick (now + tick)) (λ u k. inr (omega arith)) all (ended_by all now (subst (λ (k : ℕ). k ≤ now) g.busy h))

    still : now < w.until → w.live ≡ true → Going w.live all tick (now + tick) w
    still h e =
        let l : Live all tick now w = subst (λ (b : Bool). Going b all tick now w) e g.going in
        let ends = l.ends in
        subst (λ (b : Bool). Going b all tick (now + tick) w) (sym e)
        (record { newest = l.newest; earlier = l.earlier; is = l.is; sender = l.sender; word = l.word; ends = l.ends; before = l.before; soon = omega arith })

    still_gone : w.live ≡ false → Going w.live all tick (now + tick) w
    still_gone e =
        subst (λ (b : Bool). Going b all tick (now + tick) w) (sym e)
        (all_map (Gone all tick now) (Gone all tick (now + tick)) later all (subst (λ (b : Bool). Going b all tick now w) e g.going))

not_same : (t u : Transmission) → (u.sender < t.sender) ⊎ (u.starts < t.starts) → (same t u ≡ false) × (same u t ≡ false)
not_same t u (inl h) = (rw (ne_eqb t.sender u.sender (λ e. omega arith)), rw (ne_eqb u.sender t.sender (λ e. omega arith)))
not_same t u (inr h) = (simp (ne_eqb t.starts u.starts (λ e. omega arith), off_right), simp (ne_eqb u.starts t.starts (λ e. omega arith), off_right))

module _ (all : List Transmission) (tick : ℕ) (t : Transmission) (w : Wire) (g : OnWire all tick (t.starts + tick) w) (takes : t.starts < t.ends) (apart : Before t.sender t.starts all) where
  -- one that has not ended when t starts: both are lost
  loses : (u : Transmission) → Past tick (t.starts + tick) u × ((u.sender < t.sender) ⊎ (u.starts < t.starts)) → t.starts < u.ends → (not (same t u) && meets t u) ≡ true
  loses u (p, a) h = let q = p.1 in rw ((not_same t u a).0, lt-ltb t.starts u.ends h, lt-ltb u.starts t.ends (omega arith))

  lost_with : (u : Transmission) → Past tick (t.starts + tick) u → (u.sender < t.sender) ⊎ (u.starts < t.starts) → t.starts < u.ends → lost_in (t ∷ all) u ≡ true
  unfolding lost_in
  lost_with u p a h =
      let q = p.1 in
      here_such (λ v. not (same u v) && meets u v) t all (rw ((not_same t u a).1, lt-ltb u.starts t.ends (omega arith), lt-ltb t.starts u.ends h))

  both : (l : List Transmission) → All (Past tick (t.starts + tick)) l → Before t.sender t.starts l → All (λ u. Past tick (t.starts + tick) u × ((u.sender < t.sender) ⊎ (u.starts < t.starts))) l
  both [] a b = tt
  both (u ∷ l) a b = ((a.0, b.0), both l a.1 b.1)

  -- t itself is lost where the bus is busy
  new_lost : t.starts < w.until → lost_in (t ∷ all) t ≡ true
  unfolding lost_in
  new_lost h =
      there_such (λ v. not (same t v) && meets t v) t all
      (ahead (λ v. not (same t v) && meets t v) (λ u. Past tick (t.starts + tick) u × ((u.sender < t.sender) ⊎ (u.starts < t.starts))) t.starts loses all (both all g.past apart) (subst (λ (k : ℕ). t.starts < k) g.busy h))

  -- what was lost stays lost
  still_lost : (u : Transmission) → Gone all tick (t.starts + tick) u → Gone (t ∷ all) tick (t.starts + tick) u
  unfolding lost_in
  still_lost u (inl e) = inl (there_such (λ v. not (same u v) && meets u v) t all e)
  still_lost u (inr h) = inr h

  old_gone : t.starts < w.until → All (Gone (t ∷ all) tick (t.starts + tick)) all
  old_gone h = cases w.live on off
    where
      off : w.live ≡ false → All (Gone (t ∷ all) tick (t.starts + tick)) all
      off e = all_map (Gone all tick (t.starts + tick)) (Gone (t ∷ all) tick (t.starts + tick)) still_lost all (subst (λ (b : Bool). Going b all tick (t.starts + tick) w) e g.going)

      on : w.live ≡ true → All (Gone (t ∷ all) tick (t.starts + tick)) all
      on e =
          let l : Live all tick (t.starts + tick) w = subst (λ (b : Bool). Going b all tick (t.starts + tick) w) e g.going in
          let a : All (λ u. Past tick (t.starts + tick) u × ((u.sender < t.sender) ⊎ (u.starts < t.starts))) (l.newest ∷ l.earlier) = subst (All (λ u. Past tick (t.starts + tick) u × ((u.sender < t.sender) ⊎ (u.starts < t.starts)))) l.is (both all g.past apart) in
          subst (All (Gone (t ∷ all) tick (t.starts + tick))) (sym l.is)
          (inl (lost_with l.newest a.0.0 a.0.1 (subst (λ (k : ℕ). t.starts < k) (sym l.ends) h)), all_map (Gone all tick (t.starts + tick)) (Gone (t ∷ all) tick (t.starts + tick)) still_lost l.earlier (earlier_gone g.past l))

  -- where all has ended, none is on its way
  not_live : w.until ≤ t.starts → w.live ≡ true → ⊥
  not_live h e =
      let l : Live all tick (t.starts + tick) w = subst (λ (b : Bool). Going b all tick (t.starts + tick) w) e g.going in
      let ends = l.ends in
      let soon = l.soon in
      omega arith

  pub wire_sent : (word : ℕ) → word ≡ telegram_word t.telegram → OnWire (t ∷ all) tick (t.starts + tick) (sent_on w t.starts t.ends t.sender word)
  unfolding sent_on
  wire_sent word e =
      cases (ltb t.starts w.until)
      (λ b. rw b (record { busy = ap (λ (k : ℕ). later_of k t.ends) g.busy; past = ((takes, omega arith), g.past); going = (inl (new_lost (ltb-true _ _ b)), old_gone (ltb-true _ _ b)) }))
      (λ b.
      let h = ltb-false _ _ b in
      rw b
      (record {
        busy = latest_new h;
        past = ((takes, omega arith), g.past);
        going = record { newest = t; earlier = all; is = refl; sender = refl; word = sym e; ends = refl; before = ended_by all t.starts (subst (λ (k : ℕ). k ≤ t.starts) g.busy h); soon = omega arith };
      }))
    where
      latest_new : w.until ≤ t.starts → t.ends ≡ later_of (latest all) t.ends
      latest_new h =
          let k : w.until < t.ends = omega arith in
          sym (later_is_right _ _ (lt-ltb _ _ (subst (λ (k : ℕ). k < t.ends) g.busy k)))

later_after : (now a b : ℕ) → ltb now (later_of a b) ≡ cond (ltb now b) true (ltb now a)
unfolding later_of
later_after now a b =
    cases (ltb a b)
    (λ t.
    let h = ltb-true a b t in
    cases (ltb now b) (λ s. rw (t, s)) (λ s. let k = ltb-false now b s in rw (t, s, le-ltb now a (omega arith))))
    (λ t.
    let h = ltb-false a b t in
    cases (ltb now b) (λ s. let k = ltb-true now b s in rw (t, s, lt-ltb now a (omega arith))) (λ s. rw (t, s)))

pub transmitting_is : (now place : ℕ) (all : List Transmission) → transmitting_at all now place ≡ ltb now (own_latest all place)
unfolding transmitting_at some own_latest
transmitting_is now place [] = sym (le-ltb now 0 (omega arith))
transmitting_is now place (t ∷ l) =
    cases (eqb t.sender place)
    (λ e. rw (e, later_after now (own_latest l place) t.ends, transmitting_is now place l))
    (λ e. rw (e, transmitting_is now place l))
