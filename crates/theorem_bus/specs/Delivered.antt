-- What a record lists: each telegram was sent by another station, has ended, and met none; and each transmission is due at one tick
-- alone. Assumes nothing.
use Prim.Native.Nat.{ℕ, zero, suc, ◌+◌, ◌-◌, ◌*◌, ◌<◌, ◌≤◌}
use Rattle.std.specs.Prelude.{◌≡◌, refl, Bool, true, false, ◌&&◌, not, ◌⊎◌, length, drop, eqb, ltb, leb}
use mathlib.Core.List.{List, [], ◌∷◌, ◌++◌}
use Rattle.std.proofs.Common.{inl, inr, arith, suc-mul, mul-le-mul_right, le-ltb, leb-true, ltb-true, ltb-false}
use Rattle.std.proofs.lemmas.Bool.{eqb-false, not-true}
use borrow.Table.Steps.{cases}
use Rattle.bit_times.proofs.Laws.{and_true}
use Rattle.codec_telegrams.specs.declared.Telegram.{Telegram}
use Rattle.bus_setup.specs.Setup.{stations_of, tick_of}
use Rattle.bus_wire.specs.Wire.{Transmission, some, same, meets, lost_in, due_at, hears, heard_among, heard_at}
use Rattle.bus_run.specs.Run.{Bus, start_seat, given, answer_for, bytes_for, seat_after, transmission_for, sent_after, bus_after, bus_at}

-- one of a list
abbrev pub Among : Transmission → List Transmission → Type 0
Among u [] = ⊥
Among u (t ∷ l) = (u ≡ t) ⊎ Among u l

-- what holds of each telegram of a list
abbrev pub Every : (Telegram → Type 0) → List Telegram → Type 0
Every P [] = Unit {0}
Every P (x ∷ l) = P x × Every P l

pub every_map : (P Q : Telegram → Type 0) → ((x : Telegram) → P x → Q x) → (l : List Telegram) → Every P l → Every Q l
every_map P Q f [] a = tt
every_map P Q f (x ∷ l) a = (f x a.0, every_map P Q f l a.1)

every_append : (P : Telegram → Type 0) (l m : List Telegram) → Every P l → Every P m → Every P (l ++ m)
every_append P [] m a b = b
every_append P (x ∷ l) m a b = (a.0, every_append P l m a.1 b)

every_drop : (P : Telegram → Type 0) (n : ℕ) (l : List Telegram) → Every P l → Every P (drop n l)
every_drop P zero l a = a
every_drop P (suc n) [] a = a
every_drop P (suc n) (x ∷ l) a = every_drop P n l a.1

-- a telegram that was delivered to a place by tick k: a transmission of another station, which has ended by then and met none
pub record Delivered (setup : List ℕ) (k place : ℕ) (x : Telegram) : Type 0 where
  pub transmission : Transmission
  pub among : Among transmission (bus_at setup k).sent
  pub says : transmission.telegram ≡ x
  pub by_another : transmission.sender ≡ place → ⊥
  pub ended : transmission.ends ≤ k * tick_of setup
  pub kept : lost_in (bus_at setup k).sent transmission ≡ false

-- What arrives at a tick.

module _ (setup : List ℕ) (k place : ℕ) where
  heard_one :
      (t : Transmission)
      → Among t (bus_at setup k).sent
      → hears (bus_at setup k).sent (tick_of setup) (k * tick_of setup) place t ≡ true
      → Delivered setup k place t.telegram
  heard_one t in_List e =
      let a = and_true (due_at (tick_of setup) (k * tick_of setup) t) (not (eqb t.sender place) && not (lost_in (bus_at setup k).sent t)) e in
      let d = and_true (leb t.ends (k * tick_of setup)) (ltb (k * tick_of setup) (t.ends + tick_of setup)) a.0 in
      let b = and_true (not (eqb t.sender place)) (not (lost_in (bus_at setup k).sent t)) a.1 in
      record {
        transmission = t;
        among = in_List;
        says = refl;
        by_another = eqb-false t.sender place (not-true (eqb t.sender place) b.0);
        ended = leb-true t.ends (k * tick_of setup) d.0;
        kept = not-true (lost_in (bus_at setup k).sent t) b.1;
      }

  among_heard :
      (l : List Transmission)
      → ((t : Transmission) → Among t l → Among t (bus_at setup k).sent)
      → Every (Delivered setup k place) (heard_among (bus_at setup k).sent (tick_of setup) (k * tick_of setup) place l)
  unfolding heard_among
  among_heard [] f = tt
  among_heard (t ∷ l) f =
      every_append (Delivered setup k place) (heard_among (bus_at setup k).sent (tick_of setup) (k * tick_of setup) place l) _
      (among_heard l (λ u h. f u (inr h)))
      (cases (hears (bus_at setup k).sent (tick_of setup) (k * tick_of setup) place t)
      (λ e. rw e (heard_one t (f t (inl refl)) e, tt))
      (λ e. rw e tt))

  heard_delivered : Every (Delivered setup k place) (heard_at (bus_at setup k).sent (tick_of setup) (k * tick_of setup) place)
  heard_delivered = among_heard (bus_at setup k).sent (λ t h. h)

-- It stays so.

off : (a b : Bool) → b ≡ false → (a && b) ≡ false
off true b e = e
off false b e = refl

module _ (tick now : ℕ) (b : Bus) (u : Transmission) where
  still_among : (i : ℕ) → Among u b.sent → Among u (sent_after tick b now i)
  unfolding sent_after
  still_among zero h = h
  still_among (suc i) h = cases (ltb 0 (bytes_for tick b now i)) (λ e. rw e (inr (still_among i h))) (λ e. rw e (still_among i h))

  -- what starts when it has ended does not meet it
  no_meeting : (i : ℕ) → u.ends ≤ now → (not (same u (transmission_for tick b now i)) && meets u (transmission_for tick b now i)) ≡ false
  unfolding transmission_for
  no_meeting i h =
      off (not (same u (transmission_for tick b now i))) (meets u (transmission_for tick b now i))
      (off (ltb u.starts (transmission_for tick b now i).ends) (ltb now u.ends) (le-ltb now u.ends h))

  still_kept : (i : ℕ) → u.ends ≤ now → lost_in b.sent u ≡ false → lost_in (sent_after tick b now i) u ≡ false
  unfolding sent_after lost_in some
  still_kept zero h e = e
  still_kept (suc i) h e =
      cases (ltb 0 (bytes_for tick b now i))
      (λ t. rw (t, no_meeting i h) (still_kept i h e))
      (λ t. rw t (still_kept i h e))

pub sent_after_lem : (setup : List ℕ) (k : ℕ) → (bus_at setup (suc k)).sent ≡ sent_after (tick_of setup) (bus_at setup k) (k * tick_of setup) (stations_of setup)
unfolding bus_at bus_after
sent_after_lem setup k = refl

pub stays_delivered : (setup : List ℕ) (k place : ℕ) (x : Telegram) → Delivered setup k place x → Delivered setup (suc k) place x
stays_delivered setup k place x d =
    let ended = d.ended in
    let more : suc k * tick_of setup ≡ k * tick_of setup + tick_of setup = suc-mul k (tick_of setup) in
    record {
      transmission = d.transmission;
      among = rw (sent_after_lem setup k) (still_among (tick_of setup) (k * tick_of setup) (bus_at setup k) d.transmission (stations_of setup) d.among);
      says = d.says;
      by_another = d.by_another;
      ended = omega arith;
      kept = rw (sent_after_lem setup k) (still_kept (tick_of setup) (k * tick_of setup) (bus_at setup k) d.transmission (stations_of setup) d.ended d.kept);
    }

-- What a record lists.

waiting_after : (setup : List ℕ) (k place : ℕ) → ((bus_at setup (suc k)).seats place).waiting ≡ drop (answer_for (tick_of setup) (bus_at setup k) (k * tick_of setup) place).consumed (given (tick_of setup) (bus_at setup k) (k * tick_of setup) place)
unfolding bus_at bus_after seat_after
waiting_after setup k place = refl

none_waits : (setup : List ℕ) (place : ℕ) → ((bus_at setup 0).seats place).waiting ≡ []
unfolding bus_at start_seat
none_waits setup place = refl

listed_from :
    (setup : List ℕ) (place k : ℕ)
    → Every (Delivered setup k place) ((bus_at setup k).seats place).waiting
    → Every (Delivered setup k place) (given (tick_of setup) (bus_at setup k) (k * tick_of setup) place)
listed_from setup place k w =
    every_drop (Delivered setup k place) (length (((bus_at setup k).seats place).waiting ++ heard_at (bus_at setup k).sent (tick_of setup) (k * tick_of setup) place) - 8)
    (((bus_at setup k).seats place).waiting ++ heard_at (bus_at setup k).sent (tick_of setup) (k * tick_of setup) place)
    (every_append (Delivered setup k place) ((bus_at setup k).seats place).waiting (heard_at (bus_at setup k).sent (tick_of setup) (k * tick_of setup) place) w (heard_delivered setup k place))

waiting_delivered : (setup : List ℕ) (place k : ℕ) → Every (Delivered setup k place) ((bus_at setup k).seats place).waiting
waiting_delivered setup place zero = rw (none_waits setup place) tt
waiting_delivered setup place (suc k) =
    rw (waiting_after setup k place)
    (every_drop (Delivered setup (suc k) place) (answer_for (tick_of setup) (bus_at setup k) (k * tick_of setup) place).consumed (given (tick_of setup) (bus_at setup k) (k * tick_of setup) place)
    (every_map (Delivered setup k place) (Delivered setup (suc k) place) (λ x d. stays_delivered setup k place x d) (given (tick_of setup) (bus_at setup k) (k * tick_of setup) place) (listed_from setup place k (waiting_delivered setup place k))))

-- each telegram that the record of tick k lists at a place was delivered to it by then
pub listed_delivered : (setup : List ℕ) (place k : ℕ) → Every (Delivered setup k place) (given (tick_of setup) (bus_at setup k) (k * tick_of setup) place)
listed_delivered setup place k = listed_from setup place k (waiting_delivered setup place k)

-- a transmission is due at one tick alone: nothing is delivered twice
earlier_due : (tick : ℕ) (t : Transmission) (i j : ℕ) → i < j → due_at tick (i * tick) t ≡ true → due_at tick (j * tick) t ≡ true → ⊥
earlier_due tick t i j l a b =
    let x = and_true (leb t.ends (i * tick)) (ltb (i * tick) (t.ends + tick)) a in
    let y = and_true (leb t.ends (j * tick)) (ltb (j * tick) (t.ends + tick)) b in
    let first = leb-true t.ends (i * tick) x.0 in
    let second = ltb-true (j * tick) (t.ends + tick) y.1 in
    let more : suc i * tick ≤ j * tick = mul-le-mul_right tick (omega arith) in
    let is : suc i * tick ≡ i * tick + tick = suc-mul i tick in
    omega arith

pub due_once : (tick : ℕ) (t : Transmission) (i j : ℕ) → due_at tick (i * tick) t ≡ true → due_at tick (j * tick) t ≡ true → i ≡ j
due_once tick t i j a b =
    cases (ltb i j)
    (λ e. absurd (earlier_due tick t i j (ltb-true i j e) a b))
    (λ e. cases (ltb j i) (λ f. absurd (earlier_due tick t j i (ltb-true j i f) b a)) (λ f. let h = ltb-false i j e in let g = ltb-false j i f in omega arith))
