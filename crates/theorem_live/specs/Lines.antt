-- The lines that are asked of a station read from bytes are those of a sound station, both ways, where its settings are accepted.
use Rattle.std.specs.Prelude.{ℕ, suc, ◌+◌, ◌-◌, ◌≤◌, ◌<◌, Bool, true, false, cond, ◌≡◌, refl, ◌⊎◌, eqb, ltb, leb, Option, Some, None}
use Rattle.std.proofs.Common.{sym, ap, ◌∙◌, inl, inr, arith, eq-eqb, ne_eqb, lt-ltb, le-ltb, le-leb, eqb-true, ltb-true, ltb-false, leb-true}
use Rattle.std.proofs.lemmas.Bool.{eqb-false}
use borrow.Table.Steps.{cases}
use Rattle.bit_times.specs.declared.micros.Micros.{Micros}
use Rattle.bit_times.specs.Times.{clock_end}
use Rattle.bit_times.proofs.Laws.{time_bound}
use Rattle.settings.specs.declared.parameters.Parameters.{Parameters}
use Rattle.settings.specs.Settings.{rotation_time_of}
use Rattle.settings_rules.specs.Rules.{hsa_refusal}
use Rattle.settings_rules.proofs.Laws.{outside_in}
use Rattle.settings_build.specs.Build.{first_refusal, plain_of}
use Rattle.settings_build.proofs.Passes.{passes, rotation_top}
use Rattle.ring.specs.declared.GapState.{GapState}
use Rattle.ring.specs.declared.GapState.TheVariants.{Waiting, DoPoll}
use Rattle.station.specs.declared.state.PassTokenAttempt.{PassTokenAttempt}
use Rattle.station.specs.declared.state.PassTokenAttempt.TheVariants.{First, Second, Third}
use Rattle.station.specs.declared.state.UseTokenData.{UseTokenData}
use Rattle.station.specs.declared.state.ConnectivityState.{ConnectivityState}
use Rattle.station.specs.declared.state.ConnectivityState.TheVariants as connectivity
use Rattle.station.specs.declared.state.State.{State}
use Rattle.station.specs.declared.state.State.TheVariants.{Offline, ListenToken, ActiveIdle, UseToken, ClaimToken, AwaitDataResponse, PassToken, CheckTokenPass, AwaitStatusResponse, PassiveIdle}
use Rattle.station.specs.declared.parts.Core.{Core}
use Rattle.station.specs.Parts.{state_number}
use Rattle.station_hold.specs.Hold.{hold_less, end_of}
use Rattle.station_hold.specs.Laws.{capped_fits}
use Rattle.station_numbers.specs.Numbers.{attempt_number}
use Rattle.station_words.specs.Words.{activity_known}
use Rattle.station_words.specs.Laws.{both}
use Rattle.station_lines.specs.Lines.{low_line, apart_line, other_line, one_line, held_line, listens_line, idles_line, unasked_line, uses_line, claims_line, awaits_line, passes_line, polled_line, asks_line, noted_line, rests_line, state_line, pending_end, in_gap_line, gap_line, within_line, activity_line, no_token, counts_from, gap_time, hold_line, core_line, offline_line, resting_line, fresh_line, starts_line, sound_line}
use Rattle.theorem_sound.specs.Moves.{Known, Low, Other, OneOf, HeldFits, GapAsked, GapAddressed, GapCounted}
use Rattle.theorem_sound.proofs.Kept.{not-true, not_passive, not_online}
use Rattle.theorem_sound.specs.Follows.{FirstAttempt}
use Rattle.theorem_sound.proofs.Room.{less_within, hold_roomy}
use Rattle.theorem_sound.specs.Lines.{Addressed, AskedInGap, CollidedOnce, KnownIn, HeldIn, UnaskedIn, LastToken, ActivityFits, NoToken, HoldSet, HoldMade, FreshBut, FreshIn, SoundCore}

-- two tests that both hold, the other way
pub and_both : (a b : Bool) → a ≡ true → b ≡ true → cond a b false ≡ true
and_both a b e f = rw e f

-- What a state holds.

low_from : (q : Option ℕ) → low_line q ≡ true → Low q
unfolding low_line
low_from None e = tt
low_from (Some a) e = ltb-true a 128 e

low_to : (q : Option ℕ) → Low q → low_line q ≡ true
unfolding low_line
low_to None l = refl
low_to (Some a) l = lt-ltb a 128 l

apart_from : (a own : ℕ) → apart_line a own ≡ true → (a < 128) × (a ≡ own → ⊥)
unfolding apart_line
apart_from a own e = cases (eqb a own) (λ t. not-true (rw t at e)) (λ f. (ltb-true a 128 (rw f at e), eqb-false a own f))

apart_to : (a own : ℕ) → a < 128 → (a ≡ own → ⊥) → apart_line a own ≡ true
unfolding apart_line
apart_to a own l n = rw (ne_eqb a own n) (lt-ltb a 128 l)

other_from : (q : Option ℕ) (own : ℕ) → other_line q own ≡ true → Other own q
unfolding other_line
other_from None own e = tt
other_from (Some a) own e = apart_from a own e

other_to : (q : Option ℕ) (own : ℕ) → Other own q → other_line q own ≡ true
unfolding other_line
other_to None own o = refl
other_to (Some a) own o = apart_to a own o.0 o.1

polled_from : (g : GapState) (a : ℕ) → polled_line g a ≡ true → g ≡ DoPoll a
unfolding polled_line
polled_from (Waiting count) a e = not-true e
polled_from (DoPoll b) a e = ap DoPoll (eqb-true b a e)

polled_to : (g : GapState) (a : ℕ) → g ≡ DoPoll a → polled_line g a ≡ true
unfolding polled_line
polled_to g a e = rw e (eq-eqb a a refl)

one_from : (q : Option ℕ) (n : ℕ) → one_line q n ≡ true → OneOf n q
unfolding one_line
one_from None n e = tt
one_from (Some a) n e = ltb-true a n e

one_to : (q : Option ℕ) (n : ℕ) → OneOf n q → one_line q n ≡ true
unfolding one_line
one_to None n l = refl
one_to (Some a) n l = lt-ltb a n l

held_from : (held : UseTokenData) (n : ℕ) → held_line held n ≡ true → HeldFits n held
unfolding held_line
held_from held n e =
    let h = both (ltb held.token_time.0 clock_end) _ e in
    record { token_time = ltb-true _ clock_end h.0; first_one = one_from held.first_app n h.1 }

held_to : (held : UseTokenData) (n : ℕ) → HeldFits n held → held_line held n ≡ true
unfolding held_line
held_to held n h = and_both _ _ (lt-ltb held.token_time.0 clock_end h.token_time) (one_to held.first_app n h.first_one)

unasked_from : (q : Option ℕ) → unasked_line q ≡ true → q ≡ None
unfolding unasked_line
unasked_from None e = refl
unasked_from (Some a) e = not-true e

unasked_to : (q : Option ℕ) → q ≡ None → unasked_line q ≡ true
unfolding unasked_line
unasked_to q e = rw e refl

known_from : (a : Option Micros) → activity_known a ≡ true → Known a
known_from None e = not-true e
known_from (Some last) e = tt

known_to : (a : Option Micros) → Known a → activity_known a ≡ true
known_to (Some last) k = refl
known_to None k = elim k [ ]

-- what is asked of a state, line by line
record StateSound (own n : ℕ) (x : State) (g : GapState) (a : Option Micros) (last : Micros) : Type 0 where
  addresses : Addressed own x
  asked_in_gap : AskedInGap x g
  collided_once : CollidedOnce x
  activity_known_lem : KnownIn x a
  token_held : HeldIn n x
  token_unasked : UnaskedIn x
  last_token : LastToken x last
  first_attempt : FirstAttempt x

state_from_lem : (x : State) (own n : ℕ) (g : GapState) (a : Option Micros) (last : Micros) → state_line x own n g (activity_known a) last ≡ true → StateSound own n x g a last
unfolding state_line listens_line idles_line uses_line claims_line awaits_line passes_line asks_line noted_line rests_line
state_from_lem Offline own n g a last e = record { addresses = tt; asked_in_gap = tt; collided_once = tt; activity_known_lem = tt; token_held = tt; token_unasked = tt; last_token = tt; first_attempt = tt }
state_from_lem (ListenToken q k) own n g a last e =
    let h = both (other_line q own) _ e in
    record { addresses = other_from q own h.0; asked_in_gap = tt; collided_once = leb-true k 1 h.1; activity_known_lem = tt; token_held = tt; token_unasked = tt; last_token = tt; first_attempt = tt }
state_from_lem (ActiveIdle q m k) own n g a last e =
    let h = both (activity_known a) _ e in
    let i = both (low_line q) _ h.1 in
    let j = both (other_line m own) _ i.1 in
    record { addresses = (low_from q i.0, other_from m own j.0); asked_in_gap = tt; collided_once = leb-true k 1 j.1; activity_known_lem = known_from a h.0; token_held = tt; token_unasked = tt; last_token = tt; first_attempt = tt }
state_from_lem (UseToken true d) own n g a last e =
    let h = both (activity_known a) _ e in
    let i = both (held_line d n) _ h.1 in
    record { addresses = tt; asked_in_gap = tt; collided_once = tt; activity_known_lem = known_from a h.0; token_held = held_from d n i.0; token_unasked = tt; last_token = eqb-true _ _ i.1; first_attempt = tt }
state_from_lem (UseToken false d) own n g a last e =
    let h = both (activity_known a) _ e in
    let i = both (held_line d n) _ h.1 in
    record { addresses = tt; asked_in_gap = tt; collided_once = tt; activity_known_lem = known_from a h.0; token_held = held_from d n i.0; token_unasked = unasked_from d.first_app i.1; last_token = tt; first_attempt = tt }
state_from_lem (ClaimToken true) own n g a last e = not-true e
state_from_lem (ClaimToken false) own n g a last e = record { addresses = tt; asked_in_gap = tt; collided_once = tt; activity_known_lem = known_from a e; token_held = tt; token_unasked = tt; last_token = tt; first_attempt = refl }
state_from_lem (AwaitDataResponse b d) own n g a last e =
    let y = both (ltb b 128) _ e in
    let h = both (activity_known a) _ y.1 in
    let i = both (held_line d n) _ h.1 in
    record { addresses = ltb-true b 128 y.0; asked_in_gap = tt; collided_once = tt; activity_known_lem = known_from a h.0; token_held = held_from d n i.0; token_unasked = tt; last_token = eqb-true _ _ i.1; first_attempt = tt }
state_from_lem (PassToken t First) own n g a last e = record { addresses = tt; asked_in_gap = tt; collided_once = tt; activity_known_lem = known_from a e; token_held = tt; token_unasked = tt; last_token = tt; first_attempt = refl }
state_from_lem (PassToken t Second) own n g a last e = not-true e
state_from_lem (PassToken t Third) own n g a last e = not-true e
state_from_lem (CheckTokenPass t) own n g a last e = record { addresses = tt; asked_in_gap = tt; collided_once = tt; activity_known_lem = known_from a e; token_held = tt; token_unasked = tt; last_token = tt; first_attempt = tt }
state_from_lem (AwaitStatusResponse b) own n g a last e =
    let h = both (activity_known a) _ e in
    record { addresses = tt; asked_in_gap = polled_from g b h.1; collided_once = tt; activity_known_lem = known_from a h.0; token_held = tt; token_unasked = tt; last_token = tt; first_attempt = tt }
state_from_lem (PassiveIdle None) own n g a last e = record { addresses = tt; asked_in_gap = tt; collided_once = tt; activity_known_lem = tt; token_held = tt; token_unasked = tt; last_token = tt; first_attempt = tt }
state_from_lem (PassiveIdle (Some b)) own n g a last e =
    let h = both (activity_known a) _ e in
    record { addresses = apart_from b own h.1; asked_in_gap = tt; collided_once = tt; activity_known_lem = known_from a h.0; token_held = tt; token_unasked = tt; last_token = tt; first_attempt = tt }

not_first : (t : PassTokenAttempt) (n : ℕ) → attempt_number t ≡ suc n → t ≡ First → ⊥
not_first t n e f = let z : suc n ≡ 0 = sym e ∙ ap attempt_number f in omega (arith, z)

state_to : (x : State) (own n : ℕ) (g : GapState) (a : Option Micros) (last : Micros) → StateSound own n x g a last → state_line x own n g (activity_known a) last ≡ true
unfolding state_line listens_line idles_line uses_line claims_line awaits_line passes_line asks_line noted_line rests_line
state_to Offline own n g a last w = refl
state_to (ListenToken q k) own n g a last w = and_both _ _ (other_to q own w.addresses) (le-leb k 1 w.collided_once)
state_to (ActiveIdle q m k) own n g a last w =
    and_both _ _ (known_to a w.activity_known_lem) (and_both _ _ (low_to q w.addresses.0) (and_both _ _ (other_to m own w.addresses.1) (le-leb k 1 w.collided_once)))
state_to (UseToken true d) own n g a last w = and_both _ _ (known_to a w.activity_known_lem) (and_both _ _ (held_to d n w.token_held) (eq-eqb _ _ w.last_token))
state_to (UseToken false d) own n g a last w = and_both _ _ (known_to a w.activity_known_lem) (and_both _ _ (held_to d n w.token_held) (unasked_to d.first_app w.token_unasked))
state_to (ClaimToken true) own n g a last w = not-true (sym w.first_attempt)
state_to (ClaimToken false) own n g a last w = known_to a w.activity_known_lem
state_to (AwaitDataResponse b d) own n g a last w =
    and_both _ _ (lt-ltb b 128 w.addresses) (and_both _ _ (known_to a w.activity_known_lem) (and_both _ _ (held_to d n w.token_held) (eq-eqb _ _ w.last_token)))
state_to (PassToken t First) own n g a last w = known_to a w.activity_known_lem
state_to (PassToken t Second) own n g a last w = absurd (not_first Second 0 refl w.first_attempt)
state_to (PassToken t Third) own n g a last w = absurd (not_first Third 1 refl w.first_attempt)
state_to (CheckTokenPass t) own n g a last w = known_to a w.activity_known_lem
state_to (AwaitStatusResponse b) own n g a last w = and_both _ _ (known_to a w.activity_known_lem) (polled_to g b w.asked_in_gap)
state_to (PassiveIdle None) own n g a last w = refl
state_to (PassiveIdle (Some b)) own n g a last w = and_both _ _ (known_to a w.activity_known_lem) (apart_to b own w.addresses.0 w.addresses.1)

-- The core.

-- the highest station address of accepted settings is above the address, and at most 126
hsa_range : (p : Parameters) → first_refusal (plain_of p) ≡ 0 → (p.address + 1 ≤ p.highest_station_address) × (p.highest_station_address ≤ 126)
unfolding plain_of hsa_refusal
hsa_range p r = outside_in (p.address + 1) p.highest_station_address 126 3 (omega arith) (passes (plain_of p) r).hsa

in_gap_from : (p : Parameters) (a : ℕ) → first_refusal (plain_of p) ≡ 0 → in_gap_line p a ≡ true → GapAsked p a
unfolding in_gap_line
in_gap_from p a r e =
    cases (eqb a p.address) (λ t. not-true (rw t at e))
    (λ f.
    let l = ltb-true a p.highest_station_address (rw f at e) in
    record { low = omega (arith, l, (hsa_range p r).1); not_own = eqb-false a p.address f; below = inl l })

in_gap_to : (p : Parameters) (a : ℕ) → first_refusal (plain_of p) ≡ 0 → GapAsked p a → in_gap_line p a ≡ true
unfolding in_gap_line
in_gap_to p a r g = rw (ne_eqb a p.address g.not_own) (lt-ltb a p.highest_station_address (below g.below))
  where
    below : (a < p.highest_station_address) ⊎ (a ≡ 0) → a < p.highest_station_address
    below (inl l) = l
    below (inr z) = omega (arith, z, (hsa_range p r).0)

gap_from : (p : Parameters) (g : GapState) → first_refusal (plain_of p) ≡ 0 → gap_line p g ≡ true → GapAddressed p g × GapCounted p g
unfolding gap_line
gap_from p (Waiting count) r e = (tt, leb-true count _ e)
gap_from p (DoPoll a) r e = (in_gap_from p a r e, tt)

gap_to : (p : Parameters) (g : GapState) → first_refusal (plain_of p) ≡ 0 → GapAddressed p g → GapCounted p g → gap_line p g ≡ true
unfolding gap_line
gap_to p (Waiting count) r a c = le-leb count _ c
gap_to p (DoPoll b) r a c = in_gap_to p b r a

activity_from : (p : Parameters) (a : Option Micros) → activity_line p a ≡ true → ActivityFits p.baudrate a
unfolding activity_line within_line
activity_from p None e = tt
activity_from p (Some last) e = ltb-true last.0 _ e

activity_to : (p : Parameters) (a : Option Micros) → ActivityFits p.baudrate a → activity_line p a ≡ true
unfolding activity_line within_line
activity_to p None f = refl
activity_to p (Some last) f = lt-ltb last.0 _ f

-- an end that counts from a time of a clock, which is not the last token time
record Counts (end more last : ℕ) : Type 0 where
  room : more ≤ end
  another : end - more ≡ last → ⊥
  clock : end - more < clock_end

counts_of_lem : (end more last : ℕ) → counts_from end more last ≡ true → Counts end more last
unfolding counts_from
counts_of_lem end more last e =
    cases (ltb end more) (λ t. not-true (rw t at e))
    (λ f. cases (eqb (end - more) last) (λ t. not-true (rw (f, t) at e))
    (λ g. record { room = ltb-false end more f; another = eqb-false (end - more) last g; clock = ltb-true (end - more) clock_end (rw (f, g) at e) }))

counts_to : (end more last : ℕ) → Counts end more last → counts_from end more last ≡ true
unfolding counts_from
counts_to end more last c = rw (le-ltb end more c.room, ne_eqb (end - more) last c.another, lt-ltb (end - more) clock_end c.clock)

-- such an end was set
set_from :
    (p : Parameters) (last end : Micros) (gap : GapState) (more : ℕ)
    → p.token_rotation_bits ≤ 16777960
    → more + (hold_less p gap).0 ≡ (rotation_time_of p).0
    → Counts end.0 more last.0
    → HoldSet p last end
unfolding end_of rotation_time_of
set_from p last end gap more top e c =
    let bound = time_bound (record { 0 = p.token_rotation_bits }) p.baudrate in
    record {
      from = record { 0 = end.0 - more };
      clock = c.clock;
      another = c.another;
      gap = gap;
      end_is = ap (λ (n : ℕ). record { 0 = n }) (sym (capped_fits _ end.0 (omega (arith, e, c.room)) (omega (arith, bound, top, e, c.room, c.clock))));
    }

none_from : (last end : Micros) → no_token last end ≡ true → NoToken last end
unfolding no_token
none_from last end e = let h = both (eqb last.0 0) _ e in record { no_last = eqb-true _ 0 h.0; no_end = eqb-true _ 0 h.1 }

none_to : (last end : Micros) → NoToken last end → no_token last end ≡ true
unfolding no_token
none_to last end none = and_both _ _ (eq-eqb last.0 0 none.no_last) (eq-eqb end.0 0 none.no_end)

hold_from : (p : Parameters) (last end : Micros) → first_refusal (plain_of p) ≡ 0 → hold_line p last end ≡ true → HoldMade p last end
unfolding hold_line gap_time hold_less
hold_from p last end r e =
    cases (no_token last end)
    (λ t. inl (none_from last end t))
    (λ f. cases (counts_from end.0 (rotation_time_of p).0 last.0)
    (λ t. inr (set_from p last end (Waiting 0) (rotation_time_of p).0 (rotation_top p r) (omega arith) (counts_of_lem _ _ _ t)))
    (λ g. cases (ltb (rotation_time_of p).0 (gap_time p).0) (λ t. not-true (rw (f, g, t) at e))
    (λ k. inr (set_from p last end (DoPoll 0) ((rotation_time_of p).0 - (gap_time p).0) (rotation_top p r) (omega (arith, ltb-false (rotation_time_of p).0 (gap_time p).0 k)) (counts_of_lem _ _ _ (rw (f, g, k) at e))))))

-- a test that holds in either way
or_right : (a b : Bool) → b ≡ true → cond a true b ≡ true
or_right true b e = refl
or_right false b e = e

-- an end that was set is found, by what was taken off
set_to :
    (p : Parameters) (last end : Micros) (from : ℕ) (gap : GapState)
    → (hold_less p gap).0 ≤ (rotation_time_of p).0
    → from < clock_end
    → (from ≡ last.0 → ⊥)
    → end.0 + (hold_less p gap).0 ≡ from + (rotation_time_of p).0
    → cond (counts_from end.0 (rotation_time_of p).0 last.0) true
    (cond (ltb (rotation_time_of p).0 (gap_time p).0) false (counts_from end.0 ((rotation_time_of p).0 - (gap_time p).0) last.0))
    ≡ true
unfolding hold_less gap_time
set_to p last end from (Waiting count) less clock another exact =
    let is : end.0 - (rotation_time_of p).0 ≡ from = omega (arith, exact) in
    rw (counts_to end.0 (rotation_time_of p).0 last.0 (record { room = omega (arith, exact); another = λ e. another (sym is ∙ e); clock = omega (arith, is, clock) }))
set_to p last end from (DoPoll a) less clock another exact =
    let is : end.0 - ((rotation_time_of p).0 - (gap_time p).0) ≡ from = omega (arith, exact, less) in
    or_right (counts_from end.0 (rotation_time_of p).0 last.0) (cond (ltb (rotation_time_of p).0 (gap_time p).0) false (counts_from end.0 ((rotation_time_of p).0 - (gap_time p).0) last.0))
    (rw (le-ltb (rotation_time_of p).0 (gap_time p).0 less)
    (counts_to end.0 ((rotation_time_of p).0 - (gap_time p).0) last.0 (record { room = omega (arith, exact, less); another = λ e. another (sym is ∙ e); clock = omega (arith, is, clock) })))

hold_to : (p : Parameters) (last end : Micros) → first_refusal (plain_of p) ≡ 0 → HoldMade p last end → hold_line p last end ≡ true
unfolding hold_line
hold_to p last end r (inl none) = rw (none_to last end none)
hold_to p last end r (inr set) =
    let roomy = hold_roomy p last end r set in
    or_right (no_token last end) _ (set_to p last end roomy.set.from.0 roomy.set.gap (less_within p roomy.set.gap r) roomy.set.clock roomy.set.another roomy.exact)

-- a station that is put offline is in Offline
offline_from : (v : ConnectivityState) (x : State) → offline_line v x ≡ true → v ≡ connectivity.Offline → x ≡ Offline
unfolding offline_line
offline_from connectivity.Offline Offline e o = refl
offline_from connectivity.Offline (ListenToken q k) e o = not-true e
offline_from connectivity.Offline (ActiveIdle q m k) e o = not-true e
offline_from connectivity.Offline (UseToken i d) e o = not-true e
offline_from connectivity.Offline (ClaimToken f) e o = not-true e
offline_from connectivity.Offline (AwaitDataResponse a d) e o = not-true e
offline_from connectivity.Offline (PassToken g a) e o = not-true e
offline_from connectivity.Offline (CheckTokenPass a) e o = not-true e
offline_from connectivity.Offline (AwaitStatusResponse a) e o = not-true e
offline_from connectivity.Offline (PassiveIdle q) e o = not-true e
offline_from connectivity.Passive x e o = absurd (not_passive _ refl o)
offline_from connectivity.Online x e o = absurd (not_online _ refl o)

offline_to : (v : ConnectivityState) (x : State) → (v ≡ connectivity.Offline → x ≡ Offline) → offline_line v x ≡ true
unfolding offline_line
offline_to connectivity.Offline x h = ap (λ (y : State). eqb (state_number y) 0) (h refl)
offline_to connectivity.Passive x h = refl
offline_to connectivity.Online x h = refl

-- in Offline the core is a fresh station's, but for the last bus activity and the connectivity state
resting_from : (g : GapState) → resting_line g ≡ true → g ≡ Waiting 0
unfolding resting_line
resting_from (Waiting count) e = ap Waiting (eqb-true count 0 e)
resting_from (DoPoll a) e = not-true e

resting_to : (g : GapState) → g ≡ Waiting 0 → resting_line g ≡ true
unfolding resting_line
resting_to g e = rw e refl

fresh_from : (c : Core) → fresh_line c ≡ true → FreshBut c
unfolding fresh_line
fresh_from c e =
    let a = both (eqb c.pending_bytes 0) _ e in
    let b = both (eqb c.next_application 0) _ a.1 in
    let d = both (resting_line c.gap_state) _ b.1 in
    record { no_token = none_from _ _ d.1; no_gap = resting_from c.gap_state d.0; no_pending = eqb-true _ 0 a.0; first_next = eqb-true _ 0 b.0 }

fresh_to : (c : Core) → FreshBut c → fresh_line c ≡ true
unfolding fresh_line
fresh_to c f =
    and_both _ _ (eq-eqb c.pending_bytes 0 f.no_pending)
    (and_both _ _ (eq-eqb c.next_application 0 f.first_next) (and_both _ _ (resting_to c.gap_state f.no_gap) (none_to _ _ f.no_token)))

starts_from : (x : State) (c : Core) → starts_line x c ≡ true → FreshIn x c
unfolding starts_line
starts_from Offline c e = fresh_from c e
starts_from (ListenToken q k) c e = tt
starts_from (ActiveIdle q m k) c e = tt
starts_from (UseToken i d) c e = tt
starts_from (ClaimToken f) c e = tt
starts_from (AwaitDataResponse a d) c e = tt
starts_from (PassToken g a) c e = tt
starts_from (CheckTokenPass a) c e = tt
starts_from (AwaitStatusResponse a) c e = tt
starts_from (PassiveIdle q) c e = tt

starts_to : (x : State) (c : Core) → FreshIn x c → starts_line x c ≡ true
unfolding starts_line
starts_to Offline c f = fresh_to c f
starts_to (ListenToken q k) c f = refl
starts_to (ActiveIdle q m k) c f = refl
starts_to (UseToken i d) c f = refl
starts_to (ClaimToken g) c f = refl
starts_to (AwaitDataResponse a d) c f = refl
starts_to (PassToken g a) c f = refl
starts_to (CheckTokenPass a) c f = refl
starts_to (AwaitStatusResponse a) c f = refl
starts_to (PassiveIdle q) c f = refl

-- The theorem, both ways.

-- a state, a core and laps that pass
pub record Passing (p : Parameters) (n : ℕ) (x : State) (c : Core) (laps : ℕ) : Type 0 where
  pub laps_two : laps ≤ 2
  pub core_sound : SoundCore p n x c
  pub first_attempt : FirstAttempt x

pub lines_sound : (p : Parameters) (n : ℕ) (x : State) (c : Core) (laps : ℕ) → first_refusal (plain_of p) ≡ 0 → sound_line p n x c laps ≡ true → Passing p n x c laps
unfolding sound_line core_line
lines_sound p n x c laps r e =
    let a = both (leb laps 2) _ e in
    let b = both (offline_line c.connectivity_state x) _ a.1 in
    let starts = both (starts_line x c) _ b.1 in
    let d = both (state_line x p.address n c.gap_state (activity_known c.last_bus_activity) c.last_token_time) _ starts.1 in
    let f = both (ltb c.next_application n) _ d.1 in
    let few = both (ltb c.pending_bytes pending_end) _ f.1 in
    let g = both (gap_line p c.gap_state) _ few.1 in
    let h = both (activity_line p c.last_bus_activity) _ g.1 in
    let i = both (ltb c.last_token_time.0 clock_end) _ h.1 in
    let s = state_from_lem x p.address n c.gap_state c.last_bus_activity c.last_token_time d.0 in
    let gap = gap_from p c.gap_state r g.0 in
    record {
      laps_two = leb-true laps 2 a.0;
      core_sound = record {
        next_one = ltb-true _ n f.0;
        pending_few = ltb-true _ pending_end few.0;
        addresses = s.addresses;
        gap_address = gap.0;
        gap_count = gap.1;
        asked_in_gap = s.asked_in_gap;
        offline = offline_from c.connectivity_state x b.0;
        fresh_offline = starts_from x c starts.0;
        collided_once = s.collided_once;
        activity_known_lem = s.activity_known_lem;
        activity_fits = activity_from p c.last_bus_activity h.0;
        token_held = s.token_held;
        token_unasked = s.token_unasked;
        last_token = s.last_token;
        token_time = ltb-true _ clock_end i.0;
        hold_made = hold_from p c.last_token_time c.end_token_hold_time r i.1;
      };
      first_attempt = s.first_attempt;
    }

pub sound_lines : (p : Parameters) (n : ℕ) (x : State) (c : Core) (laps : ℕ) → first_refusal (plain_of p) ≡ 0 → Passing p n x c laps → sound_line p n x c laps ≡ true
unfolding sound_line core_line
sound_lines p n x c laps r s =
    let w = s.core_sound in
    and_both _ _ (le-leb laps 2 s.laps_two)
    (and_both _ _ (offline_to c.connectivity_state x w.offline)
    (and_both _ _ (starts_to x c w.fresh_offline)
    (and_both _ _
    (state_to x p.address n c.gap_state c.last_bus_activity c.last_token_time
    (record { addresses = w.addresses; asked_in_gap = w.asked_in_gap; collided_once = w.collided_once; activity_known_lem = w.activity_known_lem; token_held = w.token_held; token_unasked = w.token_unasked; last_token = w.last_token; first_attempt = s.first_attempt }))
    (and_both _ _ (lt-ltb c.next_application n w.next_one)
    (and_both _ _ (lt-ltb c.pending_bytes pending_end w.pending_few)
    (and_both _ _ (gap_to p c.gap_state r w.gap_address w.gap_count)
    (and_both _ _ (activity_to p c.last_bus_activity w.activity_fits)
    (and_both _ _ (lt-ltb c.last_token_time.0 clock_end w.token_time) (hold_to p c.last_token_time c.end_token_hold_time r w.hold_made)))))))))
