-- Every move keeps every line of a sound state and core: a law for each line, then all together (`core_kept`, `moves_keep`).
use Rattle.std.specs.Prelude.{ℕ, suc, ◌*◌, ◌^◌, ◌≤◌, ◌<◌, Bool, true, false, ◌≡◌, List, eqb, ltb, Option, Some, None}
use Rattle.std.proofs.Math.Path.{refl}
use Rattle.std.proofs.Common.{sym, ap, ◌∙◌, inr, eqb-true, lit≤}
use Rattle.std.proofs.Math.Logic.{inl}
use native.Mathlib.Omega.{arith}
use Rattle.std.proofs.lemmas.Bool.{eqb-false}
use borrow.Table.Steps.{cases}
use Rattle.std.proofs.Math.Dec.{lit<}
use Rattle.bit_times.specs.declared.micros.Micros.{Micros}
use Rattle.bit_times.specs.declared.baud.Baud.{Baud}
use Rattle.bit_times.proofs.Laws.{time_grows}
use Rattle.settings.specs.declared.parameters.Parameters.{Parameters}
use Rattle.settings.specs.Settings.{rotation_time_of}
use Rattle.station.specs.declared.state.UseTokenData.{UseTokenData}
use Rattle.station.specs.declared.state.ConnectivityState.{ConnectivityState}
use Rattle.station.specs.declared.state.ConnectivityState.TheVariants as connectivity
use Rattle.station.specs.declared.state.State.{State}
use Rattle.station.specs.declared.state.State.TheVariants.{Offline, ListenToken, ActiveIdle, UseToken, ClaimToken, AwaitDataResponse, PassToken, CheckTokenPass, AwaitStatusResponse, PassiveIdle}
use Rattle.station.specs.declared.parts.Core.{Core}
use Rattle.station.specs.Parts.{with_activity, with_pending, with_gap, with_token_times, with_next_application, with_connectivity, fresh_core, is_offline, state_number}
use Rattle.station.specs.Steps.{known_at, marked_at, sent_at}
use Rattle.station_hold.specs.Hold.{hold_less, end_of, hold_end_of}
use Rattle.theorem_sound.specs.Moves.{lists, active_idle_from, use_token_from, claim_token_from, await_data_response_from, pass_token_from, check_token_pass_from, await_status_response_from, In, Known, KnownWith, Low, Other, Clock, GapAddressed, GapCounted, Move, waits, marks, sends, pends, holds, turns, gaps, listens, passives, idles, cycles, claims, passive_idle, listen_token, active_idle, use_token, use_token_again, claim_token, await_data_response, pass_token, check_token_pass, await_status_response, goes_offline, connects, Moves, keeps}
use Rattle.theorem_sound.specs.Lines.{Addressed, AskedInGap, CollidedOnce, FreshBut, FreshIn, KnownIn, HeldIn, UnaskedIn, LastToken, ActivityFits, HoldMade, SoundCore}
use Rattle.theorem_sound.specs.Kept.{OfStates}

-- no truth is false
pub not-true : {A : Type 0} → false ≡ true → A
not-true e = let z : ◌≡◌ {A = ℕ} 0 1 = cc in absurd (omega arith)

-- neither passive nor online is offline
not_offline : (v w : ConnectivityState) → is_offline w ≡ false → v ≡ w → v ≡ connectivity.Offline → ⊥
unfolding is_offline
not_offline v w o e f = not-true (sym o ∙ ap is_offline (sym e ∙ f))

pub not_passive : (v : ConnectivityState) → v ≡ connectivity.Passive → v ≡ connectivity.Offline → ⊥
unfolding is_offline
not_passive v = not_offline v connectivity.Passive refl

pub not_online : (v : ConnectivityState) → v ≡ connectivity.Online → v ≡ connectivity.Offline → ⊥
unfolding is_offline
not_online v = not_offline v connectivity.Online refl

-- a transition that may not start in Offline starts in a station that is not offline: the line on Offline is kept
online_from : (states : List ℕ) (x y : State) (o : ConnectivityState) → lists states 0 ≡ false → In states x → (o ≡ connectivity.Offline → x ≡ Offline) → o ≡ connectivity.Offline → y ≡ Offline
online_from states x y o z i h f = not-true (sym z ∙ (rw (h f) at i))

-- no zero is a state's number that is not Offline's
no_zero : {A : Type 0} {k : ℕ} → suc k ≡ 0 → A
no_zero e = absurd (omega arith)

-- the same where the state is known and is not Offline
online_at : (x y : State) (o : ConnectivityState) → (state_number x ≡ 0 → ⊥) → (o ≡ connectivity.Offline → x ≡ Offline) → o ≡ connectivity.Offline → y ≡ Offline
online_at x y o z h f = absurd (z (rw (h f) refl))

-- a transition that may start neither in Offline nor in ListenToken nor in PassiveIdle starts where the activity is known
pub known_from : (states : List ℕ) (x : State) (a : Option Micros) → lists states 0 ≡ false → lists states 1 ≡ false → lists states 9 ≡ false → lists states (state_number x) ≡ true → KnownIn x a → Known a
known_from states Offline a z o w i b = not-true (sym z ∙ i)
known_from states (ListenToken q k) a z o w i b = not-true (sym o ∙ i)
known_from states (ActiveIdle q m k) a z o w i b = b
known_from states (UseToken d k) a z o w i b = b
known_from states (ClaimToken f) a z o w i b = b
known_from states (AwaitDataResponse s d) a z o w i b = b
known_from states (PassToken g k) a z o w i b = b
known_from states (CheckTokenPass k) a z o w i b = b
known_from states (AwaitStatusResponse s) a z o w i b = b
known_from states (PassiveIdle q) a z o w i b = not-true (sym w ∙ i)

-- an activity that is known is known with every request, and in every state
pub known_with : (q : Option ℕ) (a : Option Micros) → Known a → KnownWith q a
known_with None a k = tt
known_with (Some source) a k = k

known_in : (x : State) (a : Option Micros) → Known a → KnownIn x a
known_in Offline a k = tt
known_in (ListenToken q i) a k = tt
known_in (ActiveIdle q m i) a k = k
known_in (UseToken d i) a k = k
known_in (ClaimToken f) a k = k
known_in (AwaitDataResponse s d) a k = k
known_in (PassToken g i) a k = k
known_in (CheckTokenPass i) a k = k
known_in (AwaitStatusResponse s) a k = k
known_in (PassiveIdle q) a k = known_with q a k

pub marked_known : (a : Option Micros) (now : Micros) → Known (marked_at a now)
unfolding marked_at
marked_known a now = cases (ltb (known_at a now).0 now.0) (λ z. rw z tt) (λ z. rw z tt)

-- the activity fits where it is the clock's time, or where it fitted before
known_fits : (baud : Baud) (a : Option Micros) (now : Micros) → Clock now → ActivityFits baud a → ActivityFits baud (Some (known_at a now))
unfolding known_at
known_fits baud None now l b = omega arith
known_fits baud (Some last) now l b = b

marked_fits : (baud : Baud) (a : Option Micros) (now : Micros) → Clock now → ActivityFits baud a → ActivityFits baud (marked_at a now)
unfolding marked_at
marked_fits baud a now l b =
    cases (ltb (known_at a now).0 now.0) (λ z. rw z (omega arith)) (λ z. rw z (known_fits baud a now l b))

sent_fits : (p : Parameters) (now : Micros) (bytes : ℕ) → bytes ≤ 255 → Clock now → ActivityFits p.baudrate (sent_at p now bytes)
unfolding sent_at
sent_fits p now bytes l h = omega (arith, time_grows (11 * bytes) (11 * 255) p.baudrate (omega arith))

-- the last token of a state that has the token in hand
last_at : (last : Micros) (held : UseTokenData) (cycled : Bool) → held.token_time.0 ≡ last.0 → LastToken (UseToken cycled held) last
last_at last held true t = t
last_at last held false t = tt

-- the end of hold that is set with a token's time
hold_set : (p : Parameters) (c : Core) (t : Micros) → Clock c.last_token_time → HoldMade p c.last_token_time c.end_token_hold_time → HoldMade p (hold_end_of p c t).last_token_time (hold_end_of p c t).end_token_hold_time
unfolding hold_end_of with_token_times
hold_set p c t l b =
    cases (eqb c.last_token_time.0 t.0) (λ z. rw z b)
    (λ z. rw z (inr (record { from = c.last_token_time; clock = l; another = eqb-false _ _ z; gap = c.gap_state; end_is = refl })))

-- another station has a low address
pub other_low : (own : ℕ) (q : Option ℕ) → Other own q → Low q
other_low own None o = tt
other_low own (Some a) o = o.0

-- what leaves the rest of the core leaves it as a fresh station's, in Offline
fresh_stays : (x : State) (c d : Core) → (FreshBut c → FreshBut d) → FreshIn x c → FreshIn x d
fresh_stays Offline c d f b = f b
fresh_stays (ListenToken q k) c d f b = tt
fresh_stays (ActiveIdle q m k) c d f b = tt
fresh_stays (UseToken k e) c d f b = tt
fresh_stays (ClaimToken k) c d f b = tt
fresh_stays (AwaitDataResponse a e) c d f b = tt
fresh_stays (PassToken g k) c d f b = tt
fresh_stays (CheckTokenPass k) c d f b = tt
fresh_stays (AwaitStatusResponse a) c d f b = tt
fresh_stays (PassiveIdle q) c d f b = tt

fresh_activity : (x : State) (c : Core) (a : Option Micros) → FreshIn x c → FreshIn x (with_activity c a)
unfolding with_activity
fresh_activity x c a =
    fresh_stays x c (with_activity c a) (λ f. record { no_token = f.no_token; no_gap = f.no_gap; no_pending = f.no_pending; first_next = f.first_next })

fresh_connects : (x : State) (c : Core) (v : ConnectivityState) → FreshIn x c → FreshIn x (with_connectivity c v)
unfolding with_connectivity
fresh_connects x c v =
    fresh_stays x c (with_connectivity c v) (λ f. record { no_token = f.no_token; no_gap = f.no_gap; no_pending = f.no_pending; first_next = f.first_next })

fresh_pends : (x : State) (c : Core) (pending : ℕ) → (x ≡ Offline → pending ≡ 0) → FreshIn x c → FreshIn x (with_pending c pending)
unfolding with_pending
fresh_pends Offline c pending none b = record { no_token = b.no_token; no_gap = b.no_gap; no_pending = none refl; first_next = b.first_next }
fresh_pends (ListenToken q k) c pending none b = tt
fresh_pends (ActiveIdle q m k) c pending none b = tt
fresh_pends (UseToken k e) c pending none b = tt
fresh_pends (ClaimToken k) c pending none b = tt
fresh_pends (AwaitDataResponse a e) c pending none b = tt
fresh_pends (PassToken g k) c pending none b = tt
fresh_pends (CheckTokenPass k) c pending none b = tt
fresh_pends (AwaitStatusResponse a) c pending none b = tt
fresh_pends (PassiveIdle q) c pending none b = tt

pub fresh_core_lem : FreshBut fresh_core
unfolding fresh_core
fresh_core_lem = record { no_token = record { no_last = refl; no_end = refl }; no_gap = refl; no_pending = refl; first_next = refl }

-- the end of hold leaves the activity and the rest
hold_same : {A : Type 0} (p : Parameters) (c : Core) (t : Micros) (f : Core → A) → f (with_token_times c t (end_of c.last_token_time (rotation_time_of p) (hold_less p c.gap_state))) ≡ f c → f (hold_end_of p c t) ≡ f c
unfolding hold_end_of
hold_same p c t f e = cases (eqb c.last_token_time.0 t.0) (λ z. rw z) (λ z. rw z e)

pub hold_activity : (p : Parameters) (c : Core) (t : Micros) → (hold_end_of p c t).last_bus_activity ≡ c.last_bus_activity
unfolding with_token_times
hold_activity p c t = hold_same p c t (λ (x : Core). x.last_bus_activity) refl

pub hold_next : (p : Parameters) (c : Core) (t : Micros) → (hold_end_of p c t).next_application ≡ c.next_application
unfolding with_token_times
hold_next p c t = hold_same p c t (λ (x : Core). x.next_application) refl

hold_pending : (p : Parameters) (c : Core) (t : Micros) → (hold_end_of p c t).pending_bytes ≡ c.pending_bytes
unfolding with_token_times
hold_pending p c t = hold_same p c t (λ (x : Core). x.pending_bytes) refl

hold_gap : (p : Parameters) (c : Core) (t : Micros) → (hold_end_of p c t).gap_state ≡ c.gap_state
unfolding with_token_times
hold_gap p c t = hold_same p c t (λ (x : Core). x.gap_state) refl

pub hold_online : (p : Parameters) (c : Core) (t : Micros) → (hold_end_of p c t).connectivity_state ≡ c.connectivity_state
unfolding with_token_times
hold_online p c t = hold_same p c t (λ (x : Core). x.connectivity_state) refl

-- it makes the token's time the last token time
pub hold_last : (p : Parameters) (c : Core) (t : Micros) → t.0 ≡ (hold_end_of p c t).last_token_time.0
unfolding hold_end_of with_token_times
hold_last p c t = cases (eqb c.last_token_time.0 t.0) (λ z. rw z (sym (eqb-true c.last_token_time.0 t.0 z))) (λ z. rw z refl)

module _ {p : Parameters} {n : ℕ} {now : Micros} where
  -- a line that speaks of the state alone is kept
  state_kept : {x y : State} {c d : Core} (P : State → Type 0) → OfStates p n P → Move p n now x c y d → P x → P y
  state_kept P o' waits b = b
  state_kept P o' marks b = b
  state_kept P o' (sends bytes l) b = b
  state_kept P o' (pends pending few none) b = b
  state_kept P o' (holds held cycled f) b = b
  state_kept P o' (turns held cycled a l) b = b
  state_kept P o' (gaps gap attempt g l h) b = b
  state_kept P o' (listens q q' k k' l o) b = o'.of_listen_token q' k' l o
  state_kept P o' (passives q q' l w) b = o'.of_passive_idle q' l
  state_kept P o' (idles q q' m m' k k' l h o) b = o'.of_active_idle q' m' k' l h o
  state_kept P o' (cycles held kept cycled f t) b = o'.of_use_token true kept f
  state_kept P o' claims b = o'.of_claim_token false
  state_kept P o' (listen_token i o) b = o'.of_listen_token _ 0 tt (lit≤ tt)
  state_kept P o' (passive_idle i o) b = o'.of_passive_idle _ tt
  state_kept P o' (active_idle i o) b = o'.of_active_idle _ _ 0 tt tt (lit≤ tt)
  state_kept P o' (use_token held i f z) b = o'.of_use_token false held f
  state_kept P o' (use_token_again a held f t) b = o'.of_use_token true held f
  state_kept P o' (claim_token i o) b = o'.of_claim_token true
  state_kept P o' (await_data_response a held i l f t) b = o'.of_await_data a held l f
  state_kept P o' (pass_token gap attempt i) b = o'.of_pass_token gap attempt
  state_kept P o' (check_token_pass attempt i) b = o'.of_check_token attempt
  state_kept P o' (await_status_response a i l) b = o'.of_await_status a
  state_kept P o' goes_offline b = o'.of_offline
  state_kept P o' (connects v l) b = b

  addresses_kept : {x y : State} {c d : Core} → Move p n now x c y d → Addressed p.address x → Addressed p.address y
  addresses_kept =
      state_kept (Addressed p.address)
      (record {
        of_offline = tt;
        of_listen_token = λ q k l o. l;
        of_active_idle = λ q m k l h o. (l, h);
        of_use_token = λ cycled held f. tt;
        of_claim_token = λ first. tt;
        of_await_data = λ a held l f. l;
        of_pass_token = λ gap attempt. tt;
        of_check_token = λ attempt. tt;
        of_await_status = λ a. tt;
        of_passive_idle = λ q l. l;
      })

  collided_kept : {x y : State} {c d : Core} → Move p n now x c y d → CollidedOnce x → CollidedOnce y
  collided_kept =
      state_kept CollidedOnce
      (record {
        of_offline = tt;
        of_listen_token = λ q k l o. o;
        of_active_idle = λ q m k l h o. o;
        of_use_token = λ cycled held f. tt;
        of_claim_token = λ first. tt;
        of_await_data = λ a held l f. tt;
        of_pass_token = λ gap attempt. tt;
        of_check_token = λ attempt. tt;
        of_await_status = λ a. tt;
        of_passive_idle = λ q l. tt;
      })

  held_kept : {x y : State} {c d : Core} → Move p n now x c y d → HeldIn n x → HeldIn n y
  held_kept =
      state_kept (HeldIn n)
      (record {
        of_offline = tt;
        of_listen_token = λ q k l o. tt;
        of_active_idle = λ q m k l h o. tt;
        of_use_token = λ cycled held f. f;
        of_claim_token = λ first. tt;
        of_await_data = λ a held l f. f;
        of_pass_token = λ gap attempt. tt;
        of_check_token = λ attempt. tt;
        of_await_status = λ a. tt;
        of_passive_idle = λ q l. tt;
      })

  -- a new token
  unasked_kept : {x y : State} {c d : Core} → Move p n now x c y d → UnaskedIn x → UnaskedIn y
  unasked_kept waits b = b
  unasked_kept marks b = b
  unasked_kept (sends bytes l) b = b
  unasked_kept (pends pending few none) b = b
  unasked_kept (holds held cycled f) b = b
  unasked_kept (turns held cycled a l) b = b
  unasked_kept (gaps gap attempt g l h) b = tt
  unasked_kept (listens q q' k k' l o) b = tt
  unasked_kept (passives q q' l w) b = tt
  unasked_kept (idles q q' m m' k k' l h o) b = tt
  unasked_kept (cycles held kept cycled f t) b = tt
  unasked_kept claims b = tt
  unasked_kept (listen_token i o) b = tt
  unasked_kept (passive_idle i o) b = tt
  unasked_kept (active_idle i o) b = tt
  unasked_kept (use_token held i f z) b = z
  unasked_kept (use_token_again a held f t) b = tt
  unasked_kept (claim_token i o) b = tt
  unasked_kept (await_data_response a held i l f t) b = tt
  unasked_kept (pass_token gap attempt i) b = tt
  unasked_kept (check_token_pass attempt i) b = tt
  unasked_kept (await_status_response a i l) b = tt
  unasked_kept goes_offline b = tt
  unasked_kept (connects v l) b = b

  -- the next application
  next_kept : {x y : State} {c d : Core} → Move p n now x c y d → c.next_application < n → d.next_application < n
  unfolding with_activity with_pending with_gap with_token_times with_next_application with_connectivity fresh_core
  next_kept waits b = b
  next_kept marks b = b
  next_kept (sends bytes l) b = b
  next_kept (pends pending few none) b = b
  next_kept (holds held cycled f) b = rw hold_next b
  next_kept (turns held cycled a l) b = l
  next_kept (gaps gap attempt g l h) b = b
  next_kept (listens q q' k k' l o) b = b
  next_kept (passives q q' l w) b = b
  next_kept (idles q q' m m' k k' l h o) b = b
  next_kept (cycles held kept cycled f t) b = b
  next_kept claims b = b
  next_kept (listen_token i o) b = b
  next_kept (passive_idle i o) b = b
  next_kept (active_idle i o) b = b
  next_kept (use_token held i f z) b = b
  next_kept (use_token_again a held f t) b = b
  next_kept (claim_token i o) b = b
  next_kept (await_data_response a held i l f t) b = b
  next_kept (pass_token gap attempt i) b = b
  next_kept (check_token_pass attempt i) b = b
  next_kept (await_status_response a i l) b = b
  next_kept goes_offline b = omega (arith, b)
  next_kept (connects v l) b = b

  -- the pending bytes
  pending_kept : {x y : State} {c d : Core} → Move p n now x c y d → c.pending_bytes < 2 ^ 11 → d.pending_bytes < 2 ^ 11
  unfolding with_activity with_pending with_gap with_token_times with_next_application with_connectivity fresh_core
  pending_kept waits b = b
  pending_kept marks b = b
  pending_kept (sends bytes l) b = b
  pending_kept (pends pending few none) b = few
  pending_kept (holds held cycled f) b = rw hold_pending b
  pending_kept (turns held cycled a l) b = b
  pending_kept (gaps gap attempt g l h) b = b
  pending_kept (listens q q' k k' l o) b = b
  pending_kept (passives q q' l w) b = b
  pending_kept (idles q q' m m' k k' l h o) b = b
  pending_kept (cycles held kept cycled f t) b = b
  pending_kept claims b = b
  pending_kept (listen_token i o) b = b
  pending_kept (passive_idle i o) b = b
  pending_kept (active_idle i o) b = b
  pending_kept (use_token held i f z) b = b
  pending_kept (use_token_again a held f t) b = b
  pending_kept (claim_token i o) b = b
  pending_kept (await_data_response a held i l f t) b = b
  pending_kept (pass_token gap attempt i) b = b
  pending_kept (check_token_pass attempt i) b = b
  pending_kept (await_status_response a i l) b = b
  pending_kept goes_offline b = lit< tt
  pending_kept (connects v l) b = b

  -- the gap state
  gap_kept : {x y : State} {c d : Core} → Move p n now x c y d → GapAddressed p c.gap_state → GapAddressed p d.gap_state
  unfolding with_activity with_pending with_gap with_token_times with_next_application with_connectivity fresh_core
  gap_kept waits b = b
  gap_kept marks b = b
  gap_kept (sends bytes l) b = b
  gap_kept (pends pending few none) b = b
  gap_kept (holds held cycled f) b = rw hold_gap b
  gap_kept (turns held cycled a l) b = b
  gap_kept (gaps gap attempt g l h) b = l
  gap_kept (listens q q' k k' l o) b = b
  gap_kept (passives q q' l w) b = b
  gap_kept (idles q q' m m' k k' l h o) b = b
  gap_kept (cycles held kept cycled f t) b = b
  gap_kept claims b = b
  gap_kept (listen_token i o) b = b
  gap_kept (passive_idle i o) b = b
  gap_kept (active_idle i o) b = b
  gap_kept (use_token held i f z) b = b
  gap_kept (use_token_again a held f t) b = b
  gap_kept (claim_token i o) b = b
  gap_kept (await_data_response a held i l f t) b = b
  gap_kept (pass_token gap attempt i) b = b
  gap_kept (check_token_pass attempt i) b = b
  gap_kept (await_status_response a i l) b = b
  gap_kept goes_offline b = tt
  gap_kept (connects v l) b = b

  -- the gap state's count
  count_kept : {x y : State} {c d : Core} → Move p n now x c y d → GapCounted p c.gap_state → GapCounted p d.gap_state
  unfolding with_activity with_pending with_gap with_token_times with_next_application with_connectivity fresh_core
  count_kept waits b = b
  count_kept marks b = b
  count_kept (sends bytes l) b = b
  count_kept (pends pending few none) b = b
  count_kept (holds held cycled f) b = rw hold_gap b
  count_kept (turns held cycled a l) b = b
  count_kept (gaps gap attempt g l h) b = h
  count_kept (listens q q' k k' l o) b = b
  count_kept (passives q q' l w) b = b
  count_kept (idles q q' m m' k k' l h o) b = b
  count_kept (cycles held kept cycled f t) b = b
  count_kept claims b = b
  count_kept (listen_token i o) b = b
  count_kept (passive_idle i o) b = b
  count_kept (active_idle i o) b = b
  count_kept (use_token held i f z) b = b
  count_kept (use_token_again a held f t) b = b
  count_kept (claim_token i o) b = b
  count_kept (await_data_response a held i l f t) b = b
  count_kept (pass_token gap attempt i) b = b
  count_kept (check_token_pass attempt i) b = b
  count_kept (await_status_response a i l) b = b
  count_kept goes_offline b = omega arith
  count_kept (connects v l) b = b

  -- whose status is awaited
  asked_kept : {x y : State} {c d : Core} → Move p n now x c y d → AskedInGap x c.gap_state → AskedInGap y d.gap_state
  unfolding with_activity with_pending with_gap with_token_times with_next_application with_connectivity fresh_core
  asked_kept waits b = b
  asked_kept marks b = b
  asked_kept (sends bytes l) b = b
  asked_kept (pends pending few none) b = b
  asked_kept (holds held cycled f) b = tt
  asked_kept (turns held cycled a l) b = b
  asked_kept (gaps gap attempt g l h) b = tt
  asked_kept (listens q q' k k' l o) b = tt
  asked_kept (passives q q' l w) b = tt
  asked_kept (idles q q' m m' k k' l h o) b = tt
  asked_kept (cycles held kept cycled f t) b = tt
  asked_kept claims b = tt
  asked_kept (listen_token i o) b = tt
  asked_kept (passive_idle i o) b = tt
  asked_kept (active_idle i o) b = tt
  asked_kept (use_token held i f z) b = tt
  asked_kept (use_token_again a held f t) b = tt
  asked_kept (claim_token i o) b = tt
  asked_kept (await_data_response a held i l f t) b = tt
  asked_kept (pass_token gap attempt i) b = tt
  asked_kept (check_token_pass attempt i) b = tt
  asked_kept (await_status_response a i e) b = e
  asked_kept goes_offline b = tt
  asked_kept (connects v l) b = b

  -- put offline means Offline
  offline_kept : {x y : State} {c d : Core} → Move p n now x c y d → (c.connectivity_state ≡ connectivity.Offline → x ≡ Offline) → d.connectivity_state ≡ connectivity.Offline → y ≡ Offline
  unfolding with_activity with_pending with_gap with_token_times with_next_application with_connectivity fresh_core
  offline_kept waits b = b
  offline_kept marks b = b
  offline_kept (sends bytes l) b = b
  offline_kept (pends pending few none) b = b
  offline_kept (holds held cycled f) b = rw hold_online b
  offline_kept (turns held cycled a l) b = b
  offline_kept (gaps gap attempt g l h) b = b
  offline_kept (listens q q' k k' l o) b = online_at _ _ _ (λ z. no_zero z) b
  offline_kept (passives q q' l w) b = online_at _ _ _ (λ z. no_zero z) b
  offline_kept (idles q q' m m' k k' l h o) b = online_at _ _ _ (λ z. no_zero z) b
  offline_kept (cycles held kept cycled f t) b = online_at _ _ _ (λ z. no_zero z) b
  offline_kept claims b = online_at _ _ _ (λ z. no_zero z) b
  offline_kept (passive_idle i o) b = λ f. absurd (not_passive _ o f)
  offline_kept (listen_token i o) b = λ f. absurd (o f)
  offline_kept {x} (active_idle i o) b = online_from active_idle_from x _ _ refl i b
  offline_kept {x} (use_token held i f z) b = online_from use_token_from x _ _ refl i b
  offline_kept (use_token_again a held f t) b = online_at _ _ _ (λ z. no_zero z) b
  offline_kept {x} (claim_token i o) b = online_from claim_token_from x _ _ refl i b
  offline_kept {x} (await_data_response a held i l f t) b = online_from await_data_response_from x _ _ refl i b
  offline_kept {x} (pass_token gap attempt i) b = online_from pass_token_from x _ _ refl i b
  offline_kept {x} (check_token_pass attempt i) b = online_from check_token_pass_from x _ _ refl i b
  offline_kept {x} (await_status_response a i l) b = online_from await_status_response_from x _ _ refl i b
  offline_kept goes_offline b = λ f. refl
  offline_kept (connects v l) b = λ f. absurd (l f)

  -- in Offline the core is fresh
  fresh_kept : {x y : State} {c d : Core} → Move p n now x c y d → FreshIn x c → FreshIn y d
  fresh_kept {x} {c = c} waits b = fresh_activity x c _ b
  fresh_kept {x} {c = c} marks b = fresh_activity x c _ b
  fresh_kept {x} {c = c} (sends bytes l) b = fresh_activity x c _ b
  fresh_kept {x} {c = c} (pends pending few none) b = fresh_pends x c pending none b
  fresh_kept (holds held cycled f) b = tt
  fresh_kept (turns held cycled a l) b = tt
  fresh_kept (gaps gap attempt g l h) b = tt
  fresh_kept (listens q q' k k' l o) b = tt
  fresh_kept (passives q q' l w) b = tt
  fresh_kept (idles q q' m m' k k' l h o) b = tt
  fresh_kept (cycles held kept cycled f t) b = tt
  fresh_kept claims b = tt
  fresh_kept (listen_token i o) b = tt
  fresh_kept (passive_idle i o) b = tt
  fresh_kept (active_idle i o) b = tt
  fresh_kept (use_token held i f z) b = tt
  fresh_kept (use_token_again a held f t) b = tt
  fresh_kept (claim_token i o) b = tt
  fresh_kept (await_data_response a held i l f t) b = tt
  fresh_kept (pass_token gap attempt i) b = tt
  fresh_kept (check_token_pass attempt i) b = tt
  fresh_kept (await_status_response a i l) b = tt
  fresh_kept goes_offline b = fresh_core_lem
  fresh_kept {x} {c = c} (connects v l) b = fresh_connects x c v b

  -- the activity is known
  known_kept : {x y : State} {c d : Core} → Move p n now x c y d → KnownIn x c.last_bus_activity → KnownIn y d.last_bus_activity
  unfolding with_activity with_pending with_gap with_token_times with_next_application with_connectivity fresh_core sent_at
  known_kept {x} waits b = known_in x _ tt
  known_kept {x} marks b = known_in x _ (marked_known _ now)
  known_kept {x} (sends bytes l) b = known_in x _ tt
  known_kept (pends pending few none) b = b
  known_kept (holds held cycled f) b = rw hold_activity b
  known_kept (turns held cycled a l) b = b
  known_kept (gaps gap attempt g l h) b = b
  known_kept (listens q q' k k' l o) b = tt
  known_kept (passives q q' l w) b = w
  known_kept (idles q q' m m' k k' l h o) b = b
  known_kept (cycles held kept cycled f t) b = b
  known_kept claims b = b
  known_kept (listen_token i o) b = tt
  known_kept (passive_idle i o) b = tt
  known_kept (active_idle i o) b = o
  known_kept {x} (use_token held i f z) b = known_from use_token_from x _ refl refl refl i b
  known_kept (use_token_again a held f t) b = b
  known_kept (claim_token i o) b = o
  known_kept {x} (await_data_response a held i l f t) b = known_from await_data_response_from x _ refl refl refl i b
  known_kept {x} (pass_token gap attempt i) b = known_from pass_token_from x _ refl refl refl i b
  known_kept {x} (check_token_pass attempt i) b = known_from check_token_pass_from x _ refl refl refl i b
  known_kept {x} (await_status_response a i l) b = known_from await_status_response_from x _ refl refl refl i b
  known_kept goes_offline b = tt
  known_kept (connects v l) b = b

  -- the activity fits
  activity_fits_kept : {x y : State} {c d : Core} → Move p n now x c y d → Clock now → ActivityFits p.baudrate c.last_bus_activity → ActivityFits p.baudrate d.last_bus_activity
  unfolding with_activity with_pending with_gap with_token_times with_next_application with_connectivity fresh_core sent_at
  activity_fits_kept waits l₀ b = known_fits p.baudrate _ now l₀ b
  activity_fits_kept marks l₀ b = marked_fits p.baudrate _ now l₀ b
  activity_fits_kept (sends bytes l) l₀ b = sent_fits p now bytes l l₀
  activity_fits_kept (pends pending few none) l₀ b = b
  activity_fits_kept (holds held cycled f) l₀ b = rw hold_activity b
  activity_fits_kept (turns held cycled a l) l₀ b = b
  activity_fits_kept (gaps gap attempt g l h) l₀ b = b
  activity_fits_kept (listens q q' k k' l o) l₀ b = b
  activity_fits_kept (passives q q' l w) l₀ b = b
  activity_fits_kept (idles q q' m m' k k' l h o) l₀ b = b
  activity_fits_kept (cycles held kept cycled f t) l₀ b = b
  activity_fits_kept claims l₀ b = b
  activity_fits_kept (listen_token i o) l₀ b = b
  activity_fits_kept (passive_idle i o) l₀ b = b
  activity_fits_kept (active_idle i o) l₀ b = b
  activity_fits_kept (use_token held i f z) l₀ b = b
  activity_fits_kept (use_token_again a held f t) l₀ b = b
  activity_fits_kept (claim_token i o) l₀ b = b
  activity_fits_kept (await_data_response a held i l f t) l₀ b = b
  activity_fits_kept (pass_token gap attempt i) l₀ b = b
  activity_fits_kept (check_token_pass attempt i) l₀ b = b
  activity_fits_kept (await_status_response a i l) l₀ b = b
  activity_fits_kept goes_offline l₀ b = tt
  activity_fits_kept (connects v l) l₀ b = b

  -- the token in hand is the last one
  last_kept : {x y : State} {c d : Core} → Move p n now x c y d → LastToken x c.last_token_time → LastToken y d.last_token_time
  unfolding with_activity with_pending with_gap with_token_times with_next_application with_connectivity fresh_core
  last_kept waits b = b
  last_kept marks b = b
  last_kept (sends bytes l) b = b
  last_kept (pends pending few none) b = b
  last_kept {c} (holds held cycled f) b = last_at _ held cycled (hold_last p c held.token_time)
  last_kept (turns held cycled a l) b = b
  last_kept (gaps gap attempt g l h) b = b
  last_kept (listens q q' k k' l o) b = tt
  last_kept (passives q q' l w) b = tt
  last_kept (idles q q' m m' k k' l h o) b = tt
  last_kept (cycles held kept cycled f t) b = t
  last_kept claims b = tt
  last_kept (listen_token i o) b = tt
  last_kept (passive_idle i o) b = tt
  last_kept (active_idle i o) b = tt
  last_kept (use_token held i f z) b = tt
  last_kept (use_token_again a held f t) b = t
  last_kept (claim_token i o) b = tt
  last_kept (await_data_response a held i l f t) b = t
  last_kept (pass_token gap attempt i) b = tt
  last_kept (check_token_pass attempt i) b = tt
  last_kept (await_status_response a i l) b = tt
  last_kept goes_offline b = tt
  last_kept (connects v l) b = b

  -- the last token time
  time_kept : {x y : State} {c d : Core} → Move p n now x c y d → Clock c.last_token_time → Clock d.last_token_time
  unfolding with_activity with_pending with_gap with_token_times with_next_application with_connectivity fresh_core
  time_kept waits b = b
  time_kept marks b = b
  time_kept (sends bytes l) b = b
  time_kept (pends pending few none) b = b
  time_kept {c} (holds held cycled f) b = rw (← hold_last p c held.token_time) f.token_time
  time_kept (turns held cycled a l) b = b
  time_kept (gaps gap attempt g l h) b = b
  time_kept (listens q q' k k' l o) b = b
  time_kept (passives q q' l w) b = b
  time_kept (idles q q' m m' k k' l h o) b = b
  time_kept (cycles held kept cycled f t) b = b
  time_kept claims b = b
  time_kept (listen_token i o) b = b
  time_kept (passive_idle i o) b = b
  time_kept (active_idle i o) b = b
  time_kept (use_token held i f z) b = b
  time_kept (use_token_again a held f t) b = b
  time_kept (claim_token i o) b = b
  time_kept (await_data_response a held i l f t) b = b
  time_kept (pass_token gap attempt i) b = b
  time_kept (check_token_pass attempt i) b = b
  time_kept (await_status_response a i l) b = b
  time_kept goes_offline b = lit< tt
  time_kept (connects v l) b = b

  -- the end of hold
  hold_kept : {x y : State} {c d : Core} → Move p n now x c y d → Clock c.last_token_time → HoldMade p c.last_token_time c.end_token_hold_time → HoldMade p d.last_token_time d.end_token_hold_time
  unfolding with_activity with_pending with_gap with_token_times with_next_application with_connectivity fresh_core
  hold_kept waits t b = b
  hold_kept marks t b = b
  hold_kept (sends bytes l) t b = b
  hold_kept (pends pending few none) t b = b
  hold_kept {c} (holds held cycled f) t b = hold_set p c held.token_time t b
  hold_kept (turns held cycled a l) t b = b
  hold_kept (gaps gap attempt g l h) t b = b
  hold_kept (listens q q' k k' l o) t b = b
  hold_kept (passives q q' l w) t b = b
  hold_kept (idles q q' m m' k k' l h o) t b = b
  hold_kept (cycles held kept cycled f t') t b = b
  hold_kept claims t b = b
  hold_kept (listen_token i o) t b = b
  hold_kept (passive_idle i o) t b = b
  hold_kept (active_idle i o) t b = b
  hold_kept (use_token held i f z) t b = b
  hold_kept (use_token_again a held f t') t b = b
  hold_kept (claim_token i o) t b = b
  hold_kept (await_data_response a held i l f t') t b = b
  hold_kept (pass_token gap attempt i) t b = b
  hold_kept (check_token_pass attempt i) t b = b
  hold_kept (await_status_response a i l) t b = b
  hold_kept goes_offline t b = inl (record { no_last = refl; no_end = refl })
  hold_kept (connects v l) t b = b

  -- a move at a clock's time keeps a state and its core sound
  pub core_kept : Clock now → (x y : State) (c d : Core) → Move p n now x c y d → SoundCore p n x c → SoundCore p n y d
  core_kept l x y c d m w =
      record {
        next_one = next_kept m w.next_one;
        pending_few = pending_kept m w.pending_few;
        addresses = addresses_kept m w.addresses;
        gap_address = gap_kept m w.gap_address;
        gap_count = count_kept m w.gap_count;
        asked_in_gap = asked_kept m w.asked_in_gap;
        offline = offline_kept m w.offline;
        fresh_offline = fresh_kept m w.fresh_offline;
        collided_once = collided_kept m w.collided_once;
        activity_known_lem = known_kept m w.activity_known_lem;
        activity_fits = activity_fits_kept m l w.activity_fits;
        token_held = held_kept m w.token_held;
        token_unasked = unasked_kept m w.token_unasked;
        last_token = last_kept m w.last_token;
        token_time = time_kept m w.token_time;
        hold_made = hold_kept m w.token_time w.hold_made;
      }

  pub moves_keep : {x y : State} {c d : Core} → Clock now → Moves p n now x c y d → SoundCore p n x c → SoundCore p n y d
  moves_keep l ms w = keeps (SoundCore p n) (core_kept l) ms w
