-- Every station that the public calls make is sound: what `new` gives for an address of settings and a number of applications that is
-- not refused, and what any list of polls and commands makes of it.
use Rattle.std.specs.Prelude.{ℕ, suc, ◌^◌, ◌<◌, ◌≤◌, Bool, true, false, cond, ◌≡◌, List, [], ◌∷◌, eqb, Option, Some, None}
use Rattle.std.proofs.Math.Path.{refl, subst}
use Rattle.std.proofs.Common.{sym, ap, inl, arith, lit<}
use Rattle.bit_times.specs.declared.micros.Micros.{Micros}
use Rattle.settings.specs.declared.parameters.Parameters.{Parameters}
use Rattle.settings_rules.specs.Rules.{applications_refusal}
use Rattle.settings_rules.proofs.Laws.{outside_in}
use Rattle.ring.specs.Ring.{Ring}
use Rattle.codec_records.specs.Records.{head_of, record_refusal}
use Rattle.codec_records.specs.Laws.{clock_below, pending_below}
use Rattle.codec_answers.specs.declared.Outcome.TheVariants as outcome
use Rattle.station.specs.declared.state.ConnectivityState.{ConnectivityState}
use Rattle.station.specs.declared.state.ConnectivityState.TheVariants as connectivity
use Rattle.station.specs.declared.state.State.{State}
use Rattle.station.specs.declared.state.State.TheVariants.{Offline, ListenToken, ActiveIdle, UseToken, ClaimToken, AwaitDataResponse, PassToken, CheckTokenPass, AwaitStatusResponse, PassiveIdle}
use Rattle.station.specs.declared.parts.Core.{Core}
use Rattle.station.specs.declared.station.Station.{Station}
use Rattle.station.specs.Whole.{RingStep}
use Rattle.station.specs.Parts.{fresh_core, fresh_station, is_offline, state_number}
use Rattle.station.specs.Steps.{ongoing_of, bus_activity_of, pause_of, token_lost_wait_of, done_of, ring_step_of}
use Rattle.station_poll.specs.Poll.{connected_of, passivated_of, entered_of, dispatch_of, poll_online, poll_inner, accepted_after, accepted_poll, poll_of}
use Rattle.station_answer.specs.Answer.{Polled, polled_of, refused_poll}
use Rattle.station_command.specs.Command.{connect_of, online_of, offline_of, passive_of}
use Rattle.theorem_sound.specs.Moves.{lists, Clock, none, then, goes_offline, connects}
use Rattle.theorem_sound.specs.Lines.{SoundCore}
use Rattle.theorem_sound.proofs.Kept.{not-true, not_passive, not_online, fresh_core_lem, moves_keep}
use Rattle.theorem_sound.specs.Follows.{reached, FirstAttempt, SlotCoversPause, Follows, covered, lost_covered}
use Rattle.theorem_sound.specs.Keeps.{RingGood, either, fresh_good, again_good}
use Rattle.theorem_sound.specs.Walk.{Came, RingMade}
use Rattle.theorem_sound.proofs.Walk.{sound_at, marked, ends_where, bus, to_passive, to_listen, done_made}
use Rattle.theorem_sound.proofs.Hold.{use_token_made, await_data_made}
use Rattle.theorem_sound.proofs.Listen.{claim_token_made, listen_token_made, active_idle_made, passive_idle_made}
use Rattle.theorem_sound.proofs.Pass.{pass_token_made, await_status_made, check_token_made}
use Rattle.theorem_sound.specs.Sound.{Call, CallMade, SoundStation, after, clock_of, offline, online, passive, poll, run}

-- a record's clock is a time of a clock
pub clock_fits : (bytes : List ℕ) → Clock (record { 0 = (head_of bytes).clock })
clock_fits bytes = clock_below bytes

-- no state but Offline has the number 0
no_state : (k : ℕ) → suc k ≡ 0 → ⊥
no_state k e = omega arith

-- Offline inside the dispatch (`unreachable!()` in poll_inner): the state that the dispatch of a station that is not offline is given
-- is not Offline, since entered_of comes first.
connected_never_offline : (x : State) → connected_of x ≡ Offline → ⊥
unfolding connected_of
connected_never_offline Offline e = no_state 0 (ap state_number e)
connected_never_offline (ListenToken q k) e = no_state 0 (ap state_number e)
connected_never_offline (ActiveIdle q m k) e = no_state 1 (ap state_number e)
connected_never_offline (UseToken k d) e = no_state 2 (ap state_number e)
connected_never_offline (ClaimToken b) e = no_state 3 (ap state_number e)
connected_never_offline (AwaitDataResponse a d) e = no_state 4 (ap state_number e)
connected_never_offline (PassToken g k) e = no_state 5 (ap state_number e)
connected_never_offline (CheckTokenPass k) e = no_state 6 (ap state_number e)
connected_never_offline (AwaitStatusResponse a) e = no_state 7 (ap state_number e)
connected_never_offline (PassiveIdle q) e = no_state 0 (ap state_number e)

passivated_never_offline : (x : State) → passivated_of x ≡ Offline → ⊥
unfolding passivated_of
passivated_never_offline Offline e = no_state 8 (ap state_number e)
passivated_never_offline (ListenToken q k) e = no_state 8 (ap state_number e)
passivated_never_offline (ActiveIdle q m k) e = no_state 8 (ap state_number e)
passivated_never_offline (UseToken k d) e = no_state 2 (ap state_number e)
passivated_never_offline (ClaimToken b) e = no_state 3 (ap state_number e)
passivated_never_offline (AwaitDataResponse a d) e = no_state 4 (ap state_number e)
passivated_never_offline (PassToken g k) e = no_state 5 (ap state_number e)
passivated_never_offline (CheckTokenPass k) e = no_state 6 (ap state_number e)
passivated_never_offline (AwaitStatusResponse a) e = no_state 7 (ap state_number e)
passivated_never_offline (PassiveIdle q) e = no_state 8 (ap state_number e)

pub dispatch_never_offline : (v : ConnectivityState) (x : State) → is_offline v ≡ false → entered_of v x ≡ Offline → ⊥
unfolding entered_of is_offline
dispatch_never_offline connectivity.Offline x f e = not-true (sym f)
dispatch_never_offline connectivity.Passive x f e = passivated_never_offline x e
dispatch_never_offline connectivity.Online x f e = connected_never_offline x e

-- a state that the table has
goes : {p : Parameters} {x y : State} → lists (reached x) (state_number y) ≡ true → FirstAttempt y → Follows p x y
goes i f = record { in_table = λ s. i; at_first = λ s. f }

-- a lost token is claimed in the poll that finds it lost
lost_follows : {p : Parameters} {x : State} (c : Core) (now : Micros) → lists (reached x) 4 ≡ true → (token_lost_wait_of p c now).over ≡ true → (pause_of p (token_lost_wait_of p c now).core now).over ≡ false → Follows p x (ClaimToken true)
lost_follows {p} c now i e u = record { in_table = λ s. i; at_first = λ s. absurd (lost_covered p c now s e u) }

-- a poll's part of it
module _ {p : Parameters} {n : ℕ} {now : Micros} {x₀ : State} {c₀ : Core} where
  -- an online station leaves Offline and PassiveIdle before anything else
  connected_came : (x : State) {c : Core} → (c.connectivity_state ≡ connectivity.Offline → ⊥) → Came p n now x₀ c₀ x c → Came p n now x₀ c₀ (connected_of x) c
  unfolding connected_of
  connected_came Offline o k = to_listen refl o k
  connected_came (ListenToken q i) o k = k
  connected_came (ActiveIdle q m i) o k = k
  connected_came (UseToken i d) o k = k
  connected_came (ClaimToken f) o k = k
  connected_came (AwaitDataResponse a d) o k = k
  connected_came (PassToken x a) o k = k
  connected_came (CheckTokenPass a) o k = k
  connected_came (AwaitStatusResponse a) o k = k
  connected_came (PassiveIdle q) o k = to_listen refl o k

  -- a passive one Offline, ListenToken and ActiveIdle
  passivated_came : (x : State) {c : Core} → c.connectivity_state ≡ connectivity.Passive → Came p n now x₀ c₀ x c → Came p n now x₀ c₀ (passivated_of x) c
  unfolding passivated_of
  passivated_came Offline o k = to_passive refl o k
  passivated_came (ListenToken q i) o k = to_passive refl o k
  passivated_came (ActiveIdle q m i) o k = to_passive refl o k
  passivated_came (UseToken i d) o k = k
  passivated_came (ClaimToken f) o k = k
  passivated_came (AwaitDataResponse a d) o k = k
  passivated_came (PassToken x a) o k = k
  passivated_came (CheckTokenPass a) o k = k
  passivated_came (AwaitStatusResponse a) o k = k
  passivated_came (PassiveIdle q) o k = k

  entered_came : (v : ConnectivityState) (x : State) {c : Core} → c.connectivity_state ≡ v → is_offline v ≡ false → Came p n now x₀ c₀ x c → Came p n now x₀ c₀ (entered_of v x) c
  unfolding entered_of is_offline
  entered_came connectivity.Offline x o f k = k
  entered_came connectivity.Passive x o f k = passivated_came x o k
  entered_came connectivity.Online x o f k = connected_came x (not_online _ o) k

  -- what a poll comes to by what its dispatch does, from the state x
  poll_online_made : {E : State → Type 0} {x : State} {c : Core} (r : Ring) (t : Bool) (pending : ℕ) (few : pending < 2 ^ 11) (bytes : List ℕ) (count : ℕ) → (x ≡ Offline → ⊥) → E x → ((d : Core) → Came p n now x₀ c₀ x d → RingMade p n now x₀ c₀ E (dispatch_of p x d r now bytes n count)) → Came p n now x₀ c₀ x c → RingGood p r → RingMade p n now x₀ c₀ E (poll_online p x c r now t pending bytes n count)
  unfolding poll_online
  poll_online_made {E} {c = c} r t pending few bytes count o y dispatch k g =
      either (RingMade p n now x₀ c₀ E) (ongoing_of c.last_bus_activity now t) _ _ (record { made_step = done_made _ (marked k) y; made_ring = g })
      (dispatch _ (bus pending few o k))

  -- what a poll comes to, by the state before it
  connected_made : (x : State) {c : Core} (r : Ring) (t : Bool) (pending : ℕ) (few : pending < 2 ^ 11) (bytes : List ℕ) (count : ℕ) → (SlotCoversPause p → FirstAttempt x) → (c.connectivity_state ≡ connectivity.Offline → ⊥) → Came p n now x₀ c₀ x c → RingGood p r → RingMade p n now x₀ c₀ (Follows p x) (poll_online p (connected_of x) c r now t pending bytes n count)
  unfolding connected_of dispatch_of
  connected_made Offline r t pending few bytes count f o k g =
      poll_online_made r t pending few bytes count (λ z. no_state _ (ap state_number z)) (goes refl tt)
      (λ d m. listen_token_made r bytes count (goes refl refl) (lost_follows d now refl) (record { ends_offline = goes refl tt; ends_listen = λ q i. goes refl tt; ends_passive = λ q. goes refl tt }) m g)
      (to_listen refl o k) g
  connected_made (ListenToken None i) r t pending few bytes count f o k g =
      poll_online_made r t pending few bytes count (λ z. no_state _ (ap state_number z)) (goes refl tt)
      (λ d m. listen_token_made r bytes count (goes refl refl) (lost_follows d now refl) (record { ends_offline = goes refl tt; ends_listen = λ q i. goes refl tt; ends_passive = λ q. goes refl tt }) m g) k g
  connected_made (ListenToken (Some a) i) r t pending few bytes count f o k g =
      poll_online_made r t pending few bytes count (λ z. no_state _ (ap state_number z)) (goes refl tt)
      (λ d m. listen_token_made r bytes count (goes refl refl) (lost_follows d now refl) (goes refl tt, goes refl tt, goes refl tt) m g) k g
  connected_made (ActiveIdle q m i) r t pending few bytes count f o k g =
      poll_online_made r t pending few bytes count (λ z. no_state _ (ap state_number z)) (goes refl tt)
      (λ d m. active_idle_made r bytes count (goes refl refl) (lost_follows d now refl)
      (record { ends_idle = λ q m i. goes refl tt; ends_accepted = λ held. goes refl tt; ends_left = goes refl tt }) m g)
      k g
  connected_made (UseToken i d) r t pending few bytes count f o k g =
      poll_online_made r t pending few bytes count (λ z. no_state _ (ap state_number z)) (goes refl tt)
      (λ d m. record { made_step = use_token_made i bytes (record { ends_use = λ cycled held. goes refl tt; ends_await = λ a held. goes refl tt; ends_pass = goes refl refl }) m; made_ring = g }) k g
  connected_made (ClaimToken b) r t pending few bytes count f o k g =
      poll_online_made r t pending few bytes count (λ z. no_state _ (ap state_number z)) (record { in_table = λ s. refl; at_first = f })
      (λ d m. claim_token_made r (goes refl refl) (λ u. record { in_table = λ s. refl; at_first = f }) (λ e held. goes refl tt) m g) k g
  connected_made (AwaitDataResponse a d) r t pending few bytes count f o k g =
      poll_online_made r t pending few bytes count (λ z. no_state _ (ap state_number z)) (goes refl tt)
      (λ d m. record { made_step = await_data_made bytes count (record { ends_use = λ cycled held. goes refl tt; ends_await = λ a held. goes refl tt; ends_pass = goes refl refl }) (goes refl tt) m; made_ring = g })
      k g
  connected_made (PassToken gap a) r t pending few bytes count f o k g =
      poll_online_made r t pending few bytes count (λ z. no_state _ (ap state_number z)) (record { in_table = λ s. refl; at_first = f })
      (λ d m. pass_token_made gap r
      (record { ends_alone = λ held. goes refl tt; ends_check = λ j. goes refl tt; ends_asking = λ e a. goes refl tt })
      (λ u. record { in_table = λ s. refl; at_first = f }) m g)
      k g
  connected_made (CheckTokenPass a) r t pending few bytes count f o k g =
      poll_online_made r t pending few bytes count (λ z. no_state _ (ap state_number z)) (goes refl tt)
      (λ d m. check_token_made a r bytes count
      (record { ends_alone = λ held. goes refl tt; ends_check = λ j. goes refl tt; ends_asking = λ e a. not-true e })
      (record { ends_idle = λ q m i. goes refl tt; ends_accepted = λ held. goes refl tt; ends_left = goes refl tt })
      (λ e u j. record { in_table = λ s. absurd (covered p _ now s e u); at_first = λ s. absurd (covered p _ now s e u) }) m g)
      k g
  connected_made (AwaitStatusResponse a) r t pending few bytes count f o k g =
      poll_online_made r t pending few bytes count (λ z. no_state _ (ap state_number z)) (goes refl tt)
      (λ d m. await_status_made r bytes count
      (record { ends_alone = λ held. goes refl tt; ends_check = λ j. goes refl tt; ends_asking = λ e a. not-true e }) (goes refl refl) (goes refl tt) (goes refl tt) m g)
      k g
  connected_made (PassiveIdle q) r t pending few bytes count f o k g =
      poll_online_made r t pending few bytes count (λ z. no_state _ (ap state_number z)) (goes refl tt)
      (λ d m. listen_token_made r bytes count (goes refl refl) (lost_follows d now refl) (record { ends_offline = goes refl tt; ends_listen = λ q i. goes refl tt; ends_passive = λ q. goes refl tt }) m g)
      (to_listen refl o k) g

  -- what a poll of PassiveIdle comes to, from a state that may be left for it
  idle_made : {E : State → Type 0} {c : Core} (q : Option ℕ) (r : Ring) (t : Bool) (pending : ℕ) (few : pending < 2 ^ 11) (bytes : List ℕ) (count : ℕ) → ((q' : Option ℕ) → E (PassiveIdle q')) → Came p n now x₀ c₀ (PassiveIdle q) c → RingGood p r → RingMade p n now x₀ c₀ E (poll_online p (PassiveIdle q) c r now t pending bytes n count)
  unfolding dispatch_of
  idle_made {E} q r t pending few bytes count e k g =
      poll_online_made r t pending few bytes count (λ z. no_state _ (ap state_number z)) (e q) (λ d m. ends_where (λ y w. subst E (sym w.1) (e w.0)) (passive_idle_made q r bytes count m g)) k g

  -- what a poll of a passive station comes to, by the state before it
  passivated_made : (x : State) {c : Core} (r : Ring) (t : Bool) (pending : ℕ) (few : pending < 2 ^ 11) (bytes : List ℕ) (count : ℕ) → (SlotCoversPause p → FirstAttempt x) → c.connectivity_state ≡ connectivity.Passive → Came p n now x₀ c₀ x c → RingGood p r → RingMade p n now x₀ c₀ (Follows p x) (poll_online p (passivated_of x) c r now t pending bytes n count)
  unfolding passivated_of connected_of
  passivated_made Offline r t pending few bytes count f o k g = idle_made _ r t pending few bytes count (λ q. goes refl tt) (to_passive refl o k) g
  passivated_made (ListenToken q i) r t pending few bytes count f o k g = idle_made _ r t pending few bytes count (λ q. goes refl tt) (to_passive refl o k) g
  passivated_made (ActiveIdle q m i) r t pending few bytes count f o k g = idle_made _ r t pending few bytes count (λ q. goes refl tt) (to_passive refl o k) g
  passivated_made (UseToken i d) r t pending few bytes count f o k g = connected_made (UseToken i d) r t pending few bytes count f (not_passive _ o) k g
  passivated_made (ClaimToken b) r t pending few bytes count f o k g = connected_made (ClaimToken b) r t pending few bytes count f (not_passive _ o) k g
  passivated_made (AwaitDataResponse a d) r t pending few bytes count f o k g = connected_made (AwaitDataResponse a d) r t pending few bytes count f (not_passive _ o) k g
  passivated_made (PassToken gap a) r t pending few bytes count f o k g = connected_made (PassToken gap a) r t pending few bytes count f (not_passive _ o) k g
  passivated_made (CheckTokenPass a) r t pending few bytes count f o k g = connected_made (CheckTokenPass a) r t pending few bytes count f (not_passive _ o) k g
  passivated_made (AwaitStatusResponse a) r t pending few bytes count f o k g = connected_made (AwaitStatusResponse a) r t pending few bytes count f (not_passive _ o) k g
  passivated_made (PassiveIdle q) r t pending few bytes count f o k g = idle_made q r t pending few bytes count (λ q. goes refl tt) k g

-- a poll that changes nothing stays in the table
stays_in_table : (x : State) → lists (reached x) (state_number x) ≡ true
stays_in_table Offline = refl
stays_in_table (ListenToken q i) = refl
stays_in_table (ActiveIdle q m i) = refl
stays_in_table (UseToken i d) = refl
stays_in_table (ClaimToken f) = refl
stays_in_table (AwaitDataResponse a d) = refl
stays_in_table (PassToken x a) = refl
stays_in_table (CheckTokenPass a) = refl
stays_in_table (AwaitStatusResponse a) = refl
stays_in_table (PassiveIdle q) = refl

-- where a poll of a sound state and core begins
begins : {p : Parameters} {n : ℕ} {now : Micros} {x : State} {c : Core} → Clock now → SoundCore p n x c → Came p n now x c x c
begins l w = record { clock = l; start = w; by = none }

-- the state and core that the state's step is given: past entered_of and check_for_bus_activity
pub dispatched : (p : Parameters) (n : ℕ) (now : Micros) (x : State) (c : Core) (pending : ℕ) → pending < 2 ^ 11 → Clock now → is_offline c.connectivity_state ≡ false → SoundCore p n x c → SoundCore p n (entered_of c.connectivity_state x) (bus_activity_of c now pending)
dispatched p n now x c pending few l o w = sound_at (bus pending few (dispatch_never_offline c.connectivity_state x o) (entered_came c.connectivity_state x refl o (begins l w)))

poll_inner_made : (p : Parameters) (n : ℕ) (now : Micros) (x : State) (c : Core) (r : Ring) (t : Bool) (pending : ℕ) (few : pending < 2 ^ 11) (bytes : List ℕ) (count : ℕ) → Clock now → SoundCore p n x c → (SlotCoversPause p → FirstAttempt x) → RingGood p r → RingMade p n now x c (Follows p x) (poll_inner p x c r now t pending bytes n count)
unfolding poll_inner entered_of is_offline
poll_inner_made p n now x c r t pending few bytes count l w f g = go c.connectivity_state refl
  where
    go : (v : ConnectivityState) → c.connectivity_state ≡ v → RingMade p n now x c (Follows p x) (cond (is_offline v) (ring_step_of (done_of x c outcome.Offline) r) (poll_online p (entered_of v x) c r now t pending bytes n count))
    go connectivity.Offline o = record { made_step = done_made _ (begins l w) (record { in_table = λ s. stays_in_table x; at_first = f }); made_ring = g }
    go connectivity.Passive o = passivated_made x r t pending few bytes count f o (begins l w) g
    go connectivity.Online o = connected_made x r t pending few bytes count f (not_online _ o) (begins l w) g

-- a sound station's ring
pub part_ring : (s : Station) → SoundStation s → RingGood s.p s.token_ring
part_ring s w = record { sound = w.ring_sound; own = w.own_is }

stays_made : (s : Station) (now : Micros) → SoundStation s → CallMade s now s
stays_made s now w = record { moves = none; ring = part_ring s w; first = w.first_attempt; settings_stay = refl; applications_stay = refl }

polled_made : (s : Station) (now : Micros) (x : RingStep) → RingMade s.p s.applications now s.state s.core (λ (y : State). SlotCoversPause s.p → FirstAttempt y) x → CallMade s now (polled_of s.p s.applications s.counts x).station
unfolding polled_of
polled_made s now x g = record { moves = g.made_step.moves; ring = g.made_ring; first = g.made_step.ends; settings_stay = refl; applications_stay = refl }

refused_made : (s : Station) (now : Micros) (k : ℕ) → SoundStation s → CallMade s now (refused_poll s k).station
unfolding refused_poll
refused_made s now k w = stays_made s now w

-- a record's pending bytes have 11 bits
pub few_pending : (bytes : List ℕ) → (head_of bytes).pending < 2 ^ 11
few_pending bytes = pending_below bytes

-- the step of a poll whose record is not refused
pub inner_made : (s : Station) (bytes : List ℕ) (t : Bool) (pending count : ℕ) → pending < 2 ^ 11 → SoundStation s → RingMade s.p s.applications (clock_of (poll bytes)) s.state s.core (Follows s.p s.state) (poll_inner s.p s.state s.core s.token_ring (clock_of (poll bytes)) t pending bytes s.applications count)
inner_made s bytes t pending count few w =
    poll_inner_made s.p s.applications _ s.state s.core s.token_ring t pending few bytes count (clock_fits bytes) w.core_sound w.first_attempt (part_ring s w)

accepted_made : (s : Station) (bytes : List ℕ) → SoundStation s → CallMade s (clock_of (poll bytes)) (accepted_poll s bytes).station
unfolding accepted_poll accepted_after
accepted_made s bytes w =
    let m = inner_made s bytes _ _ _ (few_pending bytes) w in
    polled_made s _ _ (record { made_step = record { moves = m.made_step.moves; ends = m.made_step.ends.at_first }; made_ring = m.made_ring })

poll_made : (s : Station) (bytes : List ℕ) → SoundStation s → CallMade s (clock_of (poll bytes)) (poll_of s bytes).station
unfolding poll_of
poll_made s bytes w =
    either (λ (x : Polled). CallMade s (clock_of (poll bytes)) x.station) (eqb (record_refusal bytes s.applications) 0) _ _ (accepted_made s bytes w) (refused_made s _ _ w)

connect_made : (s : Station) (now : Micros) (v : ConnectivityState) → (v ≡ connectivity.Offline → ⊥) → SoundStation s → CallMade s now (connect_of s v).station
unfolding connect_of done_of
connect_made s now v l w =
    polled_made s now _ (record { made_step = record { moves = then none (connects v l); ends = w.first_attempt }; made_ring = part_ring s w })

online_made : (s : Station) (now : Micros) → SoundStation s → CallMade s now (online_of s).station
unfolding online_of
online_made s now w = connect_made s now connectivity.Online (not_online _ refl) w

passive_made : (s : Station) (now : Micros) → SoundStation s → CallMade s now (passive_of s).station
unfolding passive_of
passive_made s now w = connect_made s now connectivity.Passive (not_passive _ refl) w

offline_made : (s : Station) (now : Micros) → SoundStation s → CallMade s now (offline_of s).station
unfolding offline_of done_of
offline_made s now w = polled_made s now _ (record { made_step = record { moves = then none goes_offline; ends = λ z. tt }; made_ring = again_good s.p s.token_ring (part_ring s w) })

-- Every call of a sound station is made of moves: transitions, each from a state that its `debug_assert_state!` names, and writes to the
-- parts.
pub call_made : (s : Station) (c : Call) → SoundStation s → CallMade s (clock_of c) (after s c)
unfolding after
call_made s (poll bytes) w = poll_made s bytes w
call_made s online w = online_made s _ w
call_made s offline w = offline_made s _ w
call_made s passive w = passive_made s _ w

-- the clock of a call is a time of a clock
clock_of_fits : (c : Call) → Clock (clock_of c)
clock_of_fits (poll bytes) = clock_fits bytes
clock_of_fits online = lit< tt
clock_of_fits offline = lit< tt
clock_of_fits passive = lit< tt

-- a call keeps a station sound
made_sound : (s t : Station) (now : Micros) → Clock now → SoundStation s → CallMade s now t → SoundStation t
made_sound s t now l w m =
    record {
      ring_sound = m.ring.sound;
      own_is = rw m.settings_stay m.ring.own;
      some = rw m.applications_stay w.some;
      eight = rw m.applications_stay w.eight;
      first_attempt = rw m.settings_stay m.first;
      core_sound = rw (m.settings_stay, m.applications_stay) (moves_keep l m.moves w.core_sound);
    }

pub call_sound : (s : Station) (c : Call) → SoundStation s → SoundStation (after s c)
call_sound s c w = made_sound s _ _ (clock_of_fits c) w (call_made s c w)

-- a fresh core is sound, in Offline: it asks its first application next, holds no address, and has had no token
pub fresh_core_sound : (p : Parameters) (n : ℕ) → 0 < n → SoundCore p n Offline fresh_core
unfolding fresh_core
fresh_core_sound p n l =
    record {
      next_one = l;
      pending_few = lit< tt;
      addresses = tt;
      gap_address = tt;
      asked_in_gap = tt;
      gap_count = omega arith;
      offline = λ e. refl;
      fresh_offline = fresh_core_lem;
      collided_once = tt;
      activity_known_lem = tt;
      activity_fits = tt;
      token_held = tt;
      token_unasked = tt;
      last_token = tt;
      token_time = lit< tt;
      hold_made = inl (record { no_last = refl; no_end = refl });
    }

fresh_sound : (p : Parameters) (n : ℕ) → p.address < 126 → 1 ≤ n → n ≤ 8 → SoundStation (fresh_station p n)
unfolding fresh_station
fresh_sound p n l one eight =
    let g = fresh_good p l in
    record { ring_sound = g.sound; own_is = g.own; some = one; eight = eight; first_attempt = λ z. tt; core_sound = fresh_core_sound p n (omega arith) }

-- `new`: with an address up to 125 and a number of applications that is not refused it gives a sound station
pub new_sound : (p : Parameters) (n : ℕ) → p.address < 126 → applications_refusal n ≡ 0 → SoundStation (fresh_station p n)
unfolding applications_refusal
new_sound p n l e =
    let range = outside_in 1 n 8 11 (omega arith) e in
    fresh_sound p n l range.0 range.1

-- A poll leaves a sound station in a state that the table has.
accepted_follows : (s : Station) (bytes : List ℕ) → SoundStation s → Follows s.p s.state (accepted_poll s bytes).station.state
unfolding accepted_poll accepted_after polled_of
accepted_follows s bytes w = (inner_made s bytes _ _ _ (few_pending bytes) w).made_step.ends

refused_follows : (s : Station) (k : ℕ) → SoundStation s → Follows s.p s.state (refused_poll s k).station.state
unfolding refused_poll
refused_follows s k w = record { in_table = λ z. stays_in_table s.state; at_first = w.first_attempt }

pub poll_follows : (s : Station) (bytes : List ℕ) → SoundStation s → Follows s.p s.state (poll_of s bytes).station.state
unfolding poll_of
poll_follows s bytes w =
    either (λ (x : Polled). Follows s.p s.state x.station.state) (eqb (record_refusal bytes s.applications) 0) _ _ (accepted_follows s bytes w) (refused_follows s _ w)

-- The theorem: any list of calls leaves a sound station sound, so every station that calls make of a new one is.
pub sound : (cs : List Call) (s : Station) → SoundStation s → SoundStation (run s cs)
unfolding run
sound [] s w = w
sound (c ∷ cs) s w = sound cs (after s c) (call_sound s c w)

pub every_station_sound : (p : Parameters) (n : ℕ) (cs : List Call) → p.address < 126 → applications_refusal n ≡ 0 → SoundStation (run (fresh_station p n) cs)
every_station_sound p n cs l e = sound cs (fresh_station p n) (new_sound p n l e)
