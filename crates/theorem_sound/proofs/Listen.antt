-- What the steps of the two hearing crates, station_listen and station_passive, and of station_claim come to. Where hearing may end is
-- said in specs/Listen.
use Prim.Native.Nat.{ℕ, zero, suc, ◌<◌}
use Rattle.std.specs.Prelude.{Bool, ◌≡◌, List, eqb, Option, Some, None}
use Rattle.std.proofs.Math.Bool.{true, false}
use Rattle.std.proofs.Math.Path.{refl}
use Rattle.std.proofs.Common.{sym, ap, arith, lit≤}
use Rattle.std.proofs.lemmas.Bool.{eqb-false}
use Rattle.bit_times.specs.declared.micros.Micros.{Micros}
use Rattle.settings.specs.declared.parameters.Parameters.{Parameters}
use Rattle.ring.specs.Ring.{Ring, prev_of}
use Rattle.codec_telegrams.specs.declared.ResponseState.{ResponseState}
use Rattle.codec_telegrams.specs.declared.Telegram.{Telegram}
use Rattle.codec_telegrams.specs.declared.Telegram.TheVariants as telegram
use Rattle.codec_telegrams.specs.Words.{TelegramFits}
use Rattle.codec_answers.specs.declared.Outcome.TheVariants as outcome
use Rattle.codec_answers.specs.declared.Sent.TheVariants as sent
use Rattle.station.specs.declared.state.UseTokenData.{UseTokenData}
use Rattle.station.specs.declared.state.State.{State}
use Rattle.station.specs.declared.state.State.TheVariants.{Offline, ListenToken, ActiveIdle, UseToken, ClaimToken, AwaitDataResponse, PassToken, CheckTokenPass, AwaitStatusResponse, PassiveIdle}
use Rattle.station.specs.declared.parts.Core.{Core}
use Rattle.station.specs.Whole.{RingStep, Heard}
use Rattle.station.specs.Parts.{state_number}
use Rattle.station.specs.Steps.{pause_of, token_lost_wait_of, transmit_of, heard_of, last_request_to_us}
use Rattle.station_claim.specs.Claim.{claim_next, claim_token_of}
use Rattle.station_hear_active.specs.HearActive.{remembers, active_collided, accepted_of, token_to_us, token_witnessed, token_heard, active_requested, active_heard, handle_telegram}
use Rattle.station_listen.specs.Listen.{handle_lost_token, respond_of, listen_answered, listen_response, heard_telegram, heard_all, received_all, consumed_all, listen_token_on, listen_token_of, active_response, active_idle_on, active_idle_of}
use Rattle.station_passive.specs.Passive.{passive_idle_of}
use Rattle.station_hear_listen.specs.HearListen.{collided, sent_by_us, noted_of, witnessed_of, listen_heard, passive_heard, listen_telegram}
use Rattle.theorem_sound.specs.Moves.{claim_token_from, In, Known, Other, Clock}
use Rattle.theorem_sound.specs.Lines.{SoundCore}
use Rattle.theorem_sound.proofs.Kept.{not-true, known_with}
use Rattle.theorem_sound.specs.Keeps.{RingGood, either, decided, telegram_low, again_good, claim_good, witness_good}
use Rattle.theorem_sound.specs.Walk.{Came, Made, RingMade, HeardMade}
use Rattle.theorem_sound.proofs.Walk.{addressed_at, collided_at, connected_here, new_token, new_unasked, paused, lost_asked, pause_known, lost_known, rx_known, rx, listen_fields, passive_fields, idle_fields, claim_again, to_listen, to_idle, to_use, to_claim, to_fresh, done_made, transmit_made, heard_made, collision_made, event_made}
use Rattle.theorem_sound.specs.Listen.{ActiveEnds, ListenEnds, ListenedEnds, Passive}

-- no state but Offline has the number 0
no_zero : {k : ℕ} → suc k ≡ 0 → ⊥
no_zero e = omega arith

-- where hearing may end, by the state that listens
record HearsOn (E : State → Type 0) : Type 0 where
  pub from_listen : (q : Option ℕ) (k : ℕ) → E (ListenToken q k) → ListenEnds E
  pub from_passive : (q : Option ℕ) → E (PassiveIdle q) → (q' : Option ℕ) → E (PassiveIdle q')

abbrev HearEnds : (State → Type 0) → Bool → Type 0
HearEnds E true = HearsOn E
HearEnds E false = ActiveEnds E

hears_on : {E : State → Type 0} → ListenEnds E → HearsOn E
hears_on e = record { from_listen = λ q k y. e; from_passive = λ q y. e.ends_passive }

hears_passive : HearsOn Passive
hears_passive = record { from_listen = λ q k y. absurd (let z : 1 ≡ 9 = ap state_number y.1 in omega arith); from_passive = λ q y q'. (q', refl) }

-- who is noted is another station, with an address below 128
noted_other : (own : ℕ) (q : Option ℕ) (t : Telegram) (last : Bool) → TelegramFits t → sent_by_us own t ≡ false → Other own q → Other own (noted_of own q t last)
unfolding noted_of sent_by_us
noted_other own q (telegram.Token destination source) last f z l = l
noted_other own q telegram.ShortConfirmation last f z l = l
noted_other own q (telegram.Request destination source asks) last f z l =
    either (Other own) (last_request_to_us destination own asks last) _ _ (f.1, eqb-false source own z) l
noted_other own q (telegram.Response destination source state status) last f z l = l

-- a telegram leaves a good ring good
overheard_good : (p : Parameters) (r : Ring) (t : Telegram) → RingGood p r → RingGood p (witnessed_of r t)
unfolding witnessed_of
overheard_good p r (telegram.Token destination source) g = witness_good p r source destination g
overheard_good p r telegram.ShortConfirmation g = g
overheard_good p r (telegram.Request destination source asks) g = g
overheard_good p r (telegram.Response destination source state status) g = g

module _ {p : Parameters} {n : ℕ} {now : Micros} {x₀ : State} {c₀ : Core} {E : State → Type 0} where
  -- do_claim_token
  claim_next_made : {c : Core} (first : Bool) → E (ClaimToken false) → (first ≡ false → (held : UseTokenData) → E (UseToken false held)) → Came p n now x₀ c₀ (ClaimToken first) c → Made p n now x₀ c₀ E (transmit_of p (claim_next now first) c now (sent.Token p.address))
  unfolding claim_next
  claim_next_made true e u k = transmit_made _ (lit≤ tt) (claim_again k) e
  claim_next_made false e u k = transmit_made _ (lit≤ tt) (to_use _ refl (new_token n now k.clock) (new_unasked now) k) (u refl _)

  pub claim_token_made : {first : Bool} {c : Core} (r : Ring) → E (ClaimToken false) → ((pause_of p c now).over ≡ false → E (ClaimToken first)) → (first ≡ false → (held : UseTokenData) → E (UseToken false held)) → Came p n now x₀ c₀ (ClaimToken first) c → RingGood p r → RingMade p n now x₀ c₀ E (claim_token_of p c r now first)
  unfolding claim_token_of
  claim_token_made {first} {c} r e w u k g =
      decided (RingMade p n now x₀ c₀ E) (pause_of p c now).over _ _
      (λ o. record { made_step = claim_next_made first e u (paused k); made_ring = claim_good p r g })
      (λ o. record { made_step = done_made _ (paused k) (w o); made_ring = g })

  -- handle_lost_token: a claim, or what the rest of the poll comes to
  lost_made : {x : State} {c : Core} (r : Ring) (rest : Core → RingStep) → E (ClaimToken false) → ((token_lost_wait_of p c now).over ≡ true → (pause_of p (token_lost_wait_of p c now).core now).over ≡ false → E (ClaimToken true)) → In claim_token_from x → ((d : Core) → Came p n now x₀ c₀ x d → RingMade p n now x₀ c₀ E (rest d)) → Came p n now x₀ c₀ x c → RingGood p r → RingMade p n now x₀ c₀ E (handle_lost_token p c r now rest)
  unfolding handle_lost_token
  lost_made {c = c} r rest e w i go k g =
      decided (RingMade p n now x₀ c₀ E) (token_lost_wait_of p c now).over _ _
      (λ o. event_made _ _ (claim_token_made r e (w o) (λ z. not-true (sym z)) (to_claim i (lost_known p c now) (lost_asked k)) g)) (λ o. go _ (lost_asked k))

  -- a status request answered: the state that waits, and the one from then on
  respond_made : {x y : State} {c : Core} (r : Ring) (source : ℕ) (type : ResponseState) → E x → E y → ((d : Core) → Known d.last_bus_activity → Came p n now x₀ c₀ x d → Came p n now x₀ c₀ y d) → Came p n now x₀ c₀ x c → RingGood p r → RingMade p n now x₀ c₀ E (respond_of p x y c r now source type)
  unfolding respond_of
  respond_made {c = c} r source type e i answers k g =
      either (RingMade p n now x₀ c₀ E) (pause_of p c now).over _ _
      (record { made_step = transmit_made _ (lit≤ tt) (answers _ (pause_known p c now) (paused k)) i; made_ring = g })
      (record { made_step = done_made _ (paused k) e; made_ring = g })

  -- do_listen_token
  response_made : {k : ℕ} {c : Core} (r : Ring) (source : ℕ) → ListenedEnds E (Some source) k → Came p n now x₀ c₀ (ListenToken (Some source) k) c → RingGood p r → RingMade p n now x₀ c₀ E (listen_response p c r now source k)
  unfolding listen_response listen_answered
  response_made r source e m g =
      respond_made r source _ e.0 (either E r.ready _ _ e.2 e.1)
      (λ d o k. either (λ (x : State). Came p n now x₀ c₀ x d) r.ready _ _ (to_idle refl o k) (listen_fields _ _ tt (collided_at k) k)) m g

  collided_made : {q : Option ℕ} {k : ℕ} {c : Core} (r : Ring) → ListenEnds E → Came p n now x₀ c₀ (ListenToken q k) c → RingGood p r → HeardMade p n now x₀ c₀ E (collided p c r q k)
  unfolding collided
  collided_made {q} {k} r e m g =
      either (HeardMade p n now x₀ c₀ E) (eqb k 0) _ _ (collision_made r (listen_fields q 1 (addressed_at m) (lit≤ tt) m) (e.ends_listen _ _) g)
      (collision_made _ (to_fresh m) e.ends_offline (again_good p r g))

  listen_heard_made : {q : Option ℕ} {k : ℕ} {c : Core} (r : Ring) (t : Telegram) (last : Bool) → TelegramFits t → ListenEnds E → Came p n now x₀ c₀ (ListenToken q k) c → RingGood p r → HeardMade p n now x₀ c₀ E (listen_heard p c r q k t last)
  unfolding listen_heard
  listen_heard_made {q = q} {k = k} r t last f e m g =
      decided (HeardMade p n now x₀ c₀ E) (sent_by_us p.address t) _ _ (λ z. collided_made r e m g)
      (λ z. heard_made _ _ (listen_fields _ k (noted_other p.address q t last f z (addressed_at m)) (collided_at m) m) (e.ends_listen _ _) (overheard_good p r t g))

  -- PassiveIdle
  passive_heard_made : {q : Option ℕ} {c : Core} (r : Ring) (t : Telegram) (last : Bool) → TelegramFits t → Known c.last_bus_activity → ((q' : Option ℕ) → E (PassiveIdle q')) → Came p n now x₀ c₀ (PassiveIdle q) c → RingGood p r → HeardMade p n now x₀ c₀ E (passive_heard p c r q t last)
  unfolding passive_heard
  passive_heard_made {q = q} {c = c} r t last f w e m g =
      decided (HeardMade p n now x₀ c₀ E) (sent_by_us p.address t) _ _ (λ z. heard_made r _ m (e _) g)
      (λ z. heard_made _ _ (passive_fields _ (noted_other p.address q t last f z (addressed_at m)) (known_with (noted_of p.address q t last) c.last_bus_activity w) m) (e _) (overheard_good p r t g))

  listen_on_made : (x : State) {c : Core} (r : Ring) (t : Telegram) (last : Bool) → TelegramFits t → Known c.last_bus_activity → HearsOn E → Came p n now x₀ c₀ x c → E x → RingGood p r → HeardMade p n now x₀ c₀ E (listen_telegram p x c r t last)
  unfolding listen_telegram
  listen_on_made Offline r t last f w e m y g = heard_made r _ m y g
  listen_on_made (ListenToken q k) r t last f w e m y g = listen_heard_made r t last f (e.from_listen q k y) m g
  listen_on_made (ActiveIdle q s k) r t last f w e m y g = heard_made r _ m y g
  listen_on_made (UseToken k d) r t last f w e m y g = heard_made r _ m y g
  listen_on_made (ClaimToken first) r t last f w e m y g = heard_made r _ m y g
  listen_on_made (AwaitDataResponse a d) r t last f w e m y g = heard_made r _ m y g
  listen_on_made (PassToken x a) r t last f w e m y g = heard_made r _ m y g
  listen_on_made (CheckTokenPass a) r t last f w e m y g = heard_made r _ m y g
  listen_on_made (AwaitStatusResponse a) r t last f w e m y g = heard_made r _ m y g
  listen_on_made (PassiveIdle q) r t last f w e m y g = passive_heard_made r t last f w (e.from_passive q y) m g

  -- handle_telegram
  active_collided_made : {q s : Option ℕ} {k : ℕ} {c : Core} (r : Ring) → ActiveEnds E → Came p n now x₀ c₀ (ActiveIdle q s k) c → RingGood p r → HeardMade p n now x₀ c₀ E (active_collided c r q s k)
  unfolding active_collided
  active_collided_made {q} {s} {k} r e m g =
      either (HeardMade p n now x₀ c₀ E) (eqb k 0) _ _ (collision_made r (idle_fields q s 1 (addressed_at m).0 (addressed_at m).1 (lit≤ tt) m) (e.ends_idle _ _ _) g)
      (collision_made r (to_listen refl (connected_here m no_zero) m) e.ends_left g)

  accepted_made : {q s : Option ℕ} {k : ℕ} {c : Core} (r : Ring) → ActiveEnds E → Came p n now x₀ c₀ (ActiveIdle q s k) c → RingGood p r → HeardMade p n now x₀ c₀ E (accepted_of c r now)
  unfolding accepted_of
  accepted_made r e m g = heard_made r _ (to_use _ refl (new_token n now m.clock) (new_unasked now) m) (e.ends_accepted _) g

  to_us_made : {q s : Option ℕ} {k : ℕ} {c : Core} (r : Ring) (destination source : ℕ) → source < 128 → (source ≡ p.address → ⊥) → ActiveEnds E → Came p n now x₀ c₀ (ActiveIdle q s k) c → RingGood p r → HeardMade p n now x₀ c₀ E (token_to_us c r now q s destination source)
  unfolding token_to_us
  to_us_made {q} {s} r destination source l o e m g =
      either (HeardMade p n now x₀ c₀ E) (eqb source (prev_of r)) _ _ (accepted_made r e m g)
      (either (HeardMade p n now x₀ c₀ E) (remembers s source) _ _ (accepted_made _ e m (witness_good p r source destination g))
      (heard_made r _ (idle_fields q (Some source) 0 (addressed_at m).0 (l, o) (lit≤ tt) m) (e.ends_idle _ _ _) g))

  witnessed_made : {q s : Option ℕ} {k : ℕ} {c : Core} (r : Ring) (destination source : ℕ) → ActiveEnds E → Came p n now x₀ c₀ (ActiveIdle q s k) c → RingGood p r → HeardMade p n now x₀ c₀ E (token_witnessed c r q s destination source)
  unfolding token_witnessed
  witnessed_made {q} {s} r destination source e m g =
      heard_made _ _ (idle_fields q s 0 (addressed_at m).0 (addressed_at m).1 (lit≤ tt) m) (e.ends_idle _ _ _) (witness_good p r source destination g)

  token_made : {q s : Option ℕ} {k : ℕ} {c : Core} (r : Ring) (destination source : ℕ) (last : Bool) → source < 128 → ActiveEnds E → Came p n now x₀ c₀ (ActiveIdle q s k) c → RingGood p r → HeardMade p n now x₀ c₀ E (token_heard p c r now q s k destination source last)
  unfolding token_heard
  token_made r destination source last l e m g =
      decided (HeardMade p n now x₀ c₀ E) (eqb source p.address) _ _ (λ z. active_collided_made r e m g)
      (λ z. either (HeardMade p n now x₀ c₀ E) (eqb destination p.address) _ _
      (either (HeardMade p n now x₀ c₀ E) last _ _ (to_us_made r destination source l (eqb-false source p.address z) e m g) (witnessed_made r destination source e m g))
      (witnessed_made r destination source e m g))

  requested_made : {q s : Option ℕ} {k : ℕ} {c : Core} (r : Ring) (source : ℕ) (noted : Bool) → source < 128 → ActiveEnds E → Came p n now x₀ c₀ (ActiveIdle q s k) c → RingGood p r → HeardMade p n now x₀ c₀ E (active_requested c r q s k source noted)
  unfolding active_requested
  requested_made {s = s} {k = k} r source noted l e m g =
      either (HeardMade p n now x₀ c₀ E) noted _ _ (heard_made r _ (idle_fields (Some source) s k l (addressed_at m).1 (collided_at m) m) (e.ends_idle _ _ _) g) (heard_made r _ m (e.ends_idle _ _ _) g)

  active_heard_made : {q s : Option ℕ} {k : ℕ} {c : Core} (r : Ring) (t : Telegram) (last : Bool) → TelegramFits t → ActiveEnds E → Came p n now x₀ c₀ (ActiveIdle q s k) c → RingGood p r → HeardMade p n now x₀ c₀ E (active_heard p c r now q s k t last)
  unfolding active_heard
  active_heard_made r (telegram.Token destination source) last f e m g = token_made r destination source last f.1 e m g
  active_heard_made r telegram.ShortConfirmation last f e m g = heard_made r _ m (e.ends_idle _ _ _) g
  active_heard_made r (telegram.Request destination source asks) last f e m g = requested_made r source _ f.1 e m g
  active_heard_made r (telegram.Response destination source state status) last f e m g = heard_made r _ m (e.ends_idle _ _ _) g

  handle_on_made : (x : State) {c : Core} (r : Ring) (t : Telegram) (last : Bool) → TelegramFits t → ActiveEnds E → Came p n now x₀ c₀ x c → E x → RingGood p r → HeardMade p n now x₀ c₀ E (handle_telegram p x c r now t last)
  unfolding handle_telegram
  handle_on_made Offline r t last f e m y g = heard_made r _ m y g
  handle_on_made (ListenToken q k) r t last f e m y g = heard_made r _ m y g
  handle_on_made (ActiveIdle q s k) r t last f e m y g = active_heard_made r t last f e m g
  handle_on_made (UseToken k d) r t last f e m y g = heard_made r _ m y g
  handle_on_made (ClaimToken first) r t last f e m y g = heard_made r _ m y g
  handle_on_made (AwaitDataResponse a d) r t last f e m y g = heard_made r _ m y g
  handle_on_made (PassToken x a) r t last f e m y g = heard_made r _ m y g
  handle_on_made (CheckTokenPass a) r t last f e m y g = heard_made r _ m y g
  handle_on_made (AwaitStatusResponse a) r t last f e m y g = heard_made r _ m y g
  handle_on_made (PassiveIdle q) r t last f e m y g = heard_made r _ m y g

  -- receive_all_telegrams
  heard_telegram_made : (h : Heard) (listening : Bool) (t : Telegram) (last : Bool) → Clock now → SoundCore p n x₀ c₀ → TelegramFits t → HearEnds E listening → HeardMade p n now x₀ c₀ E h → HeardMade p n now x₀ c₀ E (heard_telegram p h now listening t last)
  unfolding heard_telegram
  heard_telegram_made h true t last l w f e k =
      listen_on_made h.state h.ring t last f (rx_known h.core now) e (rx (record { clock = l; start = w; by = k.heard_moves })) k.heard_ends k.heard_ring
  heard_telegram_made h false t last l w f e k =
      handle_on_made h.state h.ring t last f e (rx (record { clock = l; start = w; by = k.heard_moves })) k.heard_ends k.heard_ring

  heard_all_made : {x : State} {c : Core} (r : Ring) (listening : Bool) (bytes : List ℕ) (count i : ℕ) → HearEnds E listening → Came p n now x₀ c₀ x c → E x → RingGood p r → HeardMade p n now x₀ c₀ E (heard_all p (heard_of x c r outcome.Bus) now listening bytes n count i)
  unfolding heard_all
  heard_all_made r listening bytes count zero e k y g = heard_made r _ k y g
  heard_all_made r listening bytes count (suc i) e k y g =
      heard_telegram_made _ listening _ _ k.clock k.start (telegram_low bytes n i) e (heard_all_made r listening bytes count i e k y g)

  received_made : {x : State} {c : Core} (r : Ring) (listening : Bool) (bytes : List ℕ) (count : ℕ) → HearEnds E listening → Came p n now x₀ c₀ x c → E x → RingGood p r → RingMade p n now x₀ c₀ E (consumed_all (received_all p x c r now listening bytes n count) count)
  unfolding received_all consumed_all
  received_made r listening bytes count e k y g =
      let h = heard_all_made r listening bytes count count e k y g in
      record { made_step = record { moves = h.heard_moves; ends = h.heard_ends }; made_ring = h.heard_ring }

  pub handled_made : {x : State} {c : Core} (r : Ring) (bytes : List ℕ) (count : ℕ) → ActiveEnds E → Came p n now x₀ c₀ x c → E x → RingGood p r → RingMade p n now x₀ c₀ E (consumed_all (received_all p x c r now false bytes n count) count)
  handled_made r bytes count e k y g = received_made r false bytes count e k y g

  -- do_listen_token
  listen_token_on_made : {k : ℕ} {c : Core} (q : Option ℕ) (r : Ring) (bytes : List ℕ) (count : ℕ) → ListenedEnds E q k → Came p n now x₀ c₀ (ListenToken q k) c → RingGood p r → RingMade p n now x₀ c₀ E (listen_token_on q p c r now k bytes n count)
  unfolding listen_token_on
  listen_token_on_made None r bytes count e m g = received_made r true bytes count (hears_on e) m (e.ends_listen _ _) g
  listen_token_on_made (Some source) r bytes count e m g = response_made r source e m g

  pub listen_token_made : {q : Option ℕ} {k : ℕ} {c : Core} (r : Ring) (bytes : List ℕ) (count : ℕ) → E (ClaimToken false) → ((token_lost_wait_of p c now).over ≡ true → (pause_of p (token_lost_wait_of p c now).core now).over ≡ false → E (ClaimToken true)) → ListenedEnds E q k → Came p n now x₀ c₀ (ListenToken q k) c → RingGood p r → RingMade p n now x₀ c₀ E (listen_token_of p c r now q k bytes n count)
  unfolding listen_token_of
  listen_token_made {q} r bytes count f w e m g = lost_made r _ f w refl (λ d k. listen_token_on_made q r bytes count e k g) m g

  -- do_active_idle
  active_response_made : {s : Option ℕ} {k : ℕ} {c : Core} (r : Ring) (source : ℕ) → ActiveEnds E → Came p n now x₀ c₀ (ActiveIdle (Some source) s k) c → RingGood p r → RingMade p n now x₀ c₀ E (active_response p c r now source s k)
  unfolding active_response
  active_response_made {s = s} {k = k} r source e m g =
      respond_made r source _ (e.ends_idle _ _ _) (e.ends_idle _ _ _) (λ d o i. idle_fields None s k tt (addressed_at i).1 (collided_at i) i) m g

  active_idle_on_made : {s : Option ℕ} {k : ℕ} {c : Core} (q : Option ℕ) (r : Ring) (bytes : List ℕ) (count : ℕ) → ActiveEnds E → Came p n now x₀ c₀ (ActiveIdle q s k) c → RingGood p r → RingMade p n now x₀ c₀ E (active_idle_on q p c r now s k bytes n count)
  unfolding active_idle_on
  active_idle_on_made None r bytes count e m g = received_made r false bytes count e m (e.ends_idle _ _ _) g
  active_idle_on_made (Some source) r bytes count e m g = active_response_made r source e m g

  pub active_idle_made : {q s : Option ℕ} {k : ℕ} {c : Core} (r : Ring) (bytes : List ℕ) (count : ℕ) → E (ClaimToken false) → ((token_lost_wait_of p c now).over ≡ true → (pause_of p (token_lost_wait_of p c now).core now).over ≡ false → E (ClaimToken true)) → ActiveEnds E → Came p n now x₀ c₀ (ActiveIdle q s k) c → RingGood p r → RingMade p n now x₀ c₀ E (active_idle_of p c r now q s k bytes n count)
  unfolding active_idle_of
  active_idle_made {q} r bytes count f w e m g = lost_made r _ f w refl (λ d k. active_idle_on_made q r bytes count e k g) m g

-- PassiveIdle: it is left in no poll
module _ {p : Parameters} {n : ℕ} {now : Micros} {x₀ : State} {c₀ : Core} where
  -- do_passive_idle
  pub passive_idle_made : {c : Core} (q : Option ℕ) (r : Ring) (bytes : List ℕ) (count : ℕ) → Came p n now x₀ c₀ (PassiveIdle q) c → RingGood p r → RingMade p n now x₀ c₀ Passive (passive_idle_of p c r now q bytes n count)
  unfolding passive_idle_of
  passive_idle_made None r bytes count m g = received_made r true bytes count hears_passive m (None, refl) g
  passive_idle_made (Some source) r bytes count m g =
      respond_made r source _ (Some source, refl) (None, refl) (λ d o k. passive_fields None tt tt k) m g
