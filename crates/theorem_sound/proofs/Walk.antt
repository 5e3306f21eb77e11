-- What a step comes to, in the words of specs/Walk: one law for each way of active.rs to write to the station; the steps of each crate
-- (Hold, Listen, Pass) and the calls (Sound) are put together of these.
use Rattle.std.specs.Prelude.{ℕ, ◌^◌, ◌≤◌, ◌<◌, Bool, true, false, ◌≡◌, refl, ltb, Option}
use Rattle.std.proofs.Common.{lit<}
use Rattle.bit_times.specs.declared.micros.Micros.{Micros}
use Rattle.settings.specs.declared.parameters.Parameters.{Parameters}
use Rattle.ring.specs.Ring.{Ring}
use Rattle.ring.specs.declared.GapState.{GapState}
use Rattle.ring.specs.declared.GapState.TheVariants.{DoPoll}
use Rattle.codec_answers.specs.declared.Outcome.{Outcome}
use Rattle.codec_answers.specs.declared.Sent.{Sent}
use Rattle.codec_answers.specs.Answers.{sent_bytes}
use Rattle.station.specs.declared.state.PassTokenAttempt.{PassTokenAttempt}
use Rattle.station.specs.declared.state.UseTokenData.{UseTokenData}
use Rattle.station.specs.declared.state.ConnectivityState.TheVariants as connectivity
use Rattle.station.specs.declared.state.State.{State}
use Rattle.station.specs.declared.state.State.TheVariants.{Offline, ListenToken, ActiveIdle, UseToken, ClaimToken, AwaitDataResponse, PassToken, CheckTokenPass, AwaitStatusResponse, PassiveIdle}
use Rattle.station.specs.declared.parts.Core.{Core}
use Rattle.station.specs.declared.done.Event.{Event}
use Rattle.station.specs.Whole.{RingStep}
use Rattle.station.specs.Parts.{with_activity, with_pending, with_gap, with_next_application, fresh_core, state_number}
use Rattle.station.specs.Steps.{with_token_time, to_listen_token, to_passive_idle, to_active_idle, marked_at, waited_of, pause_of, slot_expired_of, token_lost_wait_of, rx_of, bus_activity_of, done_of, transmit_of, with_event, heard_of, collision_of}
use Rattle.station_hold.specs.Hold.{hold_end_of}
use Rattle.theorem_sound.specs.Moves.{passive_idle_from, listen_token_from, active_idle_from, use_token_from, claim_token_from, await_data_response_from, pass_token_from, check_token_pass_from, await_status_response_from, In, Known, KnownWith, Low, Other, Clock, Unasked, HeldFits, GapAddressed, GapCounted, Move, waits, marks, sends, pends, holds, turns, gaps, listens, passives, idles, cycles, claims, passive_idle, listen_token, active_idle, use_token, use_token_again, claim_token, await_data_response, pass_token, check_token_pass, await_status_response, goes_offline, then}
use Rattle.theorem_sound.specs.Lines.{Addressed, CollidedOnce, KnownIn, HeldIn, LastToken, SoundCore}
use Rattle.theorem_sound.proofs.Kept.{moves_keep, marked_known}
use Rattle.theorem_sound.specs.Keeps.{RingGood, either}
use Rattle.theorem_sound.specs.Walk.{Came, HeardMade, Made, RingMade}

-- what is counted of a step changes nothing else of it
pub event_made : {p : Parameters} {n : ℕ} {now : Micros} {x₀ : State} {c₀ : Core} {E : State → Type 0} (s : RingStep) (x : Event) → RingMade p n now x₀ c₀ E s → RingMade p n now x₀ c₀ E (with_event s x)
unfolding with_event
event_made s x k = record { made_step = record { moves = k.made_step.moves; ends = k.made_step.ends }; made_ring = k.made_ring }

-- a new token's data fit
pub new_token : (n : ℕ) (now : Micros) → Clock now → HeldFits n (with_token_time now)
unfolding with_token_time
new_token n now l = record { token_time = l; first_one = tt }

pub new_unasked : (now : Micros) → Unasked (with_token_time now)
unfolding with_token_time
new_unasked now = refl

-- after a wait or a reception the activity is known
waited_known : (c : Core) (now time : Micros) → Known (waited_of c now time).core.last_bus_activity
unfolding waited_of with_activity
waited_known c now time = tt

pub pause_known : (p : Parameters) (c : Core) (now : Micros) → Known (pause_of p c now).core.last_bus_activity
unfolding pause_of
pause_known p c now = waited_known c now _

pub slot_known : (p : Parameters) (c : Core) (now : Micros) → Known (slot_expired_of p c now).core.last_bus_activity
unfolding slot_expired_of
slot_known p c now = waited_known c now _

pub lost_known : (p : Parameters) (c : Core) (now : Micros) → Known (token_lost_wait_of p c now).core.last_bus_activity
unfolding token_lost_wait_of
lost_known p c now = waited_known c now _

pub rx_known : (c : Core) (now : Micros) → Known (rx_of c now).last_bus_activity
unfolding rx_of with_activity
rx_known c now = marked_known _ now

module _ {p : Parameters} {n : ℕ} {now : Micros} {x₀ : State} {c₀ : Core} where
  -- what is known of a state and a core that moves have led to
  pub sound_at : {x : State} {c : Core} → Came p n now x₀ c₀ x c → SoundCore p n x c
  sound_at k = moves_keep k.clock k.by k.start

  pub addressed_at : {x : State} {c : Core} → Came p n now x₀ c₀ x c → Addressed p.address x
  addressed_at k = (sound_at k).addresses

  pub collided_at : {x : State} {c : Core} → Came p n now x₀ c₀ x c → CollidedOnce x
  collided_at k = (sound_at k).collided_once

  pub known_here : {x : State} {c : Core} → Came p n now x₀ c₀ x c → KnownIn x c.last_bus_activity
  known_here k = (sound_at k).activity_known_lem

  pub held_at : {x : State} {c : Core} → Came p n now x₀ c₀ x c → HeldIn n x
  held_at k = (sound_at k).token_held

  pub last_here : {x : State} {c : Core} → Came p n now x₀ c₀ x c → LastToken x c.last_token_time
  last_here k = (sound_at k).last_token

  -- a state that is not Offline is that of a station that is not offline
  pub connected_here : {x : State} {c : Core} → Came p n now x₀ c₀ x c → (state_number x ≡ 0 → ⊥) → c.connectivity_state ≡ connectivity.Offline → ⊥
  connected_here k z e = z (rw ((sound_at k).offline e) refl)

  -- one move more
  moved : {x y : State} {c d : Core} → Came p n now x₀ c₀ x c → Move p n now x c y d → Came p n now x₀ c₀ y d
  moved k m = record { clock = k.clock; start = k.start; by = then k.by m }

  -- the activity
  waited : {x : State} {c : Core} (time : Micros) → Came p n now x₀ c₀ x c → Came p n now x₀ c₀ x (waited_of c now time).core
  unfolding waited_of
  waited time k = moved k waits

  pub paused : {x : State} {c : Core} → Came p n now x₀ c₀ x c → Came p n now x₀ c₀ x (pause_of p c now).core
  unfolding pause_of
  paused k = waited _ k

  pub slotted : {x : State} {c : Core} → Came p n now x₀ c₀ x c → Came p n now x₀ c₀ x (slot_expired_of p c now).core
  unfolding slot_expired_of
  slotted k = waited _ k

  pub lost_asked : {x : State} {c : Core} → Came p n now x₀ c₀ x c → Came p n now x₀ c₀ x (token_lost_wait_of p c now).core
  unfolding token_lost_wait_of
  lost_asked k = waited _ k

  pub marked : {x : State} {c : Core} → Came p n now x₀ c₀ x c → Came p n now x₀ c₀ x (with_activity c (marked_at c.last_bus_activity now))
  marked k = moved k marks

  pub rx : {x : State} {c : Core} → Came p n now x₀ c₀ x c → Came p n now x₀ c₀ x (rx_of c now)
  unfolding rx_of with_activity with_pending
  rx k = moved (moved k (pends 0 (lit< tt) (λ e. refl))) marks

  pub bus : {x : State} {c : Core} (pending : ℕ) → pending < 2 ^ 11 → (x ≡ Offline → ⊥) → Came p n now x₀ c₀ x c → Came p n now x₀ c₀ x (bus_activity_of c now pending)
  unfolding bus_activity_of
  bus {c} pending few o k =
      either (Came p n now x₀ c₀ _) (ltb c.pending_bytes pending) _ _ (moved (moved k marks) (pends pending few (λ e. absurd (o e)))) k

  -- the end of hold, the next application, the gap's turn
  pub hold_set_at : {cycled : Bool} {held : UseTokenData} {c : Core} → Came p n now x₀ c₀ (UseToken cycled held) c → Came p n now x₀ c₀ (UseToken cycled held) (hold_end_of p c held.token_time)
  hold_set_at {cycled} {held} k = moved k (holds held cycled (held_at k))

  pub turned : {cycled : Bool} {held : UseTokenData} {c : Core} (a : ℕ) → a < n → Came p n now x₀ c₀ (UseToken cycled held) c → Came p n now x₀ c₀ (UseToken cycled held) (with_next_application c a)
  turned {cycled} {held} a l k = moved k (turns held cycled a l)

  pub gap_turned : {gap : Bool} {attempt : PassTokenAttempt} {c : Core} (g : GapState) → GapAddressed p g → GapCounted p g → Came p n now x₀ c₀ (PassToken gap attempt) c → Came p n now x₀ c₀ (PassToken gap attempt) (with_gap c g)
  gap_turned {gap} {attempt} g l h k = moved k (gaps gap attempt g l h)

  -- a field of the state
  pub listen_fields : {q : Option ℕ} {k : ℕ} {c : Core} (q' : Option ℕ) (k' : ℕ) → Other p.address q' → k' ≤ 1 → Came p n now x₀ c₀ (ListenToken q k) c → Came p n now x₀ c₀ (ListenToken q' k') c
  listen_fields q' k' l o k = moved k (listens _ q' _ k' l o)

  pub passive_fields : {q : Option ℕ} {c : Core} (q' : Option ℕ) → Other p.address q' → KnownWith q' c.last_bus_activity → Came p n now x₀ c₀ (PassiveIdle q) c → Came p n now x₀ c₀ (PassiveIdle q') c
  passive_fields q' l w k = moved k (passives _ q' l w)

  pub idle_fields : {q m : Option ℕ} {k : ℕ} {c : Core} (q' m' : Option ℕ) (k' : ℕ) → Low q' → Other p.address m' → k' ≤ 1 → Came p n now x₀ c₀ (ActiveIdle q m k) c → Came p n now x₀ c₀ (ActiveIdle q' m' k') c
  idle_fields q' m' k' l h o k = moved k (idles _ q' _ m' _ k' l h o)

  pub cycle_done : {cycled : Bool} {held : UseTokenData} {c : Core} (kept : UseTokenData) → HeldFits n kept → kept.token_time.0 ≡ c.last_token_time.0 → Came p n now x₀ c₀ (UseToken cycled held) c → Came p n now x₀ c₀ (UseToken true kept) c
  cycle_done kept f t k = moved k (cycles _ kept _ f t)

  pub claim_again : {c : Core} → Came p n now x₀ c₀ (ClaimToken true) c → Came p n now x₀ c₀ (ClaimToken false) c
  claim_again k = moved k claims

  -- transitions
  pub to_passive : {x : State} {c : Core} → In passive_idle_from x → c.connectivity_state ≡ connectivity.Passive → Came p n now x₀ c₀ x c → Came p n now x₀ c₀ to_passive_idle c
  to_passive i o k = moved k (passive_idle i o)

  pub to_listen : {x : State} {c : Core} → In listen_token_from x → (c.connectivity_state ≡ connectivity.Offline → ⊥) → Came p n now x₀ c₀ x c → Came p n now x₀ c₀ to_listen_token c
  to_listen i o k = moved k (listen_token i o)

  pub to_idle : {x : State} {c : Core} → In active_idle_from x → Known c.last_bus_activity → Came p n now x₀ c₀ x c → Came p n now x₀ c₀ to_active_idle c
  to_idle i o k = moved k (active_idle i o)

  pub to_use : {x : State} {c : Core} (held : UseTokenData) → In use_token_from x → HeldFits n held → Unasked held → Came p n now x₀ c₀ x c → Came p n now x₀ c₀ (UseToken false held) c
  to_use held i f z k = moved k (use_token held i f z)

  pub to_claim : {x : State} {c : Core} → In claim_token_from x → Known c.last_bus_activity → Came p n now x₀ c₀ x c → Came p n now x₀ c₀ (ClaimToken true) c
  to_claim i o k = moved k (claim_token i o)

  pub to_await_data : {x : State} {c : Core} (a : ℕ) (held : UseTokenData) → In await_data_response_from x → a < 128 → HeldFits n held → held.token_time.0 ≡ c.last_token_time.0 → Came p n now x₀ c₀ x c → Came p n now x₀ c₀ (AwaitDataResponse a held) c
  to_await_data a held i l f t k = moved k (await_data_response a held i l f t)

  pub to_pass : {x : State} {c : Core} (gap : Bool) (attempt : PassTokenAttempt) → In pass_token_from x → Came p n now x₀ c₀ x c → Came p n now x₀ c₀ (PassToken gap attempt) c
  to_pass gap attempt i k = moved k (pass_token gap attempt i)

  pub to_check : {x : State} {c : Core} (attempt : PassTokenAttempt) → In check_token_pass_from x → Came p n now x₀ c₀ x c → Came p n now x₀ c₀ (CheckTokenPass attempt) c
  to_check attempt i k = moved k (check_token_pass attempt i)

  pub to_await_status : {x : State} {c : Core} (a : ℕ) → In await_status_response_from x → c.gap_state ≡ DoPoll a → Came p n now x₀ c₀ x c → Came p n now x₀ c₀ (AwaitStatusResponse a) c
  to_await_status a i e k = moved k (await_status_response a i e)

  -- transition_use_token, and first_cycle_done set: after a reply or a timeout
  pub to_use_again : {a : ℕ} {held : UseTokenData} {c : Core} → Came p n now x₀ c₀ (AwaitDataResponse a held) c → Came p n now x₀ c₀ (UseToken true held) c
  to_use_again {a} {held} k = moved k (use_token_again a held (held_at k) (last_here k))

  pub to_fresh : {x : State} {c : Core} → Came p n now x₀ c₀ x c → Came p n now x₀ c₀ Offline fresh_core
  to_fresh k = moved k goes_offline

  -- a step that does not send, and one that does
  pub done_made : {E : State → Type 0} {x : State} {c : Core} (o : Outcome) → Came p n now x₀ c₀ x c → E x → Made p n now x₀ c₀ E (done_of x c o)
  unfolding done_of
  done_made o k e = record { moves = k.by; ends = e }

  pub transmit_made : {E : State → Type 0} {x : State} {c : Core} (s : Sent) → sent_bytes s ≤ 255 → Came p n now x₀ c₀ x c → E x → Made p n now x₀ c₀ E (transmit_of p x c now s)
  unfolding transmit_of
  transmit_made s l k e = record { moves = then k.by (sends (sent_bytes s) l); ends = e }

  -- what a telegram comes to
  pub heard_made : {E : State → Type 0} {x : State} {c : Core} (r : Ring) (o : Outcome) → Came p n now x₀ c₀ x c → E x → RingGood p r → HeardMade p n now x₀ c₀ E (heard_of x c r o)
  unfolding heard_of
  heard_made r o k e g = record { heard_moves = k.by; heard_ends = e; heard_ring = g }

  pub collision_made : {E : State → Type 0} {x : State} {c : Core} (r : Ring) → Came p n now x₀ c₀ x c → E x → RingGood p r → HeardMade p n now x₀ c₀ E (collision_of x c r)
  unfolding collision_of
  collision_made r k e g = record { heard_moves = k.by; heard_ends = e; heard_ring = g }

  -- where a step ends may be said in more words
  pub ends_where : {E F : State → Type 0} {s : RingStep} → ((x : State) → E x → F x) → RingMade p n now x₀ c₀ E s → RingMade p n now x₀ c₀ F s
  ends_where f k = record { made_step = record { moves = k.made_step.moves; ends = f _ k.made_step.ends }; made_ring = k.made_ring }
