-- The theorems of specs/Waits.antt: from the steps (Guarded) to the calls.
use Rattle.std.specs.Prelude.{ℕ, ◌+◌, ◌<◌, ◌≤◌, Bool, cond, ◌≡◌, ◌⊎◌, List, [], ◌∷◌, ltb, eqb, Option, Some, None}
use Rattle.std.proofs.Math.Bool.{true, false}
use Rattle.std.proofs.Math.Path.{refl}
use Rattle.std.proofs.Common.{sym, subst, inl, inr, arith, add-mul, mul-le-mul_right, lit≤}
use borrow.Author.Tests.{leb-true, leb-false}
use Rattle.bit_times.specs.declared.micros.Micros.{Micros}
use Rattle.bit_times.specs.declared.baud.Baud.{Baud}
use Rattle.bit_times.specs.Times.{rate_of, time_of}
use Rattle.bit_times.proofs.Laws.{time_lasts, time_some}
use Rattle.settings.specs.declared.parameters.Parameters.{Parameters}
use Rattle.settings.specs.Settings.{slot_time_of}
use Rattle.settings_rules.specs.Rules.{applications_refusal}
use Rattle.ring.specs.Ring.{Ring}
use Rattle.codec_records.specs.Records.{record_refusal}
use Rattle.codec_answers.specs.Answers.{refused_answer}
use Rattle.codec_answers.specs.declared.Outcome.TheVariants as outcome
use Rattle.codec_answers.specs.declared.Sent.TheVariants as sent
use Rattle.codec_answers.specs.declared.Notice.TheVariants as notice
use Rattle.station.specs.declared.state.ConnectivityState.{ConnectivityState}
use Rattle.station.specs.declared.state.ConnectivityState.TheVariants as connectivity
use Rattle.station.specs.declared.state.State.{State}
use Rattle.station.specs.declared.state.State.TheVariants.{Offline, ListenToken, ActiveIdle, UseToken, ClaimToken, AwaitDataResponse, PassToken, CheckTokenPass, AwaitStatusResponse, PassiveIdle}
use Rattle.station.specs.declared.parts.Core.{Core}
use Rattle.station.specs.declared.station.Station.{Station}
use Rattle.station.specs.Whole.{RingStep, Step}
use Rattle.station.specs.Parts.{with_activity, with_pending, is_offline, state_number, fresh_station}
use Rattle.station.specs.Steps.{known_at, elapsed_of, marked_at, busy_of, ongoing_of, waited_of, pause_of, slot_expired_of, bus_activity_of, done_of, ring_step_of}
use Rattle.station_answer.specs.Answer.{Polled, step_answer, polled_of, refused_poll}
use Rattle.station_poll.specs.Poll.{connected_of, passivated_of, entered_of, dispatch_of, poll_online, poll_inner, accepted_after, accepted_poll, poll_of}
use Rattle.theorem_sound.specs.Moves.{lists, Known}
use Rattle.theorem_sound.proofs.Kept.{not-true, known_from}
use Rattle.theorem_sound.specs.Keeps.{either}
use Rattle.theorem_sound.specs.Sound.{SoundStation, Call, poll, online, offline, passive, after, clock_of}
use Rattle.theorem_sound.proofs.Sound.{new_sound, call_sound}
use Rattle.station_command.specs.Command.{connect_of, online_of, offline_of, passive_of}
use Rattle.theorem_sound.specs.Fits.{answer_to}
use Rattle.theorem_sound.specs.Waits.{Sends, TellsTimeout, Since, sync_pause, PauseKept, BitsSince, BitsKept, waiting, SlotWaited, SlotKept, Throughout, NoSendBeforePause, NoSendBefore33Bits, NoRetryBeforeSlot}
use Rattle.theorem_sound.specs.Guarded.{Guarded, Told}
use Rattle.theorem_sound.proofs.Guarded.{weaken, retold, done_guarded, done_told, dispatch_guarded, slot_guarded, slot_told}

-- an activity that a poll does not find going on lies before its clock
free_before : (last now : Micros) (t : Bool) → ongoing_of (Some last) now t ≡ false → last.0 < now.0
unfolding ongoing_of busy_of
free_before last now true e = not-true (sym e)
free_before last now false e = leb-false now.0 last.0 e

-- a time that is over since the activity as it was marked, is over since the activity before
module _ (now time : Micros) where
  passed_at : (last : Micros) → elapsed_of now last time ≡ true → last.0 + time.0 ≤ now.0
  unfolding elapsed_of
  passed_at last e = leb-true (last.0 + time.0) now.0 e

  since_same : (a : Option Micros) → Known a ⊎ (1 ≤ time.0) → elapsed_of now (known_at a now) time ≡ true → Since a now time
  unfolding known_at
  since_same None (inl k) e = absurd k
  since_same None (inr k) e = absurd (omega (arith, passed_at now e))
  since_same (Some last) k e = record { last = last; known = refl; passed = passed_at last e }

  since_either : (b : Bool) (a : Option Micros) (t : Bool) → ongoing_of a now t ≡ false → Known a ⊎ (1 ≤ time.0) → elapsed_of now (known_at (cond b (Some now) (Some (known_at a now))) now) time ≡ true → Since a now time
  unfolding known_at
  since_either b None t o (inl k) e = absurd k
  since_either true None t o (inr k) e = absurd (omega (arith, passed_at now e))
  since_either false None t o (inr k) e = absurd (omega (arith, passed_at now e))
  since_either true (Some last) t o k e = record { last = last; known = refl; passed = omega (arith, passed_at now e, free_before last now t o) }
  since_either false (Some last) t o k e = record { last = last; known = refl; passed = passed_at last e }

  since_marked : (a : Option Micros) (t : Bool) → ongoing_of a now t ≡ false → Known a ⊎ (1 ≤ time.0) → elapsed_of now (known_at (marked_at a now) now) time ≡ true → Since a now time
  unfolding marked_at
  since_marked a t o k e = since_either (ltb (known_at a now).0 now.0) a t o k e

  since_bus : (c : Core) (pending : ℕ) (t : Bool) → ongoing_of c.last_bus_activity now t ≡ false → Known c.last_bus_activity ⊎ (1 ≤ time.0) → elapsed_of now (known_at (bus_activity_of c now pending).last_bus_activity now) time ≡ true → Since c.last_bus_activity now time
  unfolding bus_activity_of with_activity with_pending
  since_bus c pending t o k = go (ltb c.pending_bytes pending)
    where
      grown : Core
      grown = with_pending (with_activity c (marked_at c.last_bus_activity now)) pending

      go : (b : Bool) → elapsed_of now (known_at (cond b grown c).last_bus_activity now) time ≡ true → Since c.last_bus_activity now time
      go true e = since_marked c.last_bus_activity t o k e
      go false e = since_same c.last_bus_activity k e

-- connecting leaves a state that waits for another as it is, online and passive
connected_same : (x : State) → lists waiting (state_number x) ≡ true → connected_of x ≡ x
unfolding connected_of
connected_same Offline i = not-true i
connected_same (ListenToken q k) i = refl
connected_same (ActiveIdle q m k) i = refl
connected_same (UseToken k d) i = refl
connected_same (ClaimToken f) i = refl
connected_same (AwaitDataResponse a d) i = refl
connected_same (PassToken g k) i = refl
connected_same (CheckTokenPass k) i = refl
connected_same (AwaitStatusResponse a) i = refl
connected_same (PassiveIdle q) i = not-true i

passivated_same : (x : State) → lists waiting (state_number x) ≡ true → passivated_of x ≡ x
unfolding passivated_of
passivated_same Offline i = not-true i
passivated_same (ListenToken q k) i = not-true i
passivated_same (ActiveIdle q m k) i = not-true i
passivated_same (UseToken k d) i = refl
passivated_same (ClaimToken f) i = refl
passivated_same (AwaitDataResponse a d) i = refl
passivated_same (PassToken g k) i = refl
passivated_same (CheckTokenPass k) i = refl
passivated_same (AwaitStatusResponse a) i = refl
passivated_same (PassiveIdle q) i = refl

entered_same : (v : ConnectivityState) (x : State) → lists waiting (state_number x) ≡ true → entered_of v x ≡ x
unfolding entered_of
entered_same connectivity.Offline x i = refl
entered_same connectivity.Passive x i = passivated_same x i
entered_same connectivity.Online x i = connected_same x i

-- a step that sends, and tells a timeout, only where Q holds
record Late (Q : Type 0) (s : Step) : Type 0 where
  pub late_sent : Guarded Q s
  pub late_told : Told Q s

-- the same of a poll and the slot
record SlotLate (s : Station) (bytes : List ℕ) (x : Polled) : Type 0 where
  pub late_send : Sends x.answer.sent → Since s.core.last_bus_activity (clock_of (poll bytes)) (slot_time_of s.p)
  pub late_tell : TellsTimeout x.answer.notice → Since s.core.last_bus_activity (clock_of (poll bytes)) (slot_time_of s.p)

-- poll_inner: no send before the pause
module _ (p : Parameters) (now : Micros) (r : Ring) (t : Bool) (pending : ℕ) (bytes : List ℕ) (n count : ℕ) where
  pause_since : (c : Core) → ongoing_of c.last_bus_activity now t ≡ false → (pause_of p (bus_activity_of c now pending) now).over ≡ true → Since c.last_bus_activity now (sync_pause p)
  unfolding pause_of waited_of
  pause_since c o e = since_bus now (sync_pause p) c pending t o (inr (time_some _ p.baudrate (lit≤ tt))) e

  slot_since : (c : Core) → Known c.last_bus_activity → ongoing_of c.last_bus_activity now t ≡ false → (slot_expired_of p (bus_activity_of c now pending) now).over ≡ true → Since c.last_bus_activity now (slot_time_of p)
  unfolding slot_expired_of waited_of
  slot_since c k o e = since_bus now (slot_time_of p) c pending t o (inl k) e

  online_paused : (x : State) (c : Core) → Guarded (Since c.last_bus_activity now (sync_pause p)) (poll_online p x c r now t pending bytes n count).step
  unfolding poll_online
  online_paused x c = go (ongoing_of c.last_bus_activity now t) refl
    where
      d : Core
      d = bus_activity_of c now pending

      Q : Type 0
      Q = Since c.last_bus_activity now (sync_pause p)

      go : (b : Bool) → ongoing_of c.last_bus_activity now t ≡ b → Guarded Q (cond b (ring_step_of (done_of x (with_activity c (marked_at c.last_bus_activity now)) outcome.Transmission) r) (dispatch_of p x d r now bytes n count)).step
      go true o = done_guarded _ _ _ _
      go false o = weaken (pause_since c o) (dispatch_guarded p now x d r bytes n count)

  -- no retry before the slot
  waiting_late : (x : State) (c : Core) → Known c.last_bus_activity → lists waiting (state_number x) ≡ true → Late (Since c.last_bus_activity now (slot_time_of p)) (poll_online p x c r now t pending bytes n count).step
  unfolding poll_online
  waiting_late x c k i = go (ongoing_of c.last_bus_activity now t) refl
    where
      d : Core
      d = bus_activity_of c now pending

      Q : Type 0
      Q = Since c.last_bus_activity now (slot_time_of p)

      go : (b : Bool) → ongoing_of c.last_bus_activity now t ≡ b → Late Q (cond b (ring_step_of (done_of x (with_activity c (marked_at c.last_bus_activity now)) outcome.Transmission) r) (dispatch_of p x d r now bytes n count)).step
      go true o = record { late_sent = done_guarded _ _ _ _; late_told = done_told _ _ _ _ }
      go false o =
          record {
            late_sent = weaken (slot_since c k o) (slot_guarded p now x d r bytes n count i);
            late_told = retold (slot_since c k o) (slot_told p now x d r bytes n count i);
          }

  inner_paused : (x : State) (c : Core) → Guarded (Since c.last_bus_activity now (sync_pause p)) (poll_inner p x c r now t pending bytes n count).step
  unfolding poll_inner
  inner_paused x c =
      either (λ (y : RingStep). Guarded (Since c.last_bus_activity now (sync_pause p)) y.step) (is_offline c.connectivity_state) _ _ (done_guarded _ _ _ _) (online_paused (entered_of c.connectivity_state x) c)

  inner_late : (x : State) (c : Core) → Known c.last_bus_activity → lists waiting (state_number x) ≡ true → Late (Since c.last_bus_activity now (slot_time_of p)) (poll_inner p x c r now t pending bytes n count).step
  unfolding poll_inner
  inner_late x c k i =
      let L : RingStep → Type 0 = λ (y : RingStep). Late (Since c.last_bus_activity now (slot_time_of p)) y.step in
      either L (is_offline c.connectivity_state) _ _ (record { late_sent = done_guarded _ _ _ _; late_told = done_told _ _ _ _ })
      (subst (λ (y : State). L (poll_online p y c r now t pending bytes n count)) (sym (entered_same c.connectivity_state x i)) (waiting_late x c k i))

-- poll: a refused record sends and tells nothing
refused_sent : (Q : Type 0) (s : Station) (k : ℕ) → Sends (refused_poll s k).answer.sent → Q
unfolding refused_poll refused_answer
refused_sent Q s k x = absurd (x refl)

refused_told : (Q : Type 0) (s : Station) (k : ℕ) → TellsTimeout (refused_poll s k).answer.notice → Q
unfolding refused_poll refused_answer
refused_told Q s k x = absurd x

accepted_paused : (s : Station) (bytes : List ℕ) → Sends (accepted_poll s bytes).answer.sent → Since s.core.last_bus_activity (clock_of (poll bytes)) (sync_pause s.p)
unfolding accepted_poll accepted_after polled_of step_answer
accepted_paused s bytes x = (inner_paused s.p (clock_of (poll bytes)) s.token_ring _ _ bytes s.applications _ s.state s.core).guard x

-- every poll keeps the pause, of a sound station or any other
pub poll_paused : (s : Station) (bytes : List ℕ) → Sends (poll_of s bytes).answer.sent → Since s.core.last_bus_activity (clock_of (poll bytes)) (sync_pause s.p)
unfolding poll_of
poll_paused s bytes =
    either (λ (x : Polled). Sends x.answer.sent → Since s.core.last_bus_activity (clock_of (poll bytes)) (sync_pause s.p)) (eqb (record_refusal bytes s.applications) 0) _ _
    (accepted_paused s bytes) (refused_sent _ s _)

-- a command sends and tells nothing
online_silent : (s : Station) → ((online_of s).answer.sent ≡ sent.Nothing) × ((online_of s).answer.notice ≡ notice.NoNotice)
unfolding online_of connect_of polled_of step_answer done_of
online_silent s = (refl, refl)

offline_silent : (s : Station) → ((offline_of s).answer.sent ≡ sent.Nothing) × ((offline_of s).answer.notice ≡ notice.NoNotice)
unfolding offline_of polled_of step_answer done_of
offline_silent s = (refl, refl)

passive_silent : (s : Station) → ((passive_of s).answer.sent ≡ sent.Nothing) × ((passive_of s).answer.notice ≡ notice.NoNotice)
unfolding passive_of connect_of polled_of step_answer done_of
passive_silent s = (refl, refl)

pub pause_kept : (s : Station) (c : Call) → PauseKept s c
pause_kept s (poll bytes) x = poll_paused s bytes x
pause_kept s online x = absurd (x (online_silent s).0)
pause_kept s offline x = absurd (x (offline_silent s).0)
pause_kept s passive x = absurd (x (passive_silent s).0)

-- a time of bits that is over: the bits have gone by to the full, since their time is never shorter than they last
bits_since : (a : Option Micros) (now : Micros) (baud : Baud) (bits : ℕ) → Since a now (time_of (record { 0 = bits }) baud) → BitsSince a now baud bits
bits_since a now baud bits w =
    record { last = w.last; known = w.known; lasted = omega (arith, (time_lasts (record { 0 = bits }) baud).not_shorter, add-mul w.last.0 (time_of (record { 0 = bits }) baud).0 (rate_of baud), mul-le-mul_right (rate_of baud) w.passed) }

bits_kept : (s : Station) (c : Call) → BitsKept s c
bits_kept s c x = bits_since _ _ s.p.baudrate 33 (pause_kept s c x)

-- every poll of a sound station that waits for another keeps the slot
known_waiting : (s : Station) → SoundStation s → lists waiting (state_number s.state) ≡ true → Known s.core.last_bus_activity
known_waiting s w i = known_from waiting s.state _ refl refl refl i w.core_sound.activity_known_lem

accepted_late : (s : Station) (bytes : List ℕ) → SoundStation s → lists waiting (state_number s.state) ≡ true → SlotLate s bytes (accepted_poll s bytes)
unfolding accepted_poll accepted_after polled_of step_answer
accepted_late s bytes w i =
    let l = inner_late s.p (clock_of (poll bytes)) s.token_ring _ _ bytes s.applications _ s.state s.core (known_waiting s w i) i in
    record { late_send = l.late_sent.guard; late_tell = l.late_told.told }

poll_late : (s : Station) (bytes : List ℕ) → SoundStation s → lists waiting (state_number s.state) ≡ true → SlotLate s bytes (poll_of s bytes)
unfolding poll_of
poll_late s bytes w i =
    either (SlotLate s bytes) (eqb (record_refusal bytes s.applications) 0) _ _ (accepted_late s bytes w i)
    (record { late_send = refused_sent _ s _; late_tell = refused_told _ s _ })

-- what sends and tells nothing waits
silent_late : (s : Station) (c : Call) → ((answer_to s c).sent ≡ sent.Nothing) × ((answer_to s c).notice ≡ notice.NoNotice) → SlotWaited s c
silent_late s c e = record { sends_late = λ x. absurd (x e.0); tells_late = λ x. absurd (rw e.1 at x) }

pub slot_kept : (s : Station) (c : Call) → SoundStation s → SlotKept s c
slot_kept s (poll bytes) w i =
    let l = poll_late s bytes w i in
    record { sends_late = l.late_send; tells_late = l.late_tell }
slot_kept s online w i = silent_late s online (online_silent s)
slot_kept s offline w i = silent_late s offline (offline_silent s)
slot_kept s passive w i = silent_late s passive (passive_silent s)

-- of each call of a run from a sound station
pub throughout : (P : Station → Call → Type 0) → ((s : Station) (c : Call) → SoundStation s → P s c) → (cs : List Call) (s : Station) → SoundStation s → Throughout P s cs
throughout P k [] s w = tt
throughout P k (c ∷ cs) s w = (k s c w, throughout P k cs (after s c) (call_sound s c w))

-- of each call of a run from a new station
pub throughout_new : (P : Station → Call → Type 0) → ((s : Station) (c : Call) → SoundStation s → P s c) → (p : Parameters) (n : ℕ) (cs : List Call) → p.address < 126 → applications_refusal n ≡ 0 → Throughout P (fresh_station p n) cs
throughout_new P k p n cs l e = throughout P k cs (fresh_station p n) (new_sound p n l e)

-- The theorems.
pub no_send_before_pause : NoSendBeforePause
no_send_before_pause = throughout_new PauseKept (λ s c w. pause_kept s c)

pub no_send_before_33_bits : NoSendBefore33Bits
no_send_before_33_bits = throughout_new BitsKept (λ s c w. bits_kept s c)

pub no_retry_before_slot : NoRetryBeforeSlot
no_retry_before_slot = throughout_new SlotKept slot_kept
