-- No station of a simulated bus goes offline, meets its own address, or sends an application's telegram. Assumes nothing.
use Rattle.std.specs.Prelude.{ℕ, zero, suc, ◌*◌, ◌^◌, ◌<◌, ◌≤◌, ◌≡◌, refl, List, [], ◌∷◌, ◌++◌, Bool, false, length, eqb}
use Rattle.std.proofs.Common.{sym, ◌∙◌, subst, arith, mul-le-mul, eq-eqb, le-ltb}
use Rattle.std.proofs.Math.Path.{ap}
use borrow.Table.Steps.{cases}
use Rattle.bit_times.specs.declared.micros.Micros.{Micros}
use Rattle.codec_fields.specs.Fields.{Bytes}
use Rattle.settings.specs.declared.parameters.Parameters.{Parameters}
use Rattle.settings_rules.specs.Rules.{refuse_outside, applications_refusal}
use Rattle.codec_telegrams.specs.declared.Telegram.{Telegram}
use Rattle.codec_telegrams.specs.Words.{TelegramFits}
use Rattle.codec_decisions.specs.declared.Decision.TheVariants.{Decline}
use Rattle.codec_records.specs.declared.Head.{Head}
use Rattle.codec_records.specs.Records.{head_of, telegram_at, decision_at, record_refusal}
use Rattle.codec_records_written.specs.Whole.{Says}
use Rattle.codec_records_written.proofs.Written.{round_trip}
use Rattle.codec_answers.specs.declared.Answer.{Answer}
use Rattle.codec_answers.specs.declared.Sent.{Sent}
use Rattle.codec_answers.specs.declared.Sent.TheVariants as sent
use Rattle.codec_answers.specs.Answers.{SentFits}
use Rattle.station.specs.declared.state.ConnectivityState.TheVariants as connectivity
use Rattle.station.specs.declared.parts.Counts.{Counts}
use Rattle.station.specs.declared.done.Event.{Event}
use Rattle.station.specs.declared.done.Event.TheVariants as event
use Rattle.station.specs.declared.station.Station.{Station}
use Rattle.station.specs.Whole.{RingStep}
use Rattle.station.specs.Parts.{fresh_station, with_connectivity}
use Rattle.station.specs.Steps.{done_of}
use Rattle.station_answer.specs.Counted.{counted_of}
use Rattle.station_answer.specs.Answer.{Polled, step_answer, polled_of, refused_poll}
use Rattle.station_command.specs.Command.{connect_of, online_of}
use Rattle.station_hear_listen.specs.HearListen.{sent_by_us}
use Rattle.station_poll.specs.Poll.{accepted_after, accepted_poll, poll_of}
use Rattle.theorem_sound.specs.Sound.{poll, online, after, run, SoundStation}
use Rattle.theorem_sound.proofs.Sound.{new_sound, sound}
use Rattle.theorem_sound.proofs.Fits.{every_answer_fits}
use Rattle.theorem_silence.proofs.Theorem.{inner_online}
use Rattle.bus_setup.specs.Setup.{stations_of, tick_of, ticks_of, setup_refusal}
use Rattle.bus_wire.specs.Wire.{sent_telegram, transmitting_at, heard_at}
use Rattle.bus_run.specs.Run.{settings_for, given, head_at, declines, telegram_in, record_of, record_for, transmission_for, bus_at, record_at, answer_at}
use Rattle.bus_run.specs.Sized.{sized}
use Rattle.theorem_bus.specs.Statement.{fresh_at}
use Rattle.theorem_bus.specs.Parts.{start_online, next_station, next_answer}
use Rattle.theorem_bus.specs.Theorem.{newest_few}
use Rattle.theorem_bus.specs.Delivered.{Every, every_map, Delivered, listed_delivered}
use Rattle.theorem_bus.specs.Own.{settings_stay, address_at, every_sent, address_low, never_own}
use Rattle.theorem_bus_online.specs.Steady.{There, Unmet, NotAsked, Steady, connected_steady}

-- One poll.

-- a record that is accepted, from no station of our address, and with applications that decline
pub record Plain (s : Station) (bytes : List ℕ) : Type 0 where
  pub accepted : record_refusal bytes s.applications ≡ 0
  pub others : (j : ℕ) → j < (head_of bytes).telegrams → sent_by_us s.p.address (telegram_at bytes s.applications j) ≡ false
  pub declined : (a : ℕ) (high : Bool) → decision_at bytes s.applications a high ≡ Decline

-- what an online station does with it
pub record Kept (s : Station) (x : Polled) : Type 0 where
  pub on : x.station.core.connectivity_state ≡ connectivity.Online
  pub there : There x.station.state
  pub unmet : x.station.counts.meetings ≡ s.counts.meetings
  pub not_asked : NotAsked x.answer.sent

counted_unmet : (ks : Counts) (e : Event) → Unmet e → (counted_of ks e).meetings ≡ ks.meetings
unfolding counted_of
counted_unmet ks event.Nothing u = refl
counted_unmet ks event.Claim u = refl
counted_unmet ks event.Removal u = refl
counted_unmet ks (event.Meetings met) u = absurd u

polled_kept : (s : Station) (x : RingStep) → Steady connectivity.Online x.step → Kept s (polled_of s.p s.applications s.counts x)
unfolding polled_of step_answer
polled_kept s x u = record { on = u.same; there = u.there; unmet = counted_unmet s.counts x.step.event u.unmet; not_asked = u.not_asked }

pub poll_kept : (s : Station) (bytes : List ℕ) → s.core.connectivity_state ≡ connectivity.Online → Plain s bytes → Kept s (poll_of s bytes)
unfolding poll_of accepted_poll accepted_after
poll_kept s bytes on g =
    let head = head_of bytes in
    let now : Micros = record { 0 = head.clock } in
    let inner = inner_online s.p s.state s.core s.token_ring now head.transmitting head.pending bytes s.applications head.telegrams on in
    rw (eq-eqb (record_refusal bytes s.applications) 0 g.accepted)
    (polled_kept s _
    (subst (λ (x : RingStep). Steady connectivity.Online x.step) (sym inner)
    (connected_steady s.p now connectivity.Online bytes s.applications g.declined s.state s.core s.token_ring head.transmitting head.pending head.telegrams g.others on)))

-- The stations of a bus are sound, with one application.

one_accepted : applications_refusal 1 ≡ 0
unfolding applications_refusal refuse_outside
one_accepted = refl

poll_sound : (s : Station) (bytes : List ℕ) → SoundStation s → SoundStation (poll_of s bytes).station
unfolding run after
poll_sound s bytes w = sound (poll bytes ∷ []) s w

online_sound : (s : Station) → SoundStation s → SoundStation (online_of s).station
unfolding run after
online_sound s w = sound (online ∷ []) s w

poll_applications : (s : Station) (bytes : List ℕ) → (poll_of s bytes).station.applications ≡ s.applications
unfolding poll_of accepted_poll accepted_after polled_of refused_poll
poll_applications s bytes = cases (eqb (record_refusal bytes s.applications) 0) (λ e. rw e refl) (λ e. rw e refl)

online_one : (p : Parameters) → (online_of (fresh_station p 1)).station.applications ≡ 1
unfolding online_of connect_of polled_of fresh_station
online_one p = refl

online_on : (s : Station) → (online_of s).station.core.connectivity_state ≡ connectivity.Online
unfolding online_of connect_of polled_of done_of with_connectivity
online_on s = refl

online_unmet : (p : Parameters) → (online_of (fresh_station p 1)).station.counts.meetings ≡ 0
unfolding online_of connect_of polled_of done_of counted_of fresh_station
online_unmet p = refl

one_application : (setup : List ℕ) (place k : ℕ) → ((bus_at setup k).seats place).station.applications ≡ 1
one_application setup place zero = ap (λ (s : Station). s.applications) (start_online setup place) ∙ online_one (settings_for setup place)
one_application setup place (suc k) =
    sym (ap (λ (s : Station). s.applications) (next_station setup place k))
    ∙ poll_applications ((bus_at setup k).seats place).station (record_at setup k place)
    ∙ one_application setup place k

-- Lists of telegrams.

every_at : (P : Telegram → Type 0) (l : List Telegram) → Every P l → (j : ℕ) → j < length l → P (telegram_in l j)
every_at P [] a j h = absurd (omega arith)
every_at P (x ∷ l) a zero h = a.0
every_at P (x ∷ l) a (suc j) h = every_at P l a.1 j (omega arith)

sent_fits : (x : Sent) (source : ℕ) → SentFits x → source ≤ 125 → TelegramFits (sent_telegram x source)
unfolding sent_telegram
sent_fits sent.Nothing source f h = tt
sent_fits (sent.Token destination) source f h = (f, omega arith)
sent_fits (sent.StatusRequest destination) source f h = (f, omega arith)
sent_fits (sent.StatusResponse destination state) source f h = (f, omega arith, omega arith)
sent_fits (sent.Application destination application high bytes) source f h = (f.0, omega arith)

-- past the last application it declines
past_declines : (bytes : List ℕ) (a : ℕ) (high : Bool) → 1 ≤ a → decision_at bytes 1 a high ≡ Decline
unfolding decision_at
past_declines bytes a high h = rw (le-ltb a 1 h)

module _ (setup : List ℕ) (are : Bytes setup) (ok : setup_refusal setup ≡ 0) where
  fresh_sound : (place : ℕ) → place < stations_of setup → SoundStation (fresh_at setup place)
  fresh_sound place here = let low = address_low setup are ok place here in new_sound (settings_for setup place) 1 (omega arith) one_accepted

  sound_at : (place k : ℕ) → place < stations_of setup → SoundStation ((bus_at setup k).seats place).station
  sound_at place zero here = subst SoundStation (sym (start_online setup place)) (online_sound (fresh_at setup place) (fresh_sound place here))
  sound_at place (suc k) here = subst SoundStation (next_station setup place k) (poll_sound ((bus_at setup k).seats place).station (record_at setup k place) (sound_at place k here))

  -- what is sent fits a telegram's fields
  each_fits : (k i : ℕ) → i < stations_of setup → TelegramFits (transmission_for (tick_of setup) (bus_at setup k) (k * tick_of setup) i).telegram
  unfolding transmission_for
  each_fits k i h =
      let fits = (every_answer_fits ((bus_at setup k).seats i).station (poll (record_at setup k i)) (sound_at i k h)).sent in
      let low = address_low setup are ok i h in
      let own : ((bus_at setup k).seats i).station.p.address ≡ address_at setup i = ap (λ (p : Parameters). p.address) (settings_stay setup i k) in
      sent_fits (answer_at setup k i).sent ((bus_at setup k).seats i).station.p.address (subst (λ (x : Answer). SentFits x.sent) (next_answer setup i k) fits) (omega arith)

  listed_fits : (place k : ℕ) → Every TelegramFits (given (tick_of setup) (bus_at setup k) (k * tick_of setup) place)
  listed_fits place k =
      every_map (Delivered setup k place) TelegramFits
      (λ x d. subst TelegramFits d.says (every_sent setup (λ t. TelegramFits t.telegram) each_fits k d.transmission d.among))
      (given (tick_of setup) (bus_at setup k) (k * tick_of setup) place)
      (listed_delivered setup place k)

  clock_small : (k : ℕ) → k ≤ ticks_of setup → k * tick_of setup < 2 ^ 48
  clock_small k h =
      let s = sized setup ok in
      let few = s.bounded in
      let short = s.short in
      let early : k ≤ 1000000 = omega arith in
      let small : k * tick_of setup ≤ 1000000 * 1000000 = mul-le-mul early short in
      omega arith

  record_says :
      (place k : ℕ)
      → k ≤ ticks_of setup
      → Says (record_at setup k place) (head_at (k * tick_of setup) (transmitting_at (bus_at setup k).sent (k * tick_of setup) place) (length (given (tick_of setup) (bus_at setup k) (k * tick_of setup) place))) 1 declines (telegram_in (given (tick_of setup) (bus_at setup k) (k * tick_of setup) place))
  unfolding record_for record_of
  record_says place k h =
      round_trip.says (head_at (k * tick_of setup) (transmitting_at (bus_at setup k).sent (k * tick_of setup) place) (length (given (tick_of setup) (bus_at setup k) (k * tick_of setup) place))) 1 declines (telegram_in (given (tick_of setup) (bus_at setup k) (k * tick_of setup) place))
      (record {
        head = (clock_small k h, newest_few (((bus_at setup k).seats place).waiting ++ heard_at (bus_at setup k).sent (tick_of setup) (k * tick_of setup) place), omega arith);
        decided = λ a high l. tt;
        heard = λ j l. every_at TelegramFits (given (tick_of setup) (bus_at setup k) (k * tick_of setup) place) (listed_fits place k) j l;
      })

  record_plain : (place k : ℕ) → place < stations_of setup → k ≤ ticks_of setup → Plain ((bus_at setup k).seats place).station (record_at setup k place)
  record_plain place k here h =
      let says = record_says place k h in
      let own : ((bus_at setup k).seats place).station.p.address ≡ address_at setup place = ap (λ (p : Parameters). p.address) (settings_stay setup place k) in
      let count : (head_of (record_at setup k place)).telegrams ≡ length (given (tick_of setup) (bus_at setup k) (k * tick_of setup) place) = ap (λ (x : Head). x.telegrams) says.head in
      record {
        accepted = rw (one_application setup place k) says.accepted;
        others = λ j l. rw (one_application setup place k, own, says.heard j (omega arith)) (every_at (λ x. sent_by_us (address_at setup place) x ≡ false) (given (tick_of setup) (bus_at setup k) (k * tick_of setup) place) (never_own setup are ok place k here) j (omega arith));
        declined = λ a high. rw (one_application setup place k) (declined_at place k h a high);
      }
    where
      declined_at : (place k : ℕ) → k ≤ ticks_of setup → (a : ℕ) (high : Bool) → decision_at (record_at setup k place) 1 a high ≡ Decline
      declined_at place k h zero high = (record_says place k h).decided 0 high (omega arith)
      declined_at place k h (suc a) high = past_declines (record_at setup k place) (suc a) high (omega arith)

  -- before tick k the station at a place is online and has met nobody of its own address
  pub record Online (place k : ℕ) : Type 0 where
    pub on : ((bus_at setup k).seats place).station.core.connectivity_state ≡ connectivity.Online
    pub unmet : ((bus_at setup k).seats place).station.counts.meetings ≡ 0

  kept_at : (place k : ℕ) → place < stations_of setup → k ≤ ticks_of setup → Online place k → Kept ((bus_at setup k).seats place).station (poll_of ((bus_at setup k).seats place).station (record_at setup k place))
  kept_at place k here h o = poll_kept ((bus_at setup k).seats place).station (record_at setup k place) o.on (record_plain place k here h)

  -- the theorem: no simulated station goes offline, and none meets its own address
  pub every_online : (place k : ℕ) → place < stations_of setup → k ≤ ticks_of setup → Online place k
  every_online place zero here h =
      record {
        on = ap (λ (s : Station). s.core.connectivity_state) (start_online setup place) ∙ online_on (fresh_at setup place);
        unmet = ap (λ (s : Station). s.counts.meetings) (start_online setup place) ∙ online_unmet (settings_for setup place);
      }
  every_online place (suc k) here h =
      let o = every_online place k here (omega arith) in
      let kept = kept_at place k here (omega arith) o in
      record {
        on = sym (ap (λ (s : Station). s.core.connectivity_state) (next_station setup place k)) ∙ kept.on;
        unmet = sym (ap (λ (s : Station). s.counts.meetings) (next_station setup place k)) ∙ kept.unmet ∙ o.unmet;
      }

  -- after each tick its state is another than Offline
  pub every_there : (place k : ℕ) → place < stations_of setup → k < ticks_of setup → There ((bus_at setup (suc k)).seats place).station.state
  every_there place k here h =
      subst (λ (s : Station). There s.state) (next_station setup place k) (kept_at place k here (omega arith) (every_online place k here (omega arith))).there

  -- and no application's telegram is sent
  pub none_asked : (place k : ℕ) → place < stations_of setup → k < ticks_of setup → NotAsked (answer_at setup k place).sent
  none_asked place k here h =
      subst (λ (x : Answer). NotAsked x.sent) (next_answer setup place k) (kept_at place k here (omega arith) (every_online place k here (omega arith))).not_asked
