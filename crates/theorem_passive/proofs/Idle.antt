-- PassiveIdle: one telegram, all of a poll's telegrams, the response, the poll.
use Rattle.std.specs.Prelude.{ℕ, zero, suc, Bool, true, ◌≡◌, refl, List, ltb, eqb, Option, Some, None}
use Rattle.std.proofs.Common.{◌∙◌}
use Rattle.bit_times.specs.declared.micros.Micros.{Micros}
use Rattle.settings.specs.declared.parameters.Parameters.{Parameters}
use Rattle.ring.specs.Ring.{Ring}
use Rattle.ring.proofs.Laws.{witness_own}
use Rattle.codec_telegrams.specs.declared.Telegram.{Telegram}
use Rattle.codec_telegrams.specs.declared.Telegram.TheVariants as telegram
use Rattle.codec_answers.specs.declared.Outcome.{Outcome}
use Rattle.codec_answers.specs.declared.Outcome.TheVariants as outcome
use Rattle.station.specs.declared.state.State.{State}
use Rattle.station.specs.declared.state.State.TheVariants.{PassiveIdle}
use Rattle.station.specs.declared.parts.Core.{Core}
use Rattle.station.specs.declared.done.Event.TheVariants as event
use Rattle.station.specs.Whole.{Heard}
use Rattle.station.specs.Parts.{with_activity, with_pending}
use Rattle.station.specs.Steps.{ongoing_of, waited_of, pause_of, rx_of, bus_activity_of, done_of, transmit_of, heard_of}
use Rattle.station_hear_listen.specs.HearListen.{sent_by_us, noted_of, witnessed_of, passive_heard, listen_telegram}
use Rattle.station_listen.specs.Listen.{respond_of, heard_telegram, heard_all, met_too, met_in, received_all, meetings_of, consumed_all}
use Rattle.station_passive.specs.Passive.{passive_idle_of}
use Rattle.station_poll.specs.Poll.{dispatch_of, poll_online}
use Rattle.theorem_sound.specs.Keeps.{either}
use Rattle.theorem_sound.specs.Listen.{Passive}
use Rattle.theorem_passive.specs.Statement.{sends_nothing, answers, CoreStays}
use Rattle.theorem_passive.specs.Idle.{StepIdle}

-- what stays, stays
pub core_same : (c : Core) → CoreStays c c
core_same c = record { token_time = refl; hold_end = refl; gap = refl; application = refl; connected = refl }

pub core_then : (c d e : Core) → CoreStays c d → CoreStays d e → CoreStays c e
core_then c d e a b =
    record {
      token_time = b.token_time ∙ a.token_time;
      hold_end = b.hold_end ∙ a.hold_end;
      gap = b.gap ∙ a.gap;
      application = b.application ∙ a.application;
      connected = b.connected ∙ a.connected;
    }

-- what telegrams come to in PassiveIdle, from this core and ring
record HeardIdle (c : Core) (r : Ring) (h : Heard) : Type 0 where
  pub idle : Passive h.state
  pub parts : CoreStays c h.core
  pub same_own : h.ring.own ≡ r.own
  pub none_met : h.met ≡ 0

-- the activity and the pending bytes are not among what stays
rx_stays : (c : Core) (now : Micros) → CoreStays c (rx_of c now)
unfolding rx_of with_activity with_pending
rx_stays c now = record { token_time = refl; hold_end = refl; gap = refl; application = refl; connected = refl }

bus_stays : (c : Core) (now : Micros) (pending : ℕ) → CoreStays c (bus_activity_of c now pending)
unfolding bus_activity_of with_activity with_pending
bus_stays c now pending =
    either (CoreStays c) (ltb c.pending_bytes pending) _ _ (record { token_time = refl; hold_end = refl; gap = refl; application = refl; connected = refl }) (core_same c)

-- a telegram that leaves the ring alone, and one that is witnessed
quiet : (q : Option ℕ) (c : Core) (r : Ring) (o : Outcome) → HeardIdle c r (heard_of (PassiveIdle q) c r o)
unfolding heard_of
quiet q c r o = record { idle = (q, refl); parts = core_same c; same_own = refl; none_met = refl }

-- witnessing leaves own
witnessed_own : (r : Ring) (t : Telegram) → (witnessed_of r t).own ≡ r.own
unfolding witnessed_of
witnessed_own r (telegram.Token destination source) = witness_own r source destination
witnessed_own r telegram.ShortConfirmation = refl
witnessed_own r (telegram.Request destination source asks) = refl
witnessed_own r (telegram.Response destination source state status) = refl

-- one telegram
telegram_idle : (p : Parameters) (q : Option ℕ) (c : Core) (r : Ring) (t : Telegram) (last : Bool) → HeardIdle c r (passive_heard p c r q t last)
unfolding passive_heard heard_of
telegram_idle p q c r t last =
    either (HeardIdle c r) (sent_by_us p.address t) _ _ (quiet q c r _)
    (record { idle = (noted_of p.address q t last, refl); parts = core_same c; same_own = witnessed_own r t; none_met = refl })

heard_idle : (p : Parameters) (x : State) (c : Core) (r : Ring) (t : Telegram) (last : Bool) → Passive x → HeardIdle c r (listen_telegram p x c r t last)
unfolding listen_telegram
heard_idle p x c r t last w = rw w.1 (telegram_idle p w.0 c r t last)

-- no collisions and no collisions are none
none_together : (before here : ℕ) → before ≡ 0 → here ≡ 0 → met_too before here ≡ 0
unfolding met_too
none_together before here b h = rw (b, h) refl

none_counted : (met : ℕ) → met ≡ 0 → meetings_of met ≡ event.Nothing
unfolding meetings_of
none_counted met e = rw e refl

-- all telegrams of a poll
all_idle : (p : Parameters) (q : Option ℕ) (c : Core) (r : Ring) (now : Micros) (bytes : List ℕ) (n count i : ℕ) → HeardIdle c r (heard_all p (heard_of (PassiveIdle q) c r outcome.Bus) now true bytes n count i)
unfolding heard_all heard_telegram
all_idle p q c r now bytes n count zero = quiet q c r _
all_idle p q c r now bytes n count (suc i) =
    let h = heard_all p (heard_of (PassiveIdle q) c r outcome.Bus) now true bytes n count i in
    let before = all_idle p q c r now bytes n count i in
    let here = heard_idle p h.state (rx_of h.core now) h.ring _ (eqb (suc i) count) before.idle in
    record {
      idle = here.idle;
      parts = core_then _ _ _ before.parts (core_then _ _ _ (rx_stays h.core now) here.parts);
      same_own = here.same_own ∙ before.same_own;
      none_met = here.none_met;
    }

met_idle : (p : Parameters) (q : Option ℕ) (c : Core) (r : Ring) (now : Micros) (bytes : List ℕ) (n count i : ℕ) → met_in p (heard_of (PassiveIdle q) c r outcome.Bus) now true bytes n count i ≡ 0
unfolding met_in
met_idle p q c r now bytes n count zero = refl
met_idle p q c r now bytes n count (suc i) =
    none_together _ _ (met_idle p q c r now bytes n count i) (all_idle p q c r now bytes n count (suc i)).none_met

-- do_passive_idle
step_idle : (p : Parameters) (c : Core) (r : Ring) (now : Micros) (q : Option ℕ) (bytes : List ℕ) (n count : ℕ) → StepIdle c r (passive_idle_of p c r now q bytes n count)
unfolding passive_idle_of consumed_all received_all respond_of pause_of waited_of with_activity transmit_of done_of
step_idle p c r now None bytes n count =
    let h = all_idle p None c r now bytes n count count in
    record { idle = h.idle; parts = h.parts; same_own = h.same_own; sends = sends_nothing; tells = refl; uncounted = none_counted _ (met_idle p None c r now bytes n count count) }
step_idle p c r now (Some source) bytes n count =
    either (StepIdle c r) (pause_of p c now).over _ _
    (record { idle = (None, refl); parts = record { token_time = refl; hold_end = refl; gap = refl; application = refl; connected = refl }; same_own = refl; sends = answers source; tells = refl; uncounted = refl })
    (record { idle = (Some source, refl); parts = record { token_time = refl; hold_end = refl; gap = refl; application = refl; connected = refl }; same_own = refl; sends = sends_nothing; tells = refl; uncounted = refl })

-- poll_inner, in PassiveIdle
pub poll_idle : (p : Parameters) (q : Option ℕ) (c : Core) (r : Ring) (now : Micros) (t : Bool) (pending : ℕ) (bytes : List ℕ) (n count : ℕ) → StepIdle c r (poll_online p (PassiveIdle q) c r now t pending bytes n count)
unfolding poll_online dispatch_of done_of with_activity
poll_idle p q c r now t pending bytes n count =
    either (StepIdle c r) (ongoing_of c.last_bus_activity now t) _ _
    (record { idle = (q, refl); parts = record { token_time = refl; hold_end = refl; gap = refl; application = refl; connected = refl }; same_own = refl; sends = sends_nothing; tells = refl; uncounted = refl })
    (let d = bus_activity_of c now pending in
    let s = step_idle p d r now q bytes n count in
    record { idle = s.idle; parts = core_then _ _ _ (bus_stays c now pending) s.parts; same_own = s.same_own; sends = s.sends; tells = s.tells; uncounted = s.uncounted })
