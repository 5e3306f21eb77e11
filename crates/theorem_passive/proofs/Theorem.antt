-- The two theorems: a poll of a passive station, then any number of them.
use Rattle.std.specs.Prelude.{ℕ, Bool, cond, ◌≡◌, refl, List, [], ◌∷◌, eqb}
use Rattle.std.proofs.Common.{sym, ap, subst, ◌∙◌, arith}
use Rattle.bit_times.specs.declared.micros.Micros.{Micros}
use Rattle.settings.specs.declared.parameters.Parameters.{Parameters}
use Rattle.ring.specs.Ring.{Ring}
use Rattle.codec_records.specs.Records.{record_refusal}
use Rattle.codec_answers.specs.declared.Outcome.TheVariants as outcome
use Rattle.codec_answers.specs.Answers.{refused_answer}
use Rattle.station.specs.declared.state.ConnectivityState.{ConnectivityState}
use Rattle.station.specs.declared.state.ConnectivityState.TheVariants as connectivity
use Rattle.station.specs.declared.state.State.{State}
use Rattle.station.specs.declared.state.State.TheVariants.{Offline, ListenToken, ActiveIdle, UseToken, ClaimToken, AwaitDataResponse, PassToken, CheckTokenPass, AwaitStatusResponse, PassiveIdle}
use Rattle.station.specs.declared.parts.Core.{Core}
use Rattle.station.specs.declared.parts.Counts.{Counts}
use Rattle.station.specs.declared.done.Event.{Event}
use Rattle.station.specs.declared.done.Event.TheVariants as event
use Rattle.station.specs.declared.station.Station.{Station}
use Rattle.station.specs.Whole.{RingStep}
use Rattle.station.specs.Parts.{is_offline, state_number}
use Rattle.station.specs.Steps.{done_of, ring_step_of}
use Rattle.station_answer.specs.Counted.{counted_of}
use Rattle.station_answer.specs.Answer.{Polled, step_answer, polled_of, refused_poll}
use Rattle.station_poll.specs.Poll.{passivated_of, entered_of, poll_online, poll_inner, accepted_after, accepted_poll, poll_of}
use Rattle.theorem_sound.specs.Keeps.{either}
use Rattle.theorem_sound.specs.Listen.{Passive}
use Rattle.theorem_passive.specs.Statement.{IsPassive, In, polled, sends_nothing, StationStays, NeverTakesTheToken, NeverClaims}
use Rattle.theorem_passive.specs.Idle.{StepIdle}
use Rattle.theorem_passive.proofs.Idle.{core_same, core_then, poll_idle}
use Rattle.theorem_passive.specs.Unclaimed.{NoClaim, Unclaimed}
use Rattle.theorem_passive.proofs.Unclaimed.{passive_un}
use Rattle.theorem_passive.specs.Theorem.{PollIdle}

-- PassiveIdle is the state with number 9
passive_is : (x : State) → state_number x ≡ 9 → Passive x
passive_is Offline e = absurd (omega arith)
passive_is (ListenToken q k) e = absurd (omega arith)
passive_is (ActiveIdle q m k) e = absurd (omega arith)
passive_is (UseToken k d) e = absurd (omega arith)
passive_is (ClaimToken f) e = absurd (omega arith)
passive_is (AwaitDataResponse a d) e = absurd (omega arith)
passive_is (PassToken g a) e = absurd (omega arith)
passive_is (CheckTokenPass a) e = absurd (omega arith)
passive_is (AwaitStatusResponse a) e = absurd (omega arith)
passive_is (PassiveIdle q) e = (q, refl)

is_nine : (x : State) → Passive x → state_number x ≡ 9
is_nine x w = ap state_number w.1

-- poll_inner of a passive station
inner_is : (p : Parameters) (x : State) (c : Core) (r : Ring) (now : Micros) (t : Bool) (pending : ℕ) (bytes : List ℕ) (n count : ℕ) → c.connectivity_state ≡ connectivity.Passive → poll_inner p x c r now t pending bytes n count ≡ poll_online p (passivated_of x) c r now t pending bytes n count
unfolding poll_inner is_offline entered_of
inner_is p x c r now t pending bytes n count e =
    ap (λ (v : ConnectivityState). cond (is_offline v) (ring_step_of (done_of x c outcome.Offline) r) (poll_online p (entered_of v x) c r now t pending bytes n count)) e

inner_passive : (P : RingStep → Type 0) (p : Parameters) (x : State) (c : Core) (r : Ring) (now : Micros) (t : Bool) (pending : ℕ) (bytes : List ℕ) (n count : ℕ) → c.connectivity_state ≡ connectivity.Passive → P (poll_online p (passivated_of x) c r now t pending bytes n count) → P (poll_inner p x c r now t pending bytes n count)
inner_passive P p x c r now t pending bytes n count e h = subst P (sym (inner_is p x c r now t pending bytes n count e)) h

pub same_stays : (s : Station) → StationStays s s
same_stays s = record { core_stays = core_same s.core; own = refl; settings = refl; counted = refl; applications = refl }

pub stays_then : (a b c : Station) → StationStays a b → StationStays b c → StationStays a c
stays_then a b c f g =
    record {
      core_stays = core_then _ _ _ f.core_stays g.core_stays;
      own = g.own ∙ f.own;
      settings = g.settings ∙ f.settings;
      counted = g.counted ∙ f.counted;
      applications = g.applications ∙ f.applications;
    }

step_polled : (s : Station) (x : RingStep) → StepIdle s.core s.token_ring x → PollIdle s (polled_of s.p s.applications s.counts x)
unfolding polled_of step_answer counted_of
step_polled s x w =
    let e = is_nine x.step.state w.idle in
    record {
      nine = e;
      stays = record { core_stays = w.parts; own = w.same_own; settings = refl; counted = ap (counted_of s.counts) w.uncounted; applications = refl };
      answered = record { state_is = e; sends = w.sends; tells = w.tells };
    }

inner_idle : (p : Parameters) (x : State) (c : Core) (r : Ring) (now : Micros) (t : Bool) (pending : ℕ) (bytes : List ℕ) (n count : ℕ) → c.connectivity_state ≡ connectivity.Passive → Passive x → StepIdle c r (poll_inner p x c r now t pending bytes n count)
unfolding passivated_of
inner_idle p x c r now t pending bytes n count e w =
    inner_passive (StepIdle c r) p x c r now t pending bytes n count e (rw w.1 (poll_idle p w.0 c r now t pending bytes n count))

accepted_idle : (s : Station) (bytes : List ℕ) → IsPassive s → In 9 s → PollIdle s (accepted_poll s bytes)
unfolding accepted_poll accepted_after
accepted_idle s bytes e i = step_polled s _ (inner_idle s.p s.state s.core s.token_ring _ _ _ bytes s.applications _ e (passive_is s.state i))

refused_idle : (s : Station) (k : ℕ) → In 9 s → PollIdle s (refused_poll s k)
unfolding refused_poll refused_answer
refused_idle s k i = record { nine = i; stays = same_stays s; answered = record { state_is = i; sends = sends_nothing; tells = refl } }

pub one_idle : (s : Station) (bytes : List ℕ) → IsPassive s → In 9 s → PollIdle s (poll_of s bytes)
unfolding poll_of
one_idle s bytes e i = either (PollIdle s) (eqb (record_refusal bytes s.applications) 0) _ _ (accepted_idle s bytes e i) (refused_idle s _ i)

-- any number of polls
record RunIdle (s t : Station) : Type 0 where
  pub in_nine : In 9 t
  pub run_stays : StationStays s t

run_idle : (records : List (List ℕ)) (s : Station) → IsPassive s → In 9 s → RunIdle s (polled s records)
unfolding polled
run_idle [] s e i = record { in_nine = i; run_stays = same_stays s }
run_idle (bytes ∷ later) s e i =
    let one = one_idle s bytes e i in
    let more = run_idle later (poll_of s bytes).station (one.stays.core_stays.connected ∙ e) one.nine in
    record { in_nine = more.in_nine; run_stays = stays_then _ _ _ one.stays more.run_stays }

-- 1. It never takes the token.
pub never_takes : NeverTakesTheToken
never_takes s earlier next e i =
    let r = run_idle earlier s e i in
    record {
      in_passive_idle = r.in_nine;
      stays = r.run_stays;
      answered = (one_idle (polled s earlier) next (r.run_stays.core_stays.connected ∙ e) r.in_nine).answered;
    }

-- what a poll comes to in any state
record PollUnclaimed (s : Station) (x : Polled) : Type 0 where
  pub still : IsPassive x.station
  pub no_more : x.station.counts.claims ≡ s.counts.claims
  pub only : In 4 x.station → In 4 s

no_claim : (k : Counts) (e : Event) → NoClaim e → (counted_of k e).claims ≡ k.claims
unfolding counted_of
no_claim k event.Nothing o = refl
no_claim k event.Claim o = absurd o
no_claim k event.Removal o = refl
no_claim k (event.Meetings met) o = refl

step_unclaimed : (s : Station) (x : RingStep) → Unclaimed connectivity.Passive (In 4 s) x.step → PollUnclaimed s (polled_of s.p s.applications s.counts x)
unfolding polled_of
step_unclaimed s x w = record { still = w.same; no_more = no_claim s.counts x.step.event w.no_entry; only = w.claims }

accepted_unclaimed : (s : Station) (bytes : List ℕ) → IsPassive s → PollUnclaimed s (accepted_poll s bytes)
unfolding accepted_poll accepted_after
accepted_unclaimed s bytes e =
    step_unclaimed s _
    (inner_passive (λ (x : RingStep). Unclaimed connectivity.Passive (In 4 s) x.step) s.p s.state s.core s.token_ring _ _ _ bytes s.applications _ e
    (passive_un s.p _ connectivity.Passive (In 4 s) s.state s.core s.token_ring _ _ bytes s.applications _ e (λ z. z)))

refused_unclaimed : (s : Station) (k : ℕ) → IsPassive s → PollUnclaimed s (refused_poll s k)
unfolding refused_poll
refused_unclaimed s k e = record { still = e; no_more = refl; only = λ z. z }

one_unclaimed : (s : Station) (bytes : List ℕ) → IsPassive s → PollUnclaimed s (poll_of s bytes)
unfolding poll_of
one_unclaimed s bytes e =
    either (PollUnclaimed s) (eqb (record_refusal bytes s.applications) 0) _ _ (accepted_unclaimed s bytes e) (refused_unclaimed s _ e)

-- polls leave it passive
pub still_passive : (records : List (List ℕ)) (s : Station) → IsPassive s → IsPassive (polled s records)
unfolding polled
still_passive [] s e = e
still_passive (bytes ∷ later) s e = still_passive later (poll_of s bytes).station (one_unclaimed s bytes e).still

no_entries : (records : List (List ℕ)) (s : Station) → IsPassive s → (polled s records).counts.claims ≡ s.counts.claims
unfolding polled
no_entries [] s e = refl
no_entries (bytes ∷ later) s e =
    let one = one_unclaimed s bytes e in
    no_entries later (poll_of s bytes).station one.still ∙ one.no_more

-- 2. It never enters ClaimToken.
pub never_claims : NeverClaims
never_claims s earlier next e =
    record { found_there = (one_unclaimed (polled s earlier) next (still_passive earlier s e)).only; entries = no_entries earlier s e }
