-- The proof of AnyStart and of Asked: where the station is, what a run from there comes to.
use Rattle.std.specs.Prelude.{ℕ, suc, ◌+◌, ◌-◌, ◌*◌, ◌≤◌, Bool, true, false, cond, ◌≡◌, refl, List, [], ◌∷◌, ◌++◌, length, drop, eqb, Option, None}
use Rattle.std.proofs.Common.{sym, ap, subst, ◌∙◌, length-append, length-drop, arith, zero-add}
use borrow.Table.Steps.{cases}
use Rattle.settings.specs.declared.parameters.Parameters.{Parameters}
use Rattle.settings.specs.Settings.{token_lost_of}
use Rattle.ring_addresses.specs.SetLaws.{true≢false}
use Rattle.ring.specs.declared.GapState.{GapState}
use Rattle.ring.specs.declared.GapState.TheVariants.{Waiting, DoPoll}
use Rattle.ring.specs.Ring.{Ring, others}
use Rattle.codec_records.specs.Records.{head_of}
use Rattle.codec_answers.specs.declared.Sent.{Sent}
use Rattle.codec_answers.specs.declared.Sent.TheVariants.{Token, StatusResponse}
use Rattle.station.specs.declared.state.PassTokenAttempt.{PassTokenAttempt}
use Rattle.station.specs.declared.state.State.{State}
use Rattle.station.specs.declared.state.State.TheVariants.{Offline, ListenToken, ActiveIdle, UseToken, ClaimToken, AwaitDataResponse, PassToken, CheckTokenPass, AwaitStatusResponse, PassiveIdle}
use Rattle.station.specs.declared.parts.Core.{Core}
use Rattle.station.specs.declared.parts.Counts.{Counts}
use Rattle.station.specs.declared.station.Station.{Station}
use Rattle.station.specs.Whole.{RingStep}
use Rattle.station.specs.Parts.{state_number}
use Rattle.station_pass.specs.Pass.{gap_advanced}
use Rattle.station_answer.specs.Counted.{counted_of}
use Rattle.station_answer.specs.Answer.{polled_of}
use Rattle.station_poll.specs.Poll.{connected_of, poll_of}
use Rattle.theorem_silence.specs.Silence.{gap_due, AllQuiet, holds_token, until, told, sent_until, counted, counted_in, thrice}
use Rattle.theorem_silence.specs.Times.{Slotted, slotted}
use Rattle.theorem_silence.specs.Phases.{Phase, asking, awaiting, starting, checking, claiming, holding, tried_before, tokens_from, claim_tokens, todo, in_ring}
use Rattle.theorem_silence.proofs.Phases.{tokens_length}
use Rattle.theorem_silence.specs.OnePoll.{Ready, At, quiet_step}
use Rattle.theorem_silence.proofs.OnePoll.{no_gap}
use Rattle.theorem_silence.specs.Theorem.{station_of, clock_of}
use Rattle.theorem_silence.proofs.Theorem.{poll_quiet, until_on, sent_on, one_less, run_from_lem}
use Rattle.theorem_silence.specs.Asking.{Found}
use Rattle.theorem_silence.proofs.Asking.{found_later, uncounted, found}
use Rattle.theorem_any_start.specs.AnyStart.{AnyStart, lost_after, lost_counted, lost_counted_in, Plan, claim_plan, plan_on, plan_of, in_plan, Before, asked, answered, FromAnyStart, Theorem}
use Rattle.theorem_any_start.specs.Asked.{AskedAgain, LetterTheorem}
use Rattle.theorem_any_start.specs.Listening.{Hears, listening, idle, Listens, ListenTurn, claims, answers, waits}
use Rattle.theorem_any_start.proofs.Listening.{lost_slot, listen_turn}

-- Counted polls.

-- what is counted here is counted for Silence
lost_counts : (late counts : Bool) (i j : ℕ) → (late ≡ true → counts ≡ true) → i ≤ j → cond late 1 0 + i ≤ cond counts 1 0 + j
lost_counts false counts i j h l = cases counts (λ e. rw e (omega arith)) (λ e. rw e (omega arith))
lost_counts true counts i j h l = rw (h refl) (omega arith)

pub lost_fewer : (records : List (List ℕ)) (s : Station) → lost_counted_in s records ≤ counted_in s records
unfolding lost_counted_in counted_in lost_counted counted
lost_fewer [] s = omega arith
lost_fewer (bytes ∷ later) s =
    lost_counts (lost_counted s bytes) (counted s bytes) _ _ (lost_slot s.p s.core.last_bus_activity (head_of bytes).clock) (lost_fewer later (poll_of s bytes).station)

-- a poll of a run counts or not
lost_on : (p : Parameters) (n : ℕ) (ks : Counts) (s : State) (c : Core) (r : Ring) (bytes : List ℕ) (later : List (List ℕ)) (x : RingStep) → poll_of (station_of p n ks s c r) bytes ≡ polled_of p n ks x → lost_counted_in (station_of p n ks s c r) (bytes ∷ later) ≡ cond (lost_after c.last_bus_activity (head_of bytes).clock (token_lost_of p).0) 1 0 + lost_counted_in (station_of p n (counted_of ks x.step.event) x.step.state x.step.core x.ring) later
unfolding lost_counted_in lost_counted polled_of
lost_on p n ks s c r bytes later x is = rw is

-- The run of a station that waits for the lost token.

-- a station that waits does not hold the token
hears_number : (request : Option ℕ) (s : State) → Hears request s → eqb (state_number s) 3 ≡ false
unfolding connected_of
hears_number request Offline h = refl
hears_number request (ListenToken q i) h = refl
hears_number request (ActiveIdle q m i) h = refl
hears_number request (UseToken b d) (listening i e) = absurd (true≢false (ap (λ (x : State). eqb (state_number x) 3) e))
hears_number request (UseToken b d) (idle m i e) = absurd (true≢false (ap (λ (x : State). eqb (state_number x) 3) e))
hears_number request (ClaimToken f) h = refl
hears_number request (AwaitDataResponse a d) h = refl
hears_number request (PassToken b k) h = refl
hears_number request (CheckTokenPass k) h = refl
hears_number request (AwaitStatusResponse a) h = refl
hears_number request (PassiveIdle q) h = refl

-- What a run comes to, by what it sends, the station at its end and the counted polls.
record Ran (request : Option ℕ) (own : ℕ) (out : List Sent) (end : Station) (polls : ℕ) : Type 0 where
  pub first : List Sent
  pub first_is : Before (claim_plan request own) first
  pub rest : List Sent
  pub so_far : out ++ rest ≡ first ++ claim_tokens true own
  pub all_of : holds_token end ≡ true → rest ≡ []
  pub some_of : holds_token end ≡ false → rest ≡ [] → ⊥
  pub in_time : 2 ≤ polls → holds_token end ≡ true

abbrev RanOn : Option ℕ → Station → List (List ℕ) → Type 0
RanOn request s records = Ran request s.p.address (sent_until s records) (until s records) (lost_counted_in s records)

-- one telegram is no empty list
one_sent : {A : Type 0} (x : Sent) (l : List Sent) → x ∷ l ≡ [] → A
one_sent x l e = let z : ◌≡◌ {A = ℕ} 0 1 = cc in absurd (omega arith)

-- nothing was noted, so nothing is answered
no_answer : (own : ℕ) (first : List Sent) → Before (claim_plan None own) first → first ≡ []
no_answer own first (asked e) = e
no_answer own first (answered source state i e) = let z : ◌≡◌ {A = ℕ} 0 1 = cc in absurd (omega arith)

module _ (p : Parameters) (w : Slotted p) (n : ℕ) (request : Option ℕ) (os : List ℕ) (ks : Counts) (s : State) (c : Core) (r : Ring) (bytes : List ℕ) (later : List (List ℕ)) (g : Listens request os p s c r) (q : AllQuiet n (bytes ∷ later)) where
  -- the step, whether the poll is counted, the station after it
  abbrev the_step : RingStep
  the_step = quiet_step p (connected_of s) c r (clock_of bytes) bytes n

  abbrev is_counted : Bool
  is_counted = lost_after c.last_bus_activity (head_of bytes).clock (token_lost_of p).0

  abbrev after_it : Station
  after_it = station_of p n (counted_of ks the_step.step.event) the_step.step.state the_step.step.core the_step.ring

  polled : poll_of (station_of p n ks s c r) bytes ≡ polled_of p n ks the_step
  polled = poll_quiet p n ks s c r bytes q.0 g.0.on

  turned : ListenTurn p (clock_of bytes) request os is_counted the_step
  turned = listen_turn p w request os s c r (clock_of bytes) bytes n g.0 g.1

  outside : holds_token (station_of p n ks s c r) ≡ false
  unfolding holds_token
  outside = hears_number request s g.1

  -- one poll, and a run from wherever it leads
  module _ (then : (request : Option ℕ) (ms : Counts) (y : State) (d : Core) (t : Ring) → Listens request os p y d t → RanOn request (station_of p n ms y d t) later) where
    by_turn : ListenTurn p (clock_of bytes) request os is_counted the_step → Ran request p.address (told the_step.step.sent ++ sent_until after_it later) (until after_it later) (cond is_counted 1 0 + lost_counted_in after_it later)
    by_turn (claims x) =
        let ran = run_from_lem (claiming false os) after_it later w q.1 x.place in
        record {
          first = [];
          first_is = asked refl;
          rest = ran.rest;
          so_far = rw x.telegram (ap (λ (l : List Sent). Token p.address ∷ l) ran.sends_of);
          all_of = ran.all_of;
          some_of = ran.some_of;
          in_time = λ l. ran.bound_of (omega (arith, one_less is_counted 1 (lost_counted_in after_it later) l, lost_fewer later after_it));
        }
    by_turn (answers f source state i t l) =
        let ran = then None (counted_of ks the_step.step.event) _ _ _ l in
        record {
          first = StatusResponse source state ∷ [];
          first_is = answered source state i refl;
          rest = ran.rest;
          so_far = rw t (ap (λ (l : List Sent). StatusResponse source state ∷ l) (ran.so_far ∙ ap (λ (l : List Sent). l ++ claim_tokens true p.address) (no_answer p.address _ ran.first_is)));
          all_of = ran.all_of;
          some_of = ran.some_of;
          in_time = λ l. ran.in_time (uncounted is_counted 2 (lost_counted_in after_it later) f l);
        }
    by_turn (waits f t l) = rw (t, f, zero-add (lost_counted_in after_it later)) (then request (counted_of ks the_step.step.event) _ _ _ l)

    ran_poll : RanOn request (station_of p n ks s c r) (bytes ∷ later)
    ran_poll =
        rw (sent_on p n ks s c r bytes later the_step outside polled, until_on p n ks s c r bytes later the_step outside polled, lost_on p n ks s c r bytes later the_step polled)
        (by_turn turned)

ran : (records : List (List ℕ)) (p : Parameters) → Slotted p → (n : ℕ) → AllQuiet n records → (request : Option ℕ) (os : List ℕ) (ks : Counts) (s : State) (c : Core) (r : Ring) → Listens request os p s c r → RanOn request (station_of p n ks s c r) records
unfolding sent_until until lost_counted_in holds_token
ran [] p w n q request os ks s c r g =
    record {
      first = [];
      first_is = asked refl;
      rest = claim_tokens true p.address;
      so_far = refl;
      all_of = λ e. absurd (true≢false (sym e ∙ hears_number request s g.1));
      some_of = λ e z. one_sent _ _ z;
      in_time = λ l. absurd (omega arith);
    }
ran (bytes ∷ later) p w n q request os ks s c r g = ran_poll p w n request os ks s c r bytes later g q (λ k ms y d t l. ran later p w n q.1 k os ms y d t l)

-- Its applications are asked: what comes before, and where.
record Finds (request : Option ℕ) (p : Parameters) (os : List ℕ) (s : Station) (records : List (List ℕ)) : Type 0 where
  pub first : List Sent
  pub first_is : Before (claim_plan request p.address) first
  pub finds : Found p (first ++ claim_tokens true p.address) os s records

module _ (p : Parameters) (w : Slotted p) (n : ℕ) (request : Option ℕ) (os : List ℕ) (ks : Counts) (s : State) (c : Core) (r : Ring) (bytes : List ℕ) (later : List (List ℕ)) (g : Listens request os p s c r) (q : AllQuiet n (bytes ∷ later)) (then : (request : Option ℕ) (ms : Counts) (y : State) (d : Core) (t : Ring) → Listens request os p y d t → 3 ≤ lost_counted_in (station_of p n ms y d t) later → Finds request p os (station_of p n ms y d t) later) (enough : 3 ≤ lost_counted_in (station_of p n ks s c r) (bytes ∷ later)) where
  abbrev the_turn : Type 0
  the_turn = ListenTurn p (clock_of bytes) request os (is_counted p w n request os ks s c r bytes later g q) (the_step p w n request os ks s c r bytes later g q)

  abbrev left : ℕ
  left = lost_counted_in (after_it p w n request os ks s c r bytes later g q) later

  -- of the counted polls
  of_these : 3 ≤ cond (is_counted p w n request os ks s c r bytes later g q) 1 0 + left
  of_these = rw (lost_on p n ks s c r bytes later (the_step p w n request os ks s c r bytes later g q) (polled p w n request os ks s c r bytes later g q)) at enough

  -- found behind this poll
  behind_it : (out : List Sent) → Found p out os (after_it p w n request os ks s c r bytes later g q) later → Found p (told (the_step p w n request os ks s c r bytes later g q).step.sent ++ out) os (station_of p n ks s c r) (bytes ∷ later)
  behind_it out f = found_later p n ks s c r bytes later _ out os (polled p w n request os ks s c r bytes later g q) f

  finds_on : the_turn → Finds request p os (station_of p n ks s c r) (bytes ∷ later)
  finds_on (claims x) =
      let few = one_less (is_counted p w n request os ks s c r bytes later g q) 2 left of_these in
      let f = found later p w n q.1 (claiming false os) (counted_of ks (the_step p w n request os ks s c r bytes later g q).step.event) _ _ _ x.place (omega (arith, few, lost_fewer later (after_it p w n request os ks s c r bytes later g q))) in
      record { first = []; first_is = asked refl; finds = rw x.telegram at (behind_it _ f) }
  finds_on (answers e source state i t l) =
      let f = then None (counted_of ks (the_step p w n request os ks s c r bytes later g q).step.event) _ _ _ l (uncounted (is_counted p w n request os ks s c r bytes later g q) 3 left e of_these) in
      record {
        first = StatusResponse source state ∷ [];
        first_is = answered source state i refl;
        finds = rw (t, no_answer p.address _ f.first_is) at (behind_it _ f.finds);
      }
  finds_on (waits e t l) =
      let f = then request (counted_of ks (the_step p w n request os ks s c r bytes later g q).step.event) _ _ _ l (uncounted (is_counted p w n request os ks s c r bytes later g q) 3 left e of_these) in
      record { first = f.first; first_is = f.first_is; finds = rw t at (behind_it _ f.finds) }

finds_from : (records : List (List ℕ)) (p : Parameters) → Slotted p → (n : ℕ) → AllQuiet n records → (request : Option ℕ) (os : List ℕ) (ks : Counts) (s : State) (c : Core) (r : Ring) → Listens request os p s c r → 3 ≤ lost_counted_in (station_of p n ks s c r) records → Finds request p os (station_of p n ks s c r) records
unfolding lost_counted_in
finds_from [] p w n q request os ks s c r g l = absurd (omega arith)
finds_from (bytes ∷ later) p w n q request os ks s c r g l =
    finds_on p w n request os ks s c r bytes later g q (λ k ms y d t m e. finds_from later p w n q.1 k os ms y d t m e) l (turned p w n request os ks s c r bytes later g q)

-- Where the station is: at a place of Silence's with as much to send as its state plans, or waiting for the lost token.
data Placed (gap : GapState) (p : Parameters) (s : State) (c : Core) (r : Ring) : Type 0 where
  on_way : (ph : Phase) → At ph p s c r → others r ≡ in_ring ph → todo p.address ph ≡ (plan_on s gap (others r) p.address).question ++ (plan_on s gap (others r) p.address).tokens_left → Placed gap p s c r
  hearing : (request : Option ℕ) → (4 ≤ state_number s → state_number s ≤ 8 → ⊥) → Hears request s → plan_on s gap (others r) p.address ≡ claim_plan request p.address → Placed gap p s c r

-- no question is due in a pass whose gap's turn has none
no_turn : (p : Parameters) (c : Core) (r : Ring) (count : ℕ) → gap_advanced p r c.gap_state ≡ Waiting count → gap_due p c r true ≡ false
unfolding gap_due
no_turn p c r count e = rw e

pass_placed : (look : Bool) (gap : GapState) (k : PassTokenAttempt) (p : Parameters) (c : Core) (r : Ring) → Ready p c r (others r) → gap_advanced p r c.gap_state ≡ gap → Placed gap p (PassToken look k) c r
pass_placed true (DoPoll a) k p c r w e = on_way (asking a (others r)) (w, record { attempt = k; passing = refl; question = e }) refl refl
pass_placed true (Waiting count) k p c r w e = on_way (starting k (others r)) (w, record { gap = true; passing = refl; no_question = no_turn p c r count e }) refl refl
pass_placed false gap k p c r w e = on_way (starting k (others r)) (w, record { gap = false; passing = refl; no_question = no_gap p c r }) refl refl

placed : (s : State) (p : Parameters) (c : Core) (r : Ring) → Ready p c r (others r) → (state_number s ≡ 3 → ⊥) → (state_number s ≡ 5 → ⊥) → Placed (gap_advanced p r c.gap_state) p s c r
unfolding connected_of
placed Offline p c r w a b = hearing None (λ u v. omega arith) (listening 0 refl) refl
placed (ListenToken q i) p c r w a b = hearing q (λ u v. omega arith) (listening i refl) refl
placed (ActiveIdle q m i) p c r w a b = hearing q (λ u v. omega arith) (idle m i refl) refl
placed (UseToken i d) p c r w a b = absurd (a refl)
placed (ClaimToken f) p c r w a b = on_way (claiming f (others r)) (w, refl) refl refl
placed (AwaitDataResponse x d) p c r w a b = absurd (b refl)
placed (PassToken look k) p c r w a b = pass_placed look _ k p c r w refl
placed (CheckTokenPass k) p c r w a b = on_way (checking k (others r)) (w, refl) refl refl
placed (AwaitStatusResponse x) p c r w a b = on_way (awaiting (others r)) (w, record { address = x; awaiting_it = refl }) refl refl
placed (PassiveIdle q) p c r w a b = hearing None (λ u v. omega arith) (listening 0 refl) refl

-- how much there is to send
thrice_length : (os : List ℕ) → length (thrice os) ≡ 3 * length os
thrice_length [] = refl
thrice_length (x ∷ more) = omega (arith, thrice_length more)

pub from_length : (tried : ℕ) (os : List ℕ) (own : ℕ) → length (tokens_from tried os own) ≡ 3 * length os - tried + 1
from_length tried os own = length-append (drop tried (thrice os)) (Token own ∷ []) ∙ ap (λ (m : ℕ). m + 1) (length-drop tried (thrice os) ∙ ap (λ (m : ℕ). m - tried) (thrice_length os))

claim_length : (first : Bool) (own : ℕ) → length (claim_tokens first own) ≤ 2
claim_length true own = omega arith
claim_length false own = omega arith

todo_most : (own : ℕ) (ph : Phase) → length (todo own ph) ≤ 3 * length (in_ring ph) + 2
todo_most own (asking a os) = omega (arith, tokens_length os own)
todo_most own (awaiting os) = omega (arith, tokens_length os own)
todo_most own (starting k os) = omega (arith, from_length (tried_before k) os own)
todo_most own (checking k os) = omega (arith, from_length (suc (tried_before k)) os own)
todo_most own (claiming f os) = omega (arith, claim_length f own)
todo_most own (holding os) = omega arith

-- both, with the parts of a station
module _ (s : Station) (records : List (List ℕ)) (h : AnyStart s) (q : AllQuiet s.applications records) where
  abbrev own : ℕ
  own = s.p.address

  abbrev k : ℕ
  k = length (others s.token_ring)

  abbrev IsPlaced : Type 0
  IsPlaced = Placed (gap_advanced s.p s.token_ring s.core.gap_state) s.p s.state s.core s.token_ring

  ready : Ready s.p s.core s.token_ring (others s.token_ring)
  ready = record { on = h.is_online; ring_good = h.ring_good; are = refl }

  is_placed : IsPlaced
  is_placed = placed s.state s.p s.core s.token_ring ready h.not_use_token h.not_await_data

  slots : Slotted s.p
  slots = slotted s.p h.settings

  runs : IsPlaced → FromAnyStart s records
  runs (on_way ph a i t) =
      let g = run_from_lem ph s records slots q a in
      let most = todo_most own ph in
      let same : length (in_ring ph) ≡ k = ap length (sym i) in
      let long : length (todo own ph) ≡ in_plan (plan_of s) = ap length t in
      record {
        bound = λ l. g.bound_of (omega (arith, lost_fewer records s));
        by_state = λ l. g.bound_of (omega (arith, lost_fewer records s));
        by_slot = λ a b l. g.bound_of (omega arith);
        first = (plan_of s).question;
        first_is = asked refl;
        rest = g.rest;
        sends = g.sends_of ∙ t;
        all_sent = g.all_of;
        some_left = g.some_of;
      }
  runs (hearing request low g e) =
      let f = ran records s.p slots s.applications q request (others s.token_ring) s.counts s.state s.core s.token_ring (ready, g) in
      let two : in_plan (plan_of s) ≡ 2 = ap in_plan e in
      record {
        bound = λ l. f.in_time (omega arith);
        by_state = λ l. f.in_time (omega arith);
        by_slot = λ a b l. absurd (low a b);
        first = f.first;
        first_is = subst (λ (x : Plan). Before x f.first) (sym e) f.first_is;
        rest = f.rest;
        sends = f.so_far ∙ ap (λ (x : Plan). f.first ++ x.tokens_left) (sym e);
        all_sent = f.all_of;
        some_left = f.some_of;
      }

  asks : 3 * k + 3 ≤ lost_counted_in s records → IsPlaced → AskedAgain s records
  asks l (on_way ph a i t) =
      let most = todo_most own ph in
      let same : length (in_ring ph) ≡ k = ap length (sym i) in
      let f = found records s.p slots s.applications q ph s.counts s.state s.core s.token_ring a (omega (arith, lost_fewer records s)) in
      record {
        before = f.before;
        asking = f.asking;
        later = f.rest;
        are = f.are;
        first = (plan_of s).question;
        first_is = asked refl;
        sent = f.sent ∙ t;
        asks = f.asks;
      }
  asks l (hearing request low g e) =
      let x = finds_from records s.p slots s.applications q request (others s.token_ring) s.counts s.state s.core s.token_ring (ready, g) (omega arith) in
      let f = x.finds in
      record {
        before = f.before;
        asking = f.asking;
        later = f.rest;
        are = f.are;
        first = x.first;
        first_is = subst (λ (y : Plan). Before y x.first) (sym e) x.first_is;
        sent = f.sent ∙ ap (λ (y : Plan). x.first ++ y.tokens_left) (sym e);
        asks = f.asks;
      }

-- the theorem
pub any_start : Theorem
any_start s records h q = runs s records h q (is_placed s records h q)

-- the letter from any start
pub asked_again : LetterTheorem
asked_again s records h q l = asks s records h q l (is_placed s records h q)
