-- What never happens: the arms of the definitions that are there only so that they are total, each with a theorem that no call reaches
-- it; and tests that are never asked. The numbers are those of specs/Never, and 1 is in proofs/Sound.
use Rattle.std.specs.Prelude.{ℕ, zero, suc, ◌+◌, ◌-◌, ◌*◌, ◌^◌, ◌≤◌, ◌<◌, Bool, true, false, ◌≡◌, refl, ◌⊎◌, List, length, ltb, eqb, Option, Some, None}
use Rattle.std.proofs.Common.{sym, ap, inl, inr, arith, add-suc, ltb-true, ltb-false, lt-ltb, le-ltb, ne_eqb, leb-false}
use Rattle.std.proofs.lemmas.Bool.{eqb-false}
use borrow.Table.Steps.{cases}
use Rattle.codec_fields.specs.Fields.{bit_number}
use Rattle.bit_times.specs.declared.micros.Micros.{Micros}
use Rattle.settings.specs.declared.parameters.Parameters.{Parameters}
use Rattle.ring.specs.Ring.{Ring}
use Rattle.codec_decisions.specs.declared.Decision.TheVariants as decision
use Rattle.codec_decisions.specs.Decisions.{decision_of}
use Rattle.codec_telegrams.specs.declared.Telegram.{Telegram}
use Rattle.codec_telegrams.specs.declared.Telegram.TheVariants as telegram
use Rattle.codec_telegrams.specs.Words.{telegram_of}
use Rattle.codec_records.specs.Records.{head_of, decision_word_at, telegram_word_at, decision_at, telegram_at, record_refusal}
use Rattle.codec_records.specs.Laws.{good}
use Rattle.codec_answers.specs.declared.Outcome.TheVariants as outcome
use Rattle.station.specs.declared.state.State.{State}
use Rattle.station.specs.declared.state.State.TheVariants.{Offline, ListenToken, ActiveIdle, UseToken, ClaimToken, AwaitDataResponse, PassToken, CheckTokenPass, AwaitStatusResponse, PassiveIdle}
use Rattle.station.specs.declared.parts.Core.{Core}
use Rattle.station.specs.Whole.{Heard}
use Rattle.station.specs.Parts.{with_activity, with_pending, is_offline}
use Rattle.station.specs.Steps.{to_passive_idle, known_at, marked_at, busy_of, ongoing_of, bus_activity_of, heard_of, collision_of, last_request_to_us}
use Rattle.station_hold.specs.Hold.{declines_on, declines_at, first_or, turn_of, asked_from, asked_of}
use Rattle.station_hear_active.specs.HearActive.{active_collided, token_witnessed, token_heard, active_requested, active_heard, handle_telegram}
use Rattle.station_hear_listen.specs.HearListen.{collided, sent_by_us, noted_of, listen_heard, passive_heard, listen_telegram}
use Rattle.station_listen.specs.Listen.{heard_telegram, heard_all}
use Rattle.station_poll.specs.Poll.{entered_of}
use Rattle.theorem_sound.specs.Moves.{KnownWith, OneOf, Clock}
use Rattle.theorem_sound.specs.Lines.{KnownIn, SoundCore}
use Rattle.theorem_sound.proofs.Sound.{dispatch_never_offline, dispatched}
use Rattle.theorem_sound.proofs.Kept.{not-true}
use Rattle.theorem_sound.specs.Keeps.{either}
use Rattle.theorem_sound.proofs.Hold.{turn_good, asked_good, first_or_good}
use Rattle.theorem_sound.specs.Never.{Handling, Listening, MayNotKnow, NotAfter, SenderSends}

-- 2. The application that asking found to send does not decline.

declined : (bytes : List ℕ) (n a : ℕ) (high : Bool) → declines_at bytes n a high ≡ false → decision_at bytes n a high ≡ decision.Decline → ⊥
unfolding declines_at declines_on
declined bytes n a high f e = not-true (sym (rw e at f))

pub sender_never_declines : (k : ℕ) (bytes : List ℕ) (n a : ℕ) (first : Option ℕ) (high : Bool) → SenderSends bytes n high (asked_from k bytes n a first high)
unfolding asked_from
sender_never_declines zero bytes n a first high = record { no_decline = λ s e. not-true s }
sender_never_declines (suc k) bytes n a first high =
    cases (declines_at bytes n a high)
    (λ d. rw d
    (either (SenderSends bytes n high) (eqb (turn_of a n) (first_or first a)) _ _ (record { no_decline = λ s e. not-true s })
    (sender_never_declines k bytes n (turn_of a n) _ high)))
    (λ d. rw d (record { no_decline = λ s e. declined bytes n a high d e }))

-- 3. An application past the last (decision_at, `apps[next_application]`): asking starts with the next application, which is one of the
-- n (`next_one` of SoundCore), goes from each to one of them, and ends with one; and the decision of one of the n is its word's.
pub application_never_past : (k : ℕ) (bytes : List ℕ) (n a : ℕ) (first : Option ℕ) (high : Bool) → a < n → (turn_of a n < n) × ((asked_from k bytes n a first high).application < n)
application_never_past k bytes n a first high l = (turn_good a n l, (asked_good k bytes n a first high l).asked)

pub decision_of_record : (bytes : List ℕ) (n a : ℕ) (high : Bool) → a < n → decision_at bytes n a high ≡ decision_of (decision_word_at bytes (2 * a + bit_number high))
unfolding decision_at
decision_of_record bytes n a high l = rw (lt-ltb a n l)

-- 4. A telegram past the end (telegram_at): the telegrams of an accepted record are within it. A step looks at telegram 0 where there is
-- one, or at each of them.
pub telegram_never_past : (bytes : List ℕ) (n j : ℕ) → record_refusal bytes n ≡ 0 → j < (head_of bytes).telegrams → telegram_at bytes n j ≡ telegram_of (telegram_word_at bytes n j)
unfolding telegram_at
telegram_never_past bytes n j z l =
    let room : 8 + 6 * n + 4 * j + 4 ≤ length bytes = omega (arith, (good bytes n z).long) in
    rw (le-ltb (length bytes) (8 + 6 * n + 4 * j + 4) room)

-- 5. Asking that runs out of turns (asked_from, its first clause; the `for` of apps_transmit_telegram run to its end): with as many turns
-- as there are applications asking ends earlier, where one sends or the cycle is completed. So more turns change nothing.
-- a to f is d turns, going up from a, n - 1 followed by 0
record Turns (n a f d : ℕ) : Type 0 where
  pub below : a < n
  pub first_below : f < n
  pub some : 1 ≤ d
  pub way : (a + d ≡ f) ⊎ (a + d ≡ f + n)

positive : (d : ℕ) → (d ≡ 0 → ⊥) → 1 ≤ d
positive zero z = absurd (z refl)
positive (suc d) z = omega arith

-- one turn less
turn_less : (n a f d : ℕ) → Turns n a f (suc d) → (turn_of a n ≡ f → ⊥) → Turns n (turn_of a n) f d
unfolding turn_of
turn_less n a f d w z =
    cases (ltb (a + 1) n) (λ e. rw e (up (ltb-true (a + 1) n e) (rw e at z) w.way)) (λ e. rw e (round (ltb-false (a + 1) n e) (rw e at z) w.way))
  where
    up : a + 1 < n → (a + 1 ≡ f → ⊥) → (a + suc d ≡ f) ⊎ (a + suc d ≡ f + n) → Turns n (a + 1) f d
    up l z (inl e) = record { below = l; first_below = w.first_below; some = positive d (λ q. z (omega arith)); way = inl (omega arith) }
    up l z (inr e) = record { below = l; first_below = w.first_below; some = omega arith; way = inr (omega arith) }

    round : n ≤ a + 1 → (0 ≡ f → ⊥) → (a + suc d ≡ f) ⊎ (a + suc d ≡ f + n) → Turns n 0 f d
    round l z (inl e) = absurd (omega (arith, w.below, w.first_below))
    round l z (inr e) = record { below = omega (arith, w.below); first_below = w.first_below; some = positive d (λ q. z (omega (arith, w.below))); way = inl (omega (arith, w.below)) }

enough_turns : (k m : ℕ) (bytes : List ℕ) (n a : ℕ) (first : Option ℕ) (high : Bool) (d : ℕ) → Turns n a (first_or first a) d → d ≤ k → asked_from (m + k) bytes n a first high ≡ asked_from k bytes n a first high
unfolding asked_from first_or
enough_turns zero m bytes n a first high d w l = absurd (omega (arith, w.some))
enough_turns (suc k) m bytes n a first high zero w l = absurd (omega (arith, w.some))
enough_turns (suc k) m bytes n a first high (suc d) w l =
    rw (add-suc m k)
    (cases (declines_at bytes n a high)
    (λ y. cases (eqb (turn_of a n) (first_or first a)) (λ z. rw (y, z) refl)
    (λ z. rw (y, z)
    (enough_turns k m bytes n (turn_of a n) (Some (first_or first a)) high d (turn_less n a (first_or first a) d w (eqb-false _ _ z)) (omega arith))))
    (λ y. rw y refl))

-- how many turns it takes from a back to f: at most n
turns_to : (n a f : ℕ) → a < n → f < n → (d : ℕ) × Turns n a f d × (d ≤ n)
turns_to n a f l h =
    cases (ltb a f)
    (λ e. let b = ltb-true a f e in
    let q : a + (f - a) ≡ f = omega arith in
    (f - a, record { below = l; first_below = h; some = omega arith; way = inl q }, omega arith))
    (λ e. let b = ltb-false a f e in
    let q : a + (f + n - a) ≡ f + n = omega arith in
    (f + n - a, record { below = l; first_below = h; some = omega arith; way = inr q }, omega arith))

pub asking_never_runs_out : (m : ℕ) (bytes : List ℕ) (n a : ℕ) (first : Option ℕ) (high : Bool) → a < n → OneOf n first → asked_from (m + n) bytes n a first high ≡ asked_of bytes n a first high
unfolding asked_of
asking_never_runs_out m bytes n a first high l f =
    let t = turns_to n a (first_or first a) l (first_or_good n first a f l) in
    enough_turns n m bytes n a first high t.0 t.1 t.2

-- 6. The dispatch is given no clock before the last activity.

free : (a : Option Micros) (now : Micros) (t : Bool) → ongoing_of a now t ≡ false → NotAfter a now
unfolding ongoing_of busy_of
free None now t e = tt
free (Some last) now true e = not-true (sym e)
free (Some last) now false e = omega (arith, leb-false now.0 last.0 e)

marked_by : (a : Option Micros) (now : Micros) → NotAfter a now → NotAfter (marked_at a now) now
unfolding marked_at known_at
marked_by None now l = either (λ (x : Option Micros). NotAfter x now) (ltb now.0 now.0) _ _ (omega arith) (omega arith)
marked_by (Some last) now l = either (λ (x : Option Micros). NotAfter x now) (ltb last.0 now.0) _ _ (omega arith) l

pub never_asked_before_activity : (c : Core) (now : Micros) (transmitting : Bool) (pending : ℕ) → ongoing_of c.last_bus_activity now transmitting ≡ false → NotAfter (bus_activity_of c now pending).last_bus_activity now
unfolding bus_activity_of with_activity with_pending
never_asked_before_activity c now transmitting pending o =
    let l = free c.last_bus_activity now transmitting o in
    either (λ (d : Core). NotAfter d.last_bus_activity now) (ltb c.pending_bytes pending) _ _ (marked_by c.last_bus_activity now l) l

-- 7. While telegrams are received, no telegram is heard in another state, and none after a request was noted.

-- a request is noted only as the last telegram of its poll
never_noted : (destination own : ℕ) (asks : Bool) → last_request_to_us destination own asks false ≡ false
unfolding last_request_to_us
never_noted destination own true = cases (eqb destination own) (λ e. rw e refl) (λ e. rw e refl)
never_noted destination own false = refl

-- what was heard so far leaves the station listening
abbrev ListeningOn : Heard → Type 0
ListeningOn h = Listening h.state

collided_listening : (p : Parameters) (c : Core) (r : Ring) (k : ℕ) → ListeningOn (collided p c r None k)
unfolding collided collision_of
collided_listening p c r k = either ListeningOn (eqb k 0) _ _ tt tt

none_noted : (own : ℕ) (t : Telegram) → noted_of own None t false ≡ None
unfolding noted_of
none_noted own (telegram.Token destination source) = refl
none_noted own telegram.ShortConfirmation = refl
none_noted own (telegram.Request destination source asks) = rw (never_noted destination own asks) refl
none_noted own (telegram.Response destination source state status) = refl

listen_heard_listening : (p : Parameters) (c : Core) (r : Ring) (k : ℕ) (t : Telegram) → ListeningOn (listen_heard p c r None k t false)
unfolding listen_heard heard_of
listen_heard_listening p c r k t =
    either ListeningOn (sent_by_us p.address t) _ _ (collided_listening p c r k) (rw (none_noted p.address t) tt)

listen_on_listening : (p : Parameters) (x : State) (c : Core) (r : Ring) (t : Telegram) → Listening x → ListeningOn (listen_telegram p x c r t false)
unfolding listen_telegram heard_of
listen_on_listening p Offline c r t l = tt
listen_on_listening p (ListenToken None k) c r t l = listen_heard_listening p c r k t
listen_on_listening p (ListenToken (Some a) k) c r t l = absurd l
listen_on_listening p (ActiveIdle q m k) c r t l = absurd l
listen_on_listening p (UseToken k d) c r t l = absurd l
listen_on_listening p (ClaimToken f) c r t l = absurd l
listen_on_listening p (AwaitDataResponse a d) c r t l = absurd l
listen_on_listening p (PassToken g k) c r t l = absurd l
listen_on_listening p (CheckTokenPass k) c r t l = absurd l
listen_on_listening p (AwaitStatusResponse a) c r t l = absurd l
listen_on_listening p (PassiveIdle q) c r t l = absurd l

-- what was heard so far leaves the station in a state that handles telegrams
abbrev HandlingOn : Heard → Type 0
HandlingOn h = Handling h.state

token_handling : (p : Parameters) (c : Core) (r : Ring) (now : Micros) (m : Option ℕ) (k destination source : ℕ) → HandlingOn (token_heard p c r now None m k destination source false)
unfolding token_heard active_collided token_witnessed heard_of collision_of
token_handling p c r now m k destination source =
    either HandlingOn (eqb source p.address) _ _ (either HandlingOn (eqb k 0) _ _ tt tt) (either HandlingOn (eqb destination p.address) _ _ tt tt)

active_heard_handling : (p : Parameters) (c : Core) (r : Ring) (now : Micros) (m : Option ℕ) (k : ℕ) (t : Telegram) → HandlingOn (active_heard p c r now None m k t false)
unfolding active_heard active_requested heard_of
active_heard_handling p c r now m k (telegram.Token destination source) = token_handling p c r now m k destination source
active_heard_handling p c r now m k telegram.ShortConfirmation = tt
active_heard_handling p c r now m k (telegram.Request destination source asks) = rw (never_noted destination p.address asks) tt
active_heard_handling p c r now m k (telegram.Response destination source state status) = tt

handle_on_handling : (p : Parameters) (x : State) (c : Core) (r : Ring) (now : Micros) (t : Telegram) → Handling x → HandlingOn (handle_telegram p x c r now t false)
unfolding handle_telegram heard_of
handle_on_handling p Offline c r now t l = absurd l
handle_on_handling p (ListenToken q k) c r now t l = tt
handle_on_handling p (ActiveIdle None m k) c r now t l = active_heard_handling p c r now m k t
handle_on_handling p (ActiveIdle (Some a) m k) c r now t l = absurd l
handle_on_handling p (UseToken k d) c r now t l = absurd l
handle_on_handling p (ClaimToken f) c r now t l = absurd l
handle_on_handling p (AwaitDataResponse a d) c r now t l = absurd l
handle_on_handling p (PassToken g k) c r now t l = absurd l
handle_on_handling p (CheckTokenPass k) c r now t l = absurd l
handle_on_handling p (AwaitStatusResponse a) c r now t l = absurd l
handle_on_handling p (PassiveIdle q) c r now t l = absurd l

-- receive_all_telegrams, of a poll with count telegrams: before telegram i
pub listen_telegram_only_listening : (p : Parameters) (c : Core) (r : Ring) (now : Micros) (k : ℕ) (bytes : List ℕ) (n count i : ℕ) → i < count → Listening (heard_all p (heard_of (ListenToken None k) c r outcome.Bus) now true bytes n count i).state
unfolding heard_all heard_telegram heard_of
listen_telegram_only_listening p c r now k bytes n count zero l = tt
listen_telegram_only_listening p c r now k bytes n count (suc i) l =
    let before = listen_telegram_only_listening p c r now k bytes n count i (omega arith) in
    rw (ne_eqb (suc i) count (λ z. omega arith)) (listen_on_listening p _ _ _ _ before)

-- Before each telegram of PassiveIdle the station is in PassiveIdle with no request noted.
passive_heard_stays : (p : Parameters) (c : Core) (r : Ring) (t : Telegram) → (passive_heard p c r None t false).state ≡ to_passive_idle
unfolding passive_heard heard_of
passive_heard_stays p c r t =
    either (λ (h : Heard). h.state ≡ to_passive_idle) (sent_by_us p.address t) _ _ refl (ap (λ (q : Option ℕ). PassiveIdle q) (none_noted p.address t))

listen_from_passive : (p : Parameters) (x : State) (c : Core) (r : Ring) (t : Telegram) → x ≡ to_passive_idle → (listen_telegram p x c r t false).state ≡ to_passive_idle
unfolding listen_telegram
listen_from_passive p x c r t e = rw e (passive_heard_stays p c r t)

pub passive_telegram_only_passive : (p : Parameters) (c : Core) (r : Ring) (now : Micros) (bytes : List ℕ) (n count i : ℕ) → i < count → (heard_all p (heard_of to_passive_idle c r outcome.Bus) now true bytes n count i).state ≡ to_passive_idle
unfolding heard_all heard_telegram heard_of
passive_telegram_only_passive p c r now bytes n count zero l = refl
passive_telegram_only_passive p c r now bytes n count (suc i) l =
    let before = passive_telegram_only_passive p c r now bytes n count i (omega arith) in
    rw (ne_eqb (suc i) count (λ z. omega arith)) (listen_from_passive p _ _ _ _ before)

pub handle_telegram_only_active : (p : Parameters) (c : Core) (r : Ring) (now : Micros) (m : Option ℕ) (k : ℕ) (bytes : List ℕ) (n count i : ℕ) → i < count → Handling (heard_all p (heard_of (ActiveIdle None m k) c r outcome.Bus) now false bytes n count i).state
unfolding heard_all heard_telegram heard_of
handle_telegram_only_active p c r now m k bytes n count zero l = tt
handle_telegram_only_active p c r now m k bytes n count (suc i) l =
    let before = handle_telegram_only_active p c r now m k bytes n count i (omega arith) in
    rw (ne_eqb (suc i) count (λ z. omega arith)) (handle_on_handling p _ _ _ now _ before)

-- 8. The dispatch of a sound station is given an unknown activity in the two states of MayNotKnow alone.

unknown_passive : (q : Option ℕ) (a : Option Micros) → KnownWith q a → a ≡ None → MayNotKnow (PassiveIdle q)
unknown_passive None a k e = inr refl
unknown_passive (Some source) a k e = absurd (rw e at k)

unknown_listening : (x : State) (a : Option Micros) → (x ≡ Offline → ⊥) → KnownIn x a → a ≡ None → MayNotKnow x
unknown_listening Offline a z k e = absurd (z refl)
unknown_listening (ListenToken q i) a z k e = inl refl
unknown_listening (ActiveIdle q m i) a z k e = absurd (rw e at k)
unknown_listening (UseToken i d) a z k e = absurd (rw e at k)
unknown_listening (ClaimToken f) a z k e = absurd (rw e at k)
unknown_listening (AwaitDataResponse s d) a z k e = absurd (rw e at k)
unknown_listening (PassToken g i) a z k e = absurd (rw e at k)
unknown_listening (CheckTokenPass i) a z k e = absurd (rw e at k)
unknown_listening (AwaitStatusResponse s) a z k e = absurd (rw e at k)
unknown_listening (PassiveIdle q) a z k e = unknown_passive q a k e

pub only_listening_unknown : (p : Parameters) (n : ℕ) (now : Micros) (x : State) (c : Core) (pending : ℕ) → pending < 2 ^ 11 → Clock now → is_offline c.connectivity_state ≡ false → SoundCore p n x c → (bus_activity_of c now pending).last_bus_activity ≡ None → MayNotKnow (entered_of c.connectivity_state x)
only_listening_unknown p n now x c pending few l o w e =
    unknown_listening _ _ (dispatch_never_offline c.connectivity_state x o) (dispatched p n now x c pending few l o w).activity_known_lem e
