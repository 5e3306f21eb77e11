-- What is said of a telegram is what it is: the collisions that a poll's loop sums are the meetings, and no telegram leads to ClaimToken.
use Prim.Native.Nat.{ℕ, zero, suc, ◌+◌, ◌≤◌}
use Rattle.std.specs.Prelude.{Bool, true, false, List, ◌≡◌, eqb, Option}
use Rattle.std.proofs.Math.Bool.{cond}
use Rattle.std.proofs.Math.Path.{refl, ap}
use Rattle.std.proofs.Common.{sym, ◌∙◌, arith, add-zero, eqb-true, lit≤}
use Rattle.std.proofs.lemmas.Bool.{eqb-false}
use borrow.Table.Steps.{cases}
use Rattle.bit_times.specs.declared.micros.Micros.{Micros}
use Rattle.settings.specs.declared.parameters.Parameters.{Parameters}
use Rattle.ring.specs.Ring.{Ring, prev_of}
use Rattle.codec_telegrams.specs.declared.Telegram.{Telegram}
use Rattle.codec_telegrams.specs.declared.Telegram.TheVariants as telegram
use Rattle.codec_records.specs.Records.{telegram_at}
use Rattle.codec_answers.specs.declared.Outcome.{Outcome}
use Rattle.station.specs.declared.state.State.{State}
use Rattle.station.specs.declared.state.State.TheVariants.{Offline, ListenToken, ActiveIdle, UseToken, ClaimToken, AwaitDataResponse, PassToken, CheckTokenPass, AwaitStatusResponse, PassiveIdle}
use Rattle.station.specs.declared.parts.Core.{Core}
use Rattle.station.specs.Whole.{Heard}
use Rattle.station.specs.Steps.{heard_of, collision_of}
use Rattle.station_hear_listen.specs.HearListen.{collided, sent_by_us, listen_heard, passive_heard, listen_telegram}
use Rattle.station_hear_active.specs.HearActive.{active_collided, remembers, accepted_of, token_to_us, token_witnessed, token_heard, active_requested, active_heard, handle_telegram}
use Rattle.station_listen.specs.Listen.{heard_telegram, heard_all, met_too, met_in}
use Rattle.theorem_sound.specs.Keeps.{either}
use Rattle.theorem_counts.specs.Events.{is_from, is_token_from, meets_listening, meets_idle, met_along}
use Rattle.theorem_counts.specs.Plain.{Elsewhere}
use Rattle.theorem_counts.specs.Meetings.{Said}

heard_said : (x : State) (c : Core) (r : Ring) (o : Outcome) → Elsewhere x → Said 0 (heard_of x c r o)
unfolding heard_of
heard_said x c r o e = record { says = refl; leads = e }

collision_said : (x : State) (c : Core) (r : Ring) → Elsewhere x → Said 1 (collision_of x c r)
unfolding collision_of
collision_said x c r e = record { says = refl; leads = e }

-- by a test: so many where it holds, none where it does not
tested : (b : Bool) (h k : Heard) → Said 1 h → Said 0 k → Said (cond b 1 0) (cond b h k)
tested true h k x y = x
tested false h k x y = y

-- do_listen_token
collided_said : (p : Parameters) (c : Core) (r : Ring) (q : Option ℕ) (k : ℕ) → Said 1 (collided p c r q k)
unfolding collided
collided_said p c r q k = either (Said 1) (eqb k 0) _ _ (collision_said _ _ _ refl) (collision_said _ _ _ refl)

listen_heard_said : (p : Parameters) (c : Core) (r : Ring) (q : Option ℕ) (k : ℕ) (t : Telegram) (last : Bool) → Said (cond (is_from p.address t) 1 0) (listen_heard p c r q k t last)
unfolding listen_heard sent_by_us is_from
listen_heard_said p c r q k (telegram.Token destination source) last = tested (eqb source p.address) _ _ (collided_said p c r q k) (heard_said _ _ _ _ refl)
listen_heard_said p c r q k telegram.ShortConfirmation last = heard_said _ _ _ _ refl
listen_heard_said p c r q k (telegram.Request destination source asks) last = tested (eqb source p.address) _ _ (collided_said p c r q k) (heard_said _ _ _ _ refl)
listen_heard_said p c r q k (telegram.Response destination source state status) last = tested (eqb source p.address) _ _ (collided_said p c r q k) (heard_said _ _ _ _ refl)

-- PassiveIdle: nothing is met
passive_heard_said : (p : Parameters) (c : Core) (r : Ring) (q : Option ℕ) (t : Telegram) (last : Bool) → Said 0 (passive_heard p c r q t last)
unfolding passive_heard
passive_heard_said p c r q t last = either (Said 0) (sent_by_us p.address t) _ _ (heard_said _ _ _ _ refl) (heard_said _ _ _ _ refl)

listen_said : (p : Parameters) (x : State) (c : Core) (r : Ring) (t : Telegram) (last : Bool) → Elsewhere x → Said (meets_listening p.address x t) (listen_telegram p x c r t last)
unfolding listen_telegram meets_listening
listen_said p Offline c r t last e = heard_said _ _ _ _ e
listen_said p (ListenToken q k) c r t last e = listen_heard_said p c r q k t last
listen_said p (ActiveIdle q m k) c r t last e = heard_said _ _ _ _ e
listen_said p (UseToken k d) c r t last e = heard_said _ _ _ _ e
listen_said p (ClaimToken f) c r t last e = heard_said _ _ _ _ e
listen_said p (AwaitDataResponse a d) c r t last e = heard_said _ _ _ _ e
listen_said p (PassToken g a) c r t last e = heard_said _ _ _ _ e
listen_said p (CheckTokenPass a) c r t last e = heard_said _ _ _ _ e
listen_said p (AwaitStatusResponse a) c r t last e = heard_said _ _ _ _ e
listen_said p (PassiveIdle q) c r t last e = passive_heard_said p c r q t last

-- handle_telegram
active_collided_said : (c : Core) (r : Ring) (q m : Option ℕ) (k : ℕ) → Said 1 (active_collided c r q m k)
unfolding active_collided
active_collided_said c r q m k = either (Said 1) (eqb k 0) _ _ (collision_said _ _ _ refl) (collision_said _ _ _ refl)

accepted_said : (c : Core) (r : Ring) (now : Micros) → Said 0 (accepted_of c r now)
unfolding accepted_of
accepted_said c r now = heard_said _ _ _ _ refl

to_us_said : (c : Core) (r : Ring) (now : Micros) (q m : Option ℕ) (destination source : ℕ) → Said 0 (token_to_us c r now q m destination source)
unfolding token_to_us
to_us_said c r now q m destination source =
    either (Said 0) (eqb source (prev_of r)) _ _ (accepted_said c r now)
    (either (Said 0) (remembers m source) _ _ (accepted_said c _ now) (heard_said _ _ _ _ refl))

witnessed_said : (c : Core) (r : Ring) (q m : Option ℕ) (destination source : ℕ) → Said 0 (token_witnessed c r q m destination source)
unfolding token_witnessed
witnessed_said c r q m destination source = heard_said _ _ _ _ refl

token_said : (p : Parameters) (c : Core) (r : Ring) (now : Micros) (q m : Option ℕ) (k destination source : ℕ) (last : Bool) → Said (cond (eqb source p.address) 1 0) (token_heard p c r now q m k destination source last)
unfolding token_heard
token_said p c r now q m k destination source last =
    tested (eqb source p.address) _ _ (active_collided_said c r q m k)
    (either (Said 0) (eqb destination p.address) _ _
    (either (Said 0) last _ _ (to_us_said c r now q m destination source) (witnessed_said c r q m destination source))
    (witnessed_said c r q m destination source))

requested_said : (c : Core) (r : Ring) (q m : Option ℕ) (k source : ℕ) (noted : Bool) → Said 0 (active_requested c r q m k source noted)
unfolding active_requested
requested_said c r q m k source noted = either (Said 0) noted _ _ (heard_said _ _ _ _ refl) (heard_said _ _ _ _ refl)

active_heard_said : (p : Parameters) (c : Core) (r : Ring) (now : Micros) (q m : Option ℕ) (k : ℕ) (t : Telegram) (last : Bool) → Said (cond (is_token_from p.address t) 1 0) (active_heard p c r now q m k t last)
unfolding active_heard is_token_from
active_heard_said p c r now q m k (telegram.Token destination source) last = token_said p c r now q m k destination source last
active_heard_said p c r now q m k telegram.ShortConfirmation last = heard_said _ _ _ _ refl
active_heard_said p c r now q m k (telegram.Request destination source asks) last = requested_said c r q m k source _
active_heard_said p c r now q m k (telegram.Response destination source state status) last = heard_said _ _ _ _ refl

handle_said : (p : Parameters) (x : State) (c : Core) (r : Ring) (now : Micros) (t : Telegram) (last : Bool) → Elsewhere x → Said (meets_idle p.address x t) (handle_telegram p x c r now t last)
unfolding handle_telegram meets_idle
handle_said p Offline c r now t last e = heard_said _ _ _ _ e
handle_said p (ListenToken q k) c r now t last e = heard_said _ _ _ _ e
handle_said p (ActiveIdle q m k) c r now t last e = active_heard_said p c r now q m k t last
handle_said p (UseToken k d) c r now t last e = heard_said _ _ _ _ e
handle_said p (ClaimToken f) c r now t last e = heard_said _ _ _ _ e
handle_said p (AwaitDataResponse a d) c r now t last e = heard_said _ _ _ _ e
handle_said p (PassToken g a) c r now t last e = heard_said _ _ _ _ e
handle_said p (CheckTokenPass a) c r now t last e = heard_said _ _ _ _ e
handle_said p (AwaitStatusResponse a) c r now t last e = heard_said _ _ _ _ e
handle_said p (PassiveIdle q) c r now t last e = heard_said _ _ _ _ e

-- receive_all_telegrams: one telegram
telegram_said :
    (p : Parameters) (h : Heard) (now : Micros) (listening : Bool) (t : Telegram) (last : Bool)
    → Elsewhere h.state
    → Said (cond listening (meets_listening p.address h.state t) (meets_idle p.address h.state t)) (heard_telegram p h now listening t last)
unfolding heard_telegram
telegram_said p h now true t last e = listen_said p h.state _ h.ring t last e
telegram_said p h now false t last e = handle_said p h.state _ h.ring now t last e

-- a telegram is one meeting or none
one_or_none : (b : Bool) → cond b 1 0 ≤ 1
one_or_none true = lit≤ tt
one_or_none false = lit≤ tt

listening_one : (own : ℕ) (x : State) (t : Telegram) → meets_listening own x t ≤ 1
unfolding meets_listening
listening_one own Offline t = lit≤ tt
listening_one own (ListenToken q k) t = one_or_none (is_from own t)
listening_one own (ActiveIdle q m k) t = lit≤ tt
listening_one own (UseToken k d) t = lit≤ tt
listening_one own (ClaimToken f) t = lit≤ tt
listening_one own (AwaitDataResponse a d) t = lit≤ tt
listening_one own (PassToken g a) t = lit≤ tt
listening_one own (CheckTokenPass a) t = lit≤ tt
listening_one own (AwaitStatusResponse a) t = lit≤ tt
listening_one own (PassiveIdle q) t = lit≤ tt

idle_one : (own : ℕ) (x : State) (t : Telegram) → meets_idle own x t ≤ 1
unfolding meets_idle
idle_one own Offline t = lit≤ tt
idle_one own (ListenToken q k) t = lit≤ tt
idle_one own (ActiveIdle q m k) t = one_or_none (is_token_from own t)
idle_one own (UseToken k d) t = lit≤ tt
idle_one own (ClaimToken f) t = lit≤ tt
idle_one own (AwaitDataResponse a d) t = lit≤ tt
idle_one own (PassToken g a) t = lit≤ tt
idle_one own (CheckTokenPass a) t = lit≤ tt
idle_one own (AwaitStatusResponse a) t = lit≤ tt
idle_one own (PassiveIdle q) t = lit≤ tt

met_one : (listening : Bool) (own : ℕ) (x : State) (t : Telegram) → cond listening (meets_listening own x t) (meets_idle own x t) ≤ 1
met_one true own x t = listening_one own x t
met_one false own x t = idle_one own x t

-- so the loop's sum is the sum
too_is : (met k : ℕ) → k ≤ 1 → met_too met k ≡ met + k
unfolding met_too
too_is met k l =
    cases (eqb k 0) (λ e. rw (e, eqb-true k 0 e) (sym (add-zero met)))
    (λ e. let one : k ≡ 1 = (let z = eqb-false k 0 e in omega (arith, l, z)) in rw (e, one))

-- the telegrams of a poll, up to one of them
module _ (p : Parameters) (h : Heard) (now : Micros) (listening : Bool) (bytes : List ℕ) (n count : ℕ) (out : Elsewhere h.state) where
  pub all_elsewhere : (i : ℕ) → Elsewhere (heard_all p h now listening bytes n count i).state
  unfolding heard_all
  all_elsewhere zero = out
  all_elsewhere (suc i) = (telegram_said p _ now listening _ _ (all_elsewhere i)).leads

  pub met_is : (i : ℕ) → met_in p h now listening bytes n count i ≡ met_along p h now listening bytes n count i
  unfolding met_in met_along heard_all
  met_is zero = refl
  met_is (suc i) =
      let before = heard_all p h now listening bytes n count i in
      let t = telegram_at bytes n i in
      ap (met_too (met_in p h now listening bytes n count i)) (telegram_said p before now listening t (eqb (suc i) count) (all_elsewhere i)).says
      ∙ too_is _ _ (met_one listening p.address before.state t)
      ∙ ap (λ (m : ℕ). m + cond listening (meets_listening p.address before.state t) (meets_idle p.address before.state t)) (met_is i)
