-- No station is given its own telegram: no telegram that a record lists has the address of the station that it is for as its source.
-- Assumes nothing.
use Prim.Native.Nat.{ℕ, zero, suc, ◌+◌, ◌*◌, ◌<◌, ◌≤◌}
use Rattle.std.specs.Prelude.{◌≡◌, List, [], ◌∷◌, false, length, eqb, ltb}
use Rattle.std.proofs.Math.Path.{refl, subst}
use Rattle.std.proofs.Common.{sym, ap, ◌∙◌, ne_eqb}
use Rattle.std.proofs.Math.Logic.{⊎_elim}
use native.Mathlib.Omega.{arith}
use borrow.Table.Steps.{cases}
use Rattle.codec_fields.specs.Fields.{Bytes}
use Rattle.codec_telegrams.specs.declared.Telegram.{Telegram}
use Rattle.codec_records.specs.Records.{record_refusal}
use Rattle.codec_answers.specs.declared.Sent.{Sent}
use Rattle.codec_answers.specs.declared.Sent.TheVariants as sent
use Rattle.settings.specs.declared.parameters.Parameters.{Parameters}
use Rattle.station.specs.declared.station.Station.{Station}
use Rattle.station.specs.Parts.{fresh_station}
use Rattle.station_answer.specs.Answer.{polled_of, refused_poll}
use Rattle.station_command.specs.Command.{connect_of, online_of}
use Rattle.station_hear_listen.specs.HearListen.{sent_by_us}
use Rattle.station_poll.specs.Poll.{accepted_after, accepted_poll, poll_of}
use Rattle.bus_setup.specs.Setup.{stations_of, tick_of, station_place, address_of, rank_of, placed_of, setup_refusal}
use Rattle.bus_wire.specs.Wire.{Transmission, sent_telegram}
use Rattle.bus_run.specs.Run.{settings_for, given, answer_for, bytes_for, transmission_for, sent_after, bus_at, record_at}
use Rattle.bus_run.specs.Sized.{sized, placed_below}
use Rattle.theorem_bus.specs.Parts.{start_online, next_station}
use Rattle.theorem_bus.specs.Start.{refusal_parts, address_given}
use Rattle.theorem_bus.specs.Delivered.{Among, Every, every_map, Delivered, sent_after_lem, listed_delivered}
use Rattle.theorem_bus.specs.Places.{addresses_apart, place_filled}

-- A station keeps its settings.

poll_settings : (s : Station) (bytes : List ℕ) → (poll_of s bytes).station.p ≡ s.p
unfolding poll_of accepted_poll accepted_after polled_of refused_poll
poll_settings s bytes = cases (eqb (record_refusal bytes s.applications) 0) (λ e. rw e refl) (λ e. rw e refl)

online_settings : (p : Parameters) → (online_of (fresh_station p 1)).station.p ≡ p
unfolding online_of connect_of polled_of fresh_station
online_settings p = refl

pub settings_stay : (setup : List ℕ) (place k : ℕ) → ((bus_at setup k).seats place).station.p ≡ settings_for setup place
settings_stay setup place zero = ap (λ (s : Station). s.p) (start_online setup place) ∙ online_settings (settings_for setup place)
settings_stay setup place (suc k) =
    sym (ap (λ (s : Station). s.p) (next_station setup place k))
    ∙ poll_settings ((bus_at setup k).seats place).station (record_at setup k place)
    ∙ settings_stay setup place k

-- the address of the station at a place
abbrev pub address_at : List ℕ → ℕ → ℕ
address_at setup place = (settings_for setup place).address

-- What is sent has the sender's address.

by_another : (x : Sent) (source own : ℕ) → (source ≡ own → ⊥) → sent_by_us own (sent_telegram x source) ≡ false
unfolding sent_telegram sent_by_us
by_another sent.Nothing source own h = refl
by_another (sent.Token destination) source own h = ne_eqb source own h
by_another (sent.StatusRequest destination) source own h = ne_eqb source own h
by_another (sent.StatusResponse destination state) source own h = ne_eqb source own h
by_another (sent.Application destination application high bytes) source own h = ne_eqb source own h

-- what holds of each transmission of a tick holds of all that were sent
module _ (setup : List ℕ) (P : Transmission → Type 0) (each : (k i : ℕ) → i < stations_of setup → P (transmission_for (tick_of setup) (bus_at setup k) (k * tick_of setup) i)) where
  tick_sent :
      (k : ℕ)
      → ((t : Transmission) → Among t (bus_at setup k).sent → P t)
      → (i : ℕ)
      → i ≤ stations_of setup
      → (t : Transmission)
      → Among t (sent_after (tick_of setup) (bus_at setup k) (k * tick_of setup) i)
      → P t
  unfolding sent_after
  tick_sent k h zero l t a = h t a
  tick_sent k h (suc i) l t a =
      cases (ltb 0 (bytes_for (tick_of setup) (bus_at setup k) (k * tick_of setup) i))
      (λ e.
      let b : Among t (transmission_for (tick_of setup) (bus_at setup k) (k * tick_of setup) i ∷ sent_after (tick_of setup) (bus_at setup k) (k * tick_of setup) i) = rw e at a in
      ⊎_elim
      (λ (s : t ≡ transmission_for (tick_of setup) (bus_at setup k) (k * tick_of setup) i). subst P (sym s) (each k i (omega arith)))
      (λ (r : Among t (sent_after (tick_of setup) (bus_at setup k) (k * tick_of setup) i)). tick_sent k h i (omega arith) t r)
      b)
      (λ e.
      let b : Among t (sent_after (tick_of setup) (bus_at setup k) (k * tick_of setup) i) = rw e at a in
      tick_sent k h i (omega arith) t b)

  nothing_sent : (bus_at setup 0).sent ≡ []
  unfolding bus_at
  nothing_sent = refl

  pub every_sent : (k : ℕ) (t : Transmission) → Among t (bus_at setup k).sent → P t
  every_sent zero t a = absurd (subst (λ (l : List Transmission). Among t l) nothing_sent a)
  every_sent (suc k) t a =
      tick_sent k (every_sent k) (stations_of setup) (omega arith) t (subst (λ (l : List Transmission). Among t l) (sent_after_lem setup k) a)

record SentBy (setup : List ℕ) (t : Transmission) : Type 0 where
  pub there : t.sender < stations_of setup
  pub not_from : (own : ℕ) → (address_at setup t.sender ≡ own → ⊥) → sent_by_us own t.telegram ≡ false

sent_by_lem : (setup : List ℕ) (k i : ℕ) → i < stations_of setup → SentBy setup (transmission_for (tick_of setup) (bus_at setup k) (k * tick_of setup) i)
unfolding transmission_for
sent_by_lem setup k i h =
    record {
      there = h;
      not_from =
          λ own d. by_another (answer_for (tick_of setup) (bus_at setup k) (k * tick_of setup) i).sent ((bus_at setup k).seats i).station.p.address own (λ e. d (sym (ap (λ (p : Parameters). p.address) (settings_stay setup i k)) ∙ e));
    }

-- Places and addresses.

module _ (setup : List ℕ) (are : Bytes setup) (ok : setup_refusal setup ≡ 0) where
  inside : (j : ℕ) → j < stations_of setup → station_place j + 14 ≤ length setup
  unfolding station_place
  inside j l = let w = (sized setup ok).whole in omega arith

  -- the station at a place has the address that was given
  address_is : (i : ℕ) → i < stations_of setup → address_at setup i ≡ address_of setup (placed_of setup (stations_of setup) i)
  address_is i h =
      let s = sized setup ok in
      let one = placed_below setup (stations_of setup) i (omega arith) in
      let parts = refusal_parts setup (placed_of setup (stations_of setup) i) (s.accepted (placed_of setup (stations_of setup) i) one) in
      address_given setup (placed_of setup (stations_of setup) i) are (inside (placed_of setup (stations_of setup) i) one) parts.0 parts.1

  -- which is one to 125
  pub address_low : (i : ℕ) → i < stations_of setup → address_at setup i ≤ 125
  address_low i h =
      let one = placed_below setup (stations_of setup) i (omega arith) in
      let low = (refusal_parts setup (placed_of setup (stations_of setup) i) ((sized setup ok).accepted (placed_of setup (stations_of setup) i) one)).0 in
      rw (address_is i h) low

  -- two places have two addresses
  pub address_apart : (i j : ℕ) → i < stations_of setup → j < stations_of setup → address_at setup i ≡ address_at setup j → i ≡ j
  address_apart i j h l e =
      let none = (sized setup ok).apart in
      let n = stations_of setup in
      let same : placed_of setup n i ≡ placed_of setup n j = addresses_apart setup n none (placed_of setup n i) (placed_of setup n j) (placed_below setup n i (omega arith)) (placed_below setup n j (omega arith)) (sym (address_is i h) ∙ e ∙ address_is j l) in
      sym (place_filled setup n none i h) ∙ ap (λ (m : ℕ). rank_of setup n m) same ∙ place_filled setup n none j l

  -- no record lists a telegram of the station that it is for
  pub never_own : (place k : ℕ) → place < stations_of setup → Every (λ x. sent_by_us (address_at setup place) x ≡ false) (given (tick_of setup) (bus_at setup k) (k * tick_of setup) place)
  never_own place k here =
      every_map (Delivered setup k place) (λ x. sent_by_us (address_at setup place) x ≡ false)
      (λ x d. own x d)
      (given (tick_of setup) (bus_at setup k) (k * tick_of setup) place)
      (listed_delivered setup place k)
    where
      own : (x : Telegram) → Delivered setup k place x → sent_by_us (address_at setup place) x ≡ false
      own x d =
          let s = every_sent setup (SentBy setup) (sent_by_lem setup) k d.transmission d.among in
          subst (λ (y : Telegram). sent_by_us (address_at setup place) y ≡ false) d.says
          (s.not_from (address_at setup place) (λ e. d.by_another (address_apart d.transmission.sender place s.there here e)))
