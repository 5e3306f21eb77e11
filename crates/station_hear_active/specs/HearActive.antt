-- One telegram heard in ActiveIdle, in the order of active.rs: handle_telegram. request (status_request),
-- newPreviousStation (new_previous_station) and collisions are the fields of the state, last whether the telegram is the last of its poll.
use Rattle.std.specs.Prelude.{ℕ, Bool, false, cond, eqb, Option, Some, None}
use Rattle.bit_times.specs.declared.micros.Micros.{Micros}
use Rattle.settings.specs.declared.parameters.Parameters.{Parameters}
use Rattle.ring.specs.Ring.{Ring, prev_of, witness_of}
use Rattle.codec_telegrams.specs.declared.Telegram.{Telegram}
use Rattle.codec_telegrams.specs.declared.Telegram.TheVariants as telegram
use Rattle.codec_answers.specs.declared.Outcome.TheVariants as outcome
use Rattle.station.specs.declared.state.State.{State}
use Rattle.station.specs.declared.state.State.TheVariants.{Offline, ListenToken, ActiveIdle, UseToken, ClaimToken, AwaitDataResponse, PassToken, CheckTokenPass, AwaitStatusResponse, PassiveIdle}
use Rattle.station.specs.declared.parts.Core.{Core}
use Rattle.station.specs.Steps.{to_listen_token, to_use_token, heard_of, collision_of, last_request_to_us}
use Rattle.station.specs.Whole.{Heard}

-- handle_telegram: a token with our own source: the first is counted, the second back to back leads to ListenToken
unfoldable pub active_collided : Core → Ring → Option ℕ → Option ℕ → ℕ → Heard
active_collided c ring request newPreviousStation collisions =
    cond (eqb collisions 0) (collision_of (ActiveIdle request newPreviousStation 1) c ring) (collision_of to_listen_token c ring)

-- handle_telegram: is this the remembered station
unfoldable pub remembers : Option ℕ → ℕ → Bool
remembers None a = false
remembers (Some b) a = eqb b a

-- handle_telegram: the token is ours to use
unfoldable pub accepted_of : Core → Ring → Micros → Heard
accepted_of c ring now = heard_of (to_use_token now) c ring outcome.Delay

-- handle_telegram: a token to us, last of its poll: accepted from the previous station or the remembered one (only the
-- remembered one's pass is witnessed); from any other its sender is remembered. Previous is the ring's at this telegram, after the
-- poll's earlier tokens
unfoldable pub token_to_us : Core → Ring → Micros → Option ℕ → Option ℕ → ℕ → ℕ → Heard
token_to_us c ring now request newPreviousStation destination source =
    cond (eqb source (prev_of ring)) (accepted_of c ring now)
    (cond (remembers newPreviousStation source) (accepted_of c (witness_of ring source destination) now)
    (heard_of (ActiveIdle request (Some source) 0) c ring outcome.Bus))

-- handle_telegram: any other token of another station is witnessed, and collisions count from 0 again
unfoldable pub token_witnessed : Core → Ring → Option ℕ → Option ℕ → ℕ → ℕ → Heard
token_witnessed c ring request newPreviousStation destination source =
    heard_of (ActiveIdle request newPreviousStation 0) c (witness_of ring source destination) outcome.Bus

-- handle_telegram: a token telegram
unfoldable pub token_heard : Parameters → Core → Ring → Micros → Option ℕ → Option ℕ → ℕ → ℕ → ℕ → Bool → Heard
token_heard p c ring now request newPreviousStation collisions destination source last =
    cond (eqb source p.address) (active_collided c ring request newPreviousStation collisions)
    (cond (eqb destination p.address)
    (cond last (token_to_us c ring now request newPreviousStation destination source) (token_witnessed c ring request newPreviousStation destination source))
    (token_witnessed c ring request newPreviousStation destination source))

-- handle_telegram: a status request to us that is last of its poll is noted
unfoldable pub active_requested : Core → Ring → Option ℕ → Option ℕ → ℕ → ℕ → Bool → Heard
active_requested c ring request newPreviousStation collisions source noted =
    cond noted (heard_of (ActiveIdle (Some source) newPreviousStation collisions) c ring outcome.Delay)
    (heard_of (ActiveIdle request newPreviousStation collisions) c ring outcome.Bus)

-- handle_telegram: one telegram, in ActiveIdle
unfoldable pub active_heard : Parameters → Core → Ring → Micros → Option ℕ → Option ℕ → ℕ → Telegram → Bool → Heard
active_heard p c ring now request newPreviousStation collisions (telegram.Token destination source) last =
    token_heard p c ring now request newPreviousStation collisions destination source last
active_heard p c ring now request newPreviousStation collisions telegram.ShortConfirmation last =
    heard_of (ActiveIdle request newPreviousStation collisions) c ring outcome.Bus
active_heard p c ring now request newPreviousStation collisions (telegram.Request destination source asks) last =
    active_requested c ring request newPreviousStation collisions source (last_request_to_us destination p.address asks last)
active_heard p c ring now request newPreviousStation collisions (telegram.Response destination source state status) last =
    heard_of (ActiveIdle request newPreviousStation collisions) c ring outcome.Bus

-- handle_telegram: one telegram; once in ListenToken by collision the rest of the poll only marks activity, and is consumed
-- (no other state can be here)
unfoldable pub handle_telegram : Parameters → State → Core → Ring → Micros → Telegram → Bool → Heard
handle_telegram p Offline c ring now t last = heard_of Offline c ring outcome.Bus
handle_telegram p (ListenToken r k) c ring now t last = heard_of (ListenToken r k) c ring outcome.Bus
handle_telegram p (ActiveIdle request newPreviousStation collisions) c ring now t last =
    active_heard p c ring now request newPreviousStation collisions t last
handle_telegram p (UseToken k d) c ring now t last = heard_of (UseToken k d) c ring outcome.Bus
handle_telegram p (ClaimToken f) c ring now t last = heard_of (ClaimToken f) c ring outcome.Bus
handle_telegram p (AwaitDataResponse a d) c ring now t last = heard_of (AwaitDataResponse a d) c ring outcome.Bus
handle_telegram p (PassToken g a) c ring now t last = heard_of (PassToken g a) c ring outcome.Bus
handle_telegram p (CheckTokenPass a) c ring now t last = heard_of (CheckTokenPass a) c ring outcome.Bus
handle_telegram p (AwaitStatusResponse a) c ring now t last = heard_of (AwaitStatusResponse a) c ring outcome.Bus
handle_telegram p (PassiveIdle r) c ring now t last = heard_of (PassiveIdle r) c ring outcome.Bus
