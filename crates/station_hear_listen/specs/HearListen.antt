-- One telegram heard in ListenToken: the closure of do_listen_token; and one heard in PassiveIdle, which is document 02's. request
-- (status_request) and collisions are the fields of the state, last whether the telegram is the last of its poll.
use Rattle.std.specs.Prelude.{ℕ, Bool, false, cond, eqb, Option, Some}
use Rattle.settings.specs.declared.parameters.Parameters.{Parameters}
use Rattle.ring.specs.Ring.{Ring, fresh_of, witness_of}
use Rattle.codec_telegrams.specs.declared.Telegram.{Telegram}
use Rattle.codec_telegrams.specs.declared.Telegram.TheVariants as telegram
use Rattle.codec_answers.specs.declared.Outcome.{Outcome}
use Rattle.codec_answers.specs.declared.Outcome.TheVariants as outcome
use Rattle.station.specs.declared.state.State.{State}
use Rattle.station.specs.declared.state.State.TheVariants.{Offline, ListenToken, ActiveIdle, UseToken, ClaimToken, AwaitDataResponse, PassToken, CheckTokenPass, AwaitStatusResponse, PassiveIdle}
use Rattle.station.specs.declared.parts.Core.{Core}
use Rattle.station.specs.Parts.{fresh_core}
use Rattle.station.specs.Whole.{Heard}
use Rattle.station.specs.Steps.{heard_of, collision_of, last_request_to_us}

-- do_listen_token: a telegram with our own source: the first is counted, the second makes a fresh station, offline (document 02: fresh
-- but for the counts). A request is none here: a noted one blocks consuming
unfoldable pub collided : Parameters → Core → Ring → Option ℕ → ℕ → Heard
collided p c ring request collisions =
    cond (eqb collisions 0) (collision_of (ListenToken request 1) c ring) (collision_of Offline fresh_core (fresh_of p.address))

-- do_listen_token: telegram.source_address() is our own address; a short confirmation has none
unfoldable pub sent_by_us : ℕ → Telegram → Bool
sent_by_us own (telegram.Token destination source) = eqb source own
sent_by_us own telegram.ShortConfirmation = false
sent_by_us own (telegram.Request destination source asks) = eqb source own
sent_by_us own (telegram.Response destination source state status) = eqb source own

-- What a telegram of another station does in ListenToken, and, by document 02's words ("witnesses tokens as ListenToken does"), in
-- PassiveIdle. do_listen_token: a status request to us that is last of its poll is noted
unfoldable pub noted_of : ℕ → Option ℕ → Telegram → Bool → Option ℕ
noted_of own request (telegram.Token destination source) last = request
noted_of own request telegram.ShortConfirmation last = request
noted_of own request (telegram.Request destination source asks) last =
    cond (last_request_to_us destination own asks last) (Some source) request
noted_of own request (telegram.Response destination source state status) last = request

-- do_listen_token: a token is witnessed
unfoldable pub witnessed_of : Ring → Telegram → Ring
witnessed_of ring (telegram.Token destination source) = witness_of ring source destination
witnessed_of ring telegram.ShortConfirmation = ring
witnessed_of ring (telegram.Request destination source asks) = ring
witnessed_of ring (telegram.Response destination source state status) = ring

-- do_listen_token: a delay where a request was noted, else the bus
unfoldable pub overheard_of : ℕ → Telegram → Bool → Outcome
overheard_of own (telegram.Token destination source) last = outcome.Bus
overheard_of own telegram.ShortConfirmation last = outcome.Bus
overheard_of own (telegram.Request destination source asks) last = cond (last_request_to_us destination own asks last) outcome.Delay outcome.Bus
overheard_of own (telegram.Response destination source state status) last = outcome.Bus

-- do_listen_token: one telegram, in ListenToken: our own address as source is a collision
unfoldable pub listen_heard : Parameters → Core → Ring → Option ℕ → ℕ → Telegram → Bool → Heard
listen_heard p c ring request collisions t last =
    cond (sent_by_us p.address t) (collided p c ring request collisions)
    (heard_of (ListenToken (noted_of p.address request t last) collisions) c (witnessed_of ring t) (overheard_of p.address t last))

-- document 02, P10: one telegram, in PassiveIdle: our own address as source changes nothing
unfoldable pub passive_heard : Parameters → Core → Ring → Option ℕ → Telegram → Bool → Heard
passive_heard p c ring request t last =
    cond (sent_by_us p.address t) (heard_of (PassiveIdle request) c ring outcome.Bus)
    (heard_of (PassiveIdle (noted_of p.address request t last)) c (witnessed_of ring t) (overheard_of p.address t last))

-- do_listen_token, and PassiveIdle: one telegram; once offline by collision the rest of the poll only marks activity, and is
-- consumed (no other state can be here)
unfoldable pub listen_telegram : Parameters → State → Core → Ring → Telegram → Bool → Heard
listen_telegram p Offline c ring t last = heard_of Offline c ring outcome.Bus
listen_telegram p (ListenToken request collisions) c ring t last = listen_heard p c ring request collisions t last
listen_telegram p (ActiveIdle r q k) c ring t last = heard_of (ActiveIdle r q k) c ring outcome.Bus
listen_telegram p (UseToken k d) c ring t last = heard_of (UseToken k d) c ring outcome.Bus
listen_telegram p (ClaimToken f) c ring t last = heard_of (ClaimToken f) c ring outcome.Bus
listen_telegram p (AwaitDataResponse a d) c ring t last = heard_of (AwaitDataResponse a d) c ring outcome.Bus
listen_telegram p (PassToken g a) c ring t last = heard_of (PassToken g a) c ring outcome.Bus
listen_telegram p (CheckTokenPass a) c ring t last = heard_of (CheckTokenPass a) c ring outcome.Bus
listen_telegram p (AwaitStatusResponse a) c ring t last = heard_of (AwaitStatusResponse a) c ring outcome.Bus
listen_telegram p (PassiveIdle request) c ring t last = passive_heard p c ring request t last
