-- A simulated bus (document 02, P12): what was sent on it, what met, what is lost, and who hears what at which tick. Times are in
-- microseconds; a station is named by its place by rising address. What was sent is one list, the newest first: nothing here is kept
-- in a buffer. Assumes nothing.
use Rattle.std.specs.Prelude.{ℕ, ◌+◌, ◌-◌, ◌*◌, List, [], ◌∷◌, ◌++◌, Bool, true, false, cond, ◌&&◌, not, length, drop, eqb, ltb, leb}
use Rattle.bit_times.specs.declared.baud.Baud.{Baud}
use Rattle.bit_times.specs.Times.{byte_bits, time_of}
use Rattle.codec_answers.specs.declared.Sent.{Sent}
use Rattle.codec_answers.specs.declared.Sent.TheVariants as sent
use Rattle.codec_telegrams.specs.declared.Telegram.{Telegram}
use Rattle.codec_telegrams.specs.declared.Telegram.TheVariants.{Token, ShortConfirmation, Request, Response}

-- What is sent.

-- the telegram that an answer's "sent" is on the bus, from the station of this address. A status response has status 0. (An
-- application's telegram would be a request; the applications here decline, and none is sent.)
unfoldable pub sent_telegram : Sent → ℕ → Telegram
sent_telegram sent.Nothing source = ShortConfirmation
sent_telegram (sent.Token destination) source = Token destination source
sent_telegram (sent.StatusRequest destination) source = Request destination source true
sent_telegram (sent.StatusResponse destination state) source = Response destination source state 0
sent_telegram (sent.Application destination application high bytes) source = Request destination source false

-- how long bytes take: 11 bits each, by the station's own rule and rounding
unfoldable pub bytes_time : ℕ → Baud → ℕ
bytes_time bytes baud = (time_of (record { 0 = byte_bits * bytes }) baud).0

-- a telegram on the bus: who sends it, when it starts, when it ends
pub record Transmission : Type 0 where
  pub sender : ℕ
  pub starts : ℕ
  pub ends : ℕ
  pub telegram : Telegram

-- Collisions.

-- whether some transmission of a list is such
unfoldable pub some : (Transmission → Bool) → List Transmission → Bool
some such [] = false
some such (t ∷ earlier) = cond (such t) true (some such earlier)

-- the same transmission: a station sends at most one telegram at a tick
abbrev pub same : Transmission → Transmission → Bool
same t u = eqb t.sender u.sender && eqb t.starts u.starts

-- one starts before the other has ended, in both directions: two of the same tick meet, a start exactly at the end does not
abbrev pub meets : Transmission → Transmission → Bool
meets t u = ltb t.starts u.ends && ltb u.starts t.ends

-- a transmission is lost where it meets another of those that were sent, lost ones among them
unfoldable pub lost_in : List Transmission → Transmission → Bool
lost_in all t = some (λ u. not (same t u) && meets t u) all

-- What a station hears.

-- whether now is the first tick at or after the end: ticks are `tick` apart
abbrev pub due_at : ℕ → ℕ → Transmission → Bool
due_at tick now t = leb t.ends now && ltb now (t.ends + tick)

-- whether a transmission is heard at a place at this tick: by all but the sender, where it is not lost
abbrev pub hears : List Transmission → ℕ → ℕ → ℕ → Transmission → Bool
hears all tick now place t = due_at tick now t && (not (eqb t.sender place) && not (lost_in all t))

-- the telegrams that a place hears at this tick of what was sent at earlier ones, in the order of sending
unfoldable pub heard_among : List Transmission → ℕ → ℕ → ℕ → List Transmission → List Telegram
heard_among all tick now place [] = []
heard_among all tick now place (t ∷ earlier) = heard_among all tick now place earlier ++ cond (hears all tick now place t) (t.telegram ∷ []) []

abbrev pub heard_at : List Transmission → ℕ → ℕ → ℕ → List Telegram
heard_at all tick now place = heard_among all tick now place all

-- whether a station is transmitting at this tick: it sent at an earlier one what has not ended, lost or not
unfoldable pub transmitting_at : List Transmission → ℕ → ℕ → Bool
transmitting_at all now place = some (λ t. eqb t.sender place && ltb now t.ends) all

-- beyond the most telegrams that a record lists the oldest fall away
abbrev pub newest : {A : Type 0} → List A → List A
newest l = drop (length l - 8) l
