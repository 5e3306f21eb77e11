-- Waits of every poll of every run of calls, as statements; the proofs are in proofs/WaitsProof.antt, over
-- Guarded.antt there.
--
--   No send before the pause. A poll that sends anything comes at least the time of 33 bits after the last bus activity, which was
--   known before the poll. This is so of every send: both tokens of a claim, a token passed on or sent again, a status request, a status
--   response, an application's telegram, also where it follows a reply or a timeout. Nothing is excluded.
--
--   No send before 33 whole bits of silence (document 02, P3). That time is rounded up, so 33 bits have gone by to the full, at every rate.
--
--   No retry before the slot. A poll of a station that waits for another (AwaitDataResponse, CheckTokenPass, AwaitStatusResponse) sends
--   only where it comes at least the slot time after the last bus activity, which was known before the poll: so a token is sent again,
--   or to the one behind, the next telegram of an application goes out without a reply, and a token is passed on past a silent
--   neighbour, only after the slot. A timeout is told to an application only then too.
use Rattle.std.specs.Prelude.{ℕ, ◌+◌, ◌*◌, ◌≤◌, ◌<◌, true, ◌≡◌, List, [], ◌∷◌, Option, Some}
use Rattle.bit_times.specs.declared.micros.Micros.{Micros}
use Rattle.bit_times.specs.declared.baud.Baud.{Baud}
use Rattle.bit_times.specs.Times.{rate_of, pause_bits, time_of}
use Rattle.settings.specs.declared.parameters.Parameters.{Parameters}
use Rattle.settings.specs.Settings.{slot_time_of}
use Rattle.settings_rules.specs.Rules.{applications_refusal}
use Rattle.codec_answers.specs.declared.Sent.{Sent}
use Rattle.codec_answers.specs.declared.Sent.TheVariants as sent
use Rattle.codec_answers.specs.declared.Notice.{Notice}
use Rattle.codec_answers.specs.declared.Notice.TheVariants as notice
use Rattle.station.specs.declared.station.Station.{Station}
use Rattle.station.specs.Parts.{state_number, fresh_station}
use Rattle.theorem_sound.specs.Moves.{lists}
use Rattle.theorem_sound.specs.Sound.{Call, after, clock_of}
use Rattle.theorem_sound.specs.Fits.{answer_to}

-- something is sent
abbrev pub Sends : Sent → Type 0
Sends x = x ≡ sent.Nothing → ⊥

-- a timeout is told
abbrev pub TellsTimeout : Notice → Type 0
TellsTimeout notice.NoNotice = ⊥
TellsTimeout (notice.Reply application address) = ⊥
TellsTimeout (notice.Timeout application address) = Unit {0}

-- the clock comes at least this time after an activity, which is known
pub record Since (a : Option Micros) (now time : Micros) : Type 0 where
  pub last : Micros
  pub known : a ≡ Some last
  pub passed : last.0 + time.0 ≤ now.0

-- the synchronization pause, 33 bits
abbrev pub sync_pause : Parameters → Micros
sync_pause p = time_of (record { 0 = pause_bits }) p.baudrate

-- no send before the pause: of a station and a call
abbrev pub PauseKept : Station → Call → Type 0
PauseKept s c = Sends (answer_to s c).sent → Since s.core.last_bus_activity (clock_of c) (sync_pause s.p)

-- This many whole bits went by between an activity, which is known, and the clock: (now − last) × rate ≥ bits × 1,000,000, without a
-- difference.
pub record BitsSince (a : Option Micros) (now : Micros) (baud : Baud) (bits : ℕ) : Type 0 where
  pub last : Micros
  pub known : a ≡ Some last
  pub lasted : last.0 * rate_of baud + bits * 1000000 ≤ now.0 * rate_of baud

-- no send before 33 whole bits of silence: of a station and a call
abbrev pub BitsKept : Station → Call → Type 0
BitsKept s c = Sends (answer_to s c).sent → BitsSince s.core.last_bus_activity (clock_of c) s.p.baudrate 33

-- the states that wait for another station: AwaitDataResponse, CheckTokenPass, AwaitStatusResponse
abbrev pub waiting : List ℕ
waiting = 5 ∷ 7 ∷ 8 ∷ []

-- no retry before the slot: of a station and a call
pub record SlotWaited (s : Station) (c : Call) : Type 0 where
  pub sends_late : Sends (answer_to s c).sent → Since s.core.last_bus_activity (clock_of c) (slot_time_of s.p)
  pub tells_late : TellsTimeout (answer_to s c).notice → Since s.core.last_bus_activity (clock_of c) (slot_time_of s.p)

abbrev pub SlotKept : Station → Call → Type 0
SlotKept s c = lists waiting (state_number s.state) ≡ true → SlotWaited s c

-- of each call of a run: a fact of the station before it and the call
abbrev pub Throughout : (Station → Call → Type 0) → Station → List Call → Type 0
Throughout P s [] = Unit {0}
Throughout P s (c ∷ cs) = P s c × Throughout P (after s c) cs

-- The theorems: any list of calls of any new station, whose settings have an address and whose number of applications is not refused,
-- keeps all three.
abbrev pub NoSendBeforePause : Type 0
NoSendBeforePause = (p : Parameters) (n : ℕ) (cs : List Call) → p.address < 126 → applications_refusal n ≡ 0 → Throughout PauseKept (fresh_station p n) cs

abbrev pub NoSendBefore33Bits : Type 0
NoSendBefore33Bits = (p : Parameters) (n : ℕ) (cs : List Call) → p.address < 126 → applications_refusal n ≡ 0 → Throughout BitsKept (fresh_station p n) cs

abbrev pub NoRetryBeforeSlot : Type 0
NoRetryBeforeSlot = (p : Parameters) (n : ℕ) (cs : List Call) → p.address < 126 → applications_refusal n ≡ 0 → Throughout SlotKept (fresh_station p n) cs
