-- The refusals and their numbers, as documents 01 and 02 number them. In definitions a rule gives a number, 0 for none; a call of
-- the code gives a `Refusal`. The two are tied here: `number_in` reads the number off a call's answer, `named` the refusal off a number.
use Rattle.std.specs.Prelude.{ℕ, Result, Ok, Err, cond, eqb}
use Rattle.refusals.specs.declared.refusal.Refusal.{Refusal}
use Rattle.refusals.specs.declared.refusal.Refusal.TheVariants.{Address, SlotBits, HighestStationAddress, TokenRotation, GapWait, RetryLimit, MinTsdr, Watchdog, WatchdogFactors, BaudCode, Applications, RecordLength, TelegramCount, ReservedBit, NoBytesToSend, TraceLength, NoRoom, FrameCut, StartByte, FrameHeader, CheckByte, EndByte, AddressExtension, NoRoomForGapPoll, AddressAskedFor, SameAddress, TickTime, Stations, BaudCodesDiffer, CaptureLine, TimeGoesBack, LinesOfOneTime, FunctionCode, Ticks, StationBytes}

-- the number of a refusal
abbrev pub number_of : Refusal → ℕ
number_of Address = 1
number_of SlotBits = 2
number_of HighestStationAddress = 3
number_of TokenRotation = 4
number_of GapWait = 5
number_of RetryLimit = 6
number_of MinTsdr = 7
number_of Watchdog = 8
number_of WatchdogFactors = 9
number_of BaudCode = 10
number_of Applications = 11
number_of RecordLength = 12
number_of TelegramCount = 13
number_of ReservedBit = 14
number_of NoBytesToSend = 15
number_of TraceLength = 17
number_of NoRoom = 18
number_of FrameCut = 19
number_of StartByte = 20
number_of FrameHeader = 21
number_of CheckByte = 22
number_of EndByte = 23
number_of AddressExtension = 24
number_of NoRoomForGapPoll = 25
number_of AddressAskedFor = 26
number_of SameAddress = 27
number_of TickTime = 28
number_of Stations = 29
number_of BaudCodesDiffer = 30
number_of CaptureLine = 31
number_of TimeGoesBack = 32
number_of LinesOfOneTime = 33
number_of FunctionCode = 34
number_of Ticks = 35
number_of StationBytes = 36

-- the number of an answer: 0 where nothing is refused
abbrev pub number_in : {A : Type 0} → Result A Refusal → ℕ
number_in (Ok x) = 0
number_in (Err e) = number_of e

-- the refusal with this number; every number that a rule gives has one (any other number is read as the last)
unfoldable pub named : ℕ → Refusal
named n =
    cond (eqb n 1) Address (
    cond (eqb n 2) SlotBits (
    cond (eqb n 3) HighestStationAddress (
    cond (eqb n 4) TokenRotation (
    cond (eqb n 5) GapWait (
    cond (eqb n 6) RetryLimit (
    cond (eqb n 7) MinTsdr (
    cond (eqb n 8) Watchdog (
    cond (eqb n 9) WatchdogFactors (
    cond (eqb n 10) BaudCode (
    cond (eqb n 11) Applications (
    cond (eqb n 12) RecordLength (
    cond (eqb n 13) TelegramCount (
    cond (eqb n 14) ReservedBit (
    cond (eqb n 15) NoBytesToSend (
    cond (eqb n 17) TraceLength (
    cond (eqb n 18) NoRoom (
    cond (eqb n 19) FrameCut (
    cond (eqb n 20) StartByte (
    cond (eqb n 21) FrameHeader (
    cond (eqb n 22) CheckByte (
    cond (eqb n 23) EndByte (
    cond (eqb n 24) AddressExtension (
    cond (eqb n 25) NoRoomForGapPoll (
    cond (eqb n 26) AddressAskedFor (
    cond (eqb n 27) SameAddress (
    cond (eqb n 28) TickTime (
    cond (eqb n 29) Stations (
    cond (eqb n 30) BaudCodesDiffer (
    cond (eqb n 31) CaptureLine (
    cond (eqb n 32) TimeGoesBack (
    cond (eqb n 33) LinesOfOneTime (
    cond (eqb n 34) FunctionCode (
    cond (eqb n 35) Ticks (
    StationBytes))))))))))))))))))))))))))))))))))

-- what a rule's number makes of an answer: the answer where the number is 0, else the refusal with that number
unfoldable pub answered : {A : Type 0} → ℕ → A → Result A Refusal
answered n x = cond (eqb n 0) (Ok x) (Err (named n))
