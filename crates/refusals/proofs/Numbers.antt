-- Numbers and names of refusals, as laws: no refusal has the number 0, and the number of a refusal names it again.
use Rattle.std.specs.Prelude.{◌≡◌, refl}
use Rattle.std.proofs.Common.{◌≢◌, arith}
use Rattle.refusals.specs.declared.refusal.Refusal.{Refusal}
use Rattle.refusals.specs.declared.refusal.Refusal.TheVariants.{Address, SlotBits, HighestStationAddress, TokenRotation, GapWait, RetryLimit, MinTsdr, Watchdog, WatchdogFactors, BaudCode, Applications, RecordLength, TelegramCount, ReservedBit, NoBytesToSend, TraceLength, NoRoom, FrameCut, StartByte, FrameHeader, CheckByte, EndByte, AddressExtension, NoRoomForGapPoll, AddressAskedFor, SameAddress, TickTime, Stations, BaudCodesDiffer, CaptureLine, TimeGoesBack, LinesOfOneTime, FunctionCode, Ticks, StationBytes}
use Rattle.refusals.specs.Refusals.{number_of, named}

-- no refusal has the number 0
pub refused : (e : Refusal) → number_of e ≢ 0
refused Address = λ h. omega arith
refused SlotBits = λ h. omega arith
refused HighestStationAddress = λ h. omega arith
refused TokenRotation = λ h. omega arith
refused GapWait = λ h. omega arith
refused RetryLimit = λ h. omega arith
refused MinTsdr = λ h. omega arith
refused Watchdog = λ h. omega arith
refused WatchdogFactors = λ h. omega arith
refused BaudCode = λ h. omega arith
refused Applications = λ h. omega arith
refused RecordLength = λ h. omega arith
refused TelegramCount = λ h. omega arith
refused ReservedBit = λ h. omega arith
refused NoBytesToSend = λ h. omega arith
refused TraceLength = λ h. omega arith
refused NoRoom = λ h. omega arith
refused FrameCut = λ h. omega arith
refused StartByte = λ h. omega arith
refused FrameHeader = λ h. omega arith
refused CheckByte = λ h. omega arith
refused EndByte = λ h. omega arith
refused AddressExtension = λ h. omega arith
refused NoRoomForGapPoll = λ h. omega arith
refused AddressAskedFor = λ h. omega arith
refused SameAddress = λ h. omega arith
refused TickTime = λ h. omega arith
refused Stations = λ h. omega arith
refused BaudCodesDiffer = λ h. omega arith
refused CaptureLine = λ h. omega arith
refused TimeGoesBack = λ h. omega arith
refused LinesOfOneTime = λ h. omega arith
refused FunctionCode = λ h. omega arith
refused Ticks = λ h. omega arith
refused StationBytes = λ h. omega arith

-- the number of a refusal names it
pub named_back : (e : Refusal) → named (number_of e) ≡ e
unfolding named
named_back Address = refl
named_back SlotBits = refl
named_back HighestStationAddress = refl
named_back TokenRotation = refl
named_back GapWait = refl
named_back RetryLimit = refl
named_back MinTsdr = refl
named_back Watchdog = refl
named_back WatchdogFactors = refl
named_back BaudCode = refl
named_back Applications = refl
named_back RecordLength = refl
named_back TelegramCount = refl
named_back ReservedBit = refl
named_back NoBytesToSend = refl
named_back TraceLength = refl
named_back NoRoom = refl
named_back FrameCut = refl
named_back StartByte = refl
named_back FrameHeader = refl
named_back CheckByte = refl
named_back EndByte = refl
named_back AddressExtension = refl
named_back NoRoomForGapPoll = refl
named_back AddressAskedFor = refl
named_back SameAddress = refl
named_back TickTime = refl
named_back Stations = refl
named_back BaudCodesDiffer = refl
named_back CaptureLine = refl
named_back TimeGoesBack = refl
named_back LinesOfOneTime = refl
named_back FunctionCode = refl
named_back Ticks = refl
named_back StationBytes = refl
