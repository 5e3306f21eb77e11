use Rattle.std.proofs.Common.{◌-◌, ◌≡◌}
use Rattle.station_hold.specs.Hold.{asked_from}
use Rattle.station_hold.proofs.apps_transmit_telegram.Given as goal

-- what asking on gives is what asking from the start gives
abbrev pub invariant-loop : goal.invariant-loop
invariant-loop l =
    asked_from l.poll.applications l.poll.bytes.now l.poll.applications l.initial.application l.initial.first_app l.high
    ≡ asked_from (l.poll.applications - l.counter) l.poll.bytes.now l.poll.applications l.application l.first_app l.high
