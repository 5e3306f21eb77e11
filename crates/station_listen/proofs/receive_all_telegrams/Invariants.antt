use Rattle.std.proofs.Common.{◌≡◌, ◌+◌, ◌≤◌, length}
use Rattle.station_listen.proofs.Heard.{heard_in_turn}
use Rattle.station_listen.proofs.receive_all_telegrams.Given as goal

-- what is left makes of the station what all telegrams make of the first; there is room to count a collision for each that is left
abbrev pub invariant-loop-telegram : goal.invariant-loop-telegram
invariant-loop-telegram l =
    (heard_in_turn l.station l.all l.now l.listening l.telegram-iterator ≡ heard_in_turn l.initial.station l.initial.all l.now l.listening l.initial.telegram-iterator)
    × (l.all.met + length l.telegram-iterator ≤ 255)
