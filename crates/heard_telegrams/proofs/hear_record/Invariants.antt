use Rattle.std.specs.Prelude.{◌≡◌, length}
use Rattle.heard_telegrams.proofs.Listed.{hear_listed}
use Rattle.heard_telegrams.proofs.hear_record.Given as goal

-- the telegrams that are left make of the table what all of them make of the first
abbrev pub invariant-loop-telegram : goal.invariant-loop-telegram
invariant-loop-telegram l =
    (length l.table ≡ length l.initial.table)
    × (hear_listed l.table l.clock l.telegram-iterator ≡ hear_listed l.initial.table l.clock l.initial.telegram-iterator)
