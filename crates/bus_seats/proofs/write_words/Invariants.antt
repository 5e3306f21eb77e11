use Rattle.std.proofs.Common.{◌≡◌, length}
use Rattle.bus_seats.specs.Kept.{words_stored}
use Rattle.bus_seats.proofs.write_words.Given as goal

abbrev pub invariant-loop-j : goal.invariant-loop-j
invariant-loop-j l = (length l.bytes ≡ length l.initial.bytes) × (l.bytes ≡ words_stored l.initial.bytes l.waiting l.j)
