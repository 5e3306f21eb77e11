use Rattle.std.specs.Slice.Iter.{chunks_exact_rest, chunks_exact_size}
use Rattle.std.proofs.Common.{◌≡◌}
use Rattle.capture_lines.specs.Laws.{Paired}
use Rattle.capture_lines.proofs.read_pairs.Given as goal

abbrev pub invariant-loop-pair : goal.invariant-loop-pair
invariant-loop-pair l =
    (chunks_exact_size l.pair-iterator ≡ 2) × Paired l.text l.initial.frame l.frame (chunks_exact_rest l.pair-iterator) l.count
