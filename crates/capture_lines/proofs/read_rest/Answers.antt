use Rattle.std.proofs.Common.{replicate, refl, arith}
use Rattle.capture_lines.proofs.Laws.{rest_ended}
use Rattle.capture_lines.proofs.read_rest.Goals as goal

-- what the frame's bytes say is what the line says
pub returns : goal.returns
returns c =
    rest_ended c.args.text.now c.args.time c.args.begun c.read_pairs-count.ensures.value c.if-count-eq0.false (omega arith) c.if-text-end-ne-LINE_FEED.false
    (replicate 255 0) refl c.read_pairs-count.ensures.frame_after (λ h. omega (arith, c.min.ensures)) (λ h. omega (arith, c.min.ensures)) c.read_frame-read.ensures c.line_said.ensures
