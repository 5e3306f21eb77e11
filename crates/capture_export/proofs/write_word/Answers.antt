use Rattle.capture_export.specs.Laws.{word_skipped, word_written}
use Rattle.capture_export.proofs.write_word.Goals as goal

-- a telegram without a frame is skipped
pub returns-in_default-clause-text_after : goal.returns-in_default-clause-text_after
returns-in_default-clause-text_after c = (word_skipped c.args.time c.args.word c.in_default.ensures.value c.args.text.now).1

-- the frame that was written is the line's
pub returns-clause-value : goal.returns-clause-value
returns-clause-value c =
    (word_written c.args.time c.args.word c.in-Ok.ensures.value c.args.text.now c.write_frame.ensures.frame_after (c.write_line.ensures.value, c.write_line.ensures.text_after)).0

pub returns-clause-text_after : goal.returns-clause-text_after
returns-clause-text_after c =
    (word_written c.args.time c.args.word c.in-Ok.ensures.value c.args.text.now c.write_frame.ensures.frame_after (c.write_line.ensures.value, c.write_line.ensures.text_after)).1
