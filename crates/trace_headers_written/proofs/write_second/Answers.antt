-- The fields are written one after the other: each call by what it ensures, the last first.
use Rattle.std.proofs.Common.{rules}
use Rattle.codec_slices.proofs.Parts.{bytes_known}
use Rattle.trace_headers.specs.declared.Edition.TheVariants.{Second}
use Rattle.trace_headers.specs.Headers.{length_of}
use Rattle.trace_headers_written.specs.Laws.{written_in}
use Rattle.trace_headers_written.proofs.write_second.Goals as goal

pub returns : goal.returns
unfolding length_of
returns c =
    let bytes = bytes_known c.args.out.now (λ i. search rules) in
    rw (c.put_at-13.ensures, c.put_at-12.ensures, c.put_at-11.ensures, c.put_at-10.ensures, c.saturating_sub.ensures, c.put_at-9.ensures, c.put_at-8.ensures, c.put_at-7.ensures, c.put_at-6.ensures, c.put_at-5.ensures, c.put_at-4.ensures, c.put_at-3.ensures, c.put_at-2.ensures, c.put_at.ensures)
    (written_in Second c.args.header c.args.out.now bytes c.requires)
