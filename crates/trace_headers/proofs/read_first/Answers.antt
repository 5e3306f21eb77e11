-- The fields read one by one are those of the header's number.
use Rattle.std.proofs.Common.{arith}
use Rattle.codec_slices.proofs.Parts.{bytes_known}
use Rattle.trace_headers.specs.declared.Edition.TheVariants.{First}
use Rattle.trace_headers.specs.Headers.{length_of}
use Rattle.trace_headers.specs.Laws.{made_in, read_in}
use Rattle.trace_headers.proofs.read_first.Goals as goal

pub returns : goal.returns
unfolding made_in length_of
returns c =
    let bytes = bytes_known c.args.bytes.now (λ i. omega (arith, c.type_inv.bytes i)) in
    rw (← read_in First c.args.bytes.now bytes c.requires) (simp (← c.field_at.ensures, ← c.field_at-2.ensures, ← c.field_at-3.ensures, ← c.field_at-4.ensures, ← c.field_at-5.ensures, ← c.field_at-6.ensures, ← c.field_at-7.ensures, ← c.field_at-8.ensures, ← c.field_at-9.ensures, ← c.field_at-10.ensures, ← c.field_at-11.ensures, ← c.field_at-12.ensures))
