-- What the call leans on: fields written one after the other are the fields of the header's number. Assumes nothing.
use Rattle.std.specs.Prelude.{ℕ, ◌≡◌, refl, List, length}
use Rattle.std.proofs.Common.{ap, ◌∙◌}
use Rattle.codec_fields.specs.Fields.{pack, low_bytes, Bytes}
use Rattle.codec_fields.proofs.Laws.{bytes_low, low_length}
use Rattle.codec_slices.specs.Slices.{put_from}
use Rattle.codec_slices.proofs.Round.{filled}
use Rattle.trace_headers.specs.declared.Header.{Header}
use Rattle.trace_headers.specs.declared.Edition.{Edition}
use Rattle.trace_headers.specs.declared.Edition.TheVariants.{First, Second}
use Rattle.trace_headers.specs.Headers.{widths_of, length_of}
use Rattle.trace_headers.specs.Laws.{widths_fill, widths_short}
use Rattle.trace_headers_written.specs.HeaderBytes.{values_in, header_bytes}

-- there are as many values as widths
values_many : (e : Edition) (h : Header) → length (widths_of e) ≡ length (values_in e h)
values_many First h = refl
values_many Second h = refl

-- a header's bytes written field by field
pub written_in : (e : Edition) (h : Header) (s : List ℕ) → Bytes s → length s ≡ length_of e → put_from 0 (widths_of e) (values_in e h) s ≡ header_bytes e h
unfolding header_bytes
written_in e h s bytes l =
    filled (widths_of e) (values_in e h) s bytes (widths_short e) (values_many e h) (rw l (widths_fill e))
    ∙ ap (λ (n : ℕ). low_bytes n (pack (widths_of e) (values_in e h))) l

-- they are as many as the edition has
pub header_bytes_length : (e : Edition) (h : Header) → length (header_bytes e h) ≡ length_of e
unfolding header_bytes
header_bytes_length e h = low_length (length_of e) (pack (widths_of e) (values_in e h))

-- a header's bytes are bytes
pub written_bytes : (e : Edition) (h : Header) → Bytes (header_bytes e h)
unfolding header_bytes
written_bytes e h = bytes_low (length_of e) (pack (widths_of e) (values_in e h))
