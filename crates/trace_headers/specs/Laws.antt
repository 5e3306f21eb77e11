-- What the calls lean on: fields read one after the other are the fields of the header's number. Assumes nothing.
use Rattle.std.specs.Prelude.{ℕ, ◌+◌, ◌*◌, ◌≡◌, refl, List, [], ◌∷◌, length, get_or}
use Rattle.std.proofs.Common.{ap, arith, lit≤}
use Rattle.codec_fields.specs.Fields.{total, Bytes}
use Rattle.codec_slices.specs.Slices.{fields_from, Short}
use Rattle.codec_slices.proofs.Round.{fields_are}
use Rattle.trace_headers.specs.declared.Header.{Header}
use Rattle.trace_headers.specs.declared.Edition.{Edition}
use Rattle.trace_headers.specs.declared.Edition.TheVariants.{First, Second}
use Rattle.trace_headers.specs.Headers.{widths_of, length_of, plain_header, header_in}

-- the widths fill the edition's bytes, each field in at most 57 bits
pub widths_fill : (e : Edition) → total (widths_of e) ≡ 8 * length_of e
unfolding length_of
widths_fill First = refl
widths_fill Second = refl

pub widths_short : (e : Edition) → Short (widths_of e)
widths_short First =
    (lit≤ tt, (lit≤ tt, (lit≤ tt, (lit≤ tt, (lit≤ tt, (lit≤ tt, (lit≤ tt, (lit≤ tt, (lit≤ tt, (lit≤ tt, (lit≤ tt, (lit≤ tt, tt))))))))))))
widths_short Second =
    (lit≤ tt, (lit≤ tt, (lit≤ tt, (lit≤ tt, (lit≤ tt, (lit≤ tt, (lit≤ tt, (lit≤ tt, (lit≤ tt, (lit≤ tt, (lit≤ tt, (lit≤ tt, (lit≤ tt, tt)))))))))))))

-- the header of its fields' values
unfoldable pub made_in : Edition → List ℕ → Header
made_in First vs =
    plain_header (get_or vs 0 0) (get_or vs 1 0) (get_or vs 2 0) (get_or vs 3 0) (get_or vs 4 0) (get_or vs 5 0) (get_or vs 6 0) (get_or vs 7 0) (get_or vs 8 0) (get_or vs 9 0) (get_or vs 10 0) (get_or vs 11 0)
made_in Second vs =
    plain_header (get_or vs 1 0) (get_or vs 2 0) (get_or vs 3 0) (get_or vs 4 0) (get_or vs 5 0) (get_or vs 6 0) (get_or vs 7 0) (get_or vs 8 0) (get_or vs 9 0 + 1) (get_or vs 10 0) (get_or vs 11 0) (get_or vs 12 0)

-- a header's bytes read field by field
pub read_in : (e : Edition) (s : List ℕ) → Bytes s → length s ≡ length_of e → made_in e (fields_from 0 (widths_of e) s) ≡ header_in e s
unfolding header_in made_in
read_in First s bytes l = ap (made_in First) (fields_are 0 (widths_of First) s bytes (widths_short First) (rw l (widths_fill First)))
read_in Second s bytes l = ap (made_in Second) (fields_are 0 (widths_of Second) s bytes (widths_short Second) (rw l (widths_fill Second)))

-- no bytes begin with 0
pub first_of_none : (s : List ℕ) → length s ≡ 0 → get_or s 0 0 ≡ 0
first_of_none [] e = refl
first_of_none (b ∷ s) e = absurd (omega (arith, e))
