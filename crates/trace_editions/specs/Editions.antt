-- A trace's header moved to the other edition (request P9). Assumes nothing.
use Rattle.std.specs.Prelude.{ℕ, ◌*◌, List, cond, length, eqb, ltb}
use Rattle.trace_headers.specs.declared.Edition.{Edition}
use Rattle.trace_headers.specs.declared.Edition.TheVariants.{First, Second}
use Rattle.trace_headers.specs.Headers.{edition_of, length_of, header_length, header_of, header_refusal}
use Rattle.trace_headers_written.specs.HeaderBytes.{header_into}

-- the other edition
unfoldable pub other_than : Edition → Edition
other_than First = Second
other_than Second = First

-- why a lent header is not taken: 17 where the bytes end inside it, then its first refusal
unfoldable pub lent_refusal : List ℕ → ℕ
lent_refusal header = cond (ltb (length header) (header_length header)) 17 (header_refusal (header_of header))

-- the bytes of the other edition
abbrev pub other_length : List ℕ → ℕ
other_length header = length_of (other_than (edition_of header))

-- why a header is not moved into so many bytes of room: as it is not taken, then 18 where they are too few
unfoldable pub move_refusal : List ℕ → ℕ → ℕ
move_refusal header room = cond (eqb (lent_refusal header) 0) (cond (ltb room (other_length header)) 18 0) (lent_refusal header)

-- what the call returns: bytes written × 256, or the refusal
unfoldable pub move_number : List ℕ → ℕ → ℕ
move_number header room = cond (eqb (move_refusal header room) 0) (other_length header * 256) (move_refusal header room)

-- what it leaves in the lent slice: the header in the other edition, and past it what was there; refused, all of what was there
unfoldable pub move_into : List ℕ → List ℕ → List ℕ
move_into header out = cond (eqb (move_refusal header (length out)) 0) (header_into out (other_than (edition_of header)) (header_of header)) out
