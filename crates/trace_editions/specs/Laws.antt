-- What the call leans on: a move by its cases. Assumes nothing.
use Rattle.std.specs.Prelude.{ℕ, ◌*◌, ◌<◌, ◌≤◌, ◌≡◌, List, length}
use borrow.Author.Tests.{eq-eqb, ne_eqb, lt-ltb, le-ltb}
use Rattle.trace_headers.specs.Headers.{edition_of, header_of}
use Rattle.trace_headers_written.specs.HeaderBytes.{header_into}
use Rattle.trace_editions.specs.Editions.{other_than, lent_refusal, other_length, move_refusal, move_number, move_into}

module _ (header out : List ℕ) where
  -- a header that is not taken is not moved: its number, and nothing written
  pub move_refused : (lent_refusal header ≡ 0 → ⊥) → (lent_refusal header ≡ move_number header (length out)) × (out ≡ move_into header out)
  unfolding move_number move_into move_refusal
  move_refused h = let e = ne_eqb (lent_refusal header) 0 h in (simp e, simp e)

  -- nor is one without room
  pub move_no_room : lent_refusal header ≡ 0 → length out < other_length header → (18 ≡ move_number header (length out)) × (out ≡ move_into header out)
  unfolding move_number move_into move_refusal
  move_no_room h l = let e = eq-eqb (lent_refusal header) 0 h in let f = lt-ltb _ _ l in (simp (e, f), simp (e, f))

  -- every other is
  pub move_done :
      lent_refusal header ≡ 0
      → other_length header ≤ length out
      → (other_length header * 256 ≡ move_number header (length out))
      × (header_into out (other_than (edition_of header)) (header_of header) ≡ move_into header out)
  unfolding move_number move_into move_refusal
  move_done h l = let e = eq-eqb (lent_refusal header) 0 h in let f = le-ltb _ _ l in (simp (e, f), simp (e, f))
