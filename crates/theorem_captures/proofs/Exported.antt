-- What an export writes: text within the room, over bytes that otherwise stay. The theorems have their statements here. Assumes
-- nothing.
use Rattle.std.specs.Prelude.{ℕ, zero, suc, ◌+◌, ◌-◌, ◌≤◌, ◌≡◌, List, [], ◌∷◌, length, take, drop, eqb}
use Rattle.std.proofs.Common.{arith, length-append}
use borrow.Table.Steps.{cases}
use Rattle.capture_export.specs.Export.{entry_fitted, entry_used, export_from, export_of, buffer_of}
use Rattle.capture_export.specs.Laws.{entry_small}
use Rattle.theorem_captures.proofs.Accepted.{stands}

text_small : (most : ℕ) (entries : List ℕ) (before room : ℕ) → length (export_from most entries before room).text ≤ room
unfolding export_from
text_small zero entries before room = omega arith
text_small (suc most) [] before room = omega arith
text_small (suc most) (kind ∷ rest) before room =
    let w = entry_fitted (kind ∷ rest) room in
    let small = entry_small (kind ∷ rest) room in
    let left = drop (entry_used kind) (kind ∷ rest) in
    let after = text_small most left (before + 1) (room - length w.bytes) in
    cases (eqb w.refusal 0)
    (λ a. rw a (omega (arith, length-append w.bytes (export_from most left (before + 1) (room - length w.bytes)).text)))
    (λ a. rw a small)

-- The text of every export has room, on refusals too
pub exported_within : (entries : List ℕ) (room : ℕ) → length (export_of entries room).text ≤ room
unfolding export_of
exported_within entries room = text_small (length entries) entries 0 room

-- The call leaves it at the start of the caller's slice, and every byte past it has the value that it had, on refusals too
pub exported_stands :
    (entries before : List ℕ)
    → let x = export_of entries (length before) in
    (take (length x.text) (buffer_of x before) ≡ x.text) × (drop (length x.text) (buffer_of x before) ≡ drop (length x.text) before)
unfolding buffer_of
exported_stands entries before = stands (export_of entries (length before)).text before
