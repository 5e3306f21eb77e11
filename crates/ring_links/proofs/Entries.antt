-- The two tables of a ring as the one list that its definitions speak of: the entry of an address, and a change of one entry of each.
use Rattle.std.proofs.Common.{◌≡◌, ℕ, ◌+◌, ◌<◌, List, ◌++◌, length, get_or, set, arith, ◌∙◌, ap, length-set, refl, sym, take}
use Rattle.std.proofs.Math.ListN.{replicate}
use Rattle.std.proofs.lemmas.List.{get_or_append_left, get_or-append_right, set-append_left, set-append_right, take_at}

pub entry_after : (next previous : List ℕ) (a : ℕ) → length next ≡ 126 → a < 126 → get_or (next ++ previous) a 0 ≡ get_or next a 0
entry_after next previous a e l = get_or_append_left next previous 0 a (omega arith)

pub entry_before : (next previous : List ℕ) (a : ℕ) → length next ≡ 126 → get_or (next ++ previous) (126 + a) 0 ≡ get_or previous a 0
entry_before next previous a e = get_or-append_right next previous 126 (126 + a) 0 e (omega arith) ∙ ap (λ i. get_or previous i 0) (omega arith)

pub linked : (next previous : List ℕ) (x u y v : ℕ) → length next ≡ 126 → x < 126 → set (set (next ++ previous) x u) (126 + y) v ≡ set next x u ++ set previous y v
linked next previous x u y v e l =
    ap (λ t. set t (126 + y) v) (set-append_left next previous x u (omega arith))
    ∙ set-append_right (set next x u) previous 126 (126 + y) v (length-set next x u ∙ e) (omega arith)
    ∙ ap (λ i. set next x u ++ set previous i v) (omega arith)

-- nobody is in tables that hold 127 everywhere
pub nobody_in : replicate {A = ℕ} 126 127 ++ replicate {A = ℕ} 126 127 ≡ replicate 252 127
nobody_in = refl

-- the first table is what stands in front
pub first_table : (next previous : List ℕ) → length next ≡ 126 → next ≡ take 126 (next ++ previous)
first_table next previous e = sym (take_at next previous 126 e)
