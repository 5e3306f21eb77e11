-- The ring's members kept as links: two tables, the member after each address and the member before it, one after the other in one
-- list.
use Rattle.std.specs.Prelude.{ℕ, zero, suc, ◌+◌, ◌-◌, Bool, true, false, cond, not, List, [], ◌∷◌, get_or, set, ltb, eqb}
use Rattle.ring_addresses.specs.Set.{nearest}

-- the member after x in the tables, and the member before it
abbrev pub after : List ℕ → ℕ → ℕ
after l x = get_or l x 0

abbrev pub before : List ℕ → ℕ → ℕ
before l x = get_or l (126 + x) 0

-- `member`: is a in the tables; nobody above 125 is
unfoldable pub listed : List ℕ → ℕ → Bool
listed l a = cond (ltb a 126) (not (eqb (after l a) 127)) false

-- what the tables of a set hold at x: the member after it and the member before it; document 02's 127 for a non-member
unfoldable pub after_of : (ℕ → Bool) → ℕ → ℕ
after_of f x = cond (f x) (nearest true f x) 127

unfoldable pub before_of : (ℕ → Bool) → ℕ → ℕ
before_of f x = cond (f x) (nearest false f x) 127

-- entry i of the tables of a set, which stand one after the other
unfoldable pub link_at : (ℕ → Bool) → ℕ → ℕ
link_at f i = cond (ltb i 126) (after_of f i) (before_of f (i - 126))

-- a function's values at i, i + 1, .., n of them
unfoldable pub tab : (ℕ → ℕ) → ℕ → ℕ → List ℕ
tab f zero i = []
tab f (suc n) i = f i ∷ tab f n (suc i)

-- the tables of a set
unfoldable pub links_of : (ℕ → Bool) → List ℕ
links_of f = tab (link_at f) 252 0

-- the tables with u after x and v before y
abbrev pub put : List ℕ → ℕ → ℕ → ℕ → ℕ → List ℕ
put l x u y v = set (set l x u) (126 + y) v

-- y comes after x, and x before y
unfoldable pub link_of : List ℕ → ℕ → ℕ → List ℕ
link_of l x y = put l x y y x

-- a is taken out: who was before it and who was after it are linked, and it holds 127 twice. Of a non-member nothing changes
unfoldable pub unlink_of : List ℕ → ℕ → List ℕ
unlink_of l a =
    cond (ltb (after l a) 126) (cond (ltb (before l a) 126) (put (link_of l (before l a) (after l a)) a 127 a 127) l) l

-- a comes between p and the one after p
unfoldable pub behind_of : List ℕ → ℕ → ℕ → List ℕ
behind_of l p a = cond (ltb (after l p) 126) (link_of (link_of l p a) a (after l p)) l

-- a is put in, behind the first member going down from it. Of a member nothing changes
unfoldable pub insert_of : List ℕ → ℕ → List ℕ
insert_of l a = cond (listed l a) l (behind_of l (nearest false (listed l) a) a)

-- who stands between p and d goes, but for own: whoever comes after p is taken out until that is d; own is passed over. No more
-- than k are looked at
unfoldable pub sweep_of : ℕ → ℕ → ℕ → ℕ → List ℕ → List ℕ
sweep_of own d zero p l = l
sweep_of own d (suc k) p l =
    cond (ltb (after l p) 126)
    (cond (eqb (after l p) d) l (cond (eqb (after l p) own) (sweep_of own d k (after l p) l) (sweep_of own d k p (unlink_of l (after l p)))))
    l

-- the tables after a pass from s to d: both are put in, and who stands between them goes
unfoldable pub relink_of : ℕ → List ℕ → ℕ → ℕ → List ℕ
relink_of own l s d = cond (eqb s d) (insert_of l s) (sweep_of own d 126 s (insert_of (insert_of l s) d))

-- does d come after s, or own, which a pass does not take out, and d after own
unfoldable pub follows_of : ℕ → List ℕ → ℕ → ℕ → Bool
follows_of own l s d =
    cond (eqb (after l s) d) true (cond (eqb (after l s) own) (cond (ltb own 126) (eqb (after l own) d) false) false)

-- do the links say already that the token goes from s to d: d follows s; s is a member, where it keeps the token
unfoldable pub confirms_of : ℕ → List ℕ → ℕ → ℕ → Bool
confirms_of own l s d = cond (eqb s d) (listed l s) (follows_of own l s d)
