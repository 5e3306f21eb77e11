-- The first member met going down: the walk, distance by distance.
use Rattle.std.proofs.Common.{◌≡◌, ℕ, ◌+◌, ◌-◌, ◌<◌, ◌≤◌, Bool, true, false, sym, ap, ◌∙◌, arith}
use Rattle.ring_addresses.specs.Set.{down, walk, head_or, nearest}
use Rattle.ring_addresses.specs.SetLaws.{walk_stop, walk_pass, walk_end}

-- going down starts where it starts
pub down_start : (a : ℕ) → a < 126 → a ≡ down a (1 - 1)
down_start a l = omega arith

-- and goes on one address further
pub down_on : (a d x y : ℕ) → a < 126 → 1 ≤ d → d ≤ 126 → x ≡ down a (d - 1) → y ≡ down x 1 → y ≡ down a d
down_on a d x y l m n e q = q ∙ ap (λ (z : ℕ). down z 1) e ∙ step
  where
    step : down (down a (d - 1)) 1 ≡ down a d
    step = omega arith

-- the walk down from a has passed nobody before distance d
abbrev pub PassedNobody : (ℕ → Bool) → ℕ → ℕ → Type 0
PassedNobody f a d = walk f (down a) (126 - d) d ≡ walk f (down a) 125 1

pub member_met : (f : ℕ → Bool) (a d x : ℕ) → d < 126 → PassedNobody f a d → x ≡ down a d → f x ≡ true → x ≡ nearest false f a
unfolding nearest
member_met f a d x l p e h = e ∙ ap (head_or a) (sym (walk_stop f (down a) 126 d l (ap f (sym e) ∙ h)) ∙ p)

pub member_passed : (f : ℕ → Bool) (a d x : ℕ) → d < 126 → PassedNobody f a d → x ≡ down a d → f x ≡ false → PassedNobody f a (d + 1)
member_passed f a d x l p e h = sym (walk_pass f (down a) 126 d l (ap f (sym e) ∙ h)) ∙ p

pub all_passed : (f : ℕ → Bool) (a d : ℕ) → 126 ≤ d → PassedNobody f a d → a ≡ nearest false f a
unfolding nearest
all_passed f a d l p = ap (head_or a) (sym (walk_end f (down a) 126 d l) ∙ p)
