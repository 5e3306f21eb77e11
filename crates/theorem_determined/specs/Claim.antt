-- What "determined" says of a contract.
use Rattle.std.specs.Prelude.{◌≡◌}

-- a contract fixes the result: for the same arguments, any two results that it allows are equal.
-- `Post` is a function's contract as the checker reads it: of lifetimes, arguments, result and the parameters at exit.
-- A call that writes into a lent slice has a statement of its own beside these, on every byte that it leaves
abbrev pub Determined {ℓ κ} : {K : Type 0} {A R S : K → Type ℓ} → ((k : K) → A k → R k → S k → Type κ) → Type (ℓ ⊔ κ)
Determined {K} {A} {R} {S} Post = (k : K) (a : A k) (r₁ r₂ : R k) (s₁ s₂ : S k) → Post k a r₁ s₁ → Post k a r₂ s₂ → r₁ ≡ r₂

-- a contract of a call that something is lent to, as a station or a ring's tables, fixes the result and what it leaves there; `left`
-- takes it from the parameters at exit
abbrev pub DeterminedLent {ℓ κ} : {K : Type 0} {A R S : K → Type ℓ} {L : Type 0} → ((k : K) → A k → R k → S k → Type κ) → ((k : K) → S k → L) → Type (ℓ ⊔ κ)
DeterminedLent {K} {A} {R} {S} {L} Post left =
    (k : K) (a : A k) (r₁ r₂ : R k) (s₁ s₂ : S k) → Post k a r₁ s₁ → Post k a r₂ s₂ → (r₁ ≡ r₂) × (left k s₁ ≡ left k s₂)
