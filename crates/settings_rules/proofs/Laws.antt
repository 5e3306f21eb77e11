-- Laws of the rules: what they take and refuse, and the first refusal of a list. Assumes nothing.
use Rattle.std.specs.Prelude.{ℕ, ◌+◌, ◌<◌, ◌≤◌, Bool, true, false, cond, ◌&&◌, ◌≡◌, refl, List, ◌∷◌, ◌⊎◌, leb, eqb, Result, Ok, Err}
use Rattle.std.proofs.Common.{inl, inr, arith, le-leb, leb-true, eqb-true, ne_eqb}
use Rattle.std.proofs.lemmas.Bool.{eqb-false}
use borrow.Table.Steps.{cases}
use Rattle.refusals.specs.Refusals.{number_of, number_in, named, answered}
use Rattle.refusals.proofs.Numbers.{refused, named_back}
use Rattle.refusals.specs.declared.refusal.Refusal.{Refusal}
use Rattle.bit_times.specs.declared.baud.Baud.{Baud}
use Rattle.settings_rules.specs.Rules.{refuse_below, refuse_outside, address_refusal, slot_bits_refusal, hsa_refusal, rotation_refusal, room_refusal, gap_wait_refusal, retry_refusal, min_tsdr_refusal, watchdog_refusal, factors_refusal, applications_refusal, baud_refusal, first_of}

-- what is not refused lies in the range
pub below_in : (low v n : ℕ) → 0 < n → refuse_below low v n ≡ 0 → low ≤ v
unfolding refuse_below
below_in low v n l e = by (leb low v) refl
  where
    by : (t : Bool) → leb low v ≡ t → low ≤ v
    by true h = leb-true _ _ h
    by false h =
        let s : n ≡ 0 = rw h at e in
        absurd (omega arith)

pub outside_in : (low v high n : ℕ) → 0 < n → refuse_outside low v high n ≡ 0 → (low ≤ v) × (v ≤ high)
unfolding refuse_outside
outside_in low v high n l e = by (leb low v) (leb v high) refl refl
  where
    none : n ≡ 0 → (low ≤ v) × (v ≤ high)
    none s = absurd (omega arith)

    by : (t u : Bool) → leb low v ≡ t → leb v high ≡ u → (low ≤ v) × (v ≤ high)
    by true true h k = (leb-true _ _ h, leb-true _ _ k)
    by true false h k = none (rw (h, k) at e)
    by false u h k = none (rw h at e)

-- and what lies in the range is not refused
pub in_below : (low v n : ℕ) → low ≤ v → refuse_below low v n ≡ 0
unfolding refuse_below
in_below low v n h = rw (le-leb low v h)

pub in_outside : (low v high n : ℕ) → (low ≤ v) × (v ≤ high) → refuse_outside low v high n ≡ 0
unfolding refuse_outside
in_outside low v high n h = rw (le-leb low v h.0, le-leb v high h.1)

-- a rule answers 0 or its number
pub below_number : (low v n : ℕ) → (refuse_below low v n ≡ 0) ⊎ (refuse_below low v n ≡ n)
unfolding refuse_below
below_number low v n = by (leb low v)
  where
    by : (t : Bool) → (cond t 0 n ≡ 0) ⊎ (cond t 0 n ≡ n)
    by true = inl refl
    by false = inr refl

pub outside_number : (low v high n : ℕ) → (refuse_outside low v high n ≡ 0) ⊎ (refuse_outside low v high n ≡ n)
unfolding refuse_outside
outside_number low v high n = by (leb low v && leb v high)
  where
    by : (t : Bool) → (cond t 0 n ≡ 0) ⊎ (cond t 0 n ≡ n)
    by true = inl refl
    by false = inr refl

-- The first refusal of a list.

-- where there is none, the rule at its head refuses nothing, and none of the rest does
pub none_refuses : (n : ℕ) (rest : List ℕ) → first_of (n ∷ rest) ≡ 0 → (n ≡ 0) × (first_of rest ≡ 0)
none_refuses n rest e = cases (eqb n 0) (λ t. (eqb-true n 0 t, rw t at e)) (λ f. absurd (eqb-false n 0 f (rw f at e)))

-- what holds of the head and of the first of the rest holds of the first of both
pub first_has : (P : ℕ → Type 0) (n : ℕ) (rest : List ℕ) → P n → P (first_of rest) → P (first_of (n ∷ rest))
first_has P n rest l r = cases (eqb n 0) (λ t. rw t r) (λ f. rw f l)

-- The number of a refusal.

-- a number that a refusal has, or 0: an answer by this number has it
unfoldable pub Numbered : ℕ → Type 0
Numbered n = number_in {A = Unit {0}} (answered n tt) ≡ n

pub none_numbered : Numbered 0
unfolding Numbered answered
none_numbered = refl

-- a rule that refuses with such a number gives such a number
pub below_numbered : (low v n : ℕ) → Numbered n → Numbered (refuse_below low v n)
unfolding Numbered answered refuse_below
below_numbered low v n h = cases (leb low v) (λ t. rw t refl) (λ f. rw f h)

pub outside_numbered : (low v high n : ℕ) → Numbered n → Numbered (refuse_outside low v high n)
unfolding Numbered answered refuse_outside
outside_numbered low v high n h = cases (leb low v && leb v high) (λ t. rw t refl) (λ f. rw f h)

pub address_numbered : (address : ℕ) → Numbered (address_refusal address)
unfolding Numbered answered named address_refusal
address_numbered address = outside_numbered 0 address 125 1 refl

pub slot_bits_numbered : (least v : ℕ) → Numbered (slot_bits_refusal least v)
unfolding Numbered answered named slot_bits_refusal
slot_bits_numbered least v = below_numbered least v 2 refl

pub hsa_numbered : (address v : ℕ) → Numbered (hsa_refusal address v)
unfolding Numbered answered named hsa_refusal
hsa_numbered address v = outside_numbered (address + 1) v 126 3 refl

pub rotation_numbered : (v : ℕ) → Numbered (rotation_refusal v)
unfolding Numbered answered named rotation_refusal
rotation_numbered v = outside_numbered 256 v 16777960 4 refl

pub room_numbered : (slot rotation : ℕ) → Numbered (room_refusal slot rotation)
unfolding Numbered answered named room_refusal
room_numbered slot rotation = below_numbered (slot + 100) rotation 25 refl

pub gap_wait_numbered : (v : ℕ) → Numbered (gap_wait_refusal v)
unfolding Numbered answered named gap_wait_refusal
gap_wait_numbered v = outside_numbered 1 v 100 5 refl

pub retry_numbered : (v : ℕ) → Numbered (retry_refusal v)
unfolding Numbered answered named retry_refusal
retry_numbered v = outside_numbered 1 v 15 6 refl

pub min_tsdr_numbered : (v : ℕ) → Numbered (min_tsdr_refusal v)
unfolding Numbered answered named min_tsdr_refusal
min_tsdr_numbered v = below_numbered 11 v 7 refl

pub watchdog_numbered : (ms : ℕ) → Numbered (watchdog_refusal ms)
unfolding Numbered answered named watchdog_refusal
watchdog_numbered ms = outside_numbered 10 ms 650000 8 refl

pub applications_numbered : (n : ℕ) → Numbered (applications_refusal n)
unfolding Numbered answered named applications_refusal
applications_numbered n = outside_numbered 1 n 8 11 refl

pub factors_numbered : (f1 f2 : ℕ) → Numbered (factors_refusal f1 f2)
unfolding Numbered answered named factors_refusal
factors_numbered f1 f2 = cases (eqb f1 0) (λ a. cases (eqb f2 0) (λ b. rw (a, b) refl) (λ b. rw (a, b) refl)) (λ a. cases (eqb f2 0) (λ b. rw (a, b) refl) (λ b. rw (a, b) refl))

pub baud_numbered : (x : Result Baud Refusal) → Numbered (baud_refusal x)
unfolding Numbered answered baud_refusal
baud_numbered (Ok baud) = refl
baud_numbered (Err e) = rw (ne_eqb (number_of e) 0 (refused e), named_back e) refl
