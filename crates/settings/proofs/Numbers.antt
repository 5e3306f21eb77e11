-- Document 01's number of each answer of the settings' calls is that of its rule.
use Rattle.std.specs.Prelude.{ℕ, true, cond, ◌≡◌, refl, [], ◌∷◌, eqb, Result, Ok, Err}
use Rattle.std.proofs.Common.{sym, arith, eqb-true}
use borrow.Author.Tests.{ne_eqb}
use borrow.Table.Steps.{cases}
use Rattle.refusals.specs.declared.refusal.Refusal.{Refusal}
use Rattle.refusals.specs.Refusals.{number_of, number_in, named, answered}
use Rattle.refusals.proofs.Numbers.{refused, named_back}
use Rattle.bit_times.specs.declared.baud.Baud.{Baud}
use Rattle.bit_times.specs.Times.{least_slot_bits, baud_of}
use Rattle.settings_watchdog.specs.Watchdog.{factors_of}
use Rattle.settings_watchdog.proofs.Laws.{factors_given}
use Rattle.settings.specs.declared.parameters.Parameters.{Parameters}
use Rattle.settings_rules.specs.Rules.{address_refusal, baud_refusal, slot_bits_refusal, hsa_refusal, rotation_refusal, gap_wait_refusal, retry_refusal, min_tsdr_refusal, watchdog_refusal, first_of}
use Rattle.settings_rules.proofs.Laws.{outside_in, Numbered, none_numbered, address_numbered, slot_bits_numbered, hsa_numbered, rotation_numbered, gap_wait_numbered, retry_numbered, min_tsdr_numbered, watchdog_numbered}
use Rattle.settings.specs.Settings.{created_number, changed_number, not_set, new_at, new_of, unless, slot_bits_of, hsa_of, rotation_of, gap_wait_of, retry_of, min_tsdr_of, watchdog_at, watchdog_of}

new_at_number : (address : ℕ) (coded : Result Baud Refusal) → created_number (new_at address coded) ≡ first_of (baud_refusal coded ∷ [])
unfolding new_at baud_refusal
new_at_number address (Ok baud) = refl
new_at_number address (Err e) = cases (eqb (number_of e) 0) (λ t. rw t (eqb-true _ _ t)) (λ f. rw f)

-- `new`: 1, then 10
pub new_number_lem : (address code : ℕ) → created_number (new_of address code) ≡ first_of (address_refusal address ∷ baud_refusal (baud_of code) ∷ [])
unfolding new_of Numbered answered
new_number_lem address code =
    cases (eqb (address_refusal address) 0) (λ t. rw t (new_at_number address (baud_of code))) (λ f. rw f (rw f at (address_numbered address)))

-- a setter whose rule refuses with n, or that sets the settings
pub unless_number : (n : ℕ) (p q : Parameters) → Numbered n → changed_number (unless n p (Ok q)) ≡ n
unfolding unless Numbered answered
unless_number n p q h = cases (eqb n 0) (λ t. rw t (sym (eqb-true n 0 t))) (λ f. rw f (rw f at h))

-- the number of an answer is such a number, whatever the answer; so of a rule that is a check of the code nothing is asked
pub answer_numbered : (checked : Result (Unit {0}) Refusal) → Numbered (number_in checked)
unfolding Numbered answered
answer_numbered (Ok x) = none_numbered
answer_numbered (Err e) = rw (ne_eqb (number_of e) 0 (refused e), named_back e) refl

pub unless_checked : (checked : Result (Unit {0}) Refusal) (p q : Parameters) → changed_number (unless (number_in checked) p (Ok q)) ≡ number_in checked
unless_checked checked p q = unless_number (number_in checked) p q (answer_numbered checked)

-- every time that the watchdog's rule takes has factors
watchdog_number : (p : Parameters) (ms : ℕ) → changed_number (watchdog_of p ms) ≡ watchdog_refusal ms
unfolding Numbered answered watchdog_of unless watchdog_at watchdog_refusal
watchdog_number p ms = cases (eqb (watchdog_refusal ms) 0) (λ t. taken t) (λ f. rw f (rw f at (watchdog_numbered ms)))
  where
    taken : eqb (watchdog_refusal ms) 0 ≡ true → changed_number (cond (eqb (watchdog_refusal ms) 0) (watchdog_at p (factors_of ms)) (not_set (named (watchdog_refusal ms)) p)) ≡ watchdog_refusal ms
    taken t =
        let range = outside_in 10 ms 650000 8 (omega arith) (eqb-true _ _ t) in
        let given = factors_given ms (omega (arith, range.0)) (omega (arith, range.1)) in
        rw (t, given.2) (sym (eqb-true _ _ t))

-- each setter answers its rule's number
pub setter_numbers :
    (p : Parameters) (v : ℕ) →
    (changed_number (slot_bits_of p v) ≡ slot_bits_refusal (least_slot_bits p.baudrate) v)
    × (changed_number (hsa_of p v) ≡ hsa_refusal p.address v)
    × (changed_number (rotation_of p v) ≡ rotation_refusal v)
    × (changed_number (gap_wait_of p v) ≡ gap_wait_refusal v)
    × (changed_number (retry_of p v) ≡ retry_refusal v)
    × (changed_number (min_tsdr_of p v) ≡ min_tsdr_refusal v)
    × (changed_number (watchdog_of p v) ≡ watchdog_refusal v)
unfolding slot_bits_of hsa_of rotation_of gap_wait_of retry_of min_tsdr_of
setter_numbers p v = (
  unless_number _ p _ (slot_bits_numbered _ v),
  unless_number _ p _ (hsa_numbered _ v),
  unless_number _ p _ (rotation_numbered v),
  unless_number _ p _ (gap_wait_numbered v),
  unless_number _ p _ (retry_numbered v),
  unless_number _ p _ (min_tsdr_numbered v),
  watchdog_number p v,
)
