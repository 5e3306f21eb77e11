-- Settings finished: what `finish` answers of settings as calls make them (`Finishes`), that the order of setting does not matter
-- (`EitherOrder`), and the site's case.
use Rattle.std.specs.Prelude.{ℕ, ◌+◌, ◌<◌, ◌≤◌, true, false, ◌≡◌, refl, leb, eqb, Result, Ok, Err}
use Rattle.std.proofs.Common.{sym, ap, ◌∙◌, arith, eqb-true, le-leb, leb-true, leb-false}
use Rattle.std.proofs.lemmas.Bool.{lt-leb}
use borrow.Table.Steps.{cases}
use Rattle.refusals.specs.declared.refusal.Refusal.{Refusal}
use Rattle.refusals.specs.declared.refusal.Refusal.TheVariants.{NoRoomForGapPoll}
use Rattle.refusals.specs.Refusals.{number_in, named}
use Rattle.bit_times.specs.declared.baud.Baud.{Baud}
use Rattle.bit_times.specs.Times.{baud_of}
use Rattle.bit_times.proofs.Laws.{listed}
use Rattle.settings.specs.declared.parameters.Parameters.{Parameters}
use Rattle.settings.specs.declared.not_set.NotSet.{NotSet}
use Rattle.settings_rules.specs.Rules.{refuse_below, refuse_outside, address_refusal, baud_refusal, slot_bits_refusal, hsa_refusal, rotation_refusal, room_refusal, gap_wait_refusal, retry_refusal, min_tsdr_refusal, factors_refusal}
use Rattle.settings_rules.proofs.Laws.{Numbered, slot_bits_numbered, hsa_numbered, rotation_numbered, room_numbered}
use Rattle.settings.specs.Settings.{not_set, changed_number, changed_settings, default_of, new_at, new_of, unless, slot_bits_of, hsa_of, rotation_of, gap_wait_of}
use Rattle.settings.specs.Made.{MadeSettings, by_new}
use Rattle.settings.proofs.Made.{made_sound}
use Rattle.settings.proofs.Numbers.{unless_number, answer_numbered}
use Rattle.settings_build.specs.declared.plain.PlainSettings.{PlainSettings}
use Rattle.settings_build.specs.Build.{early_refusal, first_refusal, plain_of, finish_of}
use Rattle.settings_build.specs.Built.{Built}
use Rattle.settings_build.proofs.Built.{built_passes}
use Rattle.settings_build.specs.Made.{room_of}
use Rattle.settings_build.proofs.Made.{sound_number}
use Rattle.settings_build.specs.Finish.{EitherOrder, Finishes, site}

-- an accepted answer is not a refused one
not_both : (refusal : Refusal) (p q : Parameters) → ◌≡◌ {A = Result Parameters NotSet} (Ok p) (not_set refusal q) → ⊥
not_both refusal p q e = let z : ◌≡◌ {A = ℕ} 0 1 = cc in omega arith

-- what the check of a whole record accepts is finished as it is
pub passed_finishes : (p : Parameters) → first_refusal (plain_of p) ≡ 0 → finish_of p ≡ Ok p
unfolding finish_of unless
passed_finishes p e = rw e refl

-- and what is finished was accepted by it, and is as it was
pub finished_passes : (p q : Parameters) → finish_of p ≡ Ok q → (first_refusal (plain_of p) ≡ 0) × (p ≡ q)
unfolding finish_of unless
finished_passes p q e =
    cases (eqb (first_refusal (plain_of p)) 0) (λ t. (eqb-true _ _ t, same (rw t at e))) (λ f. absurd (not_both _ q p (sym (rw f at e))))
  where
    same : ◌≡◌ {A = Result Parameters NotSet} (Ok p) (Ok q) → p ≡ q
    same s = cc

-- so the settings that `build` makes, a header's among them, are finished
pub built_finished : (f : PlainSettings) (p : Parameters) → Built f p → finish_of p ≡ Ok p
built_finished f p b = passed_finishes p (built_passes f p b)

-- of settings that `new` and accepted setters made, finishing asks rule 25 alone
pub made_finish : {p : Parameters} → MadeSettings p → finish_of p ≡ unless (room_of p) p (Ok p)
unfolding finish_of
made_finish {p} m = ap (λ (n : ℕ). unless n p (Ok p)) (sound_number p (made_sound m))

-- rule 25 by the numbers
with_room : (slot rotation : ℕ) → slot + 100 ≤ rotation → room_refusal slot rotation ≡ 0
unfolding room_refusal refuse_below
with_room slot rotation h = rw (le-leb (slot + 100) rotation h) refl

without_room : (slot rotation : ℕ) → rotation < slot + 100 → room_refusal slot rotation ≡ 25
unfolding room_refusal refuse_below
without_room slot rotation h = rw (lt-leb (slot + 100) rotation h) refl

-- settings that `new` and accepted setters made are finished, or refused with 25: no other number can come
pub made_finishes : {p : Parameters} → MadeSettings p → Finishes p
unfolding named unless
made_finishes {p} m = cases (leb (p.slot_bits + 100) p.token_rotation_bits) (λ t. roomy (leb-true _ _ t)) (λ f. narrow (leb-false _ _ f))
  where
    roomy : p.slot_bits + 100 ≤ p.token_rotation_bits → Finishes p
    roomy h =
        let is : finish_of p ≡ Ok p = rw (with_room _ _ h) at (made_finish m) in
        record { accepted = (λ e. h, λ l. is); refused = (λ e. absurd (not_both NoRoomForGapPoll p p (sym is ∙ e)), λ l. absurd (omega arith)) }

    narrow : p.token_rotation_bits < p.slot_bits + 100 → Finishes p
    narrow h =
        let is : finish_of p ≡ not_set NoRoomForGapPoll p = rw (without_room _ _ h) at (made_finish m) in
        record { accepted = (λ e. absurd (not_both NoRoomForGapPoll p p (sym e ∙ is)), λ l. absurd (omega arith)); refused = (λ e. h, λ l. is) }

-- New settings are finished at every baud code: their rotation is 32,436, their slot bits at most 1000.
default_finished : (address : ℕ) (coded : Result Baud Refusal) (p : Parameters) → new_at address coded ≡ Ok p → p.slot_bits + 100 ≤ p.token_rotation_bits
unfolding new_at
default_finished address (Ok b) p e =
    let is : default_of address b ≡ p = cc in
    rw (← is) (omega (arith, (listed b).slot_top))
default_finished address (Err refusal) p e = let z : ◌≡◌ {A = ℕ} 0 1 = cc in absurd (omega arith)

pub new_finished : (address code : ℕ) (p : Parameters) → new_of address code ≡ Ok p → finish_of p ≡ Ok p
unfolding new_of
new_finished address code p e =
    (made_finishes (by_new address code e)).accepted.1
    (cases (eqb (address_refusal address) 0) (λ t. default_finished address (baud_of code) p (rw t at e)) (λ f. refused (rw f at e)))
  where
    refused : ◌≡◌ {A = Result Parameters Refusal} (Err (named (address_refusal address))) (Ok p) → p.slot_bits + 100 ≤ p.token_rotation_bits
    refused s = let z : ◌≡◌ {A = ℕ} 0 1 = cc in absurd (omega arith)

-- Order of setting: however two records were made, by whatever setters in whatever order, if they have the same slot bits and rotation
-- they finish with the same number; the same record finishes alike.
pub made_finish_alike :
    {p q : Parameters}
    → MadeSettings p
    → MadeSettings q
    → p.slot_bits ≡ q.slot_bits
    → p.token_rotation_bits ≡ q.token_rotation_bits
    → changed_number (finish_of p) ≡ changed_number (finish_of q)
made_finish_alike {p} {q} m n s r =
    ap changed_number (made_finish m)
    ∙ unless_number (room_of p) p p (room_numbered _ _)
    ∙ ap (λ (x : ℕ). room_refusal x p.token_rotation_bits) s
    ∙ ap (room_refusal q.slot_bits) r
    ∙ sym (ap changed_number (made_finish n) ∙ unless_number (room_of q) q q (room_numbered _ _))

-- the settings that a setter leaves, which is one rule and what it sets
abbrev settled : ℕ → Parameters → Parameters → Parameters
settled n p q = changed_settings (unless n p (Ok q))

set_taken : {n m : ℕ} (p q : Parameters) → n ≡ m → eqb m 0 ≡ true → settled n p q ≡ q
unfolding unless
set_taken p q s e = rw (s, e) refl

set_refused : {n m : ℕ} (p q : Parameters) → n ≡ m → eqb m 0 ≡ false → settled n p q ≡ p
unfolding unless
set_refused p q s e = rw (s, e) refl

-- what a setter leaves alone is the same after it
kept_by : (n : ℕ) (p q : Parameters) (f : Parameters → ℕ) → f q ≡ f p → f (settled n p q) ≡ f p
kept_by n p q f e = cases (eqb n 0) (λ t. ap f (set_taken p q refl t) ∙ e) (λ t. ap f (set_refused p q refl t))

-- two setters, each one rule and what it sets: if neither sets what the other's rule asks, and both set the same in either order, their
-- order does not matter
module _ (rule other : Parameters → ℕ) (numbered : (q : Parameters) → Numbered (rule q)) (others : (q : Parameters) → Numbered (other q)) (set put : Parameters → Parameters) (p : Parameters) where
  abbrev one : Parameters → Result Parameters NotSet
  one q = unless (rule q) q (Ok (set q))

  abbrev two : Parameters → Result Parameters NotSet
  two q = unless (other q) q (Ok (put q))

  either_order : rule (put p) ≡ rule p → other (set p) ≡ other p → put (set p) ≡ set (put p) → EitherOrder one two p
  either_order r o c =
      record {
        same_number = unless_number (rule p) p (set p) (numbered p) ∙ sym (unless_number (rule after_two) after_two (set after_two) (numbered after_two) ∙ kept_by (other p) p (put p) rule r);
        same_other = unless_number (other after_one) after_one (put after_one) (others after_one) ∙ kept_by (rule p) p (set p) other o ∙ sym (unless_number (other p) p (put p) (others p));
        same_settings = same;
        same_finish = ap finish_of same;
      }
    where
      after_one : Parameters
      after_one = changed_settings (one p)

      after_two : Parameters
      after_two = changed_settings (two p)

      then_one : {q q' : Parameters} → q ≡ q' → changed_settings (one q) ≡ changed_settings (one q')
      then_one e = ap (λ (q : Parameters). changed_settings (one q)) e

      then_two : {q q' : Parameters} → q ≡ q' → changed_settings (two q) ≡ changed_settings (two q')
      then_two e = ap (λ (q : Parameters). changed_settings (two q)) e

      same : changed_settings (two after_one) ≡ changed_settings (one after_two)
      same =
          cases (eqb (rule p) 0)
          (λ a.
          let first = set_taken p (set p) refl a in
          cases (eqb (other p) 0)
          (λ b. then_two first ∙ set_taken (set p) _ o b ∙ c ∙ sym (then_one (set_taken p (put p) refl b) ∙ set_taken (put p) _ r a))
          (λ b. then_two first ∙ set_refused (set p) _ o b ∙ sym (then_one (set_refused p (put p) refl b) ∙ first)))
          (λ a.
          let first = set_refused p (set p) refl a in
          cases (eqb (other p) 0)
          (λ b. let second = set_taken p (put p) refl b in then_two first ∙ second ∙ sym (then_one second ∙ set_refused (put p) _ r a))
          (λ b. let second = set_refused p (put p) refl b in then_two first ∙ second ∙ sym (then_one second ∙ first)))

-- the same of two setters whose rules are checks, as those of the code are: nothing is asked of their numbers
module _ (check also : Parameters → Result (Unit {0}) Refusal) (set put : Parameters → Parameters) (p : Parameters) where
  abbrev checked : Parameters → Result Parameters NotSet
  checked q = unless (number_in (check q)) q (Ok (set q))

  abbrev also_checked : Parameters → Result Parameters NotSet
  also_checked q = unless (number_in (also q)) q (Ok (put q))

  either_order_checked :
      number_in (check (put p)) ≡ number_in (check p)
      → number_in (also (set p)) ≡ number_in (also p)
      → put (set p) ≡ set (put p)
      → EitherOrder checked also_checked p
  either_order_checked =
      either_order (λ (q : Parameters). number_in (check q)) (λ (q : Parameters). number_in (also q))
      (λ (q : Parameters). answer_numbered (check q))
      (λ (q : Parameters). answer_numbered (also q))
      set
      put
      p

-- slot bits and rotation, set in either order on any settings: both are accepted alike and leave the same record
pub slot_and_rotation : (slot rotation : ℕ) (p : Parameters) → EitherOrder (λ (q : Parameters). slot_bits_of q slot) (λ (q : Parameters). rotation_of q rotation) p
unfolding slot_bits_of rotation_of
slot_and_rotation slot rotation p = either_order _ _ (λ (q : Parameters). slot_bits_numbered _ slot) (λ (q : Parameters). rotation_numbered rotation) _ _ p refl refl refl

-- so do slot bits and HSA, which sets the rotation too
pub slot_and_hsa : (slot hsa : ℕ) (p : Parameters) → EitherOrder (λ (q : Parameters). slot_bits_of q slot) (λ (q : Parameters). hsa_of q hsa) p
unfolding slot_bits_of hsa_of
slot_and_hsa slot hsa p = either_order _ _ (λ (q : Parameters). slot_bits_numbered _ slot) (λ (q : Parameters). hsa_numbered _ hsa) _ _ p refl refl refl

-- every setter accepts it; finishing refuses it with 25
pub site_refused :
    (slot_bits_of site 200 ≡ Ok site)
    × (rotation_of site 256 ≡ Ok site)
    × (gap_wait_of site 1 ≡ Ok site)
    × (finish_of site ≡ not_set NoRoomForGapPoll site)
unfolding named finish_of unless slot_bits_of rotation_of gap_wait_of first_refusal early_refusal plain_of refuse_below refuse_outside address_refusal baud_refusal slot_bits_refusal hsa_refusal rotation_refusal room_refusal gap_wait_refusal retry_refusal min_tsdr_refusal factors_refusal baud_of
site_refused = (refl, refl, refl, refl)
