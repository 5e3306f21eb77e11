-- What each call comes to, by its cases: what it returns, and the bytes that it leaves. A refused call leaves them as they were. Assumes
-- nothing.
use Rattle.std.specs.Prelude.{ℕ, ◌<◌, ◌≤◌, ◌≡◌, refl, List, Result, Ok, Err, length}
use Rattle.std.proofs.Math.Path.{ap}
use Rattle.std.proofs.Common.{◌∙◌}
use borrow.Author.Tests.{ne_eqb, lt-ltb, le-ltb}
use Rattle.refusals.specs.declared.refusal.Refusal.{Refusal}
use Rattle.refusals.specs.Refusals.{number_of}
use Rattle.settings.specs.declared.parameters.Parameters.{Parameters}
use Rattle.settings.specs.declared.not_set.NotSet.{NotSet}
use Rattle.settings.specs.Settings.{not_set, changed_number, new_of}
use Rattle.settings_rules.specs.Rules.{applications_refusal}
use Rattle.trace_headers.specs.declared.Header.{Header}
use Rattle.trace_headers.specs.declared.Edition.TheVariants.{First}
use Rattle.trace_headers.specs.Headers.{length_of, header_of}
use Rattle.trace_headers.specs.Finished.{header_with}
use Rattle.trace_headers_written.specs.HeaderBytes.{header_into}
use Rattle.settings_header.specs.SettingsHeader.{settings_at, stored_after, number_on, bytes_on, set_number, set_into, new_refusal, new_bytes, new_number, new_into}

-- What a setter answered, stored.

module _ (s : List ℕ) (p : Parameters) (answer : Result Parameters NotSet) where
  pub stored_accepted :
      {x : List ℕ} (kept with : Header)
      → answer ≡ Ok p
      → kept ≡ header_of s
      → with ≡ header_with p kept.applications
      → x ≡ header_into s First with
      → (0 ≡ changed_number answer) × (x ≡ stored_after s answer)
  unfolding stored_after
  stored_accepted kept with is k w written =
      rw is (refl, written ∙ ap (header_into s First) (w ∙ ap (λ (h : Header). header_with p h.applications) k))

  pub stored_refused : (refusal : Refusal) → answer ≡ not_set refusal p → (number_of refusal ≡ changed_number answer) × (s ≡ stored_after s answer)
  unfolding stored_after
  stored_refused refusal is = rw is (refl, refl)

-- A setter, over the setter by value.

module _ (set : Parameters → Result Parameters NotSet) (s : List ℕ) where
  pub set_accepted :
      (p : Parameters) (answer : Result Parameters NotSet) (r : ℕ) (x : List ℕ)
      → settings_at s ≡ Ok p
      → answer ≡ set p
      → r ≡ changed_number answer
      → x ≡ stored_after s answer
      → (r ≡ set_number set s) × (x ≡ set_into set s)
  unfolding set_number set_into number_on bytes_on
  set_accepted p answer r x is a number bytes = rw is (number ∙ ap changed_number a, bytes ∙ ap (stored_after s) a)

  pub set_refused : (refusal : Refusal) → settings_at s ≡ Err refusal → (number_of refusal ≡ set_number set s) × (s ≡ set_into set s)
  unfolding set_number set_into number_on bytes_on
  set_refused refusal is = rw is (refl, refl)

-- New settings.

module _ (address baud n : ℕ) (s : List ℕ) where
  module _ (p : Parameters) where
    pub new_no_applications :
        new_of address baud ≡ Ok p
        → (applications_refusal n ≡ 0 → ⊥)
        → (applications_refusal n ≡ new_number address baud n (length s)) × (s ≡ new_into address baud n s)
    unfolding new_number new_into new_refusal new_bytes
    new_no_applications is h = rw (is, ne_eqb (applications_refusal n) 0 h) (refl, refl)

    pub new_no_room :
        new_of address baud ≡ Ok p
        → applications_refusal n ≡ 0
        → length s < length_of First
        → (18 ≡ new_number address baud n (length s)) × (s ≡ new_into address baud n s)
    unfolding new_number new_into new_refusal new_bytes header_into
    new_no_room is h l = rw (is, h, lt-ltb (length s) (length_of First) l) (refl, refl)

    pub new_done :
        (with : Header) (x : List ℕ)
        → new_of address baud ≡ Ok p
        → applications_refusal n ≡ 0
        → length_of First ≤ length s
        → with ≡ header_with p n
        → x ≡ header_into s First with
        → (0 ≡ new_number address baud n (length s)) × (x ≡ new_into address baud n s)
    unfolding new_number new_into new_refusal new_bytes
    new_done with x is h l w written = rw (is, h, le-ltb (length s) (length_of First) l) (refl, written ∙ ap (header_into s First) w)

  pub new_refused : (refusal : Refusal) → new_of address baud ≡ Err refusal → (number_of refusal ≡ new_number address baud n (length s)) × (s ≡ new_into address baud n s)
  unfolding new_number new_into new_refusal new_bytes
  new_refused refusal is = rw is (refl, refl)
