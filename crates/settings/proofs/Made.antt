-- Settings as calls make them (`MadeSettings`): every record that `new` and accepted setters make is sound (`SoundSettings`). And: a
-- refused setter leaves the settings as they were.
use Rattle.std.specs.Prelude.{ℕ, ◌+◌, ◌-◌, ◌*◌, ◌/◌, ◌≤◌, Bool, true, false, ◌≡◌, refl, ◌⊎◌, eqb, Option, Some, None, Result, Ok, Err}
use Rattle.std.proofs.Common.{subst, sym, ap, ◌∙◌, inl, inr, arith, le-div_iff_mul-le, eqb-true}
use Rattle.std.proofs.lemmas.Bool.{eqb-false}
use Rattle.refusals.specs.declared.refusal.Refusal.{Refusal}
use Rattle.refusals.specs.Refusals.{number_of, number_in, named}
use Rattle.refusals.proofs.Numbers.{named_back}
use Rattle.bit_times.specs.declared.baud.Baud.{Baud}
use Rattle.bit_times.specs.Times.{baud_of}
use Rattle.settings_watchdog.specs.Watchdog.{ceil_of, factors_of}
use Rattle.settings_watchdog.proofs.Laws.{factors_least, factors_given}
use Rattle.settings.specs.declared.parameters.Parameters.{Parameters}
use Rattle.settings.specs.declared.not_set.NotSet.{NotSet}
use Rattle.settings_rules.specs.Rules.{address_refusal, slot_bits_refusal, hsa_refusal, rotation_refusal, gap_wait_refusal, retry_refusal, min_tsdr_refusal, watchdog_refusal}
use Rattle.settings_rules.proofs.Laws.{outside_in, in_below, in_outside, below_number, outside_number}
use Rattle.settings.specs.Settings.{not_set, default_of, new_at, new_of, unless, slot_bits_of, hsa_of, rotation_of, gap_wait_of, retry_of, min_tsdr_of, with_watchdog, watchdog_at, watchdog_of}
use Rattle.settings.specs.Made.{MadeSettings, SoundSettings, by_gap_wait, by_hsa, by_min_tsdr, by_new, by_retry, by_rotation, by_slot_bits, by_watchdog}

-- the one way to refuse: an accepted answer was not refused, and is the answer given
unless_accepted : (n : ℕ) (p : Parameters) (a : Result Parameters NotSet) (q : Parameters) → unless n p a ≡ Ok q → (n ≡ 0) × (a ≡ Ok q)
unfolding unless
unless_accepted n p a q e = by (eqb n 0) refl
  where
    by : (t : Bool) → eqb n 0 ≡ t → (n ≡ 0) × (a ≡ Ok q)
    by true h = (eqb-true _ _ h, rw h at e)
    by false h =
        let s : ◌≡◌ {A = Result Parameters NotSet} (not_set (named n) p) (Ok q) = rw h at e in
        let z : ◌≡◌ {A = ℕ} 0 1 = cc in
        absurd (omega arith)

-- an accepted record is the one that was set
accepted : {s q : Parameters} → ◌≡◌ {A = Result Parameters NotSet} (Ok s) (Ok q) → SoundSettings s → SoundSettings q
accepted {s} {q} e h =
    let same : s ≡ q = cc in
    subst (λ x. SoundSettings x) same h

-- new settings are sound, once the address is known to be good
sound_new_at : (p : Parameters) (address : ℕ) (coded : Result Baud Refusal) → address_refusal address ≡ 0 → new_at address coded ≡ Ok p → SoundSettings p
unfolding new_at address_refusal slot_bits_refusal hsa_refusal rotation_refusal gap_wait_refusal retry_refusal min_tsdr_refusal
sound_new_at p address (Ok baud) h e =
    let same : default_of address baud ≡ p = cc in
    let low = outside_in 0 address 125 1 (omega arith) h in
    subst (λ x. SoundSettings x) same (record { address = h; slot_bits = in_below _ _ 2 (omega arith); hsa = in_outside (address + 1) 126 126 3 (omega (arith, low.1), omega arith); rotation = in_outside 256 32436 16777960 4 (omega arith, omega arith); gap_wait = in_outside 1 10 100 5 (omega arith, omega arith); retry = in_outside 1 1 15 6 (omega arith, omega arith); min_tsdr = in_below 11 11 7 (omega arith); watchdog = tt })
sound_new_at p address (Err refusal) h e =
    let z : ◌≡◌ {A = ℕ} 0 1 = cc in
    absurd (omega arith)

-- new settings are sound
sound_new : (p : Parameters) (address code : ℕ) → new_of address code ≡ Ok p → SoundSettings p
unfolding new_of
sound_new p address code e = by (eqb (address_refusal address) 0) refl
  where
    refused : (refusal : Refusal) → ◌≡◌ {A = Result Parameters Refusal} (Err refusal) (Ok p) → SoundSettings p
    refused refusal s =
        let z : ◌≡◌ {A = ℕ} 0 1 = cc in
        absurd (omega arith)

    by : (t : Bool) → eqb (address_refusal address) 0 ≡ t → SoundSettings p
    by true h = sound_new_at p address (baud_of code) (eqb-true _ _ h) (rw h at e)
    by false h = refused (named (address_refusal address)) (rw h at e)

-- the rotation that an accepted HSA sets is accepted
hsa_rotation : (address v : ℕ) → hsa_refusal address v ≡ 0 → rotation_refusal (v * 5000) ≡ 0
unfolding hsa_refusal rotation_refusal
hsa_rotation address v h =
    let range = outside_in (address + 1) v 126 3 (omega arith) h in
    in_outside 256 (v * 5000) 16777960 4 (omega (arith, range.0), omega (arith, range.1))

-- each accepted setter keeps settings sound
sound_slot_bits : (p q : Parameters) (v : ℕ) → SoundSettings p → slot_bits_of p v ≡ Ok q → SoundSettings q
unfolding slot_bits_of
sound_slot_bits p q v s e =
    let a = unless_accepted _ p _ q e in
    accepted a.1 (record { address = s.address; slot_bits = a.0; hsa = s.hsa; rotation = s.rotation; gap_wait = s.gap_wait; retry = s.retry; min_tsdr = s.min_tsdr; watchdog = s.watchdog })

sound_hsa : (p q : Parameters) (v : ℕ) → SoundSettings p → hsa_of p v ≡ Ok q → SoundSettings q
unfolding hsa_of
sound_hsa p q v s e =
    let a = unless_accepted _ p _ q e in
    accepted a.1 (record { address = s.address; slot_bits = s.slot_bits; hsa = a.0; rotation = hsa_rotation p.address v a.0; gap_wait = s.gap_wait; retry = s.retry; min_tsdr = s.min_tsdr; watchdog = s.watchdog })

sound_rotation : (p q : Parameters) (v : ℕ) → SoundSettings p → rotation_of p v ≡ Ok q → SoundSettings q
unfolding rotation_of
sound_rotation p q v s e =
    let a = unless_accepted _ p _ q e in
    accepted a.1 (record { address = s.address; slot_bits = s.slot_bits; hsa = s.hsa; rotation = a.0; gap_wait = s.gap_wait; retry = s.retry; min_tsdr = s.min_tsdr; watchdog = s.watchdog })

sound_gap_wait : (p q : Parameters) (v : ℕ) → SoundSettings p → gap_wait_of p v ≡ Ok q → SoundSettings q
unfolding gap_wait_of
sound_gap_wait p q v s e =
    let a = unless_accepted _ p _ q e in
    accepted a.1 (record { address = s.address; slot_bits = s.slot_bits; hsa = s.hsa; rotation = s.rotation; gap_wait = a.0; retry = s.retry; min_tsdr = s.min_tsdr; watchdog = s.watchdog })

sound_retry : (p q : Parameters) (v : ℕ) → SoundSettings p → retry_of p v ≡ Ok q → SoundSettings q
unfolding retry_of
sound_retry p q v s e =
    let a = unless_accepted _ p _ q e in
    accepted a.1 (record { address = s.address; slot_bits = s.slot_bits; hsa = s.hsa; rotation = s.rotation; gap_wait = s.gap_wait; retry = a.0; min_tsdr = s.min_tsdr; watchdog = s.watchdog })

sound_min_tsdr : (p q : Parameters) (v : ℕ) → SoundSettings p → min_tsdr_of p v ≡ Ok q → SoundSettings q
unfolding min_tsdr_of
sound_min_tsdr p q v s e =
    let a = unless_accepted _ p _ q e in
    accepted a.1 (record { address = s.address; slot_bits = s.slot_bits; hsa = s.hsa; rotation = s.rotation; gap_wait = s.gap_wait; retry = s.retry; min_tsdr = a.0; watchdog = s.watchdog })

-- the factors of a time in the setter's range are none or two that are not zero
watched : (p q : Parameters) (ms : ℕ) (f : Result (Option (ℕ × ℕ)) Refusal) → SoundSettings p → 10 ≤ ms → factors_of ms ≡ f → watchdog_at p f ≡ Ok q → SoundSettings q
unfolding watchdog_at with_watchdog
watched p q ms (Ok None) s h e a =
    accepted a (record { address = s.address; slot_bits = s.slot_bits; hsa = s.hsa; rotation = s.rotation; gap_wait = s.gap_wait; retry = s.retry; min_tsdr = s.min_tsdr; watchdog = tt })
watched p q ms (Ok (Some (f1, f2))) s h e a =
    let r = factors_least ms f1 f2 e in
    let whole : 1 * f1 ≤ ms / 10 + f1 - 1 = omega (arith, r.from) in
    let some : 1 ≤ ceil_of (ms / 10) f1 = (le-div_iff_mul-le r.from).1 whole in
    accepted a (record { address = s.address; slot_bits = s.slot_bits; hsa = s.hsa; rotation = s.rotation; gap_wait = s.gap_wait; retry = s.retry; min_tsdr = s.min_tsdr; watchdog = (r.from, rw r.quotient some) })
watched p q ms (Err refusal) s h e a =
    let z : ◌≡◌ {A = ℕ} 0 1 = cc in
    absurd (omega arith)

sound_watchdog : (p q : Parameters) (ms : ℕ) → SoundSettings p → watchdog_of p ms ≡ Ok q → SoundSettings q
unfolding watchdog_of watchdog_refusal
sound_watchdog p q ms s e =
    let a = unless_accepted _ p _ q e in
    watched p q ms (factors_of ms) s (outside_in 10 ms 650000 8 (omega arith) a.0).0 refl a.1

-- all settings that calls make are sound
pub made_sound : {p : Parameters} → MadeSettings p → SoundSettings p
made_sound (by_new {p} address code e) = sound_new p address code e
made_sound (by_slot_bits {p} {q} v m e) = sound_slot_bits p q v (made_sound m) e
made_sound (by_hsa {p} {q} v m e) = sound_hsa p q v (made_sound m) e
made_sound (by_rotation {p} {q} v m e) = sound_rotation p q v (made_sound m) e
made_sound (by_gap_wait {p} {q} v m e) = sound_gap_wait p q v (made_sound m) e
made_sound (by_retry {p} {q} v m e) = sound_retry p q v (made_sound m) e
made_sound (by_min_tsdr {p} {q} v m e) = sound_min_tsdr p q v (made_sound m) e
made_sound (by_watchdog {p} {q} ms m e) = sound_watchdog p q ms (made_sound m) e

-- an answer that is refused, if it is, with this number and with the settings as they were
pub Refuses : ℕ → Parameters → Result Parameters NotSet → Type 0
Refuses n p r = (e : NotSet) → r ≡ Err e → (number_of e.refusal ≡ n) × (e.settings ≡ p)

-- where a rule answers 0 or n, the setter over it refuses with n alone, if what it then answers does
unless_refuses : (rule n : ℕ) (p : Parameters) (a : Result Parameters NotSet) → number_of (named n) ≡ n → (rule ≡ 0) ⊎ (rule ≡ n) → (rule ≡ 0 → Refuses n p a) → Refuses n p (unless rule p a)
unfolding unless Refuses
unless_refuses rule n p a numbered r h not e = by (eqb rule 0) refl
  where
    number : (eqb rule 0 ≡ false) → (rule ≡ 0) ⊎ (rule ≡ n) → rule ≡ n
    number f (inl z) = absurd (eqb-false _ _ f z)
    number f (inr s) = s

    by : (t : Bool) → eqb rule 0 ≡ t → (number_of not.refusal ≡ n) × (not.settings ≡ p)
    by true f = h (eqb-true _ _ f) not (rw f at e)
    by false f =
        let s : ◌≡◌ {A = Result Parameters NotSet} (not_set (named rule) p) (Err not) = rw f at e in
        let same : not ≡ record { refusal = named rule; settings = p } = cc in
        (ap (λ (x : NotSet). number_of x.refusal) same ∙ ap (λ (x : ℕ). number_of (named x)) (number f r) ∙ numbered, ap (λ (x : NotSet). x.settings) same)

-- the same where n is the number of an answer: nothing is asked of it
unless_refuses_checked :
    (rule : ℕ) (checked : Result (Unit {0}) Refusal) (p : Parameters) (a : Result Parameters NotSet)
    → (rule ≡ 0) ⊎ (rule ≡ number_in checked)
    → (rule ≡ 0 → Refuses (number_in checked) p a)
    → Refuses (number_in checked) p (unless rule p a)
unfolding unless
unless_refuses_checked rule (Ok x) p a r h = let zero_rule : rule ≡ 0 = zero r in subst (λ (n : ℕ). Refuses 0 p (unless n p a)) (sym zero_rule) (h zero_rule)
  where
    zero : (rule ≡ 0) ⊎ (rule ≡ 0) → rule ≡ 0
    zero (inl z) = z
    zero (inr z) = z
unless_refuses_checked rule (Err e) p a r h = unless_refuses rule (number_of e) p a (ap number_of (named_back e)) r h

-- an accepted answer is not refused
accepted_refuses : (n : ℕ) (p set : Parameters) → Refuses n p (Ok set)
unfolding Refuses
accepted_refuses n p set not e =
    let z : ◌≡◌ {A = ℕ} 0 1 = cc in
    absurd (omega arith)

-- every time in the watchdog setter's range has factors, so that the setter never answers 9
watchdog_refuses : (p : Parameters) (ms : ℕ) → watchdog_refusal ms ≡ 0 → Refuses 8 p (watchdog_at p (factors_of ms))
unfolding watchdog_at watchdog_refusal
watchdog_refuses p ms z = given (factors_given ms (omega (arith, range.0)) (omega (arith, range.1)))
  where
    range : (10 ≤ ms) × (ms ≤ 650000)
    range = outside_in 10 ms 650000 8 (omega arith) z

    given : (f1 : ℕ) × (f2 : ℕ) × (factors_of ms ≡ Ok (Some (f1, f2))) → Refuses 8 p (watchdog_at p (factors_of ms))
    given f = rw f.2 (accepted_refuses 8 p (with_watchdog p (Some (f.0, f.1))))

-- each setter refuses with its own number, document 01's, and leaves the settings as they were
pub refused_unchanged :
    (p : Parameters) (v : ℕ) →
    Refuses 2 p (slot_bits_of p v)
    × Refuses 3 p (hsa_of p v)
    × Refuses 4 p (rotation_of p v)
    × Refuses 5 p (gap_wait_of p v)
    × Refuses 6 p (retry_of p v)
    × Refuses 7 p (min_tsdr_of p v)
    × Refuses 8 p (watchdog_of p v)
unfolding named slot_bits_of hsa_of rotation_of gap_wait_of retry_of min_tsdr_of watchdog_of slot_bits_refusal hsa_refusal rotation_refusal gap_wait_refusal retry_refusal min_tsdr_refusal watchdog_refusal
refused_unchanged p v = (
  unless_refuses _ 2 p _ refl (below_number _ v 2) (λ z. accepted_refuses 2 p _),
  unless_refuses _ 3 p _ refl (outside_number _ v _ 3) (λ z. accepted_refuses 3 p _),
  unless_refuses _ 4 p _ refl (outside_number _ v _ 4) (λ z. accepted_refuses 4 p _),
  unless_refuses _ 5 p _ refl (outside_number _ v _ 5) (λ z. accepted_refuses 5 p _),
  unless_refuses _ 6 p _ refl (outside_number _ v _ 6) (λ z. accepted_refuses 6 p _),
  unless_refuses _ 7 p _ refl (below_number _ v 7) (λ z. accepted_refuses 7 p _),
  unless_refuses _ 8 p _ refl (outside_number _ v _ 8) (λ z. watchdog_refuses p v z),
)
