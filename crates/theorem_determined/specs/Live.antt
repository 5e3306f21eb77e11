-- Determined, for the public calls of live, live_heard and live_counts: the number, and each byte of what is lent.
use Rattle.std.specs.Prelude.{◌≡◌, Option, Some, None, Result, Ok, Err}
use Rattle.std.proofs.Common.{◌∙◌, sym, ap}
use Rattle.refusals.specs.declared.refusal.Refusal.{Refusal}
use Rattle.refusals.specs.Refusals.{named}
use Rattle.refusals.proofs.Numbers.{named_back}
use Rattle.live.specs.declared.Consumed.{Consumed}
use Rattle.live.specs.Live.{Done, done_in}
use Rattle.theorem_determined.specs.Claim.{Determined}
use Rattle.live.proofs.done_number.Reads as done-number-reads
use Rattle.live.proofs.open_station.Reads as open-station-reads
use Rattle.live.proofs.step.Reads as step-reads
use Rattle.live.proofs.step_station.Reads as step-station-reads
use Rattle.live_heard.proofs.step_heard.Reads as step-heard-reads
use Rattle.live_counts.proofs.station_counts.Reads as station-counts-reads

-- a step comes to one thing: what was consumed, or a refusal
done_same : (r q : Result Consumed Refusal) → done_in r ≡ done_in q → r ≡ q
done_same (Ok x) (Ok y) h =
    let e : ◌≡◌ {A = Option Consumed} (Some x) (Some y) = ap (λ (d : Done). d.consumed) h in
    let same : x ≡ y = cc in
    ap Ok same
done_same (Ok x) (Err f) h = let e : ◌≡◌ {A = Option Consumed} (Some x) None = ap (λ (d : Done). d.consumed) h in cc
done_same (Err e) (Ok y) h = let e : ◌≡◌ {A = Option Consumed} None (Some y) = ap (λ (d : Done). d.consumed) h in cc
done_same (Err e) (Err f) h = ap Err (sym (named_back e) ∙ ap named (ap (λ (d : Done). d.number) h) ∙ named_back f)

pub done_number : Determined done-number-reads.Post
done_number κs a r₁ r₂ s₁ s₂ p q = p ∙ sym q

pub open_station :
    (κs : _) (a : _) (r₁ r₂ : _) (s₁ s₂ : _)
    → open-station-reads.Post κs a r₁ s₁
    → open-station-reads.Post κs a r₂ s₂
    → (r₁ ≡ r₂) × (s₁.1.0.now ≡ s₂.1.0.now)
open_station κs a r₁ r₂ s₁ s₂ p q = (p.0 ∙ sym q.0, p.1 ∙ sym q.1)

pub step :
    (κs : _) (a : _) (r₁ r₂ : _) (s₁ s₂ : _)
    → step-reads.Post κs a r₁ s₁
    → step-reads.Post κs a r₂ s₂
    → (r₁ ≡ r₂) × (s₁.0.now ≡ s₂.0.now) × (s₁.1.1.0.now ≡ s₂.1.1.0.now)
step κs a r₁ r₂ s₁ s₂ p q = (done_same r₁ r₂ (p.0 ∙ sym q.0), p.1.0 ∙ sym q.1.0, p.1.1 ∙ sym q.1.1)

pub step_station :
    (κs : _) (a : _) (r₁ r₂ : _) (s₁ s₂ : _)
    → step-station-reads.Post κs a r₁ s₁
    → step-station-reads.Post κs a r₂ s₂
    → (r₁ ≡ r₂) × (s₁.0.now ≡ s₂.0.now) × (s₁.1.1.0.now ≡ s₂.1.1.0.now)
step_station κs a r₁ r₂ s₁ s₂ p q = (p.0 ∙ sym q.0, p.1.0 ∙ sym q.1.0, p.1.1 ∙ sym q.1.1)

pub step_heard :
    (κs : _) (a : _) (r₁ r₂ : _) (s₁ s₂ : _)
    → step-heard-reads.Post κs a r₁ s₁
    → step-heard-reads.Post κs a r₂ s₂
    → (r₁ ≡ r₂) × (s₁.0.now ≡ s₂.0.now) × (s₁.1.1.0.now ≡ s₂.1.1.0.now) × (s₁.1.1.1.0.now ≡ s₂.1.1.1.0.now)
step_heard κs a r₁ r₂ s₁ s₂ p q = (p.0 ∙ sym q.0, p.1.0 ∙ sym q.1.0, p.1.1.0 ∙ sym q.1.1.0, p.1.1.1 ∙ sym q.1.1.1)

pub station_counts :
    (κs : _) (a : _) (r₁ r₂ : _) (s₁ s₂ : _)
    → station-counts-reads.Post κs a r₁ s₁
    → station-counts-reads.Post κs a r₂ s₂
    → (r₁ ≡ r₂) × (s₁.1.0.now ≡ s₂.1.0.now)
station_counts κs a r₁ r₂ s₁ s₂ p q = (p.0 ∙ sym q.0, p.1 ∙ sym q.1)
