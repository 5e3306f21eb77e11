-- A contract of a call on a station joins the station that it leaves with what it hands back. What is joined says both: where two are
-- one, the parts are.
use Rattle.std.specs.Prelude.{◌≡◌}
use Rattle.std.proofs.Common.{ap}
use Rattle.codec_answers.specs.declared.Answer.{Answer}
use Rattle.station.specs.declared.station.Station.{Station}
use Rattle.station_answer.specs.Answer.{Polled, polled_at}

-- what is left behind a `&mut` and the result, in a contract of both at once
pub left_same : {A B : Type 0} {x y : A} {r s : B} → ◌≡◌ {A = A × B} (x, r) (y, s) → (r ≡ s) × (x ≡ y)
left_same {A} {B} e = (ap (λ (z : A × B). z.1) e, ap (λ (z : A × B). z.0) e)

-- the same of a station and its answer
pub polled_same : {s t : Station} {a b : Answer} → polled_at s a ≡ polled_at t b → (a ≡ b) × (s ≡ t)
polled_same e = (ap (λ (x : Polled). x.answer) e, ap (λ (x : Polled). x.station) e)
