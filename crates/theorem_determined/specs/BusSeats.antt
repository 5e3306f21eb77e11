-- Determined, for the public call of bus_seats.
use Rattle.std.specs.Prelude.{ℕ, ◌≡◌, take}
use Rattle.std.proofs.Common.{ap, ◌∙◌, sym}
use Rattle.codec_answers.specs.declared.Answer.{Answer}
use Rattle.bus_wire.specs.declared.Waiting.{Waiting}
use Rattle.bus_wire.specs.declared.Wire.{Wire}
use Rattle.bus_wire.specs.Kept.{left_of}
use Rattle.station.specs.declared.station.Station.{Station}
use Rattle.bus_seats.specs.declared.Seat.{Seat}
use Rattle.bus_seats.specs.declared.Place.{Place}
use Rattle.bus_seats.specs.Kept.{offered_of, until_after, wire_after, PlaceIs}
use Rattle.codec_answers.specs.Answers.{answer_word}
use Rattle.bus_seats.proofs.Seat.take_place.Reads as take-place-reads

-- a seat is its parts
abbrev seat_of : Station → Waiting → ℕ → Seat
seat_of station waiting until = record { station = station; waiting = waiting; until = until }

pub seats_same : (c d : Seat) → c.station ≡ d.station → c.waiting ≡ d.waiting → c.until ≡ d.until → c ≡ d
seats_same c d s w u =
    ap (λ (x : Station). seat_of x c.waiting c.until) s
    ∙ ap (λ (x : Waiting). seat_of d.station x c.until) w
    ∙ ap (λ (x : ℕ). seat_of d.station d.waiting x) u

-- what a turn leaves and comes to: the seat, the bus, the answer's word, and the record up to its length
abbrev Same : Seat → Seat → Wire → Wire → Place → Place → Type 0
Same after₁ after₂ left₁ left₂ r s =
    (after₁ ≡ after₂)
    × (left₁ ≡ left₂)
    × (r.word ≡ s.word)
    × (take r.given.length r.given.bytes ≡ take s.given.length s.given.bytes)

places_same :
    (c : Seat) (heard wire : Wire) (now place : ℕ) (after₁ after₂ : Seat) (left₁ left₂ : Wire) (r s : Place)
    → PlaceIs c heard wire now place after₁ left₁ r
    → PlaceIs c heard wire now place after₂ left₂ s
    → Same after₁ after₂ left₁ left₂ r s
places_same c heard wire now place after₁ after₂ left₁ left₂ r s p q =
    let answers : p.turn.answer ≡ q.turn.answer = p.is.answer ∙ sym q.is.answer in
    let stations : p.turned.station ≡ q.turned.station = p.is.station_after ∙ sym q.is.station_after in
    let waits : p.turned.waiting ≡ q.turned.waiting = p.is.waiting_after ∙ ap (λ (a : Answer). left_of (offered_of c.waiting heard now place) a.consumed) answers ∙ sym q.is.waiting_after in
    let ended : p.turned.until ≡ q.turned.until = p.is.until_after_lem ∙ sym q.is.until_after_lem in
    let untils : until_after p.turned.until now p.turn.answer.sent c.station.p ≡ until_after q.turned.until now q.turn.answer.sent c.station.p = ap (λ (m : ℕ). until_after m now p.turn.answer.sent c.station.p) ended ∙ ap (λ (a : Answer). until_after q.turned.until now a.sent c.station.p) answers in (
      p.seat ∙ seats_same _ _ stations waits untils ∙ sym q.seat,
      p.wire_after_lem ∙ ap (λ (a : Answer). wire_after wire now place a.sent c.station.p) answers ∙ sym q.wire_after_lem,
      p.word ∙ ap answer_word answers ∙ sym q.word,
      rw (p.given, q.given) (p.is.bytes ∙ sym q.is.bytes),
    )

-- of `take_place` all that a turn leaves and comes to is fixed: the seat, the bus, the word, and of the record the bytes up to its length
pub take_place :
    (κs : _) (a : _) (r₁ r₂ : _) (s₁ s₂ : _)
    → take-place-reads.Post κs a r₁ s₁
    → take-place-reads.Post κs a r₂ s₂
    → (s₁.0.now ≡ s₂.0.now)
    × (s₁.1.1.0.now ≡ s₂.1.1.0.now)
    × (r₁.word ≡ r₂.word)
    × (take r₁.given.length r₁.given.bytes ≡ take r₂.given.length r₂.given.bytes)
take_place κs a r₁ r₂ s₁ s₂ p q = places_same _ _ _ _ _ _ _ _ _ r₁ r₂ p q
