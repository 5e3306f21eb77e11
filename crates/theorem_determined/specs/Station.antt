-- Determined, for the public calls of station.
use Rattle.std.proofs.Common.{◌∙◌, sym, refl}
use Rattle.theorem_determined.specs.Claim.{Determined, DeterminedLent}
use Rattle.theorem_determined.specs.Joins.{left_same}
use Rattle.station.proofs.done.Done.new.Reads as done-new-reads
use Rattle.station.proofs.done.Hearing.new.Reads as hearing-new-reads
use Rattle.station.proofs.done.Hearing.collision.Reads as collision-reads
use Rattle.station.proofs.is_last_request_to_us.Reads as is-last-request-to-us-reads
use Rattle.station.proofs.parts.Core.new.Reads as core-new-reads
use Rattle.station.proofs.parts.Core.mark_bus_activity.Reads as mark-bus-activity-reads
use Rattle.station.proofs.parts.Core.check_for_ongoing_transmission.Reads as check-for-ongoing-transmission-reads
use Rattle.station.proofs.parts.Core.check_for_bus_activity.Reads as check-for-bus-activity-reads
use Rattle.station.proofs.parts.Core.mark_rx.Reads as mark-rx-reads
use Rattle.station.proofs.state.UseTokenData.with_token_time.Reads as with-token-time-reads
use Rattle.station.proofs.state.ConnectivityState.is_offline.Reads as is-offline-reads
use Rattle.station.proofs.state.State.number.Reads as number-reads
use Rattle.station.proofs.state.State.listen_token.Reads as listen-token-reads
use Rattle.station.proofs.state.State.passive_idle.Reads as passive-idle-reads
use Rattle.station.proofs.state.State.active_idle.Reads as active-idle-reads
use Rattle.station.proofs.state.State.use_token.Reads as use-token-reads
use Rattle.station.proofs.station.Station.fresh.Reads as fresh-reads
use Rattle.station.proofs.station.Station.new.Reads as new-reads
use Rattle.station.proofs.station.Station.wait_synchronization_pause.Reads as wait-synchronization-pause-reads
use Rattle.station.proofs.station.Station.check_slot_expired.Reads as check-slot-expired-reads
use Rattle.station.proofs.station.Station.token_lost.Reads as token-lost-reads
use Rattle.station.proofs.station.Station.transmit.Reads as transmit-reads

pub done_new : Determined done-new-reads.Post
done_new κs a r₁ r₂ s₁ s₂ p q = p ∙ sym q

pub hearing_new : Determined hearing-new-reads.Post
hearing_new κs a r₁ r₂ s₁ s₂ p q = p ∙ sym q

pub collision : Determined collision-reads.Post
collision κs a r₁ r₂ s₁ s₂ p q = p ∙ sym q

pub is_last_request_to_us : Determined is-last-request-to-us-reads.Post
is_last_request_to_us κs a r₁ r₂ s₁ s₂ p q = p ∙ sym q

pub core_new : Determined core-new-reads.Post
core_new κs a r₁ r₂ s₁ s₂ p q = p ∙ sym q

pub mark_bus_activity : DeterminedLent mark-bus-activity-reads.Post (λ k s. s.0.now)
mark_bus_activity κs a r₁ r₂ s₁ s₂ p q = (refl, p ∙ sym q)

pub check_for_ongoing_transmission : Determined check-for-ongoing-transmission-reads.Post
check_for_ongoing_transmission κs a r₁ r₂ s₁ s₂ p q = p ∙ sym q

pub check_for_bus_activity : DeterminedLent check-for-bus-activity-reads.Post (λ k s. s.0.now)
check_for_bus_activity κs a r₁ r₂ s₁ s₂ p q = (refl, p ∙ sym q)

pub mark_rx : DeterminedLent mark-rx-reads.Post (λ k s. s.0.now)
mark_rx κs a r₁ r₂ s₁ s₂ p q = (refl, p ∙ sym q)

pub with_token_time : Determined with-token-time-reads.Post
with_token_time κs a r₁ r₂ s₁ s₂ p q = p ∙ sym q

pub is_offline : Determined is-offline-reads.Post
is_offline κs a r₁ r₂ s₁ s₂ p q = p ∙ sym q

pub number : Determined number-reads.Post
number κs a r₁ r₂ s₁ s₂ p q = p ∙ sym q

pub listen_token : Determined listen-token-reads.Post
listen_token κs a r₁ r₂ s₁ s₂ p q = p ∙ sym q

pub passive_idle : Determined passive-idle-reads.Post
passive_idle κs a r₁ r₂ s₁ s₂ p q = p ∙ sym q

pub active_idle : Determined active-idle-reads.Post
active_idle κs a r₁ r₂ s₁ s₂ p q = p ∙ sym q

pub use_token : Determined use-token-reads.Post
use_token κs a r₁ r₂ s₁ s₂ p q = p ∙ sym q

pub fresh : Determined fresh-reads.Post
fresh κs a r₁ r₂ s₁ s₂ p q = p ∙ sym q

pub new : Determined new-reads.Post
new κs a r₁ r₂ s₁ s₂ p q = p ∙ sym q

pub wait_synchronization_pause : DeterminedLent wait-synchronization-pause-reads.Post (λ k s. s.0.now)
wait_synchronization_pause κs a r₁ r₂ s₁ s₂ p q = (p.0 ∙ sym q.0, p.1 ∙ sym q.1)

pub check_slot_expired : DeterminedLent check-slot-expired-reads.Post (λ k s. s.0.now)
check_slot_expired κs a r₁ r₂ s₁ s₂ p q = (p.0 ∙ sym q.0, p.1 ∙ sym q.1)

pub token_lost : DeterminedLent token-lost-reads.Post (λ k s. s.0.now)
token_lost κs a r₁ r₂ s₁ s₂ p q = (p.0 ∙ sym q.0, p.1 ∙ sym q.1)

pub transmit : DeterminedLent transmit-reads.Post (λ k s. s.0.now)
transmit κs a r₁ r₂ s₁ s₂ p q = left_same (p ∙ sym q)
