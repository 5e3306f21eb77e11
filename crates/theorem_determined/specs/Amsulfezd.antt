-- Determined, for the calls of hosts.
use Rattle.std.specs.Prelude.{◌≡◌}
use Rattle.std.proofs.Common.{◌∙◌, sym}
use Rattle.theorem_determined.specs.Claim.{Determined}
use Rattle.amsulfezd.proofs.amsulfezd_replay_trace.Reads as replay-trace-reads
use Rattle.amsulfezd.proofs.amsulfezd_trace_counts.Reads as trace-counts-reads
use Rattle.amsulfezd.proofs.amsulfezd_trace_heard.Reads as trace-heard-reads
use Rattle.amsulfezd.proofs.amsulfezd_simulate.Reads as simulate-reads
use Rattle.amsulfezd.proofs.amsulfezd_simulated_trace.Reads as simulated-trace-reads
use Rattle.amsulfezd.proofs.amsulfezd_other_edition.Reads as other-edition-reads
use Rattle.amsulfezd.proofs.amsulfezd_read_frame.Reads as read-frame-reads
use Rattle.amsulfezd.proofs.amsulfezd_write_frame.Reads as write-frame-reads
use Rattle.amsulfezd.proofs.amsulfezd_import_capture.Reads as import-capture-reads
use Rattle.amsulfezd.proofs.amsulfezd_export_capture.Reads as export-capture-reads
use Rattle.amsulfezd.proofs.amsulfezd_open_station.Reads as open-station-reads
use Rattle.amsulfezd.proofs.amsulfezd_step_station.Reads as step-station-reads
use Rattle.amsulfezd.proofs.amsulfezd_station_counts.Reads as station-counts-reads
use Rattle.amsulfezd.proofs.amsulfezd_step_heard.Reads as step-heard-reads
use Rattle.amsulfezd.proofs.amsulfezd_table_heard.Reads as table-heard-reads
use Rattle.amsulfezd.proofs.amsulfezd_new_settings.Reads as new-settings-reads
use Rattle.amsulfezd.proofs.amsulfezd_set_slot_bits.Reads as set-slot-bits-reads
use Rattle.amsulfezd.proofs.amsulfezd_set_highest_station_address.Reads as set-highest-station-address-reads
use Rattle.amsulfezd.proofs.amsulfezd_set_token_rotation_bits.Reads as set-token-rotation-bits-reads
use Rattle.amsulfezd.proofs.amsulfezd_set_gap_wait_rotations.Reads as set-gap-wait-rotations-reads
use Rattle.amsulfezd.proofs.amsulfezd_set_max_retry_limit.Reads as set-max-retry-limit-reads
use Rattle.amsulfezd.proofs.amsulfezd_set_min_tsdr_bits.Reads as set-min-tsdr-bits-reads
use Rattle.amsulfezd.proofs.amsulfezd_set_watchdog_timeout.Reads as set-watchdog-timeout-reads
use Rattle.amsulfezd.proofs.amsulfezd_finish_settings.Reads as finish-settings-reads

-- `amsulfezd_replay_trace` returns a number and writes: both are fixed, the lent buffer in every byte
pub amsulfezd_replay_trace :
    (κs : _) (a : _) (r₁ r₂ : _) (s₁ s₂ : _)
    → replay-trace-reads.Post κs a r₁ s₁
    → replay-trace-reads.Post κs a r₂ s₂
    → (r₁ ≡ r₂) × (s₁.1.0.now ≡ s₂.1.0.now)
amsulfezd_replay_trace κs a r₁ r₂ s₁ s₂ p q = (p.0 ∙ sym q.0, p.1 ∙ sym q.1)

-- so does `amsulfezd_trace_counts`
pub amsulfezd_trace_counts :
    (κs : _) (a : _) (r₁ r₂ : _) (s₁ s₂ : _)
    → trace-counts-reads.Post κs a r₁ s₁
    → trace-counts-reads.Post κs a r₂ s₂
    → (r₁ ≡ r₂) × (s₁.1.0.now ≡ s₂.1.0.now)
amsulfezd_trace_counts κs a r₁ r₂ s₁ s₂ p q = (p.0 ∙ sym q.0, p.1 ∙ sym q.1)

-- so does `amsulfezd_trace_heard`
pub amsulfezd_trace_heard :
    (κs : _) (a : _) (r₁ r₂ : _) (s₁ s₂ : _)
    → trace-heard-reads.Post κs a r₁ s₁
    → trace-heard-reads.Post κs a r₂ s₂
    → (r₁ ≡ r₂) × (s₁.1.1.0.now ≡ s₂.1.1.0.now)
amsulfezd_trace_heard κs a r₁ r₂ s₁ s₂ p q = (p.0 ∙ sym q.0, p.1 ∙ sym q.1)

-- so does `amsulfezd_simulate`
pub amsulfezd_simulate :
    (κs : _) (a : _) (r₁ r₂ : _) (s₁ s₂ : _)
    → simulate-reads.Post κs a r₁ s₁
    → simulate-reads.Post κs a r₂ s₂
    → (r₁ ≡ r₂) × (s₁.1.0.now ≡ s₂.1.0.now)
amsulfezd_simulate κs a r₁ r₂ s₁ s₂ p q = (p.0 ∙ sym q.0, p.1 ∙ sym q.1)

-- so does `amsulfezd_simulated_trace`
pub amsulfezd_simulated_trace :
    (κs : _) (a : _) (r₁ r₂ : _) (s₁ s₂ : _)
    → simulated-trace-reads.Post κs a r₁ s₁
    → simulated-trace-reads.Post κs a r₂ s₂
    → (r₁ ≡ r₂) × (s₁.1.1.0.now ≡ s₂.1.1.0.now)
amsulfezd_simulated_trace κs a r₁ r₂ s₁ s₂ p q = (p.0 ∙ sym q.0, p.1 ∙ sym q.1)

-- so does `amsulfezd_other_edition`
pub amsulfezd_other_edition :
    (κs : _) (a : _) (r₁ r₂ : _) (s₁ s₂ : _)
    → other-edition-reads.Post κs a r₁ s₁
    → other-edition-reads.Post κs a r₂ s₂
    → (r₁ ≡ r₂) × (s₁.1.0.now ≡ s₂.1.0.now)
amsulfezd_other_edition κs a r₁ r₂ s₁ s₂ p q = (p.0 ∙ sym q.0, p.1 ∙ sym q.1)

pub amsulfezd_read_frame : Determined read-frame-reads.Post
amsulfezd_read_frame κs a r₁ r₂ s₁ s₂ p q = p ∙ sym q

-- `amsulfezd_write_frame` as well: the number, and the lent slice in every byte
pub amsulfezd_write_frame :
    (κs : _) (a : _) (r₁ r₂ : _) (s₁ s₂ : _)
    → write-frame-reads.Post κs a r₁ s₁
    → write-frame-reads.Post κs a r₂ s₂
    → (r₁ ≡ r₂) × (s₁.1.0.now ≡ s₂.1.0.now)
amsulfezd_write_frame κs a r₁ r₂ s₁ s₂ p q = (p.0 ∙ sym q.0, p.1 ∙ sym q.1)

-- `amsulfezd_import_capture` returns a number, writes, and leaves two numbers: all are fixed
pub amsulfezd_import_capture :
    (κs : _) (a : _) (r₁ r₂ : _) (s₁ s₂ : _)
    → import-capture-reads.Post κs a r₁ s₁
    → import-capture-reads.Post κs a r₂ s₂
    → (r₁ ≡ r₂) × (s₁.1.0.now ≡ s₂.1.0.now) × (s₁.1.1.0.now ≡ s₂.1.1.0.now) × (s₁.1.1.1.0.now ≡ s₂.1.1.1.0.now)
amsulfezd_import_capture κs a r₁ r₂ s₁ s₂ p q = (p.0 ∙ sym q.0, p.1.0 ∙ sym q.1.0, p.1.1.0 ∙ sym q.1.1.0, p.1.1.1 ∙ sym q.1.1.1)

-- so does `amsulfezd_export_capture`
pub amsulfezd_export_capture :
    (κs : _) (a : _) (r₁ r₂ : _) (s₁ s₂ : _)
    → export-capture-reads.Post κs a r₁ s₁
    → export-capture-reads.Post κs a r₂ s₂
    → (r₁ ≡ r₂) × (s₁.1.0.now ≡ s₂.1.0.now) × (s₁.1.1.0.now ≡ s₂.1.1.0.now) × (s₁.1.1.1.0.now ≡ s₂.1.1.1.0.now)
amsulfezd_export_capture κs a r₁ r₂ s₁ s₂ p q = (p.0 ∙ sym q.0, p.1.0 ∙ sym q.1.0, p.1.1.0 ∙ sym q.1.1.0, p.1.1.1 ∙ sym q.1.1.1)

-- `amsulfezd_new_settings` returns a number and writes: both are fixed
pub amsulfezd_new_settings :
    (κs : _) (a : _) (r₁ r₂ : _) (s₁ s₂ : _)
    → new-settings-reads.Post κs a r₁ s₁
    → new-settings-reads.Post κs a r₂ s₂
    → (r₁ ≡ r₂) × (s₁.1.1.1.0.now ≡ s₂.1.1.1.0.now)
amsulfezd_new_settings κs a r₁ r₂ s₁ s₂ p q = (p.0 ∙ sym q.0, p.1 ∙ sym q.1)

-- so does each setter
pub amsulfezd_set_slot_bits :
    (κs : _) (a : _) (r₁ r₂ : _) (s₁ s₂ : _)
    → set-slot-bits-reads.Post κs a r₁ s₁
    → set-slot-bits-reads.Post κs a r₂ s₂
    → (r₁ ≡ r₂) × (s₁.0.now ≡ s₂.0.now)
amsulfezd_set_slot_bits κs a r₁ r₂ s₁ s₂ p q = (p.0 ∙ sym q.0, p.1 ∙ sym q.1)

pub amsulfezd_set_highest_station_address :
    (κs : _) (a : _) (r₁ r₂ : _) (s₁ s₂ : _)
    → set-highest-station-address-reads.Post κs a r₁ s₁
    → set-highest-station-address-reads.Post κs a r₂ s₂
    → (r₁ ≡ r₂) × (s₁.0.now ≡ s₂.0.now)
amsulfezd_set_highest_station_address κs a r₁ r₂ s₁ s₂ p q = (p.0 ∙ sym q.0, p.1 ∙ sym q.1)

pub amsulfezd_set_token_rotation_bits :
    (κs : _) (a : _) (r₁ r₂ : _) (s₁ s₂ : _)
    → set-token-rotation-bits-reads.Post κs a r₁ s₁
    → set-token-rotation-bits-reads.Post κs a r₂ s₂
    → (r₁ ≡ r₂) × (s₁.0.now ≡ s₂.0.now)
amsulfezd_set_token_rotation_bits κs a r₁ r₂ s₁ s₂ p q = (p.0 ∙ sym q.0, p.1 ∙ sym q.1)

pub amsulfezd_set_gap_wait_rotations :
    (κs : _) (a : _) (r₁ r₂ : _) (s₁ s₂ : _)
    → set-gap-wait-rotations-reads.Post κs a r₁ s₁
    → set-gap-wait-rotations-reads.Post κs a r₂ s₂
    → (r₁ ≡ r₂) × (s₁.0.now ≡ s₂.0.now)
amsulfezd_set_gap_wait_rotations κs a r₁ r₂ s₁ s₂ p q = (p.0 ∙ sym q.0, p.1 ∙ sym q.1)

pub amsulfezd_set_max_retry_limit :
    (κs : _) (a : _) (r₁ r₂ : _) (s₁ s₂ : _)
    → set-max-retry-limit-reads.Post κs a r₁ s₁
    → set-max-retry-limit-reads.Post κs a r₂ s₂
    → (r₁ ≡ r₂) × (s₁.0.now ≡ s₂.0.now)
amsulfezd_set_max_retry_limit κs a r₁ r₂ s₁ s₂ p q = (p.0 ∙ sym q.0, p.1 ∙ sym q.1)

pub amsulfezd_set_min_tsdr_bits :
    (κs : _) (a : _) (r₁ r₂ : _) (s₁ s₂ : _)
    → set-min-tsdr-bits-reads.Post κs a r₁ s₁
    → set-min-tsdr-bits-reads.Post κs a r₂ s₂
    → (r₁ ≡ r₂) × (s₁.0.now ≡ s₂.0.now)
amsulfezd_set_min_tsdr_bits κs a r₁ r₂ s₁ s₂ p q = (p.0 ∙ sym q.0, p.1 ∙ sym q.1)

pub amsulfezd_set_watchdog_timeout :
    (κs : _) (a : _) (r₁ r₂ : _) (s₁ s₂ : _)
    → set-watchdog-timeout-reads.Post κs a r₁ s₁
    → set-watchdog-timeout-reads.Post κs a r₂ s₂
    → (r₁ ≡ r₂) × (s₁.0.now ≡ s₂.0.now)
amsulfezd_set_watchdog_timeout κs a r₁ r₂ s₁ s₂ p q = (p.0 ∙ sym q.0, p.1 ∙ sym q.1)

pub amsulfezd_finish_settings : Determined finish-settings-reads.Post
amsulfezd_finish_settings κs a r₁ r₂ s₁ s₂ p q = p ∙ sym q

-- a station as bytes: the number, and each byte of what is lent
pub amsulfezd_open_station :
    (κs : _) (a : _) (r₁ r₂ : _) (s₁ s₂ : _)
    → open-station-reads.Post κs a r₁ s₁
    → open-station-reads.Post κs a r₂ s₂
    → (r₁ ≡ r₂) × (s₁.1.0.now ≡ s₂.1.0.now)
amsulfezd_open_station κs a r₁ r₂ s₁ s₂ p q = (p.0 ∙ sym q.0, p.1 ∙ sym q.1)

pub amsulfezd_step_station :
    (κs : _) (a : _) (r₁ r₂ : _) (s₁ s₂ : _)
    → step-station-reads.Post κs a r₁ s₁
    → step-station-reads.Post κs a r₂ s₂
    → (r₁ ≡ r₂) × (s₁.0.now ≡ s₂.0.now) × (s₁.1.1.0.now ≡ s₂.1.1.0.now)
amsulfezd_step_station κs a r₁ r₂ s₁ s₂ p q = (p.0 ∙ sym q.0, p.1.0 ∙ sym q.1.0, p.1.1 ∙ sym q.1.1)

-- beside it: its counts, its step with a table, and what a table says of an address
pub amsulfezd_station_counts :
    (κs : _) (a : _) (r₁ r₂ : _) (s₁ s₂ : _)
    → station-counts-reads.Post κs a r₁ s₁
    → station-counts-reads.Post κs a r₂ s₂
    → (r₁ ≡ r₂) × (s₁.1.0.now ≡ s₂.1.0.now)
amsulfezd_station_counts κs a r₁ r₂ s₁ s₂ p q = (p.0 ∙ sym q.0, p.1 ∙ sym q.1)

pub amsulfezd_step_heard :
    (κs : _) (a : _) (r₁ r₂ : _) (s₁ s₂ : _)
    → step-heard-reads.Post κs a r₁ s₁
    → step-heard-reads.Post κs a r₂ s₂
    → (r₁ ≡ r₂) × (s₁.0.now ≡ s₂.0.now) × (s₁.1.1.0.now ≡ s₂.1.1.0.now) × (s₁.1.1.1.0.now ≡ s₂.1.1.1.0.now)
amsulfezd_step_heard κs a r₁ r₂ s₁ s₂ p q = (p.0 ∙ sym q.0, p.1.0 ∙ sym q.1.0, p.1.1.0 ∙ sym q.1.1.0, p.1.1.1 ∙ sym q.1.1.1)

pub amsulfezd_table_heard :
    (κs : _) (a : _) (r₁ r₂ : _) (s₁ s₂ : _)
    → table-heard-reads.Post κs a r₁ s₁
    → table-heard-reads.Post κs a r₂ s₂
    → (r₁ ≡ r₂) × (s₁.1.1.0.now ≡ s₂.1.1.0.now)
amsulfezd_table_heard κs a r₁ r₂ s₁ s₂ p q = (p.0 ∙ sym q.0, p.1 ∙ sym q.1)
