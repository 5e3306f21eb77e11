-- What the check of a whole record says of each field: no rule refuses it. The laws are in proofs/Passes.
use Rattle.std.specs.Prelude.{◌≡◌}
use Rattle.bit_times.specs.Times.{baud_of}
use Rattle.settings_rules.specs.Rules.{address_refusal, baud_refusal, least_of, slot_bits_refusal, hsa_refusal, rotation_refusal, room_refusal, gap_wait_refusal, retry_refusal, min_tsdr_refusal, factors_refusal}
use Rattle.settings_build.specs.declared.plain.PlainSettings.{PlainSettings}

-- no rule refuses a field
pub record Passes (f : PlainSettings) : Type 0 where
  pub address : address_refusal f.address ≡ 0
  pub baud : baud_refusal (baud_of f.baud_code) ≡ 0
  pub slot_bits : slot_bits_refusal (least_of (baud_of f.baud_code)) f.slot_bits ≡ 0
  pub hsa : hsa_refusal f.address f.highest_station_address ≡ 0
  pub rotation : rotation_refusal f.token_rotation_bits ≡ 0
  pub room : room_refusal f.slot_bits f.token_rotation_bits ≡ 0
  pub gap_wait : gap_wait_refusal f.gap_wait_rotations ≡ 0
  pub retry : retry_refusal f.max_retry_limit ≡ 0
  pub min_tsdr : min_tsdr_refusal f.min_tsdr_bits ≡ 0
  pub factors : factors_refusal f.factor_1 f.factor_2 ≡ 0
