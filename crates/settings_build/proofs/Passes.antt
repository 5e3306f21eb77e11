-- A record without a refusal passes the rule of each field (`Passes`); and what accepted settings are by the numbers.
use Rattle.std.specs.Prelude.{ℕ, ◌+◌, ◌<◌, ◌≤◌, ◌≡◌, List, [], ◌∷◌}
use Rattle.std.proofs.Common.{arith}
use Rattle.bit_times.specs.Times.{baud_of}
use Rattle.settings_rules.specs.Rules.{address_refusal, baud_refusal, least_of, slot_bits_refusal, hsa_refusal, rotation_refusal, room_refusal, gap_wait_refusal, retry_refusal, min_tsdr_refusal, factors_refusal}
use Rattle.settings_rules.proofs.Laws.{below_in, outside_in, none_refuses, first_has, Numbered, none_numbered, address_numbered, baud_numbered, slot_bits_numbered, hsa_numbered, rotation_numbered, room_numbered, gap_wait_numbered, retry_numbered, min_tsdr_numbered, factors_numbered}
use Rattle.settings.specs.declared.parameters.Parameters.{Parameters}
use Rattle.settings_build.specs.declared.plain.PlainSettings.{PlainSettings}
use Rattle.settings_build.specs.Build.{early_refusal, first_refusal, plain_of}
use Rattle.settings_build.specs.Passes.{Passes}

-- a record without a refusal passes each rule
pub passes : (f : PlainSettings) → first_refusal f ≡ 0 → Passes f
unfolding first_refusal early_refusal
passes f e =
    let late : List ℕ = factors_refusal f.factor_1 f.factor_2 ∷ [] in
    let seven : List ℕ = min_tsdr_refusal f.min_tsdr_bits ∷ [] in
    let six : List ℕ = retry_refusal f.max_retry_limit ∷ seven in
    let five : List ℕ = gap_wait_refusal f.gap_wait_rotations ∷ six in
    let room : List ℕ = room_refusal f.slot_bits f.token_rotation_bits ∷ five in
    let four : List ℕ = rotation_refusal f.token_rotation_bits ∷ room in
    let three : List ℕ = hsa_refusal f.address f.highest_station_address ∷ four in
    let two : List ℕ = slot_bits_refusal (least_of (baud_of f.baud_code)) f.slot_bits ∷ three in
    let ten : List ℕ = baud_refusal (baud_of f.baud_code) ∷ two in
    let whole = none_refuses (early_refusal f) late e in
    let from_1 = none_refuses (address_refusal f.address) ten whole.0 in
    let from_10 = none_refuses (baud_refusal (baud_of f.baud_code)) two from_1.1 in
    let from_2 = none_refuses (slot_bits_refusal (least_of (baud_of f.baud_code)) f.slot_bits) three from_10.1 in
    let from_3 = none_refuses (hsa_refusal f.address f.highest_station_address) four from_2.1 in
    let from_4 = none_refuses (rotation_refusal f.token_rotation_bits) room from_3.1 in
    let from_25 = none_refuses (room_refusal f.slot_bits f.token_rotation_bits) five from_4.1 in
    let from_5 = none_refuses (gap_wait_refusal f.gap_wait_rotations) six from_25.1 in
    let from_6 = none_refuses (retry_refusal f.max_retry_limit) seven from_5.1 in
    record {
      address = from_1.0;
      baud = from_10.0;
      slot_bits = from_2.0;
      hsa = from_3.0;
      rotation = from_4.0;
      room = from_25.0;
      gap_wait = from_5.0;
      retry = from_6.0;
      min_tsdr = (none_refuses (min_tsdr_refusal f.min_tsdr_bits) [] from_6.1).0;
      factors = (none_refuses (factors_refusal f.factor_1 f.factor_2) [] whole.1).0;
    }

-- accepted settings, by the numbers: an address up to 125, a rotation up to 16,777,960, and room for a gap poll in it
pub address_low : (p : Parameters) → first_refusal (plain_of p) ≡ 0 → p.address < 126
unfolding plain_of address_refusal
address_low p e = omega (arith, (outside_in 0 p.address 125 1 (omega arith) (passes (plain_of p) e).address).1)

pub rotation_top : (p : Parameters) → first_refusal (plain_of p) ≡ 0 → p.token_rotation_bits ≤ 16777960
unfolding plain_of rotation_refusal
rotation_top p e = (outside_in 256 p.token_rotation_bits 16777960 4 (omega arith) (passes (plain_of p) e).rotation).1

pub rotation_room : (p : Parameters) → first_refusal (plain_of p) ≡ 0 → p.slot_bits + 100 ≤ p.token_rotation_bits
unfolding plain_of room_refusal
rotation_room p e = below_in (p.slot_bits + 100) p.token_rotation_bits 25 (omega arith) (passes (plain_of p) e).room

-- the number of a whole record's refusal is one that a refusal has
pub early_numbered : (f : PlainSettings) → Numbered (early_refusal f)
unfolding early_refusal
early_numbered f =
    let least : ℕ = least_of (baud_of f.baud_code) in
    let seven : List ℕ = min_tsdr_refusal f.min_tsdr_bits ∷ [] in
    let six : List ℕ = retry_refusal f.max_retry_limit ∷ seven in
    let five : List ℕ = gap_wait_refusal f.gap_wait_rotations ∷ six in
    let room : List ℕ = room_refusal f.slot_bits f.token_rotation_bits ∷ five in
    let four : List ℕ = rotation_refusal f.token_rotation_bits ∷ room in
    let three : List ℕ = hsa_refusal f.address f.highest_station_address ∷ four in
    let two : List ℕ = slot_bits_refusal least f.slot_bits ∷ three in
    let ten : List ℕ = baud_refusal (baud_of f.baud_code) ∷ two in
    first_has Numbered (address_refusal f.address) ten (address_numbered f.address)
    (first_has Numbered (baud_refusal (baud_of f.baud_code)) two (baud_numbered (baud_of f.baud_code))
    (first_has Numbered (slot_bits_refusal least f.slot_bits) three (slot_bits_numbered least f.slot_bits)
    (first_has Numbered (hsa_refusal f.address f.highest_station_address) four (hsa_numbered f.address f.highest_station_address)
    (first_has Numbered (rotation_refusal f.token_rotation_bits) room (rotation_numbered f.token_rotation_bits)
    (first_has Numbered (room_refusal f.slot_bits f.token_rotation_bits) five (room_numbered f.slot_bits f.token_rotation_bits)
    (first_has Numbered (gap_wait_refusal f.gap_wait_rotations) six (gap_wait_numbered f.gap_wait_rotations)
    (first_has Numbered (retry_refusal f.max_retry_limit) seven (retry_numbered f.max_retry_limit)
    (first_has Numbered (min_tsdr_refusal f.min_tsdr_bits) [] (min_tsdr_numbered f.min_tsdr_bits) none_numbered))))))))

pub whole_numbered : (f : PlainSettings) → Numbered (first_refusal f)
unfolding first_refusal
whole_numbered f =
    let factors : ℕ = factors_refusal f.factor_1 f.factor_2 in
    first_has Numbered (early_refusal f) (factors ∷ []) (early_numbered f)
    (first_has Numbered factors [] (factors_numbered f.factor_1 f.factor_2) none_numbered)
