-- Document 01, "Settings": one rule for each limit. A rule gives its refusal's number, or 0 where the value is taken. Setters, new
-- settings, the check of a whole record (settings_build), a header and a new station use the same rules. 1 to 7 and the watchdog's 8
-- are asserts of profirust's ParametersBuilder; 10, 11 and the factors' 8 are document 01's; 25 is document 02's (P4).
use Rattle.std.specs.Prelude.{ℕ, ◌+◌, cond, ◌&&◌, List, [], ◌∷◌, leb, eqb, Result, Ok, Err}
use Rattle.refusals.specs.declared.refusal.Refusal.{Refusal}
use Rattle.refusals.specs.Refusals.{number_of}
use Rattle.bit_times.specs.declared.baud.Baud.{Baud}
use Rattle.bit_times.specs.Times.{least_slot_bits}

-- Numbers of document 01.

-- the highest address of a station
abbrev pub last_address : ℕ
last_address = 125

-- the greatest HSA
abbrev pub greatest_hsa : ℕ
greatest_hsa = 126

-- the rotation that an HSA sets, for each of its addresses
abbrev pub rotation_of_an_address : ℕ
rotation_of_an_address = 5000

-- the least and the greatest rotation
abbrev pub least_rotation : ℕ
least_rotation = 256

abbrev pub greatest_rotation : ℕ
greatest_rotation = 16777960

-- what a gap poll may take besides its slot, in bits: do_use_token takes slot bits and these off the hold, and rule 25 asks for them
abbrev pub gap_allowance : ℕ
gap_allowance = 100

-- the most applications that a station has
abbrev pub most_applications : ℕ
most_applications = 8

-- Two forms of a limit.

-- a value below low is refused with n
unfoldable pub refuse_below : ℕ → ℕ → ℕ → ℕ
refuse_below low v n = cond (leb low v) 0 n

-- a value outside low..high is refused with n
unfoldable pub refuse_outside : ℕ → ℕ → ℕ → ℕ → ℕ
refuse_outside low v high n = cond (leb low v && leb v high) 0 n

-- The rules.

-- 1: address 0..125
unfoldable pub address_refusal : ℕ → ℕ
address_refusal address = refuse_outside 0 address last_address 1

-- 10: a baud code above 10, which has no rate
unfoldable pub baud_refusal : Result Baud Refusal → ℕ
baud_refusal (Ok baud) = 0
baud_refusal (Err e) = number_of e

-- the least slot bits of a code's rate; 0 where the code has none, which is refused before
abbrev pub least_of : Result Baud Refusal → ℕ
least_of (Ok baud) = least_slot_bits baud
least_of (Err e) = 0

-- 2: slot bits at least the least
unfoldable pub slot_bits_refusal : ℕ → ℕ → ℕ
slot_bits_refusal least v = refuse_below least v 2

-- 3: HSA above the address and at most 126
unfoldable pub hsa_refusal : ℕ → ℕ → ℕ
hsa_refusal address v = refuse_outside (address + 1) v greatest_hsa 3

-- 4: rotation 256..16,777,960
unfoldable pub rotation_refusal : ℕ → ℕ
rotation_refusal v = refuse_outside least_rotation v greatest_rotation 4

-- 25, in a whole record: rotation at least slot bits + 100, which is room for a gap poll. No setter asks for it, so that the two may
-- be set in either order
unfoldable pub room_refusal : ℕ → ℕ → ℕ
room_refusal slot rotation = refuse_below (slot + gap_allowance) rotation 25

-- 5: gap wait 1..100
unfoldable pub gap_wait_refusal : ℕ → ℕ
gap_wait_refusal v = refuse_outside 1 v 100 5

-- 6: retry 1..15
unfoldable pub retry_refusal : ℕ → ℕ
retry_refusal v = refuse_outside 1 v 15 6

-- 7: min Tsdr at least 11
unfoldable pub min_tsdr_refusal : ℕ → ℕ
min_tsdr_refusal v = refuse_below 11 v 7

-- 8: watchdog 10..650,000 ms
unfoldable pub watchdog_refusal : ℕ → ℕ
watchdog_refusal ms = refuse_outside 10 ms 650000 8

-- 8, in a whole record: one factor is zero and the other is not
unfoldable pub factors_refusal : ℕ → ℕ → ℕ
factors_refusal f1 f2 = cond (eqb f1 0) (cond (eqb f2 0) 0 8) (cond (eqb f2 0) 8 0)

-- 11: applications 1..8, which a header has beside the settings
unfoldable pub applications_refusal : ℕ → ℕ
applications_refusal n = refuse_outside 1 n most_applications 11

-- the first number of a list that is not 0, or 0
abbrev pub first_of : List ℕ → ℕ
first_of [] = 0
first_of (n ∷ rest) = cond (eqb n 0) (first_of rest) n
