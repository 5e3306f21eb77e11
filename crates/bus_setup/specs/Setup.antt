-- The setup of a simulated bus (document 02, P12): its numbers, its stations by rising address, and what refuses it. Assumes nothing.
use Rattle.std.specs.Prelude.{ℕ, zero, suc, ◌+◌, ◌*◌, List, [], ◌∷◌, ◌++◌, cond, length, eqb, ltb}
use Rattle.codec_fields.specs.Fields.{bit_number, load_of, low_bytes}
use Rattle.codec_records.specs.Records.{words_refusal}
use Rattle.settings.specs.Settings.{created_number}
use Rattle.trace.specs.Trace.{settings_at}

-- the bytes of a setup: number of stations 8 bits, tick 32, ticks 32, then 14 bytes for each station
abbrev pub head_bytes : ℕ
head_bytes = 9

abbrev pub station_bytes : ℕ
station_bytes = 14

-- the number of stations, the tick in microseconds, the number of ticks; 0 where the setup ends before
unfoldable pub stations_of : List ℕ → ℕ
stations_of setup = load_of setup 0 1

unfoldable pub tick_of : List ℕ → ℕ
tick_of setup = load_of setup 1 4

unfoldable pub ticks_of : List ℕ → ℕ
ticks_of setup = load_of setup 5 4

-- where the bytes of station j begin, counted as given
unfoldable pub station_place : ℕ → ℕ
station_place j = head_bytes + station_bytes * j

-- its address and its baud code, as given
unfoldable pub address_of : List ℕ → ℕ → ℕ
address_of setup j = load_of setup (station_place j) 1

unfoldable pub code_of : List ℕ → ℕ → ℕ
code_of setup j = load_of setup (station_place j + 1) 1

-- count bytes of a setup from a place on; zeros where it ends before
abbrev pub bytes_at : List ℕ → ℕ → ℕ → List ℕ
bytes_at setup at count = low_bytes count (load_of setup at count)

-- the header of its trace, edition 1: its first 12 bytes as given (address, baud, slot, rotation, gap, HSA, retry, min Tsdr), one
-- application, its two factors as given, zero
unfoldable pub station_header : List ℕ → ℕ → List ℕ
station_header setup j =
    bytes_at setup (station_place j) 8 ++ (bytes_at setup (station_place j + 8) 4 ++ (1 ∷ (bytes_at setup (station_place j + 12) 2 ++ (0 ∷ []))))

-- Counting.

-- f 0 + f 1 + .. + f (k - 1)
unfoldable pub sum_below : (ℕ → ℕ) → ℕ → ℕ
sum_below f zero = 0
sum_below f (suc k) = sum_below f k + f k

-- 1 where station m has a lower address than station j; the same address; a code other than the first station's
unfoldable pub is_lower : List ℕ → ℕ → ℕ → ℕ
is_lower setup j m = bit_number (ltb (address_of setup m) (address_of setup j))

unfoldable pub is_equal : List ℕ → ℕ → ℕ → ℕ
is_equal setup j m = bit_number (eqb (address_of setup m) (address_of setup j))

unfoldable pub is_other : List ℕ → ℕ → ℕ
is_other setup j = cond (eqb (code_of setup j) (code_of setup 0)) 0 1

-- how many of the stations given before station j have its address
unfoldable pub twins_of : List ℕ → ℕ → ℕ
twins_of setup j = sum_below (is_equal setup j) j

-- how many pairs of the first n stations have equal addresses
unfoldable pub pairs_of : List ℕ → ℕ → ℕ
pairs_of setup n = sum_below (twins_of setup) n

-- how many of the first n stations have a code other than the first station's
unfoldable pub others_of : List ℕ → ℕ → ℕ
others_of setup n = sum_below (is_other setup) n

-- Places by rising address.

-- the place of station j: how many of the n stations have a lower address
unfoldable pub rank_of : List ℕ → ℕ → ℕ → ℕ
rank_of setup n j = sum_below (is_lower setup j) n

-- the last of the first k stations as given whose place is i; station 0 where there is none
unfoldable pub placed_in : List ℕ → ℕ → ℕ → ℕ → ℕ
placed_in setup n i zero = 0
placed_in setup n i (suc k) = cond (eqb (rank_of setup n k) i) k (placed_in setup n i k)

-- the station at place i: where no two addresses are equal there is one for each place
unfoldable pub placed_of : List ℕ → ℕ → ℕ → ℕ
placed_of setup n i = placed_in setup n i n

-- Refusals.

-- a station's settings: 1, 10, 2, 3, 4, 25, 5, 6, 7, 8, or 0. An address above 125 is 1, 82h among them: its header is of edition 1
unfoldable pub station_refusal : List ℕ → ℕ → ℕ
station_refusal setup j = cond (ltb 125 (address_of setup j)) 1 (created_number (settings_at (station_header setup j)))

-- the first refusal of the settings of the first n stations, in the order given, or 0
unfoldable pub settings_refusal : List ℕ → ℕ → ℕ
settings_refusal setup n = words_refusal (station_refusal setup) n

-- with a tick, ticks and stations that are allowed: 30 baud codes differ, 27 two equal addresses, then each station's settings
unfoldable pub stations_refusal : List ℕ → ℕ → ℕ
stations_refusal setup n =
    cond (ltb 0 (others_of setup n)) 30
    (cond (ltb 0 (pairs_of setup n)) 27 (settings_refusal setup n))

-- with 2 to 8 stations: 17 a length other than theirs, 28 a tick of none or more than 1,000,000 µs, 35 more than 1,000,000 ticks
unfoldable pub sized_refusal : List ℕ → ℕ → ℕ
sized_refusal setup n =
    cond (eqb (length setup) (station_place n))
    (cond (eqb (tick_of setup) 0) 28
    (cond (ltb 1000000 (tick_of setup)) 28
    (cond (ltb 1000000 (ticks_of setup)) 35 (stations_refusal setup n))))
    17

-- what refuses a setup, before there is a question of room: fewer than 9 bytes 17, fewer than 2 or more than 8 stations 29, and so on; 0
-- for none
unfoldable pub setup_refusal : List ℕ → ℕ
setup_refusal setup =
    cond (ltb (length setup) head_bytes) 17
    (cond (ltb (stations_of setup) 2) 29
    (cond (ltb 8 (stations_of setup)) 29 (sized_refusal setup (stations_of setup))))
