-- Calls, written down: poll records as bytes, and lists of calls that lead a new station to a token pass.
use Rattle.std.specs.Prelude.{ℕ, zero, suc, ◌+◌, ◌*◌, ◌/◌, ◌%◌, Bool, true, false, List, [], ◌∷◌, ◌++◌, length}
use Rattle.bit_times.specs.declared.baud.Baud.TheVariants.{B500000}
use Rattle.settings.specs.declared.parameters.Parameters.{Parameters}
use Rattle.settings.specs.Settings.{default_of}
use Rattle.theorem_sound.specs.Sound.{Call, poll}
use Rattle.theorem_sound.specs.Sound as call

-- Poll records.

-- a token telegram from source to destination
abbrev pub token : ℕ → ℕ → List ℕ
token source destination = destination / 2 ∷ ((destination % 2) * 128 + source) ∷ 0 ∷ 0 ∷ []

-- the response of station 1 to station 0: its station type (1 not ready, 3 in ring), status Ok
abbrev pub response_of1 : ℕ → List ℕ
response_of1 type = 192 ∷ 1 ∷ type * 32 ∷ 0 ∷ []

-- a decision that declines; one that sends 9 bytes and expects no reply; one that sends 9 bytes and expects a reply from 20
abbrev pub declines : List ℕ
declines = 0 ∷ 0 ∷ 0 ∷ []

abbrev pub sends_nine : List ℕ
sends_nine = 128 ∷ 4 ∷ 128 ∷ []

abbrev pub expects_reply : List ℕ
expects_reply = 202 ∷ 4 ∷ 128 ∷ []

-- one list after the other
abbrev pub joined : List (List ℕ) → List ℕ
joined [] = []
joined (t ∷ more) = t ++ joined more

-- the record of one application at this clock (below 65536), with its normal decision and these telegrams
abbrev pub record_of : ℕ → List ℕ → List (List ℕ) → List ℕ
record_of clock normal telegrams = 0 ∷ 0 ∷ 0 ∷ 0 ∷ clock / 256 ∷ clock % 256 ∷ length telegrams * 8 ∷ 0 ∷ [] ++ normal ++ declines ++ joined telegrams

-- a poll at this clock that hears these telegrams; and one that hears none
abbrev pub poll_hearing : ℕ → List (List ℕ) → Call
poll_hearing clock telegrams = poll (record_of clock declines telegrams)

abbrev pub poll_silent : ℕ → Call
poll_silent clock = poll_hearing clock []

-- Calls that lead a new station of address 0 to a token pass with k others in its ring: 1, 2, .. k.

-- its settings: code 6, slot 200, gap wait 1, else the defaults; so a slot is 400 µs, a pause or a token 66 µs, a token is lost after
-- 2,400 µs
abbrev pub lowest : Parameters
lowest =
    record { token_rotation_bits = 32436; slot_bits = 200; address = 0; baudrate = B500000; gap_wait_rotations = 1; highest_station_address = 126; max_retry_limit = 1; min_tsdr_bits = 11; watchdog_factors = (default_of 0 B500000).watchdog_factors }

-- n tokens: from a to a + 1, from a + 2 to a + 3, and so on, 125 followed by 0
abbrev pub pairs : ℕ → ℕ → List (List ℕ)
pairs a zero = []
pairs a (suc n) = token (a % 126) ((a + 1) % 126) ∷ pairs (a + 2) n

-- polls 100 µs apart that hear tokens of all stations from a on; the last has n tokens
abbrev pub hears_all : ℕ → ℕ → ℕ → List Call
hears_all clock a n =
    poll_hearing clock (pairs a 8) ∷ poll_hearing (clock + 100) (pairs (a + 16) 8) ∷ poll_hearing (clock + 200) (pairs (a + 32) 8) ∷ poll_hearing (clock + 300) (pairs (a + 48) 8)
    ∷ poll_hearing (clock + 400) (pairs (a + 64) 8)
    ∷ poll_hearing (clock + 500) (pairs (a + 80) 8)
    ∷ poll_hearing (clock + 600) (pairs (a + 96) 8)
    ∷ poll_hearing (clock + 700) (pairs (a + 112) n)
    ∷ []

-- a token from k to us: who is above k falls out
abbrev pub hears_cut : ℕ → ℕ → Call
hears_cut clock k = poll_hearing clock (token k 0 ∷ [])

-- the token is claimed, sent twice and used; the application declines, so a token pass starts
abbrev pub claims : ℕ → List Call
claims clock = poll_silent clock ∷ poll_silent (clock + 200) ∷ poll_silent (clock + 400) ∷ []

-- With the look at the gap. Others are heard, if there are to be any: all, and then the token from k to us.
abbrev pub begins_look : List Call
begins_look = call.online ∷ poll_silent 0 ∷ []

abbrev pub others_look : ℕ → List Call
others_look zero = []
others_look (suc k) = hears_all 100 1 7 ++ (hears_cut 900 (suc k) ∷ [])

-- Without it: after a gap question. To have one due, the station first claims the token and passes it twice to itself, so that the
-- gap count is 2. Its application sends and expects a reply; a token comes instead, and then two with our own address, so it
-- listens again.
abbrev pub begins_question : List Call
begins_question =
    call.online ∷ poll_silent 0 ∷ poll_silent 2400 ∷ poll_silent 2600 ∷ poll_silent 2800 ∷ poll_silent 3000 ∷ poll_silent 3200 ∷ poll_silent 3400 ∷ poll (record_of 3600 expects_reply [])
    ∷ poll_hearing 4000 (token 2 3 ∷ [])
    ∷ poll_hearing 4100 (token 0 3 ∷ token 0 3 ∷ [])
    ∷ []

-- all but 1 are heard, if there are to be more than one, and then the token from k to us
abbrev pub others_question : ℕ → List Call
others_question zero = []
others_question (suc zero) = []
others_question (suc (suc k)) = hears_all 4200 2 6 ++ (hears_cut 5000 (suc (suc k)) ∷ [])

-- in its token pass the station asks 1, which answers: in the ring, or not ready where there are to be no others
abbrev pub answer_type : ℕ → ℕ
answer_type zero = 1
answer_type (suc k) = 3

abbrev pub asks_one : ℕ → List Call
asks_one k = poll_silent 8000 ∷ poll_hearing 8300 (response_of1 (answer_type k) ∷ []) ∷ []

-- all calls, by the number of others and by whether the pass looks at the gap
abbrev pub calls_for : ℕ → Bool → List Call
calls_for k true = begins_look ++ (others_look k ++ claims 3300)
calls_for k false = begins_question ++ (others_question k ++ (claims 7400 ++ asks_one k))
