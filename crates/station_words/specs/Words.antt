-- What a station's bytes hold besides its ring's members, as ten words of 64 bits (the live door: a station is bytes). Assumes nothing.
use Rattle.std.specs.Prelude.{ℕ, Bool, true, false, cond, List, [], ◌∷◌, eqb, Option, Some, None}
use Rattle.bit_times.specs.declared.micros.Micros.{Micros}
use Rattle.codec_fields.specs.Fields.{field_of, bit_at, bit_number, put_all}
use Rattle.settings.specs.declared.parameters.Parameters.{Parameters}
use Rattle.settings_build.specs.declared.plain.PlainSettings.{PlainSettings}
use Rattle.settings_build.specs.Build.{plain_of}
use Rattle.ring.specs.declared.GapState.{GapState}
use Rattle.ring.specs.declared.GapState.TheVariants.{Waiting, DoPoll}
use Rattle.station.specs.declared.state.ConnectivityState.{ConnectivityState}
use Rattle.station.specs.declared.state.ConnectivityState.TheVariants as connectivity
use Rattle.station.specs.declared.state.State.{State}
use Rattle.station.specs.declared.parts.Core.{Core}
use Rattle.station.specs.declared.parts.Counts.{Counts}
use Rattle.station_numbers.specs.Numbers.{state_numbers, state_from, state_word, numbers_in}
use Rattle.trace_headers.specs.declared.Header.{Header}
use Rattle.station_words.specs.declared.Words.{Words}

-- The parts of a core.

-- connectivity: 0 offline, 1 passive, 2 online
abbrev pub connectivity_number : ConnectivityState → ℕ
connectivity_number connectivity.Offline = 0
connectivity_number connectivity.Passive = 1
connectivity_number connectivity.Online = 2

unfoldable pub connectivity_of : ℕ → ConnectivityState
connectivity_of n = cond (eqb n 1) connectivity.Passive (cond (eqb n 2) connectivity.Online connectivity.Offline)

-- the last bus activity: whether it is known, and its time, 0 where none is
abbrev pub activity_known : Option Micros → Bool
activity_known None = false
activity_known (Some last) = true

abbrev pub activity_time : Option Micros → ℕ
activity_time None = 0
activity_time (Some last) = last.0

unfoldable pub activity_of : Bool → ℕ → Option Micros
activity_of known time = cond known (Some (record { 0 = time })) None

-- the gap state: whether it polls, and its count or its address
abbrev pub gap_polls : GapState → Bool
gap_polls (Waiting count) = false
gap_polls (DoPoll address) = true

abbrev pub gap_number : GapState → ℕ
gap_number (Waiting count) = count
gap_number (DoPoll address) = address

unfoldable pub gap_of : Bool → ℕ → GapState
gap_of polls n = cond polls (DoPoll n) (Waiting n)

-- The words.

-- the edition of a station's bytes
abbrev pub station_edition : ℕ
station_edition = 1

-- edition 8, connectivity 8, next application 8, laps 16, zero 21, ready 1, the gap is polled 1, activity known 1
abbrev pub first_widths : List ℕ
first_widths = 8 ∷ 8 ∷ 8 ∷ 16 ∷ 21 ∷ 1 ∷ 1 ∷ 1 ∷ []

abbrev pub first_values : Core → ℕ → Bool → List ℕ
first_values c laps ready =
    station_edition
    ∷ connectivity_number c.connectivity_state
    ∷ c.next_application
    ∷ laps
    ∷ 0
    ∷ bit_number ready
    ∷ bit_number (gap_polls c.gap_state)
    ∷ bit_number (activity_known c.last_bus_activity)
    ∷ []

unfoldable pub first_word : Core → ℕ → Bool → ℕ
first_word c laps ready = put_all 0 first_widths (first_values c laps ready)

-- the settings as a header of edition 1 has them: address 8, baud 8, slot 16, rotation 32
abbrev pub settings_widths : List ℕ
settings_widths = 8 ∷ 8 ∷ 16 ∷ 32 ∷ []

abbrev pub settings_values : PlainSettings → List ℕ
settings_values f = f.address ∷ f.baud_code ∷ f.slot_bits ∷ f.token_rotation_bits ∷ []

unfoldable pub settings_word : PlainSettings → ℕ
settings_word f = put_all 0 settings_widths (settings_values f)

-- and gap wait 8, highest address 8, retry 8, min Tsdr 8, applications 8, factors 8 + 8, zero 8
abbrev pub limits_widths : List ℕ
limits_widths = 8 ∷ 8 ∷ 8 ∷ 8 ∷ 8 ∷ 8 ∷ 8 ∷ 8 ∷ []

abbrev pub limits_values : PlainSettings → ℕ → List ℕ
limits_values f n =
    f.gap_wait_rotations
    ∷ f.highest_station_address
    ∷ f.max_retry_limit
    ∷ f.min_tsdr_bits
    ∷ n
    ∷ f.factor_1
    ∷ f.factor_2
    ∷ 0
    ∷ []

unfoldable pub limits_word : PlainSettings → ℕ → ℕ
limits_word f n = put_all 0 limits_widths (limits_values f n)

-- claims 32, removals 32
abbrev pub counts_widths : List ℕ
counts_widths = 32 ∷ 32 ∷ []

abbrev pub counts_values : Counts → List ℕ
counts_values k = k.claims ∷ k.removals ∷ []

unfoldable pub counts_word : Counts → ℕ
counts_word k = put_all 0 counts_widths (counts_values k)

-- meetings 32, pending bytes 16, zero 8, the gap state's number 8
abbrev pub numbers_widths : List ℕ
numbers_widths = 32 ∷ 16 ∷ 8 ∷ 8 ∷ []

abbrev pub numbers_values : Counts → Core → List ℕ
numbers_values k c = k.meetings ∷ c.pending_bytes ∷ 0 ∷ gap_number c.gap_state ∷ []

unfoldable pub numbers_word : Counts → Core → ℕ
numbers_word k c = put_all 0 numbers_widths (numbers_values k c)

-- the words of a station, from its state, its core, its ring's laps and ready, its settings, its number of applications and its counts
unfoldable pub words_of : State → Core → ℕ → Bool → Parameters → ℕ → Counts → Words
words_of x c laps ready p n k =
    record {
      first = first_word c laps ready;
      settings = settings_word (plain_of p);
      limits = limits_word (plain_of p) n;
      state = state_word (state_numbers x);
      token_time = (state_numbers x).token_time;
      last_token_time = c.last_token_time.0;
      end_token_hold_time = c.end_token_hold_time.0;
      last_bus_activity = activity_time c.last_bus_activity;
      counts = counts_word k;
      numbers = numbers_word k c;
    }

-- A station's parts, from its words.

unfoldable pub state_in : Words → State
state_in w = state_from (numbers_in w.state w.token_time)

unfoldable pub core_in : Words → Core
core_in w =
    record {
      last_token_time = record { 0 = w.last_token_time };
      end_token_hold_time = record { 0 = w.end_token_hold_time };
      last_bus_activity = activity_of (bit_at w.first 0) w.last_bus_activity;
      gap_state = gap_of (bit_at w.first 1) (field_of w.numbers 0 8);
      pending_bytes = field_of w.numbers 16 16;
      next_application = field_of w.first 40 8;
      connectivity_state = connectivity_of (field_of w.first 48 8);
    }

unfoldable pub counts_in : Words → Counts
counts_in w = record { claims = field_of w.counts 32 32; removals = field_of w.counts 0 32; meetings = field_of w.numbers 32 32 }

-- what stands beside its ring's links and its own address
unfoldable pub laps_in : Words → ℕ
laps_in w = field_of w.first 24 16

unfoldable pub ready_in : Words → Bool
ready_in w = bit_at w.first 2

unfoldable pub header_in : Words → Header
header_in w =
    record {
      settings = record {
        token_rotation_bits = field_of w.settings 0 32;
        slot_bits = field_of w.settings 32 16;
        address = field_of w.settings 56 8;
        baud_code = field_of w.settings 48 8;
        gap_wait_rotations = field_of w.limits 56 8;
        highest_station_address = field_of w.limits 48 8;
        max_retry_limit = field_of w.limits 40 8;
        min_tsdr_bits = field_of w.limits 32 8;
        factor_1 = field_of w.limits 16 8;
        factor_2 = field_of w.limits 8 8;
      };
      applications = field_of w.limits 24 8;
      zero_bits = field_of w.limits 0 8;
    }

-- whether two times five words are the same
unfoldable pub same_five : ℕ → ℕ → ℕ → ℕ → ℕ → ℕ → ℕ → ℕ → ℕ → ℕ → Bool
same_five a b c d e f g h i j = cond (eqb a f) (cond (eqb b g) (cond (eqb c h) (cond (eqb d i) (eqb e j) false) false) false) false

-- whether two are the same, word by word
unfoldable pub same_words : Words → Words → Bool
same_words a b =
    cond (same_five a.first a.settings a.limits a.state a.token_time b.first b.settings b.limits b.state b.token_time)
    (same_five a.last_token_time a.end_token_hold_time a.last_bus_activity a.counts a.numbers b.last_token_time b.end_token_hold_time b.last_bus_activity b.counts b.numbers)
    false
