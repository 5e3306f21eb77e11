-- A station as bytes (the live door): ten words, then the set of its ring's members, 96 bytes. Assumes nothing.
use Rattle.std.specs.Prelude.{ℕ, ◌+◌, Bool, true, false, cond, List, [], ◌∷◌, ◌++◌, length, take, drop, replicate, ltb, Option, Some, None, Result, Ok, Err}
use Rattle.codec_fields.specs.Fields.{bytes_of, load_of, stored_of}
use Rattle.settings.specs.declared.parameters.Parameters.{Parameters}
use Rattle.refusals.specs.declared.refusal.Refusal.{Refusal}
use Rattle.ring_addresses.specs.Set.{only}
use Rattle.ring.specs.Ring.{Ring, has, make}
use Rattle.ring_members.specs.Members.{in_set, set_added, set_bytes}
use Rattle.station.specs.declared.parts.Counts.{Counts}
use Rattle.station.specs.declared.station.Station.{Station}
use Rattle.trace.specs.Trace.{settings_of}
use Rattle.station_words.specs.declared.Words.{Words}
use Rattle.station_words.specs.Words.{words_of, state_in, core_in, counts_in, laps_in, ready_in, header_in, same_words}
use Rattle.station_lines.specs.Lines.{sound_line}
use Rattle.station_bytes.specs.declared.Five.{Five}

-- the bytes of a station
abbrev pub station_length : ℕ
station_length = 96

-- Read.

-- the five words from a place on
unfoldable pub five_in : List ℕ → ℕ → Five
five_in bytes at =
    record {
      a = load_of bytes at 8;
      b = load_of bytes (at + 8) 8;
      c = load_of bytes (at + 16) 8;
      d = load_of bytes (at + 24) 8;
      e = load_of bytes (at + 32) 8;
    }

-- the ten words
unfoldable pub words_in : List ℕ → Words
words_in bytes =
    record {
      first = load_of bytes 0 8;
      settings = load_of bytes 8 8;
      limits = load_of bytes 16 8;
      state = load_of bytes 24 8;
      token_time = load_of bytes 32 8;
      last_token_time = load_of bytes 40 8;
      end_token_hold_time = load_of bytes 48 8;
      last_bus_activity = load_of bytes 56 8;
      counts = load_of bytes 64 8;
      numbers = load_of bytes 72 8;
    }

-- the set of the members
abbrev pub set_in : List ℕ → List ℕ
set_in bytes = take 16 (drop 80 bytes)

-- the ring of own alone and the set of its members, with these laps
unfoldable pub ring_in : ℕ → ℕ → Bool → List ℕ → Ring
ring_in own laps ready set = set_added (make own (only own) laps ready) set 16

-- the station that words and a set of members say, with these settings and n applications
unfoldable pub station_from : Parameters → ℕ → Words → List ℕ → Station
station_from p n w set =
    record { state = state_in w; core = core_in w; token_ring = ring_in p.address (laps_in w) (ready_in w) set; p = p; counts = counts_in w; applications = n }

-- whether a station can be this one, and writes these words
unfoldable pub words_fit : Station → Words → Bool
words_fit s w =
    cond (sound_line s.p s.applications s.state s.core s.token_ring.laps)
    (same_words (words_of s.state s.core s.token_ring.laps s.token_ring.ready s.p s.applications s.counts) w)
    false

-- whether a station with this address writes this set: its own address is in it, and the two that are none are not
unfoldable pub set_fits : List ℕ → ℕ → Bool
set_fits set own = cond (in_set set own) (cond (in_set set 126) false (cond (in_set set 127) false true)) false

-- the station that words say, where a station writes them
unfoldable pub checked_in : Station → Words → Option Station
checked_in s w = cond (words_fit s w) (Some s) None

-- the same, and the set of its members
unfoldable pub found_with : Parameters → ℕ → Words → List ℕ → Option Station
found_with p n w set = cond (set_fits set p.address) (checked_in (station_from p n w set) w) None

-- what words and a set are: none where the settings are refused
unfoldable pub found_on : Result Parameters Refusal → ℕ → Words → List ℕ → Option Station
found_on (Ok p) n w set = found_with p n w set
found_on (Err refusal) n w set = None

unfoldable pub found_in : Words → List ℕ → Option Station
found_in w set = found_on (settings_of (header_in w)) (header_in w).applications w set

-- what bytes are, a station or none: none where they are too few
unfoldable pub read_of : List ℕ → Option Station
read_of bytes = cond (ltb (length bytes) station_length) None (found_in (words_in bytes) (set_in bytes))

-- a ring in whose links nobody is, and all else as it is; and a station with such a ring
abbrev pub unlinked_ring : Ring → Ring
unlinked_ring r = record { links = replicate 252 127; own = r.own; laps = r.laps; ready = r.ready }

unfoldable pub unlinked : Station → Station
unlinked s = record { state = s.state; core = s.core; token_ring = unlinked_ring s.token_ring; p = s.p; counts = s.counts; applications = s.applications }

abbrev pub unlinked_in : Option Station → Option Station
unlinked_in (Some s) = Some (unlinked s)
unlinked_in None = None

-- the station that words say, with such a ring
unfoldable pub head_from : Parameters → ℕ → Words → Station
head_from p n w =
    record {
      state = state_in w;
      core = core_in w;
      token_ring = record { links = replicate 252 127; own = p.address; laps = laps_in w; ready = ready_in w };
      p = p;
      counts = counts_in w;
      applications = n;
    }

-- what a station has counted, or none
abbrev pub counts_of : Option Station → Option Counts
counts_of (Some s) = Some s.counts
counts_of None = None

-- Written.

-- words stored one after the other from a place on
abbrev pub stores_from : ℕ → List ℕ → List ℕ → List ℕ
stores_from at [] s = s
stores_from at (w ∷ ws) s = stores_from (at + 8) ws (stored_of s at 8 w)

-- the ten words stored
unfoldable pub words_stored : List ℕ → Words → List ℕ
words_stored s w =
    stores_from 40 (w.last_token_time ∷ w.end_token_hold_time ∷ w.last_bus_activity ∷ w.counts ∷ w.numbers ∷ [])
    (stores_from 0 (w.first ∷ w.settings ∷ w.limits ∷ w.state ∷ w.token_time ∷ []) s)

-- the words in the order of their bytes
abbrev pub word_list : Words → List ℕ
word_list w =
    w.first
    ∷ w.settings
    ∷ w.limits
    ∷ w.state
    ∷ w.token_time
    ∷ w.last_token_time
    ∷ w.end_token_hold_time
    ∷ w.last_bus_activity
    ∷ w.counts
    ∷ w.numbers
    ∷ []

-- the bytes of words
abbrev pub all_bytes : List ℕ → List ℕ
all_bytes [] = []
all_bytes (w ∷ ws) = bytes_of w ++ all_bytes ws

-- the words of a station
abbrev pub station_words : Station → Words
station_words s = words_of s.state s.core s.token_ring.laps s.token_ring.ready s.p s.applications s.counts

-- the bytes of a station
unfoldable pub station_bytes : Station → List ℕ
station_bytes s = all_bytes (word_list (station_words s)) ++ set_bytes (has s.token_ring)

-- written over the first bytes; as they are where there are too few
unfoldable pub station_into : List ℕ → Station → List ℕ
station_into out s = cond (ltb (length out) station_length) out (station_bytes s ++ drop station_length out)
