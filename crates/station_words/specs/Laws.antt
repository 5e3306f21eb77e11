-- A station's parts come back from its words, and each word has 64 bits. Assumes nothing.
use Rattle.std.specs.Prelude.{ℕ, ◌^◌, ◌<◌, ◌≡◌, refl, Bool, true, false, cond, Option, Some, None}
use Rattle.std.proofs.Math.Path.{ap}
use Rattle.std.proofs.Common.{◌∙◌, arith, eqb-true, eq-eqb, lit<, lit≤}
use mathlib.Core.List.{List}
use Rattle.std.proofs.Math.ListN.{get_or}
use Rattle.std.proofs.Math.Dec.{eqb}
use Rattle.bit_times.specs.declared.micros.Micros.{Micros}
use Rattle.codec_fields.specs.Fields.{field_of, bit_number, unpack, Within}
use Rattle.codec_fields.proofs.Laws.{unpack_put, put_below, bit_below, bit_read}
use Rattle.settings.specs.declared.parameters.Parameters.{Parameters}
use Rattle.settings_build.specs.declared.plain.PlainSettings.{PlainSettings}
use Rattle.settings_build.specs.Build.{plain_of}
use Rattle.ring.specs.declared.GapState.{GapState}
use Rattle.ring.specs.declared.GapState.TheVariants.{Waiting, DoPoll}
use Rattle.station.specs.declared.state.ConnectivityState.{ConnectivityState}
use Rattle.station.specs.declared.state.ConnectivityState.TheVariants as connectivity
use Rattle.station.specs.declared.state.State.{State}
use Rattle.station.specs.declared.parts.Core.{Core}
use Rattle.station.specs.declared.parts.Counts.{Counts}
use Rattle.station_numbers.specs.Numbers.{state_numbers}
use Rattle.station_numbers.specs.Laws.{StateFits, state_back, state_word_below}
use Rattle.trace_headers.specs.declared.Header.{Header}
use Rattle.trace_headers.specs.Finished.{header_with}
use Rattle.station_words.specs.declared.Words.{Words}
use Rattle.station_words.specs.Words.{connectivity_number, connectivity_of, activity_known, activity_time, activity_of, gap_polls, gap_number, gap_of, first_widths, first_values, first_word, settings_widths, settings_values, settings_word, limits_widths, limits_values, limits_word, counts_widths, counts_values, counts_word, numbers_widths, numbers_values, numbers_word, words_of, state_in, core_in, counts_in, laps_in, ready_in, header_in, same_five, same_words}

-- What fits its fields.

-- a core
pub record CoreFits (c : Core) : Type 0 where
  pub next_fits : c.next_application < 2 ^ 8
  pub pending_fits : c.pending_bytes < 2 ^ 16
  pub gap_fits : gap_number c.gap_state < 2 ^ 8
  pub last_fits : c.last_token_time.0 < 2 ^ 64
  pub end_fits : c.end_token_hold_time.0 < 2 ^ 64
  pub activity_fits : activity_time c.last_bus_activity < 2 ^ 64

-- counts
pub record CountsFit (k : Counts) : Type 0 where
  pub claims_fit : k.claims < 2 ^ 32
  pub removals_fit : k.removals < 2 ^ 32
  pub meetings_fit : k.meetings < 2 ^ 32

-- plain settings
pub record PlainFits (f : PlainSettings) : Type 0 where
  pub address_fits : f.address < 2 ^ 8
  pub baud_fits : f.baud_code < 2 ^ 8
  pub slot_fits : f.slot_bits < 2 ^ 16
  pub rotation_fits : f.token_rotation_bits < 2 ^ 32
  pub gap_fits : f.gap_wait_rotations < 2 ^ 8
  pub highest_fits : f.highest_station_address < 2 ^ 8
  pub retry_fits : f.max_retry_limit < 2 ^ 8
  pub tsdr_fits : f.min_tsdr_bits < 2 ^ 8
  pub factor_1_fits : f.factor_1 < 2 ^ 8
  pub factor_2_fits : f.factor_2 < 2 ^ 8

-- what a station's words hold
pub record StationFits (x : State) (c : Core) (laps : ℕ) (p : Parameters) (n : ℕ) (k : Counts) : Type 0 where
  pub state_fits : StateFits x
  pub time_fits : (state_numbers x).token_time < 2 ^ 64
  pub core_fits : CoreFits c
  pub laps_fit : laps < 2 ^ 16
  pub settings_fit : PlainFits (plain_of p)
  pub applications_fit : n < 2 ^ 8
  pub counts_fit : CountsFit k

-- words of 64 bits
pub record WordsBelow (w : Words) : Type 0 where
  pub first : w.first < 2 ^ 64
  pub settings : w.settings < 2 ^ 64
  pub limits : w.limits < 2 ^ 64
  pub state : w.state < 2 ^ 64
  pub token_time : w.token_time < 2 ^ 64
  pub last_token_time : w.last_token_time < 2 ^ 64
  pub end_token_hold_time : w.end_token_hold_time < 2 ^ 64
  pub last_bus_activity : w.last_bus_activity < 2 ^ 64
  pub counts : w.counts < 2 ^ 64
  pub numbers : w.numbers < 2 ^ 64

-- The parts of a core.

connectivity_below : (v : ConnectivityState) → connectivity_number v < 2 ^ 8
connectivity_below connectivity.Offline = lit< tt
connectivity_below connectivity.Passive = lit< tt
connectivity_below connectivity.Online = lit< tt

connectivity_read : (v : ConnectivityState) → connectivity_of (connectivity_number v) ≡ v
unfolding connectivity_of
connectivity_read connectivity.Offline = refl
connectivity_read connectivity.Passive = refl
connectivity_read connectivity.Online = refl

activity_read : (a : Option Micros) → activity_of (eqb (bit_number (activity_known a)) 1) (activity_time a) ≡ a
unfolding activity_of
activity_read None = refl
activity_read (Some last) = refl

gap_read : (g : GapState) → gap_of (eqb (bit_number (gap_polls g)) 1) (gap_number g) ≡ g
unfolding gap_of
gap_read (Waiting count) = refl
gap_read (DoPoll a) = refl

-- The fields of the words.

module _ (c : Core) (laps : ℕ) (ready : Bool) (f : CoreFits c) (l : laps < 2 ^ 16) where
  first_within : Within first_widths (first_values c laps ready)
  first_within =
      (lit< tt, (connectivity_below c.connectivity_state, (f.next_fits, (l, (lit< tt, (bit_below ready, (bit_below (gap_polls c.gap_state), (bit_below (activity_known c.last_bus_activity), tt))))))))

  first_fields : unpack first_widths (first_word c laps ready) ≡ first_values c laps ready
  unfolding first_word
  first_fields = unpack_put first_widths (lit≤ tt) (first_values c laps ready) first_within

  first_below : first_word c laps ready < 2 ^ 64
  unfolding first_word
  first_below = put_below first_widths (lit≤ tt) (first_values c laps ready) first_within

module _ (f : PlainSettings) (g : PlainFits f) where
  settings_within : Within settings_widths (settings_values f)
  settings_within = (g.address_fits, (g.baud_fits, (g.slot_fits, (g.rotation_fits, tt))))

  settings_fields : unpack settings_widths (settings_word f) ≡ settings_values f
  unfolding settings_word
  settings_fields = unpack_put settings_widths (lit≤ tt) (settings_values f) settings_within

  settings_below : settings_word f < 2 ^ 64
  unfolding settings_word
  settings_below = put_below settings_widths (lit≤ tt) (settings_values f) settings_within

  module _ (n : ℕ) (l : n < 2 ^ 8) where
    limits_within : Within limits_widths (limits_values f n)
    limits_within = (g.gap_fits, (g.highest_fits, (g.retry_fits, (g.tsdr_fits, (l, (g.factor_1_fits, (g.factor_2_fits, (lit< tt, tt))))))))

    limits_fields : unpack limits_widths (limits_word f n) ≡ limits_values f n
    unfolding limits_word
    limits_fields = unpack_put limits_widths (lit≤ tt) (limits_values f n) limits_within

    limits_below : limits_word f n < 2 ^ 64
    unfolding limits_word
    limits_below = put_below limits_widths (lit≤ tt) (limits_values f n) limits_within

module _ (k : Counts) (g : CountsFit k) where
  counts_within : Within counts_widths (counts_values k)
  counts_within = (g.claims_fit, (g.removals_fit, tt))

  counts_fields : unpack counts_widths (counts_word k) ≡ counts_values k
  unfolding counts_word
  counts_fields = unpack_put counts_widths (lit≤ tt) (counts_values k) counts_within

  counts_below : counts_word k < 2 ^ 64
  unfolding counts_word
  counts_below = put_below counts_widths (lit≤ tt) (counts_values k) counts_within

  module _ (c : Core) (f : CoreFits c) where
    numbers_within : Within numbers_widths (numbers_values k c)
    numbers_within = (g.meetings_fit, (f.pending_fits, (lit< tt, (f.gap_fits, tt))))

    numbers_fields : unpack numbers_widths (numbers_word k c) ≡ numbers_values k c
    unfolding numbers_word
    numbers_fields = unpack_put numbers_widths (lit≤ tt) (numbers_values k c) numbers_within

    numbers_below : numbers_word k c < 2 ^ 64
    unfolding numbers_word
    numbers_below = put_below numbers_widths (lit≤ tt) (numbers_values k c) numbers_within

-- a core from the values of two words, and its times
abbrev core_from : ℕ → ℕ → ℕ → List ℕ → List ℕ → Core
core_from last end active l m =
    record {
      last_token_time = record { 0 = last };
      end_token_hold_time = record { 0 = end };
      last_bus_activity = activity_of (eqb (get_or l 7 0) 1) active;
      gap_state = gap_of (eqb (get_or l 6 0) 1) (get_or m 3 0);
      pending_bytes = get_or m 1 0;
      next_application = get_or l 2 0;
      connectivity_state = connectivity_of (get_or l 1 0);
    }

-- a core with these three parts
abbrev core_with : Core → Option Micros → GapState → ConnectivityState → Core
core_with c a g v =
    record {
      last_token_time = c.last_token_time;
      end_token_hold_time = c.end_token_hold_time;
      last_bus_activity = a;
      gap_state = g;
      pending_bytes = c.pending_bytes;
      next_application = c.next_application;
      connectivity_state = v;
    }

-- plain settings and applications from the values of two words
abbrev header_from : List ℕ → List ℕ → Header
header_from l m =
    record {
      settings = record {
        token_rotation_bits = get_or l 3 0;
        slot_bits = get_or l 2 0;
        address = get_or l 0 0;
        baud_code = get_or l 1 0;
        gap_wait_rotations = get_or m 0 0;
        highest_station_address = get_or m 1 0;
        max_retry_limit = get_or m 2 0;
        min_tsdr_bits = get_or m 3 0;
        factor_1 = get_or m 5 0;
        factor_2 = get_or m 6 0;
      };
      applications = get_or m 4 0;
      zero_bits = get_or m 7 0;
    }

-- The theorem: what a station's words hold comes back from them.
module _ (x : State) (c : Core) (laps : ℕ) (ready : Bool) (p : Parameters) (n : ℕ) (k : Counts) (f : StationFits x c laps p n k) where
  pub state_is : state_in (words_of x c laps ready p n k) ≡ x
  unfolding state_in words_of
  state_is = state_back x f.state_fits

  pub core_is : core_in (words_of x c laps ready p n k) ≡ c
  unfolding core_in words_of
  core_is =
      let last = c.last_token_time.0 in
      let end = c.end_token_hold_time.0 in
      let active = activity_time c.last_bus_activity in
      ap (λ (l : List ℕ). core_from last end active l (unpack numbers_widths (numbers_word k c))) (first_fields c laps ready f.core_fits f.laps_fit)
      ∙ ap (core_from last end active (first_values c laps ready)) (numbers_fields k f.counts_fit c f.core_fits)
      ∙ ap (λ (a : Option Micros). core_with c a (gap_of (eqb (bit_number (gap_polls c.gap_state)) 1) (gap_number c.gap_state)) (connectivity_of (connectivity_number c.connectivity_state))) (activity_read c.last_bus_activity)
      ∙ ap (λ (g : GapState). core_with c c.last_bus_activity g (connectivity_of (connectivity_number c.connectivity_state))) (gap_read c.gap_state)
      ∙ ap (core_with c c.last_bus_activity c.gap_state) (connectivity_read c.connectivity_state)

  pub counts_are : counts_in (words_of x c laps ready p n k) ≡ k
  unfolding counts_in words_of
  counts_are =
      ap (λ (l : List ℕ). record { claims = get_or l 0 0; removals = get_or l 1 0; meetings = field_of (numbers_word k c) 32 32 }) (counts_fields k f.counts_fit)
      ∙ ap (λ (m : List ℕ). record { claims = k.claims; removals = k.removals; meetings = get_or m 0 0 }) (numbers_fields k f.counts_fit c f.core_fits)

  pub laps_is : laps_in (words_of x c laps ready p n k) ≡ laps
  unfolding laps_in words_of
  laps_is = ap (λ (l : List ℕ). get_or l 3 0) (first_fields c laps ready f.core_fits f.laps_fit)

  pub ready_is : ready_in (words_of x c laps ready p n k) ≡ ready
  unfolding ready_in words_of
  ready_is = ap (λ (l : List ℕ). eqb (get_or l 5 0) 1) (first_fields c laps ready f.core_fits f.laps_fit) ∙ bit_read ready

  pub header_is : header_in (words_of x c laps ready p n k) ≡ header_with p n
  unfolding header_in words_of
  header_is =
      ap (λ (l : List ℕ). header_from l (unpack limits_widths (limits_word (plain_of p) n))) (settings_fields (plain_of p) f.settings_fit)
      ∙ ap (header_from (settings_values (plain_of p))) (limits_fields (plain_of p) f.settings_fit n f.applications_fit)

  pub words_below : WordsBelow (words_of x c laps ready p n k)
  unfolding words_of
  words_below =
      record {
        first = first_below c laps ready f.core_fits f.laps_fit;
        settings = settings_below (plain_of p) f.settings_fit;
        limits = limits_below (plain_of p) f.settings_fit n f.applications_fit;
        state = state_word_below x f.state_fits;
        token_time = f.time_fits;
        last_token_time = f.core_fits.last_fits;
        end_token_hold_time = f.core_fits.end_fits;
        last_bus_activity = f.core_fits.activity_fits;
        counts = counts_below k f.counts_fit;
        numbers = numbers_below k f.counts_fit c f.core_fits;
      }

-- Words that are the same, word by word, are equal.

-- two tests that both hold
pub both : (a b : Bool) → cond a b false ≡ true → (a ≡ true) × (b ≡ true)
both true b e = (refl, e)
both false b e = (absurd (no_bool e), absurd (no_bool e))
  where
    no_bool : false ≡ true → ⊥
    no_bool e = let z : ◌≡◌ {A = ℕ} 0 1 = cc in omega arith

record Five (a b c d e f g h i j : ℕ) : Type 0 where
  first : a ≡ f
  second : b ≡ g
  third : c ≡ h
  fourth : d ≡ i
  fifth : e ≡ j

five : (a b c d e f g h i j : ℕ) → same_five a b c d e f g h i j ≡ true → Five a b c d e f g h i j
unfolding same_five
five a b c d e f g h i j t =
    let t1 = both (eqb a f) _ t in
    let t2 = both (eqb b g) _ t1.1 in
    let t3 = both (eqb c h) _ t2.1 in
    let t4 = both (eqb d i) _ t3.1 in
    record { first = eqb-true a f t1.0; second = eqb-true b g t2.0; third = eqb-true c h t3.0; fourth = eqb-true d i t4.0; fifth = eqb-true e j t4.1 }

five_self : (a b c d e : ℕ) → same_five a b c d e a b c d e ≡ true
unfolding same_five
five_self a b c d e = rw (eq-eqb a a refl, eq-eqb b b refl, eq-eqb c c refl, eq-eqb d d refl, eq-eqb e e refl)

-- ten words
abbrev ten : ℕ → ℕ → ℕ → ℕ → ℕ → ℕ → ℕ → ℕ → ℕ → ℕ → Words
ten a b c d e f g h i j =
    record {
      first = a;
      settings = b;
      limits = c;
      state = d;
      token_time = e;
      last_token_time = f;
      end_token_hold_time = g;
      last_bus_activity = h;
      counts = i;
      numbers = j;
    }

ten_same : {a b c d e f g h i j a' b' c' d' e' f' g' h' i' j' : ℕ} → Five a b c d e a' b' c' d' e' → Five f g h i j f' g' h' i' j' → ten a b c d e f g h i j ≡ ten a' b' c' d' e' f' g' h' i' j'
ten_same l m = rw (l.first, l.second, l.third, l.fourth, l.fifth, m.first, m.second, m.third, m.fourth, m.fifth) refl

pub words_same : (a b : Words) → same_words a b ≡ true → a ≡ b
unfolding same_words
words_same a b t =
    let h = both _ _ t in
    ten_same (five _ _ _ _ _ _ _ _ _ _ h.0) (five _ _ _ _ _ _ _ _ _ _ h.1)

-- and each is the same as itself
pub words_self : (a : Words) → same_words a a ≡ true
unfolding same_words
words_self a = rw (five_self a.first a.settings a.limits a.state a.token_time) (five_self a.last_token_time a.end_token_hold_time a.last_bus_activity a.counts a.numbers)
