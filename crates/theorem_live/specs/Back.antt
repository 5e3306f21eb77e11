-- The round trip: every sound station is read back from its bytes.
use Rattle.std.specs.Prelude.{ℕ, ◌+◌, ◌≤◌, ◌<◌, ◌^◌, Bool, true, false, ◌≡◌, drop, Option, Some, None, Result, Ok}
use Rattle.std.proofs.Math.Bool.{cond}
use Rattle.std.proofs.Math.Path.{refl, ap}
use Rattle.std.proofs.Common.{sym, subst, ◌∙◌, arith, le-ltb, drop_at, lit<}
use mathlib.Core.List.{List, ◌++◌, append_assoc}
use Rattle.std.proofs.Math.ListN.{length, take, length-append}
use Rattle.std.proofs.Math.Seq.{take_at}
use Rattle.bit_times.specs.declared.micros.Micros.{Micros}
use Rattle.settings.specs.declared.parameters.Parameters.{Parameters}
use Rattle.refusals.specs.declared.refusal.Refusal.{Refusal}
use Rattle.bit_times.specs.Times.{least_slot_bits}
use Rattle.bit_times.proofs.Laws.{listed}
use Rattle.settings_rules.specs.Rules.{slot_bits_refusal, gap_wait_refusal}
use Rattle.settings_rules.proofs.Laws.{below_in, outside_in}
use Rattle.settings_build.specs.Build.{first_refusal, plain_of}
use Rattle.settings_build.proofs.Passes.{passes, rotation_top}
use Rattle.ring.specs.declared.GapState.{GapState}
use Rattle.ring.specs.declared.GapState.TheVariants.{Waiting, DoPoll}
use Rattle.ring_addresses.specs.Set.{only}
use Rattle.ring.specs.Ring.{Ring, has, make}
use Rattle.ring.specs.Laws.{SoundRing}
use Rattle.ring.proofs.Laws.{has_out}
use Rattle.ring_members.specs.Members.{in_set, set_added, set_bytes}
use Rattle.ring_members.proofs.Back.{set_is, in_bytes, members_back}
use Rattle.station.specs.declared.state.State.{State}
use Rattle.station.specs.declared.state.State.TheVariants.{Offline, ListenToken, ActiveIdle, UseToken, ClaimToken, AwaitDataResponse, PassToken, CheckTokenPass, AwaitStatusResponse, PassiveIdle}
use Rattle.station.specs.declared.parts.Core.{Core}
use Rattle.station.specs.declared.parts.Counts.{Counts}
use Rattle.station.specs.declared.station.Station.{Station}
use Rattle.trace_headers.specs.declared.Header.{Header}
use Rattle.trace_headers.specs.Finished.{header_with}
use Rattle.trace.specs.Trace.{settings_of}
use Rattle.station_numbers.specs.Numbers.{plain_numbers, held_numbers, state_numbers}
use Rattle.station_numbers.specs.Laws.{NumberFits, StateFits}
use Rattle.station_words.specs.declared.Words.{Words}
use Rattle.station_words.specs.Words.{activity_time, gap_number, core_in, counts_in, laps_in, ready_in}
use Rattle.station_words.specs.Laws.{CountsFit, PlainFits, StationFits, state_is, core_is, counts_are, laps_is, ready_is, header_is, words_below, words_self}
use Rattle.station_bytes.specs.Bytes.{words_in, set_in, station_from, words_fit, set_fits, checked_in, found_with, found_on, found_in, ring_in, read_of, word_list, all_bytes, station_words, station_bytes}
use Rattle.station_bytes.specs.Laws.{all_length, set_length}
use Rattle.theorem_sound.specs.Moves.{Low, Other, OneOf, GapAddressed, GapCounted}
use Rattle.theorem_sound.proofs.Kept.{other_low}
use Rattle.theorem_sound.specs.Lines.{Addressed, AskedInGap, CollidedOnce, HeldIn}
use Rattle.theorem_sound.specs.Sizes.{Below, activity_below, hold_below}
use Rattle.theorem_sound.specs.Follows.{SlotCoversPause, slot_covers_pause}
use Rattle.theorem_sound.specs.Sound.{SoundStation}
use Rattle.theorem_live.specs.Lines.{and_both, sound_lines}
use Rattle.theorem_live.specs.Round.{words_read}
use Rattle.theorem_live.specs.Accepted.{HeaderAccepts, header_accepts}

-- A station as the calls keep it: sound, with settings that a header gives, and with numbers that fit the types which the code has for
-- them.
pub record Kept (s : Station) : Type 0 where
  pub sound : SoundStation s
  pub given : settings_of (header_with s.p s.applications) ≡ Ok s.p
  pub settings_fit : PlainFits (plain_of s.p)
  pub counts_fit : CountsFit s.counts

-- What it keeps fits its fields.

low_fits : (q : Option ℕ) → Low q → NumberFits q
low_fits None l = tt
low_fits (Some a) l = omega (arith, l)

other_fits : (q : Option ℕ) (own : ℕ) → Other own q → NumberFits q
other_fits q own o = low_fits q (other_low own q o)

one_fits : (q : Option ℕ) (n : ℕ) → n ≤ 8 → OneOf n q → NumberFits q
one_fits None n e l = tt
one_fits (Some a) n e l = omega (arith, e, l)

state_fits : (p : Parameters) (x : State) (g : GapState) (n : ℕ) → n ≤ 8 → Addressed p.address x → GapAddressed p g → AskedInGap x g → CollidedOnce x → HeldIn n x → StateFits x
state_fits p Offline g n e a l i c h = tt
state_fits p (ListenToken q k) g n e a l i c h = (other_fits q p.address a, omega (arith, c))
state_fits p (ActiveIdle q m k) g n e a l i c h = (low_fits q a.0, (other_fits m p.address a.1, omega (arith, c)))
state_fits p (UseToken t d) g n e a l i c h = one_fits d.first_app n e h.first_one
state_fits p (ClaimToken f) g n e a l i c h = tt
state_fits p (AwaitDataResponse b d) g n e a l i c h = (omega (arith, a), one_fits d.first_app n e h.first_one)
state_fits p (PassToken f t) g n e a l i c h = tt
state_fits p (CheckTokenPass t) g n e a l i c h = tt
state_fits p (AwaitStatusResponse b) g n e a l i c h = let q : GapAddressed p (DoPoll b) = subst (GapAddressed p) i l in omega (arith, q.low)
state_fits p (PassiveIdle q) g n e a l i c h = other_fits q p.address a

time_fits : (x : State) (n : ℕ) → HeldIn n x → (state_numbers x).token_time < 2 ^ 64
unfolding state_numbers plain_numbers held_numbers
time_fits Offline n h = lit< tt
time_fits (ListenToken q k) n h = lit< tt
time_fits (ActiveIdle q m k) n h = lit< tt
time_fits (UseToken i d) n h = omega (arith, h.token_time)
time_fits (ClaimToken f) n h = lit< tt
time_fits (AwaitDataResponse b d) n h = omega (arith, h.token_time)
time_fits (PassToken g t) n h = lit< tt
time_fits (CheckTokenPass t) n h = lit< tt
time_fits (AwaitStatusResponse b) n h = lit< tt
time_fits (PassiveIdle q) n h = lit< tt

activity_fits : (a : Option Micros) → Below (2 ^ 49) a → activity_time a < 2 ^ 64
activity_fits None b = lit< tt
activity_fits (Some last) b = omega (arith, b)

gap_fits : (p : Parameters) (g : GapState) → p.gap_wait_rotations ≤ 100 → GapAddressed p g → GapCounted p g → gap_number g < 2 ^ 8
gap_fits p (Waiting count) l a c = omega (arith, l, c)
gap_fits p (DoPoll b) l a c = omega (arith, a.low)

gap_wait_top : (p : Parameters) → first_refusal (plain_of p) ≡ 0 → p.gap_wait_rotations ≤ 100
unfolding plain_of gap_wait_refusal
gap_wait_top p e = (outside_in 1 p.gap_wait_rotations 100 5 (omega arith) (passes (plain_of p) e).gap_wait).1

-- a slot of accepted settings has more than 33 bits: at least the rate's least, which is 100 or more
slot_wide : (p : Parameters) → first_refusal (plain_of p) ≡ 0 → 33 ≤ p.slot_bits
unfolding plain_of slot_bits_refusal
slot_wide p e =
    let least : least_slot_bits p.baudrate ≤ p.slot_bits = below_in _ _ 2 (omega arith) (rw (listed p.baudrate).back at (passes (plain_of p) e).slot_bits) in
    omega (arith, least, (listed p.baudrate).slot_low)

module _ (s : Station) (k : Kept s) where
  abbrev words : Words
  words = station_words s

  accepts : HeaderAccepts (header_with s.p s.applications) s.p
  accepts = header_accepts (header_with s.p s.applications) s.p k.given

  pub passed : first_refusal (plain_of s.p) ≡ 0
  passed = accepts.built.no_refusal

  pub fits : StationFits s.state s.core s.token_ring.laps s.p s.applications s.counts
  fits =
      let w = k.sound.core_sound in
      record {
        state_fits = state_fits s.p s.state s.core.gap_state s.applications k.sound.eight w.addresses w.gap_address w.asked_in_gap w.collided_once w.token_held;
        time_fits = time_fits s.state s.applications w.token_held;
        core_fits = record {
          next_fits = omega (arith, w.next_one, k.sound.eight);
          pending_fits = omega (arith, w.pending_few);
          gap_fits = gap_fits s.p s.core.gap_state (gap_wait_top s.p passed) w.gap_address w.gap_count;
          last_fits = omega (arith, w.token_time);
          end_fits = omega (arith, hold_below s.p s.applications s.state s.core (rotation_top s.p passed) w);
          activity_fits = activity_fits s.core.last_bus_activity (activity_below s.p s.applications s.state s.core w);
        };
        laps_fit = omega (arith, k.sound.ring_sound.laps_two);
        settings_fit = k.settings_fit;
        applications_fit = omega (arith, k.sound.eight);
        counts_fit = k.counts_fit;
      }

-- The set of its members.

in_there : (f : ℕ → Bool) (x : ℕ) → x < 128 → in_set (set_bytes f) x ≡ f x
in_there f x l =
    ap (λ (b : List ℕ). in_set b x) (sym (set_is (set_bytes f) f (set_length f)))
    ∙ in_bytes (set_bytes f) f 128 x refl l (omega (arith, set_length f))

set_taken : (r : Ring) (own : ℕ) → SoundRing r → r.own ≡ own → set_fits (set_bytes (has r)) own ≡ true
unfolding set_fits
set_taken r own w e =
    let mine : in_set (set_bytes (has r)) own ≡ true =
    in_there (has r) own (omega (arith, e, w.own_low)) ∙ ap (has r) (sym e) ∙ w.own_in in
    let a : in_set (set_bytes (has r)) 126 ≡ false = in_there (has r) 126 (lit< tt) ∙ has_out r 126 (omega arith) in
    let b : in_set (set_bytes (has r)) 127 ≡ false = in_there (has r) 127 (lit< tt) ∙ has_out r 127 (omega arith) in
    rw (mine, a, b) refl

-- The station.

module _ (s : Station) (k : Kept s) where
  abbrev ring : Ring
  ring = s.token_ring

  abbrev set_of : List ℕ
  set_of = set_bytes (has ring)

  words_there : (rest : List ℕ) → words_in (station_bytes s ++ rest) ≡ station_words s
  unfolding station_bytes
  words_there rest =
      ap words_in (append_assoc (all_bytes (word_list (station_words s))) set_of rest)
      ∙ words_read (station_words s) (set_of ++ rest) (words_below s.state s.core ring.laps ring.ready s.p s.applications s.counts (fits s k))

  set_there : (rest : List ℕ) → set_in (station_bytes s ++ rest) ≡ set_of
  unfolding station_bytes
  set_there rest =
      ap (λ (l : List ℕ). take 16 (drop 80 l)) (append_assoc (all_bytes (word_list (station_words s))) set_of rest)
      ∙ ap (take 16) (drop_at (all_bytes (word_list (station_words s))) (set_of ++ rest) 80 (all_length (word_list (station_words s))))
      ∙ take_at set_of rest 16 (set_length (has ring))

  long : (rest : List ℕ) → 96 ≤ length (station_bytes s ++ rest)
  unfolding station_bytes
  long rest =
      let a : length (station_bytes s) ≡ 80 + 16 =
      length-append (all_bytes (word_list (station_words s))) set_of ∙ rw (all_length (word_list (station_words s)), set_length (has ring)) refl in
      let b : length (station_bytes s ++ rest) ≡ length (station_bytes s) + length rest = length-append (station_bytes s) rest in
      omega (arith, a, b)

  ring_there : ring_in s.p.address ring.laps ring.ready set_of ≡ ring
  unfolding ring_in
  ring_there =
      ap (λ (a : ℕ). set_added (make a (only a) ring.laps ring.ready) set_of 16) (sym k.sound.own_is)
      ∙ ap (λ (l : List ℕ). set_added (make ring.own (only ring.own) ring.laps ring.ready) l 16) (sym (set_is set_of (has ring) (set_length (has ring))))
      ∙ members_back ring set_of k.sound.ring_sound (omega (arith, set_length (has ring)))

  station_there : station_from s.p s.applications (station_words s) set_of ≡ s
  unfolding station_from
  station_there =
      let w = station_words s in
      let f = fits s k in
      ap (λ (x : State). record { state = x; core = core_in w; token_ring = ring_in s.p.address (laps_in w) (ready_in w) set_of; p = s.p; counts = counts_in w; applications = s.applications })
      (state_is s.state s.core ring.laps ring.ready s.p s.applications s.counts f)
      ∙ ap (λ (c : Core). record { state = s.state; core = c; token_ring = ring_in s.p.address (laps_in w) (ready_in w) set_of; p = s.p; counts = counts_in w; applications = s.applications })
      (core_is s.state s.core ring.laps ring.ready s.p s.applications s.counts f)
      ∙ ap (λ (l : ℕ). record { state = s.state; core = s.core; token_ring = ring_in s.p.address l (ready_in w) set_of; p = s.p; counts = counts_in w; applications = s.applications })
      (laps_is s.state s.core ring.laps ring.ready s.p s.applications s.counts f)
      ∙ ap (λ (b : Bool). record { state = s.state; core = s.core; token_ring = ring_in s.p.address ring.laps b set_of; p = s.p; counts = counts_in w; applications = s.applications })
      (ready_is s.state s.core ring.laps ring.ready s.p s.applications s.counts f)
      ∙ ap (λ (r : Ring). record { state = s.state; core = s.core; token_ring = r; p = s.p; counts = counts_in w; applications = s.applications })
      ring_there
      ∙ ap (λ (c : Counts). record { state = s.state; core = s.core; token_ring = ring; p = s.p; counts = c; applications = s.applications })
      (counts_are s.state s.core ring.laps ring.ready s.p s.applications s.counts f)

  covers : SlotCoversPause s.p
  covers = slot_covers_pause s.p (slot_wide s.p (passed s k))

  words_there_fit : words_fit s (station_words s) ≡ true
  unfolding words_fit
  words_there_fit =
      and_both _ _
      (sound_lines s.p s.applications s.state s.core ring.laps (passed s k)
      (record { laps_two = k.sound.ring_sound.laps_two; core_sound = k.sound.core_sound; first_attempt = k.sound.first_attempt covers }))
      (words_self (station_words s))

  found_there : found_in (station_words s) set_of ≡ Some s
  unfolding found_in found_on found_with checked_in
  found_there =
      let w = station_words s in
      ap (λ (h : Header). found_on (settings_of h) h.applications w set_of) (header_is s.state s.core ring.laps ring.ready s.p s.applications s.counts (fits s k))
      ∙ ap (λ (c : Result Parameters Refusal). found_on c s.applications w set_of) k.given
      ∙ ap (λ (b : Bool). cond b (checked_in (station_from s.p s.applications w set_of) w) None) (set_taken ring s.p.address k.sound.ring_sound k.sound.own_is)
      ∙ ap (λ (x : Station). checked_in x w) station_there
      ∙ ap (λ (b : Bool). cond b (Some s) None) words_there_fit

  -- The theorem: a station that is kept is read back from its bytes, whatever follows them.
  pub station_back : (rest : List ℕ) → read_of (station_bytes s ++ rest) ≡ Some s
  unfolding read_of
  station_back rest =
      let bytes = station_bytes s ++ rest in
      ap (λ (b : Bool). cond b None (found_in (words_in bytes) (set_in bytes))) (le-ltb (length bytes) 96 (long rest))
      ∙ ap (λ (w : Words). found_in w (set_in bytes)) (words_there rest)
      ∙ ap (λ (l : List ℕ). found_in (station_words s) l) (set_there rest)
      ∙ found_there
