-- 3k + 2 is sharp: where a token pass has a gap question due, 3k + 1 polls never lead to the token, and there is a run of 3k + 1 polls
-- that are all counted. And so is the number of every other state that does not wait for the lost token.
use Rattle.std.specs.Prelude.{ℕ, ◌+◌, ◌*◌, ◌^◌, ◌<◌, ◌≤◌, true, ◌≡◌, refl, List, [], ◌∷◌, length, Some}
use Rattle.std.proofs.Common.{subst, ◌∙◌, arith, one-add, le-leb}
use Rattle.bit_times.specs.declared.micros.Micros.{Micros}
use Rattle.bit_times.specs.Times.{byte_bits}
use Rattle.bit_times.proofs.Laws.{time_grows}
use Rattle.settings.specs.Settings.{token_lost_of}
use Rattle.settings_build.specs.Build.{first_refusal, plain_of}
use Rattle.ring.specs.declared.GapState.TheVariants.{DoPoll}
use Rattle.ring.specs.Ring.{others}
use Rattle.codec_records.specs.Records.{head_of}
use Rattle.station.specs.declared.state.PassTokenAttempt.{PassTokenAttempt}
use Rattle.station.specs.declared.state.State.TheVariants.{PassToken}
use Rattle.station.specs.declared.station.Station.{Station}
use Rattle.station_pass.specs.Pass.{gap_advanced}
use Rattle.station_poll.specs.Poll.{poll_of}
use Rattle.theorem_silence.specs.Silence.{slot_after}
use Rattle.theorem_silence.specs.Times.{slotted}
use Rattle.theorem_silence.specs.Phases.{Phase, asking, todo, longest}
use Rattle.theorem_silence.proofs.Phases.{longest_most, tokens_length}
use Rattle.theorem_silence.specs.OnePoll.{At}
use Rattle.theorem_silence.proofs.Theorem.{run_from_lem}
use Rattle.theorem_silence.specs.Sharp.{evenly, AllAfter}
use Rattle.theorem_silence.proofs.Sharp.{evenly_length, evenly_quiet, evenly_after, room_less, too_few_from}
use Rattle.theorem_sound.specs.Follows.{slot_lost}
use Rattle.theorem_any_start.specs.AnyStart.{AnyStart, lost_counted, lost_counted_in}
use Rattle.theorem_any_start.proofs.Listening.{lost_is}
use Rattle.theorem_any_start.proofs.Theorem.{lost_fewer}
use Rattle.theorem_any_start.specs.Sharp.{LateRun, SharpAt, late_time}

-- polls that all come after the timeout are all counted
after_late : (records : List (List ℕ)) (s : Station) → AllAfter token_lost_of s records → lost_counted_in s records ≡ length records
unfolding lost_counted_in lost_counted
after_late [] s a = refl
after_late (bytes ∷ later) s a =
    rw (lost_is s.core.last_bus_activity (head_of bytes).clock (token_lost_of s.p).0 ∙ a.0, after_late later (poll_of s bytes).station a.1) (one-add (length later))

-- from any place, with known last activity: a run of as many polls as are wanted, up to one for each telegram, if the clock has room
late_run : (ph : Phase) (s : Station) (last : Micros) (m : ℕ) → first_refusal (plain_of s.p) ≡ 0 → At ph s.p s.state s.core s.token_ring → s.core.last_bus_activity ≡ Some last → m ≤ length (todo s.p.address ph) → last.0 + (token_lost_of s.p).0 + m * late_time s.p < 2 ^ 48 → LateRun s m
unfolding slot_after
late_run ph s last m e g a l room =
    let p = s.p in
    let clock = last.0 + (token_lost_of p).0 in
    let run = evenly s.applications (late_time p) m clock in
    let far = time_grows (byte_bits * longest ph) (byte_bits * 6) p.baudrate (omega (arith, longest_most ph)) in
    let late = evenly_after m ph p (slotted p e) token_lost_of s.applications (late_time p) s.counts s.state s.core s.token_ring clock g l (slot_lost p) (omega arith) (rw a (le-leb clock clock (omega arith))) room in
    record {
      records = run;
      quiet = evenly_quiet m s.applications (late_time p) clock room;
      long = evenly_length m s.applications (late_time p) clock;
      all_counted = after_late run s late ∙ evenly_length m s.applications (late_time p) clock;
    }

-- so the number of telegrams to send is sharp
pub sharp_from : (ph : Phase) (s : Station) (last : Micros) (m : ℕ) → first_refusal (plain_of s.p) ≡ 0 → At ph s.p s.state s.core s.token_ring → s.core.last_bus_activity ≡ Some last → length (todo s.p.address ph) ≡ m + 1 → last.0 + (token_lost_of s.p).0 + (m + 1) * late_time s.p < 2 ^ 48 → SharpAt s m
sharp_from ph s last m e g a l room =
    let w = slotted s.p e in
    let short = late_run ph s last m e g a (omega arith) (room_less m (late_time s.p) _ room) in
    let enough = late_run ph s last (m + 1) e g a (omega arith) room in
    record {
      too_short = short;
      not_held = too_few_from ph s short.records (run_from_lem ph s short.records w short.quiet g) (omega (arith, short.long));
      long_enough = enough;
      held = (run_from_lem ph s enough.records w enough.quiet g).bound_of (omega (arith, enough.all_counted, lost_fewer enough.records s));
    }

-- with a gap question due: 3k + 2
pub sharp : (s : Station) (last : Micros) (a : ℕ) (attempt : PassTokenAttempt) → AnyStart s → s.state ≡ PassToken true attempt → gap_advanced s.p s.token_ring s.core.gap_state ≡ DoPoll a → s.core.last_bus_activity ≡ Some last → last.0 + (token_lost_of s.p).0 + (3 * length (others s.token_ring) + 2) * late_time s.p < 2 ^ 48 → SharpAt s (3 * length (others s.token_ring) + 1)
sharp s last a attempt h state due known room =
    let os = others s.token_ring in
    let two : 3 * length os + 2 ≡ 3 * length os + 1 + 1 = omega arith in
    sharp_from (asking a os) s last (3 * length os + 1) h.settings
    (record { on = h.is_online; ring_good = h.ring_good; are = refl }, record { attempt = attempt; passing = state; question = due }) known (omega (arith, tokens_length os s.p.address))
    (subst (λ (m : ℕ). last.0 + (token_lost_of s.p).0 + m * late_time s.p < 2 ^ 48) two room)
