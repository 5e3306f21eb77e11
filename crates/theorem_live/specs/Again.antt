-- Bytes that are accepted are a station that is kept, so it goes on as if it had never been bytes; and what a refusal leaves.
use Rattle.std.specs.Prelude.{ℕ, Bool, cond, ◌≡◌, refl, List, ◌++◌, length, drop, Some}
use Rattle.std.proofs.Common.{sym, ap, subst, ◌∙◌, le-ltb, take-append-drop}
use Rattle.codec_fields.specs.Fields.{Bytes}
use Rattle.codec_fields.proofs.Widths.{field_below}
use Rattle.station.specs.declared.station.Station.{Station}
use Rattle.trace.specs.Trace.{settings_of}
use Rattle.trace.specs.Entries.{entry_of}
use Rattle.station_words.specs.declared.Words.{Words}
use Rattle.station_words.specs.Words.{counts_in, header_in}
use Rattle.station_words.specs.Laws.{CountsFit, PlainFits}
use Rattle.station_bytes.specs.Bytes.{words_in, set_in, station_from, read_of, station_bytes, station_into}
use Rattle.live.specs.Live.{Stepped, Refusal, Answers, step_of, step_into, step_answer}
use Rattle.theorem_sound.specs.Sound.{SoundStation}
use Rattle.theorem_every_trace.specs.EveryTrace.{refused_entry_changes_nothing}
use Rattle.theorem_live.specs.Accepted.{Found, found, header_accepts, found_sound, accepted_again}
use Rattle.theorem_live.specs.Back.{Kept}
use Rattle.theorem_live.specs.Opened.{header_with_lem}

-- Its numbers.

plain_in : (w : Words) → PlainFits (header_in w).settings
unfolding header_in
plain_in w =
    record {
      address_fits = field_below w.settings 56 8;
      baud_fits = field_below w.settings 48 8;
      slot_fits = field_below w.settings 32 16;
      rotation_fits = field_below w.settings 0 32;
      gap_fits = field_below w.limits 56 8;
      highest_fits = field_below w.limits 48 8;
      retry_fits = field_below w.limits 40 8;
      tsdr_fits = field_below w.limits 32 8;
      factor_1_fits = field_below w.limits 16 8;
      factor_2_fits = field_below w.limits 8 8;
    }

counts_in_lem : (w : Words) → CountsFit (counts_in w)
unfolding counts_in
counts_in_lem w = record { claims_fit = field_below w.counts 32 32; removals_fit = field_below w.counts 0 32; meetings_fit = field_below w.numbers 32 32 }

-- What was found is kept.
found_kept : (w : Words) (set : List ℕ) (s : Station) → Found w set s → Kept s
unfolding station_from
found_kept w set s k =
    let a = header_accepts (header_in w) k.p k.settings in
    subst Kept k.is
    (record {
      sound = subst SoundStation (sym k.is) (found_sound w set s k);
      given = ap settings_of (header_with_lem (header_in w) k.p a) ∙ k.settings;
      settings_fit = subst PlainFits (sym a.built.same_numbers) (plain_in w);
      counts_fit = counts_in_lem w;
    })

-- The theorem: bytes that are accepted are a station that is kept: it is sound, and every theorem on such a station speaks of it.
pub accepted_kept : (bytes : List ℕ) (s : Station) → read_of bytes ≡ Some s → Kept s
accepted_kept bytes s e = found_kept (words_in bytes) (set_in bytes) s (found bytes s e).1

-- A refused entry leaves the bytes of the station as they were, and the call's own refusals leave all bytes.
pub refused_leaves :
    (station entry : List ℕ) (room : ℕ) (s : Station) (kind : ℕ) (bytes : List ℕ) (size : ℕ)
    → Bytes station
    → read_of station ≡ Some s
    → step_of station entry room ≡ Answers (entry_of s kind bytes) size
    → ((entry_of s kind bytes).answer.refusal ≡ 0 → ⊥)
    → step_into (step_of station entry room) station ≡ station
unfolding step_into station_into
refused_leaves station entry room s kind bytes size b e step refused =
    ap (λ (x : Stepped). step_into x station) step
    ∙ ap (λ (t : Station). station_into station t) (refused_entry_changes_nothing s kind bytes refused)
    ∙ ap (λ (t : Bool). cond t station (station_bytes s ++ drop 96 station)) (le-ltb (length station) 96 (found station s e).0)
    ∙ ap (λ (l : List ℕ). l ++ drop 96 station) (accepted_again station s b e)
    ∙ take-append-drop 96 station

pub refusal_leaves : (x : Stepped) (n : ℕ) (station answer : List ℕ) → x ≡ Refusal n → (step_into x station ≡ station) × (step_answer x answer ≡ answer)
unfolding step_into step_answer
refusal_leaves x n station answer e = rw e (refl, refl)
