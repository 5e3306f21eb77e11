-- The telegrams of a poll as a list, as the loop over them hears it.
use Rattle.std.specs.Prelude.{ℕ, zero, suc, ◌+◌, ◌≤◌, Bool, true, false, cond, ◌≡◌, refl, List, [], ◌∷◌, length, eqb}
use Rattle.std.proofs.Common.{arith, ap}
use Rattle.bit_times.specs.declared.micros.Micros.{Micros}
use Rattle.codec_answers.specs.declared.Outcome.TheVariants.{Bus}
use Rattle.codec_telegrams.specs.declared.Telegram.{Telegram}
use Rattle.codec_records.specs.Telegrams.{telegrams_from, telegrams_of}
use Rattle.station.specs.Whole.{Heard, after_hearing}
use Rattle.station.specs.declared.station.Station.{Station}
use Rattle.station.specs.Steps.{heard_of}
use Rattle.station.specs.declared.done.Hearing.{Hearing}
use Rattle.station_listen.specs.Listen.{heard_telegram, heard_all, met_too, met_in, with_met, received_all}

-- what telegrams make of a station, and lead to, after what earlier ones led to
abbrev pub heard_in_turn : Station → Hearing → Micros → Bool → List (Telegram × Bool) → Station × Hearing
heard_in_turn s h now listening [] = (s, h)
heard_in_turn s h now listening (t ∷ ts) =
    let x = heard_telegram s.p (heard_of s.state s.core s.token_ring Bus) now listening t.0 t.1 in
    heard_in_turn (after_hearing s x).0 (record { outcome = x.outcome; met = met_too h.met x.met }) now listening ts

-- one telegram more is one collision more at most
pub met_low : (met here : ℕ) → met_too met here ≤ met + 1
unfolding met_too
met_low met here = by (eqb here 0)
  where
    by : (none : Bool) → cond none met (met + 1) ≤ met + 1
    by true = omega arith
    by false = omega arith

-- a poll has as many telegrams as are asked for
count_from : (bytes : List ℕ) (n count i left : ℕ) → length (telegrams_from bytes n count i left) ≡ left
count_from bytes n count i zero = refl
count_from bytes n count i (suc left) = ap (λ (x : ℕ). suc x) (count_from bytes n count (suc i) left)

pub count_of : (bytes : List ℕ) (n count : ℕ) → length (telegrams_of bytes n count) ≡ count
count_of bytes n count = count_from bytes n count 0 count

-- from the telegram that comes next to the last
from_here :
    (s : Station) (h : Heard) (now : Micros) (listening : Bool) (bytes : List ℕ) (n count i left : ℕ)
    → i + left ≡ count
    → heard_in_turn (after_hearing s (heard_all s.p h now listening bytes n count i)).0 (record { outcome = (heard_all s.p h now listening bytes n count i).outcome; met = met_in s.p h now listening bytes n count i }) now listening (telegrams_from bytes n count i left)
    ≡ after_hearing s (with_met (heard_all s.p h now listening bytes n count count) (met_in s.p h now listening bytes n count count))
unfolding heard_telegram heard_all met_in heard_of
from_here s h now listening bytes n count i zero e =
    let same : i ≡ count = omega arith in
    rw same refl
from_here s h now listening bytes n count i (suc left) e = from_here s h now listening bytes n count (suc i) left (omega arith)

-- all of them, from the station's state
pub in_turn :
    (s : Station) (now : Micros) (listening : Bool) (bytes : List ℕ) (n count : ℕ)
    → heard_in_turn s (record { outcome = Bus; met = 0 }) now listening (telegrams_of bytes n count)
    ≡ after_hearing s (received_all s.p s.state s.core s.token_ring now listening bytes n count)
unfolding heard_all met_in heard_of received_all
in_turn s now listening bytes n count = from_here s (heard_of s.state s.core s.token_ring Bus) now listening bytes n count 0 count (omega arith)
