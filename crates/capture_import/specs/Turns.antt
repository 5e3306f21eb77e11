-- A line as the code takes it: by the newest entry, in place. proofs/Laws.antt has what this comes to. Assumes nothing.
use Rattle.std.specs.Prelude.{ℕ, ◌+◌, ◌-◌, ◌*◌, ◌≤◌, List, ◌∷◌, ◌++◌, Bool, false, cond, length, take, drop, eqb, ltb, Result, Ok, Err}
use Rattle.codec_telegrams.specs.declared.Telegram.{Telegram}
use Rattle.codec_records_written.specs.Stored.{head_stored, telegram_stored}
use Rattle.capture_lines.specs.Lines.{LineRead, NotBuilt, Refused, Accepted}
use Rattle.capture_import.specs.declared.Newest.{Newest}
use Rattle.capture_import.specs.declared.Taken.{Taken}
use Rattle.capture_import.specs.Import.{head_of, new_poll, entry_bytes, time_refusal, or_else}

-- an entry within this many bytes, with at most 8 telegrams
pub record Fits (newest : Newest) (room : ℕ) : Type 0 where
  pub begun : newest.place ≤ newest.end
  pub ended : newest.end ≤ room
  pub few : newest.telegrams ≤ 8

-- a line of so many bytes that makes this the newest entry
abbrev pub taken : ℕ → Newest → Result Taken ℕ
taken used newest = Ok (record { used = used; newest = newest })

-- a new entry: 19 bytes
unfoldable pub added_taken : Newest → ℕ → ℕ → ℕ → Result Taken ℕ
added_taken newest time used room =
    cond (ltb (room - newest.end) 19) (Err 18)
    (taken used (record { place = newest.end; end = newest.end + 19; time = time; telegrams = 1 }))

unfoldable pub added_left : Newest → ℕ → Telegram → List ℕ → List ℕ
added_left newest time heard l =
    cond (ltb (length l - newest.end) 19) l
    (take newest.end l ++ (entry_bytes (new_poll time heard) ++ drop (newest.end + 19) l))

-- an entry's bytes with the length, the head and the telegram of one telegram more written over them
unfoldable pub extended_bytes : List ℕ → ℕ → ℕ → Telegram → List ℕ
extended_bytes l time telegrams heard = (18 + 4 * telegrams) ∷ telegram_stored (head_stored (drop 1 l) (head_of time (telegrams + 1))) 1 telegrams heard

-- the newest entry with one telegram more: 4 bytes
unfoldable pub extended_taken : Newest → ℕ → ℕ → Result Taken ℕ
extended_taken newest used room =
    cond (ltb (room - newest.end) 4) (Err 18)
    (taken used (record { place = newest.place; end = newest.end + 4; time = newest.time; telegrams = newest.telegrams + 1 }))

unfoldable pub extended_left : Newest → Telegram → List ℕ → List ℕ
extended_left newest heard l =
    cond (ltb (length l - newest.end) 4) l
    (take newest.place l
    ++ (extended_bytes (take (newest.end + 4 - newest.place) (drop newest.place l)) newest.time newest.telegrams heard ++ drop (newest.end + 4) l))

-- whether there is an entry and it has this time
unfoldable pub is_newest : Newest → ℕ → Bool
is_newest newest time = cond (eqb newest.telegrams 0) false (eqb time newest.time)

-- a telegram
unfoldable pub hear_taken : Newest → ℕ → ℕ → ℕ → Result Taken ℕ
hear_taken newest time used room = cond (is_newest newest time) (extended_taken newest used room) (added_taken newest time used room)

unfoldable pub hear_left : Newest → ℕ → Telegram → List ℕ → List ℕ
hear_left newest time heard l = cond (is_newest newest time) (extended_left newest heard l) (added_left newest time heard l)

-- a line
unfoldable pub line_taken : LineRead → Newest → ℕ → Result Taken ℕ
line_taken NotBuilt newest room = Err 31
line_taken (Refused time refusal) newest room = Err (or_else (time_refusal newest.time newest.telegrams time) refusal)
line_taken (Accepted time heard used) newest room =
    cond (eqb (time_refusal newest.time newest.telegrams time) 0) (hear_taken newest time used room)
    (Err (time_refusal newest.time newest.telegrams time))

unfoldable pub line_left : LineRead → Newest → List ℕ → List ℕ
line_left NotBuilt newest l = l
line_left (Refused time refusal) newest l = l
line_left (Accepted time heard used) newest l = cond (eqb (time_refusal newest.time newest.telegrams time) 0) (hear_left newest time heard l) l
