-- Every answer that the replay call writes reads back: the eight bytes at each place of the buffer unpack to exactly the answer that
-- the station's definition gives to the entry at that place.
use Rattle.std.specs.Prelude.{ℕ, zero, suc, ◌+◌, ◌*◌, ◌%◌, ◌^◌, ◌<◌, ◌≤◌, ◌≡◌, refl, Some, List, [], ◌∷◌, ◌++◌, length, drop}
use Rattle.std.proofs.Common.{sym, ap, ◌∙◌, append_assoc, arith, mod-lt, length-append, drop_at, lit<, lit≤}
use Rattle.codec_fields.proofs.Stores.{room_is}
use Rattle.codec_fields.specs.Fields.{put_of, load_of, bytes_of}
use Rattle.codec_fields.proofs.Laws.{be_bytes}
use Rattle.codec_answers.specs.declared.Answer.{Answer}
use Rattle.codec_answers.specs.Answers.{answer_word, unpack_of, Fits}
use Rattle.codec_answers.specs.Laws.{answer_unpacks}
use Rattle.station.specs.declared.station.Station.{Station}
use Rattle.trace.specs.Entries.{entry_of}
use Rattle.trace.specs.Trace.{Accepted, start_of, written}
use Rattle.trace.proofs.Laws.{written_append}
use Rattle.theorem_sound.specs.Sound.{SoundStation}
use Rattle.theorem_sound.proofs.Fits.{every_answer_fits}
use Rattle.theorem_every_trace.specs.Statement.{Entry, along, Answered}
use Rattle.theorem_every_trace.proofs.Theorem.{along_length}
use Rattle.theorem_every_trace.specs.Runs.{written_length}
use Rattle.theorem_from_header.specs.FromHeader.{call_of, entry_answers, from_header}

-- What is said.

-- the word at place i of a buffer: its 8 bytes from 8 · i on, read as a number, the first the highest
abbrev pub word_at : List ℕ → ℕ → ℕ
word_at buffer i = load_of buffer (8 * i) 8

-- place i of entries: i entries before it, the entry, and those after it
pub record Place (entries : List Entry) (i : ℕ) : Type 0 where
  pub earlier : List Entry
  pub entry : Entry
  pub later : List Entry
  pub parts : entries ≡ earlier ++ (entry ∷ later)
  pub many : length earlier ≡ i

-- The word at each place of the buffer that is left unpacks to the answer that the entry at that place has by the station's
-- definition, from the station that the entries before it left. There is a place for each number below that of the entries (`place`).
abbrev pub EveryAnswerReads : Type 0
EveryAnswerReads =
    (trace before : List ℕ) (returned : ℕ) (left : List ℕ) (fresh : Station)
    → start_of trace ≡ Accepted fresh
    → (run : Answered fresh trace before returned left)
    → (i : ℕ) (at : Place run.entries i)
    → unpack_of (word_at left i) ≡ Some (entry_of (along fresh at.earlier).station at.entry.kind at.entry.bytes).answer

-- Its proof.

-- there is a place for each number below that of the entries
pub place : (entries : List Entry) (i : ℕ) → i < length entries → Place entries i
place [] i l = absurd (omega arith)
place (e ∷ es) zero l = record { earlier = []; entry = e; later = es; parts = refl; many = refl }
place (e ∷ es) (suc i) l =
    let p = place es i (omega arith) in
    record { earlier = e ∷ p.earlier; entry = p.entry; later = p.later; parts = ap (λ (x : List Entry). e ∷ x) p.parts; many = ap suc p.many }

-- entries after entries: the answers of the first come before those of the others, which begin with the station that the first left
pub along_append :
    (es : List Entry) (fs : List Entry) (s : Station)
    → ((along s (es ++ fs)).answers ≡ (along s es).answers ++ (along (along s es).station fs).answers)
    × ((along s (es ++ fs)).station ≡ (along (along s es).station fs).station)
along_append [] fs s = (refl, refl)
along_append (e ∷ es) fs s =
    let more = along_append es fs (entry_of s e.kind e.bytes).station in
    (ap (λ (l : List Answer). (entry_of s e.kind e.bytes).answer ∷ l) more.0, more.1)

-- an answer's word has 64 bits
put_below_64 : (word width value : ℕ) → put_of word width value < 2 ^ 64
unfolding put_of
put_below_64 word width value = mod-lt (word * 2 ^ width + value % 2 ^ width) (lit< tt)

word_below : (a : Answer) → answer_word a < 2 ^ 64
unfolding answer_word
word_below a = put_below_64 _ _ _

-- the word at the place of an answer, among the answers that are written, is the answer's
pub word_here : (given : List Answer) (a : Answer) (more : List Answer) (old : List ℕ) → word_at (written (given ++ (a ∷ more)) ++ old) (length given) ≡ answer_word a
unfolding load_of written
word_here given a more old =
    rw (shape, room_is _ _ 8 (lit≤ tt) long, drop_at (written given) (bytes_of (answer_word a) ++ (written more ++ old)) (8 * length given) (written_length given))
    (be_bytes (answer_word a) (word_below a))
  where
    shape : written (given ++ (a ∷ more)) ++ old ≡ written given ++ (bytes_of (answer_word a) ++ (written more ++ old))
    shape =
        ap (λ (l : List ℕ). l ++ old) (written_append given (a ∷ more))
        ∙ append_assoc (written given) (bytes_of (answer_word a) ++ written more) old
        ∙ ap (λ (l : List ℕ). written given ++ l) (append_assoc (bytes_of (answer_word a)) (written more) old)

    long : 8 * length given + 8 ≤ length (written given ++ (bytes_of (answer_word a) ++ (written more ++ old)))
    long = rw (length-append, written_length given) (omega arith)

-- the answer to an entry of a sound station fits its 64 bits
pub entry_fits : (s : Station) (e : Entry) → SoundStation s → Fits (entry_of s e.kind e.bytes).answer
entry_fits s e w = rw (entry_answers s e) (every_answer_fits s (call_of e) w)

-- every answer reads back
pub every_answer_reads : EveryAnswerReads
every_answer_reads trace before returned left fresh e run i at =
    ap (λ (w : ℕ). unpack_of w) here
    ∙ answer_unpacks a (entry_fits s at.entry (from_header trace fresh at.earlier e).is_sound)
  where
    s : Station
    s = (along fresh at.earlier).station

    a : Answer
    a = (entry_of s at.entry.kind at.entry.bytes).answer

    more : List Answer
    more = (along (entry_of s at.entry.kind at.entry.bytes).station at.later).answers

    given : (along fresh run.entries).answers ≡ (along fresh at.earlier).answers ++ (a ∷ more)
    given = ap (λ (es : List Entry). (along fresh es).answers) at.parts ∙ (along_append at.earlier (at.entry ∷ at.later) fresh).0

    old : List ℕ
    old = drop (8 * length run.entries) before

    here : word_at left i ≡ answer_word a
    here =
        ap (λ (l : List ℕ). word_at l i) (run.buffer ∙ ap (λ (l : List Answer). written l ++ old) given)
        ∙ ap (λ (n : ℕ). word_at (written ((along fresh at.earlier).answers ++ (a ∷ more)) ++ old) n) (sym (along_length fresh at.earlier ∙ at.many))
        ∙ word_here (along fresh at.earlier).answers a more old
