-- Bytes and words: the words of a station are read back from its bytes, and bytes are written again from their words.
use Rattle.std.specs.Prelude.{ℕ, zero, suc, ◌+◌, ◌*◌, ◌≤◌, ◌<◌, ◌^◌, ◌≡◌, refl, List, [], ◌∷◌, ◌++◌, length, get_or, take, drop}
use Rattle.std.proofs.Common.{sym, ap, ◌∙◌, append_assoc, arith, length-append, take_at, drop_at, drop-drop, take-add, lit<, lit≤}
use Rattle.codec_fields.specs.Fields.{be, bytes_of, load_of, Bytes}
use Rattle.codec_fields.proofs.Laws.{low_length, be_bytes}
use Rattle.codec_fields.proofs.Stores.{load_room, loaded_bytes}
use Rattle.station_words.specs.declared.Words.{Words}
use Rattle.station_words.specs.Laws.{WordsBelow}
use Rattle.station_bytes.specs.Bytes.{words_in, set_in, word_list, all_bytes}
use Rattle.station_bytes.specs.Laws.{all_length}

-- A word read.

-- behind other bytes
load_behind : (p s : List ℕ) (n at : ℕ) → length p ≡ n → at + 8 ≤ length s → load_of (p ++ s) (n + at) 8 ≡ load_of s at 8
load_behind p s n at e h =
    let long : length (p ++ s) ≡ n + length s = length-append p s ∙ ap (λ (k : ℕ). k + length s) e in
    let behind : drop (n + at) (p ++ s) ≡ drop at s = sym (drop-drop at n (p ++ s)) ∙ ap (drop at) (drop_at p s n e) in
    load_room (p ++ s) (n + at) 8 (lit≤ tt) (omega (arith, long, h))
    ∙ ap (λ (l : List ℕ). be (take 8 l)) behind
    ∙ sym (load_room s at 8 (lit≤ tt) h)

-- at the beginning
load_first : (w : ℕ) (s : List ℕ) → w < 2 ^ 64 → load_of (bytes_of w ++ s) 0 8 ≡ w
load_first w s l =
    let long : length (bytes_of w ++ s) ≡ 8 + length s = length-append (bytes_of w) s ∙ ap (λ (k : ℕ). k + length s) (low_length 8 w) in
    load_room (bytes_of w ++ s) 0 8 (lit≤ tt) (omega (arith, long))
    ∙ ap be (take_at (bytes_of w) s 8 (low_length 8 w))
    ∙ be_bytes w l

-- words of 64 bits
abbrev Below : List ℕ → Type 0
Below [] = Unit {0}
Below (w ∷ ws) = (w < 2 ^ 64) × Below ws

-- any of several
load_all : (ws rest : List ℕ) (i : ℕ) → Below ws → i < length ws → load_of (all_bytes ws ++ rest) (8 * i) 8 ≡ get_or ws i 0
load_all [] rest i b l = absurd (omega (arith, l))
load_all (w ∷ ws) rest zero b l = ap (λ (s : List ℕ). load_of s 0 8) (append_assoc (bytes_of w) (all_bytes ws) rest) ∙ load_first w (all_bytes ws ++ rest) b.0
load_all (w ∷ ws) rest (suc i) b l =
    let e : 8 * suc i ≡ 8 + 8 * i = omega arith in
    let long : length (all_bytes ws ++ rest) ≡ 8 * length ws + length rest = length-append (all_bytes ws) rest ∙ ap (λ (k : ℕ). k + length rest) (all_length ws) in
    ap (λ (n : ℕ). load_of ((bytes_of w ++ all_bytes ws) ++ rest) n 8) e
    ∙ ap (λ (s : List ℕ). load_of s (8 + 8 * i) 8) (append_assoc (bytes_of w) (all_bytes ws) rest)
    ∙ load_behind (bytes_of w) (all_bytes ws ++ rest) 8 (8 * i) (low_length 8 w) (omega (arith, long, l))
    ∙ load_all ws rest i b.1 (omega (arith, l))

-- ten words by their place
abbrev ten_of : (ℕ → ℕ) → Words
ten_of f =
    record {
      first = f 0;
      settings = f 1;
      limits = f 2;
      state = f 3;
      token_time = f 4;
      last_token_time = f 5;
      end_token_hold_time = f 6;
      last_bus_activity = f 7;
      counts = f 8;
      numbers = f 9;
    }

ten_alike : (f g : ℕ → ℕ) → ((i : ℕ) → i < 10 → f i ≡ g i) → ten_of f ≡ ten_of g
ten_alike f g h =
    rw (h 0 (lit< tt), h 1 (lit< tt), h 2 (lit< tt), h 3 (lit< tt), h 4 (lit< tt), h 5 (lit< tt), h 6 (lit< tt), h 7 (lit< tt), h 8 (lit< tt), h 9 (lit< tt)) refl

-- The words of a station's bytes, whatever follows them.
pub words_read : (w : Words) (rest : List ℕ) → WordsBelow w → words_in (all_bytes (word_list w) ++ rest) ≡ w
unfolding words_in
words_read w rest b =
    ten_alike (λ (i : ℕ). load_of (all_bytes (word_list w) ++ rest) (8 * i) 8) (λ (i : ℕ). get_or (word_list w) i 0)
    (λ i l.
    load_all (word_list w) rest i
    (b.first, (b.settings, (b.limits, (b.state, (b.token_time, (b.last_token_time, (b.end_token_hold_time, (b.last_bus_activity, (b.counts, (b.numbers, tt)))))))))) l)

-- Bytes written again.

-- so many words from a place on
abbrev loads : List ℕ → ℕ → ℕ → List ℕ
loads s at zero = []
loads s at (suc k) = load_of s at 8 ∷ loads s (at + 8) k

loaded : (s : List ℕ) (at k : ℕ) → Bytes s → at + 8 * k ≤ length s → all_bytes (loads s at k) ≡ take (8 * k) (drop at s)
loaded s at zero b h = refl
loaded s at (suc k) b h =
    let more : 8 * suc k ≡ 8 + 8 * k = omega arith in
    ap (λ (l : List ℕ). l ++ all_bytes (loads s (at + 8) k)) (loaded_bytes s at 8 b (lit≤ tt) (omega (arith, h)))
    ∙ ap (λ (l : List ℕ). take 8 (drop at s) ++ l) (loaded s (at + 8) k b (omega (arith, h)))
    ∙ ap (λ (l : List ℕ). take 8 (drop at s) ++ take (8 * k) l) (sym (drop-drop 8 at s))
    ∙ sym (take-add 8 (8 * k) (drop at s))
    ∙ ap (λ (n : ℕ). take n (drop at s)) (sym more)

pub words_again : (bytes : List ℕ) → Bytes bytes → 96 ≤ length bytes → all_bytes (word_list (words_in bytes)) ++ set_in bytes ≡ take 96 bytes
unfolding words_in
words_again bytes b h =
    ap (λ (l : List ℕ). l ++ set_in bytes) (loaded bytes 0 10 b (omega (arith, h)))
    ∙ sym (take-add 80 16 bytes)
