-- The reader of a line as the code goes is what the line says, and what import and export cite of lines (`FirstLine`, `Accepts`).
-- Assumes nothing.
use Rattle.std.specs.Prelude.{ℕ, suc, ◌+◌, ◌-◌, ◌*◌, ◌<◌, ◌≤◌, ◌≡◌, Bool, true, false, cond, not, ◌&&◌, length, get_or, set, eqb, ltb, leb, Some, None, Result, Ok, Err}
use Rattle.std.proofs.Math.Path.{refl}
use Rattle.std.proofs.Common.{sym, ap, ◌∙◌, arith, add-zero, zero-add, le_refl, length-set, length-append, drop_of_length-le, length-take-le, drop_at, drop-drop, drop-cons, lit≤}
use mathlib.Core.List.{List, [], ◌∷◌, ◌++◌, append-nil}
use Rattle.std.proofs.Math.Numerals.{add-one}
use borrow.Author.Tests.{le-leb, lt-leb, lt-ltb, le-ltb, leb-true, leb-false, ltb-true, ltb-false, ne_eqb, eqb-true}
use borrow.Table.Steps.{cases}
use Rattle.std.proofs.Math.ListN.{take, drop, length-drop}
use Rattle.std.proofs.Math.Seq.{take-nil, take_all, take-append_seam, append_snoc, set_out, length-sets}
use Rattle.std.proofs.lemmas.List.Edits.{sets, sets-eq}
use Rattle.std.proofs.Math.Dec.{eqb-suc-zero}
use Rattle.codec_frames.specs.declared.Frame.{Frame}
use Rattle.codec_frames.specs.Frames.{frame_of}
use Rattle.codec_frames.specs.Laws.{frame_numbered, number_same}
use Rattle.codec_telegrams.specs.declared.Telegram.{Telegram}
use Rattle.refusals.specs.declared.refusal.Refusal.{Refusal}
use Rattle.refusals.specs.Refusals.{number_of}
use Rattle.capture_lines.specs.declared.Line.{Line}
use Rattle.capture_lines.specs.declared.LineError.{LineError}
use Rattle.capture_lines.specs.declared.LineError.TheVariants as error
use Rattle.codec_frames.specs.Behind.{first_255}
use Rattle.capture_lines.specs.declared.Digits.{Digits}
use Rattle.capture_lines.specs.Lines.{LineRead, line_read, NotBuilt, Refused, Accepted, space, line_feed, zero_digit, clock_limit, lines_of, between, digit_of, is_decimal, is_hex, digits_at, after_digits, decimal_from, decimal, pairs_at, after_pairs, some, begins, is_end, is_time, after_time, is_built, said_of, line_of, first_said, line_at}
use Rattle.capture_lines.specs.Ways.{digit_in, byte_in, capped, capped_more, digits_from, zero_leads, rest_way, line_way}
use Rattle.capture_lines.specs.Laws.{Accepts, First, FirstLine, NoFeed, Paired, ended, unended}

-- Digits

-- what lies between two bytes is neither below the one nor above the other
pub between_is : (low high b : ℕ) → between low high b ≡ true → (low ≤ b) × (b ≤ high)
between_is low high b h =
    cases (leb low b) (λ a. (leb-true low b a, leb-true b high (rw a at h))) (λ a. let z : ◌≡◌ {A = Bool} false true = rw a at h in let y : ◌≡◌ {A = ℕ} 0 1 = cc in absurd (omega arith))

-- a digit is at most 16
pub digit_most : (b : ℕ) → digit_of b ≤ 16
unfolding digit_of
digit_most b =
    cases (between 48 57 b) (λ a. rw a (omega (arith, between_is 48 57 b a))) (λ a.
    cases (between 65 70 b) (λ d. rw (a, d) (omega (arith, between_is 65 70 b d))) (λ d.
    cases (between 97 102 b) (λ e. rw (a, d, e) (omega (arith, between_is 97 102 b e))) (λ e. rw (a, d, e) (lit≤ tt))))

-- a number that was cut to the limit before goes on as the number itself
pub capped_more_lem : (n digit : ℕ) → capped_more (capped n) digit ≡ capped (n * 10 + digit)
unfolding capped_more
capped_more_lem n digit =
    cases (leb clock_limit n)
    (λ a.
    let h = leb-true clock_limit n a in
    rw (a, le-leb clock_limit (clock_limit * 10 + digit) (omega arith), le-leb clock_limit (n * 10 + digit) (omega arith)))
    (λ a. rw a)

-- the digits at the start of bytes, as the loop goes
pub digits_are : (n count : ℕ) (text : List ℕ) → digits_from (capped n) count text ≡ record { value = capped (decimal_from n (digits_at text)); count = count + length (digits_at text) }
unfolding digits_from
digits_are n count [] = rw add-zero
digits_are n count (b ∷ rest) =
    cases (is_decimal b)
    (λ a.
    let e : count + 1 + length (digits_at rest) ≡ count + suc (length (digits_at rest)) = omega arith in
    rw (a, capped_more_lem n (digit_of b), digits_are (n * 10 + digit_of b) (count + 1) rest, e))
    (λ a. rw (a, add-zero))

-- what follows the digits
after_digits_is : (text : List ℕ) → after_digits text ≡ drop (length (digits_at text)) text
after_digits_is [] = refl
after_digits_is (b ∷ rest) = cases (is_decimal b) (λ a. rw a (after_digits_is rest)) (λ a. rw a)

-- digits and what follows them are all bytes
digits_length : (text : List ℕ) → length (digits_at text) + length (after_digits text) ≡ length text
digits_length [] = refl
digits_length (b ∷ rest) = cases (is_decimal b) (λ a. rw a (omega (arith, digits_length rest))) (λ a. rw a (omega arith))

-- so are pairs and what follows them
pairs_length : (text : List ℕ) → 2 * length (pairs_at text) + length (after_pairs text) ≡ length text
pairs_length [] = refl
pairs_length (a ∷ []) = refl
pairs_length (a ∷ b ∷ rest) =
    cases (is_hex a && is_hex b) (λ h. rw h (omega (arith, pairs_length rest))) (λ h. rw h (omega arith))

twice_suc : (n : ℕ) → 2 * suc n ≡ suc (suc (2 * n))
twice_suc n = omega arith

-- what follows the pairs
after_pairs_is : (text : List ℕ) → after_pairs text ≡ drop (2 * length (pairs_at text)) text
after_pairs_is [] = refl
after_pairs_is (a ∷ []) = refl
after_pairs_is (a ∷ b ∷ rest) =
    cases (is_hex a && is_hex b) (λ h. rw (h, twice_suc (length (pairs_at rest))) (after_pairs_is rest)) (λ h. rw h)

-- every text begins so
pub first_of : (text : List ℕ) → First text
first_of [] = unended tt
first_of (b ∷ rest) =
    cases (eqb b line_feed)
    (λ a. ended [] rest tt (ap (λ (x : ℕ). x ∷ rest) (eqb-true b line_feed a)))
    (λ a. more a (first_of rest))
  where
    more : eqb b line_feed ≡ false → First rest → First (b ∷ rest)
    more a (unended n) = unended {text = b ∷ rest} (a, n)
    more a (ended line tail n e) = ended (b ∷ line) tail (a, n) (ap (λ (l : List ℕ). b ∷ l) e)

-- a text without a line feed is one line
lines_open : (b : ℕ) (rest : List ℕ) → NoFeed (b ∷ rest) → lines_of (b ∷ rest) ≡ (b ∷ rest) ∷ []
lines_open b [] n = rw n.0
lines_open b (c ∷ rest) n = rw (n.0, lines_open c rest n.1)

-- a line ends with its line feed
pub lines_ended : (line rest : List ℕ) → NoFeed line → lines_of (line ++ (line_feed ∷ rest)) ≡ (line ++ (line_feed ∷ [])) ∷ lines_of rest
lines_ended [] rest n = refl
lines_ended (b ∷ line) rest n = rw (n.0, lines_ended line rest n.1)

-- digits and pairs end before a line feed, whatever follows it
module _ (rest : List ℕ) where
  digits_ended : (line : List ℕ) → digits_at (line ++ (line_feed ∷ rest)) ≡ digits_at line
  unfolding digit_of
  digits_ended [] = refl
  digits_ended (b ∷ line) = cases (is_decimal b) (λ a. rw (a, digits_ended line)) (λ a. rw a)

  after_digits_ended : (line : List ℕ) → after_digits (line ++ (line_feed ∷ rest)) ≡ after_digits line ++ (line_feed ∷ rest)
  unfolding digit_of
  after_digits_ended [] = refl
  after_digits_ended (b ∷ line) = cases (is_decimal b) (λ a. rw (a, after_digits_ended line)) (λ a. rw a)

  pairs_ended : (line : List ℕ) → pairs_at (line ++ (line_feed ∷ rest)) ≡ pairs_at line
  unfolding digit_of
  pairs_ended [] = none rest
    where
      none : (r : List ℕ) → pairs_at (line_feed ∷ r) ≡ []
      none [] = refl
      none (c ∷ r) = refl
  pairs_ended (a ∷ []) = cases (is_hex a) (λ h. rw h) (λ h. rw h)
  pairs_ended (a ∷ b ∷ line) = cases (is_hex a && is_hex b) (λ h. rw (h, pairs_ended line)) (λ h. rw h)

  after_pairs_ended : (line : List ℕ) → after_pairs (line ++ (line_feed ∷ rest)) ≡ after_pairs line ++ (line_feed ∷ rest)
  unfolding digit_of
  after_pairs_ended [] = none rest
    where
      none : (r : List ℕ) → after_pairs (line_feed ∷ r) ≡ line_feed ∷ r
      none [] = refl
      none (c ∷ r) = refl
  after_pairs_ended (a ∷ []) = cases (is_hex a) (λ h. rw h) (λ h. rw h)
  after_pairs_ended (a ∷ b ∷ line) = cases (is_hex a && is_hex b) (λ h. rw (h, after_pairs_ended line)) (λ h. rw h)

-- what is left of bytes without a line feed has none
left_digits : (line : List ℕ) → NoFeed line → NoFeed (after_digits line)
left_digits [] n = tt
left_digits (b ∷ line) n = cases (is_decimal b) (λ a. rw a (left_digits line n.1)) (λ a. rw a n)

left_pairs : (line : List ℕ) → NoFeed line → NoFeed (after_pairs line)
left_pairs [] n = tt
left_pairs (a ∷ []) n = n
left_pairs (a ∷ b ∷ line) n = cases (is_hex a && is_hex b) (λ h. rw h (left_pairs line n.1.1)) (λ h. rw h n)

-- bytes without a line feed do not begin with one
no_begin : (line : List ℕ) → NoFeed line → begins line_feed line ≡ false
no_begin [] n = refl
no_begin (b ∷ line) n = n.0

no_end : (line : List ℕ) → NoFeed line → is_end line ≡ false
no_end [] n = refl
no_end (b ∷ []) n = n.0
no_end (b ∷ c ∷ line) n = refl

-- a line feed behind them is where they end if there are none
end_begins : (line rest : List ℕ) → NoFeed line → begins line_feed (line ++ (line_feed ∷ rest)) ≡ is_end (line ++ (line_feed ∷ []))
end_begins [] rest n = refl
end_begins (b ∷ []) rest n = n.0
end_begins (b ∷ c ∷ line) rest n = n.0

-- whether a text begins with a line
unfoldable built_at : List ℕ → Bool
built_at text = is_time (digits_at text) && begins space (after_digits text) && some (pairs_at (after_time text)) && begins line_feed (after_pairs (after_time text))

no_and : (a : Bool) → a && false ≡ false
no_and true = refl
no_and false = refl

-- and without its first byte
left_first : (line : List ℕ) → NoFeed line → NoFeed (drop 1 line)
left_first [] n = tt
left_first (b ∷ line) n = n.1

-- bytes without a line feed neither begin with a line nor are one
built_unended : (line : List ℕ) → NoFeed line → (built_at line ≡ false) × (is_built line ≡ false)
unfolding built_at is_built
built_unended line n =
    let m = left_pairs (after_time line) (left_first (after_digits line) (left_digits line n)) in
    let three = is_time (digits_at line) && begins space (after_digits line) && some (pairs_at (after_time line)) in
    (rw (no_begin (after_pairs (after_time line)) m) (no_and three), rw (no_end (after_pairs (after_time line)) m) (no_and three))

-- what ends with a line feed begins with a line if it is one
built_ended : (line rest : List ℕ) → NoFeed line → built_at (line ++ (line_feed ∷ rest)) ≡ is_built (line ++ (line_feed ∷ []))
unfolding built_at is_built
built_ended line rest n =
    rw (digits_ended rest line, digits_ended [] line, after_digits_ended rest line, after_digits_ended [] line)
    (by_rest (after_digits line) (left_digits line n))
  where
    by_rest :
        (l : List ℕ)
        → NoFeed l
        → (is_time (digits_at line) && begins space (l ++ (line_feed ∷ rest)) && some (pairs_at (drop 1 (l ++ (line_feed ∷ rest)))) && begins line_feed (after_pairs (drop 1 (l ++ (line_feed ∷ rest)))))
        ≡ (is_time (digits_at line) && begins space (l ++ (line_feed ∷ [])) && some (pairs_at (drop 1 (l ++ (line_feed ∷ [])))) && is_end (after_pairs (drop 1 (l ++ (line_feed ∷ [])))))
    by_rest [] m = rw (no_and (is_time (digits_at line)))
    by_rest (b ∷ l) m =
        rw (pairs_ended rest l, pairs_ended [] l, after_pairs_ended rest l, after_pairs_ended [] l, end_begins (after_pairs l) rest (left_pairs l m.1))

-- a test that three or four tests join
and_both : (a b : Bool) → a && b ≡ true → (a ≡ true) × (b ≡ true)
and_both true b h = (refl, h)
and_both false b h = let z : ◌≡◌ {A = ℕ} 0 1 = cc in absurd (omega arith)

end_one : (l : List ℕ) → is_end l ≡ true → length l ≡ 1
end_one [] h = let z : ◌≡◌ {A = ℕ} 0 1 = cc in absurd (omega arith)
end_one (b ∷ []) h = refl
end_one (b ∷ c ∷ l) h = let z : ◌≡◌ {A = ℕ} 0 1 = cc in absurd (omega arith)

begins_one : (a : ℕ) (l : List ℕ) → begins a l ≡ true → length l ≡ suc (length (drop 1 l))
begins_one a [] h = let z : ◌≡◌ {A = ℕ} 0 1 = cc in absurd (omega arith)
begins_one a (b ∷ l) h = refl

-- a space follows its time
built_spaced : (l : List ℕ) → is_built l ≡ true → begins space (after_digits l) ≡ true
unfolding is_built
built_spaced l h =
    let time = is_time (digits_at l) in
    let spaced = begins space (after_digits l) in
    let paired = some (pairs_at (after_time l)) in
    (and_both time spaced (and_both (time && spaced) paired (and_both (time && spaced && paired) (is_end (after_pairs (after_time l))) h).0).0).1

-- a line has the bytes of its time, a space, its pairs and a line feed
pub built_length : (l : List ℕ) → is_built l ≡ true → length l ≡ length (digits_at l) + 1 + 2 * length (pairs_at (after_time l)) + 1
unfolding is_built
built_length l h =
    let time = is_time (digits_at l) in
    let spaced = begins space (after_digits l) in
    let paired = some (pairs_at (after_time l)) in
    let all = and_both (time && spaced && paired) (is_end (after_pairs (after_time l))) h in
    omega (arith, digits_length l, begins_one space (after_digits l) (built_spaced l h), pairs_length (after_time l), end_one (after_pairs (after_time l)) all.1)

-- The reader as the code goes

-- the digits of a text from its start
pub digits_first : (text : List ℕ) → digits_from 0 0 text ≡ record { value = capped (decimal (digits_at text)); count = length (digits_at text) }
digits_first text =
    digits_are 0 0 text ∙ ap (λ (k : ℕ). record { value = capped (decimal (digits_at text)); count = k }) (zero-add (length (digits_at text)))

-- they are no more than the text has
pub digits_within : (text : List ℕ) (digits : Digits) → digits ≡ digits_from 0 0 text → digits.count ≤ length text
digits_within text digits is = rw (is, digits_first text) (omega (arith, digits_length text))

none_zero : (l : List ℕ) → eqb (length l) 0 ≡ not (some l)
none_zero [] = refl
none_zero (b ∷ l) = eqb-suc-zero (length l)

capped_limit : (n : ℕ) → leb clock_limit (capped n) ≡ not (ltb n clock_limit)
capped_limit n =
    cases (leb clock_limit n)
    (λ a. rw (a, le-ltb n clock_limit (leb-true clock_limit n a)))
    (λ a. rw (a, lt-ltb n clock_limit (leb-false clock_limit n a)) a)

capped_fits : (n : ℕ) → ltb n clock_limit ≡ true → capped n ≡ n
capped_fits n h = rw (lt-leb clock_limit n (ltb-true n clock_limit h))

leads_same : (text : List ℕ) → some (digits_at text) ≡ true → zero_leads (get_or text 0 0) (length (digits_at text)) ≡ (begins zero_digit (digits_at text) && not (eqb (length (digits_at text)) 1))
leads_same [] h = let z : ◌≡◌ {A = ℕ} 0 1 = cc in absurd (omega arith)
leads_same (b ∷ rest) h =
    cases (is_decimal b)
    (λ a. rw a (cases (eqb b zero_digit) (λ e. rw e) (λ e. rw e)))
    (λ a. let z : ◌≡◌ {A = Bool} false true = rw a at h in let y : ◌≡◌ {A = ℕ} 0 1 = cc in absurd (omega arith))

-- the rest of a line, by what follows its time
rest_said :
    (text : List ℕ) (time begun : ℕ)
    → rest_way text time begun
    ≡ cond (some (pairs_at text) && begins line_feed (after_pairs text)) (said_of time (frame_of (pairs_at text)) (length (pairs_at text)) (begun + 2 * length (pairs_at text) + 1)) NotBuilt
unfolding rest_way
rest_said text time begun =
    rw (none_zero (pairs_at text), ← after_pairs_is text) (cases (some (pairs_at text)) (λ a. rw a) (λ a. rw a))

-- a line, by what a text begins with
way_said :
    (text : List ℕ)
    → line_way text (digits_from 0 0 text)
    ≡ cond (built_at text) (said_of (decimal (digits_at text)) (frame_of (pairs_at (after_time text))) (length (pairs_at (after_time text))) (length (digits_at text) + 1 + 2 * length (pairs_at (after_time text)) + 1)) NotBuilt
unfolding line_way built_at
way_said text =
    let d = digits_at text in
    let v = decimal d in
    let after : drop (length d + 1) text ≡ after_time text = sym (drop-drop 1 (length d) text) ∙ ap (drop 1) (sym (after_digits_is text)) in
    rw (digits_first text, none_zero d, capped_limit v, ← after_digits_is text, after)
    (cases (some d) (λ a.
    cases (ltb v clock_limit) (λ b.
    cases (begins zero_digit d && not (eqb (length d) 1)) (λ e. rw (a, b, leads_same text a, e)) (λ e.
    cases (begins space (after_digits text))
    (λ g. rw (a, b, leads_same text a, e, g, capped_fits v b, rest_said (after_time text) v (length d + 1)))
    (λ g. rw (a, b, leads_same text a, e, g))))
    (λ b. rw (a, b, no_and (not (begins zero_digit d && not (eqb (length d) 1))))))
    (λ a. rw a))

-- a line's pairs are the same whatever follows its line feed
pairs_same : (line rest : List ℕ) → is_built (line ++ (line_feed ∷ [])) ≡ true → pairs_at (after_time (line ++ (line_feed ∷ rest))) ≡ pairs_at (after_time (line ++ (line_feed ∷ [])))
pairs_same line rest h =
    rw (after_digits_ended rest line, after_digits_ended [] line)
    (by_rest (after_digits line) (rw (after_digits_ended [] line) at (built_spaced (line ++ (line_feed ∷ [])) h)))
  where
    by_rest : (l : List ℕ) → begins space (l ++ (line_feed ∷ [])) ≡ true → pairs_at (drop 1 (l ++ (line_feed ∷ rest))) ≡ pairs_at (drop 1 (l ++ (line_feed ∷ [])))
    by_rest [] g = let z : ◌≡◌ {A = Bool} false true = g in let y : ◌≡◌ {A = ℕ} 0 1 = cc in absurd (omega arith)
    by_rest (b ∷ l) g = pairs_ended rest l ∙ sym (pairs_ended [] l)

-- what a text says that begins with a line, by that line
said_ended :
    (line rest : List ℕ)
    → NoFeed line
    → cond (built_at (line ++ (line_feed ∷ rest)))
    (said_of (decimal (digits_at (line ++ (line_feed ∷ rest)))) (frame_of (pairs_at (after_time (line ++ (line_feed ∷ rest))))) (length (pairs_at (after_time (line ++ (line_feed ∷ rest)))))
    (length (digits_at (line ++ (line_feed ∷ rest))) + 1 + 2 * length (pairs_at (after_time (line ++ (line_feed ∷ rest)))) + 1))
    NotBuilt
    ≡ line_of (line ++ (line_feed ∷ []))
unfolding line_of
said_ended line rest n =
    let l = line ++ (line_feed ∷ []) in
    let digits : digits_at (line ++ (line_feed ∷ rest)) ≡ digits_at l = digits_ended rest line ∙ sym (digits_ended [] line) in
    cases (is_built l)
    (λ a. rw (built_ended line rest n, a, digits, pairs_same line rest a, ← built_length l a))
    (λ a. rw (built_ended line rest n, a))

-- the reader as the code goes is what the first line says
pub line_way_lem : (text : List ℕ) → line_way text (digits_from 0 0 text) ≡ line_at text
unfolding line_at line_of
line_way_lem text = way_said text ∙ by_first text (first_of text)
  where
    by_first :
        (l : List ℕ)
        → First l
        → cond (built_at l) (said_of (decimal (digits_at l)) (frame_of (pairs_at (after_time l))) (length (pairs_at (after_time l))) (length (digits_at l) + 1 + 2 * length (pairs_at (after_time l)) + 1)) NotBuilt
        ≡ first_said (lines_of l)
    by_first [] (unended n) = rw (built_unended [] n).0
    by_first (b ∷ l) (unended n) = rw (lines_open b l n, (built_unended (b ∷ l) n).0, (built_unended (b ∷ l) n).1)
    by_first l (ended line rest n e) = rw (e, lines_ended line rest n) (said_ended line rest n)

-- The loops, turn by turn

module _ (text : List ℕ) (value count : ℕ) where
  -- no byte is left
  pub digits_end : length text ≤ count → digits_from value count (drop count text) ≡ record { value = value; count = count }
  unfolding digits_from
  digits_end h = rw (drop_of_length-le text h)

  module _ (more : count < length text) where
    -- the next byte is no digit
    pub digits_stop : None ≡ digit_in 10 (get_or text count 0) → digits_from value count (drop count text) ≡ record { value = value; count = count }
    unfolding digits_from
    digits_stop h =
        cases (is_decimal (get_or text count 0))
        (λ a. let g = rw a at h in cc)
        (λ a. rw (drop-cons text count 0 more, a))

    -- it is one
    pub digits_go :
        {digit : ℕ}
        → Some digit ≡ digit_in 10 (get_or text count 0)
        → digits_from value count (drop count text) ≡ digits_from (capped_more value digit) (count + 1) (drop (count + 1) text)
    unfolding digits_from
    digits_go {digit} h =
        cases (is_decimal (get_or text count 0))
        (λ a.
        let g = rw a at h in
        let same : digit ≡ digit_of (get_or text count 0) = cc in
        rw (drop-cons text count 0 more, a, same, add-one count))
        (λ a. let g = rw a at h in cc)

-- fewer than two bytes are no pair
few : (l : List ℕ) → length l ≤ 1 → pairs_at l ≡ []
few [] h = refl
few (a ∷ []) h = refl
few (a ∷ b ∷ l) h = absurd (omega arith)

-- before the first pair
pub paired_none : (text before : List ℕ) → Paired text before before text 0
paired_none text before =
    record { within = omega arith; long = refl; many = sym (zero-add (length (pairs_at text))); stand = refl }

module _ {text before frame left : List ℕ} {count : ℕ} (p : Paired text before frame left count) where
  -- no pair more
  all_paired : pairs_at left ≡ [] → (count ≡ length (pairs_at text)) × (frame ≡ sets before 0 (pairs_at text))
  all_paired e = (sym (p.many ∙ rw (e, add-zero)), sym (p.stand ∙ rw e))

  -- fewer than two bytes are left
  pub paired_end : length left < 2 → (count ≡ length (pairs_at text)) × (frame ≡ sets before 0 (pairs_at text))
  paired_end h = all_paired (few left (omega arith))

  module _ (pair rest : List ℕ) (splits : left ≡ pair ++ rest) (size : length pair ≡ 2) where
    pairs_are : pairs_at left ≡ cond (is_hex (get_or pair 0 0) && is_hex (get_or pair 1 0)) ((16 * digit_of (get_or pair 0 0) + digit_of (get_or pair 1 0)) ∷ pairs_at rest) []
    pairs_are = rw splits (by_pair pair size)
      where
        by_pair : (l : List ℕ) → length l ≡ 2 → pairs_at (l ++ rest) ≡ cond (is_hex (get_or l 0 0) && is_hex (get_or l 1 0)) ((16 * digit_of (get_or l 0 0) + digit_of (get_or l 1 0)) ∷ pairs_at rest) []
        by_pair [] h = absurd (omega arith)
        by_pair (a ∷ []) h = absurd (omega arith)
        by_pair (a ∷ b ∷ []) h = refl
        by_pair (a ∷ b ∷ d ∷ l) h = absurd (omega arith)

    -- the next two bytes are no pair
    pub paired_stop : None ≡ byte_in (get_or pair 0 0) (get_or pair 1 0) → (count ≡ length (pairs_at text)) × (frame ≡ sets before 0 (pairs_at text))
    paired_stop h =
        cases (is_hex (get_or pair 0 0) && is_hex (get_or pair 1 0))
        (λ a. let g = rw a at h in cc)
        (λ a. all_paired (pairs_are ∙ rw a))

    -- they are one: one pair more
    pub paired_more :
        {byte : ℕ}
        → Some byte ≡ byte_in (get_or pair 0 0) (get_or pair 1 0)
        → {after : List ℕ}
        → after ≡ set frame count byte
        → Paired text before after rest (count + 1)
    paired_more {byte} h {after} is =
        cases (is_hex (get_or pair 0 0) && is_hex (get_or pair 1 0))
        (λ a.
        let g = rw a at h in
        let same : byte ≡ 16 * digit_of (get_or pair 0 0) + digit_of (get_or pair 1 0) = cc in
        let e : pairs_at left ≡ byte ∷ pairs_at rest = pairs_are ∙ rw (a, same) in
        let sum : count + suc (length (pairs_at rest)) ≡ count + 1 + length (pairs_at rest) = omega arith in
        record {
          within = omega (arith, p.within, ap length splits, length-append pair rest);
          long = ap length is ∙ length-set frame count byte ∙ p.long;
          many = p.many ∙ ap (λ (l : List ℕ). count + length l) e ∙ sum;
          stand = p.stand ∙ rw (e, is, add-one count);
        })
        (λ a. let g = rw a at h in cc)

-- The frame of a line

-- stores past the end change nothing
sets_cut : (vs l : List ℕ) (i : ℕ) → sets l i vs ≡ sets l i (take (length l - i) vs)
sets_cut [] l i = rw take-nil
sets_cut (v ∷ vs) l i =
    cases (ltb i (length l))
    (λ a.
    let h = ltb-true i (length l) a in
    let e : length l - i ≡ suc (length l - suc i) = omega arith in
    rw e (sets_cut vs (set l i v) (suc i) ∙ rw (length-set l i v)))
    (λ a.
    let h = ltb-false i (length l) a in
    let e : length l - i ≡ 0 = omega arith in
    let f : length l - suc i ≡ 0 = omega arith in
    rw (e, set_out l i v h) (sets_cut vs l (suc i) ∙ rw f))

-- the frame that bytes begin with is read from those that were stored
pub stored_frame : (bytes l : List ℕ) → length l ≡ 255 → frame_of (take (length bytes) (sets l 0 bytes)) ≡ frame_of bytes
stored_frame bytes l size =
    cases (ltb (length bytes) 255)
    (λ a.
    let h = ltb-true (length bytes) 255 a in
    let room : 0 + length bytes ≤ length l = omega arith in
    ap (λ (x : List ℕ). frame_of (take (length bytes) x)) (sets-eq bytes l 0 room) ∙ ap frame_of (take-append_seam bytes (drop (0 + length bytes) l)))
    (λ a.
    let h = ltb-false (length bytes) 255 a in
    let part = take 255 bytes in
    let long : length part ≡ 255 = length-take-le 255 bytes h in
    let cut : length l - 0 ≡ 255 = omega arith in
    let all : sets l 0 bytes ≡ part =
    sets_cut bytes l 0 ∙ rw cut (sets-eq part l 0 (omega arith)) ∙ ap (λ (x : List ℕ). part ++ x) (drop_of_length-le l {i = 0 + length part} (omega arith)) ∙ append-nil part in
    ap (λ (x : List ℕ). frame_of (take (length bytes) x)) all ∙ ap frame_of (take_all (length bytes) part (omega arith)) ∙ first_255 bytes h)

-- whether bytes from a place on begin with this one
pub begins_none : (a : ℕ) (text : List ℕ) (at : ℕ) → length text ≤ at → begins a (drop at text) ≡ false
begins_none a text at h = rw (drop_of_length-le text h)

pub begins_at : (a : ℕ) (text : List ℕ) (at : ℕ) → at < length text → begins a (drop at text) ≡ eqb (get_or text at 0) a
begins_at a text at h = rw (drop-cons text at 0 h)

-- pairs are no more than the text has bytes for
pub pairs_within : (text : List ℕ) → 2 * length (pairs_at text) ≤ length text
pairs_within text = omega (arith, pairs_length text)

-- The returns of the code

module _ (text : List ℕ) (time begun : ℕ) {count : ℕ} (is : count ≡ length (pairs_at text)) where
  -- no pair
  pub rest_none : count ≡ 0 → NotBuilt ≡ rest_way text time begun
  unfolding rest_way
  rest_none h = rw (← is, h)

  module _ (some_pairs : count ≡ 0 → ⊥) where
    -- nothing behind the pairs
    pub rest_cut : length text ≤ 2 * count → NotBuilt ≡ rest_way text time begun
    unfolding rest_way
    rest_cut h = rw (← is, ne_eqb count 0 some_pairs, begins_none line_feed text (2 * count) h)

    module _ (more : 2 * count < length text) where
      -- something else than a line feed
      pub rest_other : (get_or text (2 * count) 0 ≡ line_feed → ⊥) → NotBuilt ≡ rest_way text time begun
      unfolding rest_way
      rest_other h = rw (← is, ne_eqb count 0 some_pairs, begins_at line_feed text (2 * count) more, ne_eqb (get_or text (2 * count) 0) line_feed h)

      -- a line feed: the line says what its frame says
      pub rest_ended :
          get_or text (2 * count) 0 ≡ line_feed
          → (l : List ℕ) {frame : List ℕ} {first : ℕ} {read : Result Frame ℕ} {said : LineRead}
          → length l ≡ 255
          → frame ≡ sets l 0 (pairs_at text)
          → (count ≤ 255 → first ≡ count)
          → (255 < count → first ≡ 255)
          → read ≡ frame_of (take first frame)
          → said ≡ said_of time read count (begun + 2 * count + 1)
          → said ≡ rest_way text time begun
      unfolding rest_way
      rest_ended h l {frame} {first} {read} {said} size stands below above reads says =
          let long : length frame ≡ 255 = ap length stands ∙ length-sets l 0 (pairs_at text) ∙ size in
          let same : take first frame ≡ take count frame =
          cases (leb count 255)
          (λ a. ap (λ (n : ℕ). take n frame) (below (leb-true count 255 a)))
          (λ a.
          let over : 255 < count = leb-false count 255 a in
          rw (above over, take_all 255 frame (omega arith), take_all count frame (omega arith))) in
          let whole : read ≡ frame_of (pairs_at text) = reads ∙ rw (same, stands, is) (stored_frame (pairs_at text) l size) in
          rw (← is, ne_eqb count 0 some_pairs, begins_at line_feed text (2 * count) more, h) (says ∙ rw whole)

module _ (text : List ℕ) (digits : Digits) (is : digits ≡ digits_from 0 0 text) where
  -- what the code makes of the digits is what the line says
  by_digits : line_way text digits ≡ line_at text
  by_digits = ap (line_way text) is ∙ line_way_lem text

  -- no digit
  pub line_none : digits.count ≡ 0 → NotBuilt ≡ line_at text
  unfolding line_way
  line_none h = rw h at by_digits

  module _ (some-digits : digits.count ≡ 0 → ⊥) where
    -- a time that does not fit the clock
    pub line_late : clock_limit ≤ digits.value → NotBuilt ≡ line_at text
    unfolding line_way
    line_late h = rw (ne_eqb digits.count 0 some-digits, le-leb clock_limit digits.value h) at by_digits

    module _ (fits : digits.value < clock_limit) where
      -- a leading zero
      pub line_led : zero_leads (get_or text 0 0) digits.count ≡ true → NotBuilt ≡ line_at text
      unfolding line_way
      line_led h = rw (ne_eqb digits.count 0 some-digits, lt-leb clock_limit digits.value fits, h) at by_digits

      module _ (plain : zero_leads (get_or text 0 0) digits.count ≡ false) where
        -- nothing behind the time
        pub line_cut : length text ≤ digits.count → NotBuilt ≡ line_at text
        unfolding line_way
        line_cut h =
            rw (ne_eqb digits.count 0 some-digits, lt-leb clock_limit digits.value fits, plain, begins_none space text digits.count h) at by_digits

        module _ (more : digits.count < length text) where
          -- something else than a space
          pub line_other : (get_or text digits.count 0 ≡ space → ⊥) → NotBuilt ≡ line_at text
          unfolding line_way
          line_other h =
              rw (
                ne_eqb digits.count 0 some-digits,
                lt-leb clock_limit digits.value fits,
                plain,
                begins_at space text digits.count more,
                ne_eqb (get_or text digits.count 0) space h,
              ) at by_digits

          -- a space, and the rest of the line
          pub line_rest :
              get_or text digits.count 0 ≡ space
              → {said : LineRead}
              → said ≡ rest_way (take (length text - (digits.count + 1)) (drop (digits.count + 1) text)) digits.value (digits.count + 1)
              → said ≡ line_at text
          unfolding line_way
          line_rest h says =
              let begun = digits.count + 1 in
              let tail : take (length text - begun) (drop begun text) ≡ drop begun text = take_all (length text - begun) (drop begun text) (rw length-drop (le_refl (length text - begun))) in
              says
              ∙ rw tail
              (rw (
                ne_eqb digits.count 0 some-digits,
                lt-leb clock_limit digits.value fits,
                plain,
                begins_at space text digits.count more,
                h,
              ) at by_digits)

pub first_line : (text : List ℕ) → 1 ≤ length text → FirstLine text
unfolding line_at
first_line text h = by_first text h (first_of text)
  where
    by_first : (l : List ℕ) → 1 ≤ length l → First l → FirstLine l
    by_first [] g f = absurd (omega arith)
    by_first (b ∷ l) g (unended n) = record { line = b ∷ l; others = []; splits = lines_open b l n; says = rw (lines_open b l n) }
    by_first (b ∷ l) g (ended line rest n e) =
        let split : lines_of (b ∷ l) ≡ (line ++ (line_feed ∷ [])) ∷ lines_of rest = ap lines_of e ∙ lines_ended line rest n in
        record { line = line ++ (line_feed ∷ []); others = lines_of rest; splits = split; says = rw split }

-- a line says how many bytes it has
said_used : (time count : ℕ) (read : Result Frame ℕ) {size at used : ℕ} {telegram : Telegram} → said_of time read count size ≡ Accepted at telegram used → used ≡ size
unfolding said_of
said_used time count (Err refusal) e = let z : ◌≡◌ {A = ℕ} 0 1 = cc in absurd (omega arith)
said_used time count (Ok f) e =
    cases (eqb f.used count) (λ a. let g = rw a at e in cc) (λ a. let g = rw a at e in let z : ◌≡◌ {A = ℕ} 0 1 = cc in absurd (omega arith))

line_used : (l : List ℕ) {at used : ℕ} {telegram : Telegram} → line_of l ≡ Accepted at telegram used → used ≡ length l
unfolding line_of
line_used l e =
    cases (is_built l)
    (λ a. said_used (decimal (digits_at l)) (length (pairs_at (after_time l))) (frame_of (pairs_at (after_time l))) (rw a at e))
    (λ a. let g = rw a at e in let z : ◌≡◌ {A = ℕ} 0 1 = cc in absurd (omega arith))

pub accepts : (text : List ℕ) {at used : ℕ} {telegram : Telegram} → line_at text ≡ Accepted at telegram used → Accepts text used
unfolding line_at line_of
accepts text {at} {used} {telegram} says = by_first text says (first_of text)
  where
    by_first : (l : List ℕ) → line_at l ≡ Accepted at telegram used → First l → Accepts l used
    by_first [] g f = let z : ◌≡◌ {A = ℕ} 0 1 = cc in absurd (omega arith)
    by_first (b ∷ l) g (unended n) =
        let h = rw (lines_open b l n, (built_unended (b ∷ l) n).1) at g in
        let z : ◌≡◌ {A = ℕ} 0 1 = cc in
        absurd (omega arith)
    by_first (b ∷ l) g (ended line rest n e) =
        let first = line ++ (line_feed ∷ []) in
        let split : lines_of (b ∷ l) ≡ first ∷ lines_of rest = ap lines_of e ∙ lines_ended line rest n in
        let same : line_of first ≡ line_at (b ∷ l) = rw split in
        let size : used ≡ length first = line_used first (same ∙ g) in
        let whole : b ∷ l ≡ first ++ rest = e ∙ sym (append_snoc line line_feed rest) in
        let left : drop used (b ∷ l) ≡ rest = rw whole (drop_at first rest used (sym size)) in
        record {
          line = first;
          splits = split ∙ ap (λ (x : List ℕ). first ∷ lines_of x) (sym left);
          says = same;
          some_used = omega (arith, length-append line (line_feed ∷ []));
          within = omega (arith, ap length whole, length-append first rest);
        }

-- a refused line has a number
said_numbered : (time count size : ℕ) (f : List ℕ) (read : Result Frame ℕ) → frame_of f ≡ read → {at refusal : ℕ} → said_of time read count size ≡ Refused at refusal → refusal ≡ 0 → ⊥
unfolding said_of
said_numbered time count size f (Err n) g {at} {refusal} e z = let same : n ≡ refusal = cc in frame_numbered f g (same ∙ z)
said_numbered time count size f (Ok r) g {at} {refusal} e z =
    cases (eqb r.used count)
    (λ a. let h = rw a at e in let y : ◌≡◌ {A = ℕ} 0 1 = cc in absurd (omega arith))
    (λ a. let h = rw a at e in let same : refusal ≡ 31 = cc in absurd (omega arith))

line_numbered : (l : List ℕ) {at refusal : ℕ} → line_of l ≡ Refused at refusal → refusal ≡ 0 → ⊥
unfolding line_of
line_numbered l e z =
    let f = pairs_at (after_time l) in
    cases (is_built l)
    (λ a. said_numbered (decimal (digits_at l)) (length f) (length l) f (frame_of f) refl (rw a at e) z)
    (λ a. let h = rw a at e in let y : ◌≡◌ {A = ℕ} 0 1 = cc in absurd (omega arith))

pub numbered : (text : List ℕ) {at refusal : ℕ} → line_at text ≡ Refused at refusal → refusal ≡ 0 → ⊥
unfolding line_at
numbered text {at} {refusal} e z = by_lines (lines_of text) e
  where
    by_lines : (ls : List (List ℕ)) → first_said ls ≡ Refused at refusal → ⊥
    by_lines [] g = let y : ◌≡◌ {A = ℕ} 0 1 = cc in absurd (omega arith)
    by_lines (l ∷ ls) g = line_numbered l g z

-- answers that say the same was read are the same
pub line_same : (x y : Result Line LineError) → line_read x ≡ line_read y → x ≡ y
line_same (Ok l) (Ok m) h =
    let time : l.time ≡ m.time = cc in
    let telegram : l.telegram ≡ m.telegram = cc in
    let used : l.used ≡ m.used = cc in
    ap (λ (t : ℕ). Ok (record { time = t; telegram = l.telegram; used = l.used })) time
    ∙ ap (λ (t : Telegram). Ok (record { time = m.time; telegram = t; used = l.used })) telegram
    ∙ ap (λ (u : ℕ). Ok (record { time = m.time; telegram = m.telegram; used = u })) used
line_same (Ok l) (Err error.NotBuilt) h = cc
line_same (Ok l) (Err (error.Frame time refusal)) h = cc
line_same (Err error.NotBuilt) (Ok m) h = cc
line_same (Err error.NotBuilt) (Err error.NotBuilt) h = refl
line_same (Err error.NotBuilt) (Err (error.Frame time refusal)) h = cc
line_same (Err (error.Frame time refusal)) (Ok m) h = cc
line_same (Err (error.Frame time refusal)) (Err error.NotBuilt) h = cc
line_same (Err (error.Frame time refusal)) (Err (error.Frame at other)) h =
    let clock : time ≡ at = cc in
    let number : number_of refusal ≡ number_of other = cc in
    ap (λ (t : ℕ). Err (error.Frame t refusal)) clock ∙ ap (λ (e : Refusal). Err (error.Frame at e)) (number_same refusal other number)
