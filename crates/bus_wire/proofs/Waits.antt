-- The telegrams that wait for a station: what the code keeps are their words (`Waits`), at the start and whatever joins or leaves.
-- Assumes nothing.
use Rattle.std.specs.Prelude.{ℕ, zero, suc, ◌+◌, ◌-◌, ◌<◌, ◌≤◌, ◌≡◌, refl, take, drop, get_or, ltb}
use Rattle.std.proofs.Common.{sym, ◌∙◌, add-one, length-append, length-drop, length-take-le, drop-drop, take-suc-set, lit≤}
use Rattle.std.proofs.Math.Path.{ap}
use mathlib.Core.List.{List, [], ◌∷◌, ◌++◌, map}
use native.Mathlib.Omega.{arith}
use borrow.Author.Tests.{lt-ltb, ltb-true, ltb-false}
use borrow.Table.Steps.{cases}
use Rattle.std.proofs.Math.ListN.{length, length-set}
use Rattle.std.proofs.lemmas.List.{length-map, take-append-le}
use Rattle.std.proofs.Math.Seq.{take-nil, drop-append-le}
use Rattle.codec_telegrams.specs.Words.{telegram_word}
use Rattle.codec_telegrams.specs.declared.Telegram.{Telegram}
use Rattle.bus_wire.specs.declared.Waiting.{Waiting}
use Rattle.bus_wire.specs.Wire.{newest}
use Rattle.bus_wire.specs.Kept.{nothing_waits, dropped_of, appended_of, joined_of, left_of, listed}
use Rattle.bus_wire.specs.Waits.{Fit, Waits}

-- eight words moved down by one place
moved_down :
    (l : List ℕ)
    → length l ≡ 8
    → get_or l 1 0 ∷ get_or l 2 0 ∷ get_or l 3 0 ∷ get_or l 4 0 ∷ get_or l 5 0 ∷ get_or l 6 0 ∷ get_or l 7 0 ∷ 0 ∷ [] ≡ drop 1 l ++ (0 ∷ [])
moved_down (a ∷ b ∷ c ∷ d ∷ e ∷ f ∷ g ∷ h ∷ []) p = refl
moved_down [] p = absurd (omega arith)
moved_down (a ∷ []) p = absurd (omega arith)
moved_down (a ∷ b ∷ []) p = absurd (omega arith)
moved_down (a ∷ b ∷ c ∷ []) p = absurd (omega arith)
moved_down (a ∷ b ∷ c ∷ d ∷ []) p = absurd (omega arith)
moved_down (a ∷ b ∷ c ∷ d ∷ e ∷ []) p = absurd (omega arith)
moved_down (a ∷ b ∷ c ∷ d ∷ e ∷ f ∷ []) p = absurd (omega arith)
moved_down (a ∷ b ∷ c ∷ d ∷ e ∷ f ∷ g ∷ []) p = absurd (omega arith)
moved_down (a ∷ b ∷ c ∷ d ∷ e ∷ f ∷ g ∷ h ∷ i ∷ rest) p = absurd (omega arith)

-- the first n of a list without its head
take_tail : (n : ℕ) (l : List ℕ) → take (n - 1) (drop 1 l) ≡ drop 1 (take n l)
take_tail zero l = refl
take_tail (suc n) [] = take-nil (suc n - 1)
take_tail (suc n) (a ∷ l) = let e : suc n - 1 ≡ n = omega arith in rw e

dropped_fit : (w : Waiting) → Fit w → Fit (dropped_of w)
unfolding dropped_of
dropped_fit w f = let few = f.few in record { long = refl; few = omega arith }

-- the oldest is gone
dropped_listed : (w : Waiting) → Fit w → listed (dropped_of w) ≡ drop 1 (listed w)
unfolding dropped_of
dropped_listed w f =
    let few = f.few in
    let long = f.long in
    let m : w.count - 1 ≤ length (drop 1 w.words) = rw length-drop (omega arith) in
    rw (moved_down w.words f.long, take-append-le (w.count - 1) (drop 1 w.words) (0 ∷ []) m) (take_tail w.count w.words)

dropped_fewer : (w : Waiting) → w.count ≤ 8 → (dropped_of w).count < 8
unfolding dropped_of
dropped_fewer w h = omega arith

-- none is gone yet; then one more
pub left_none : (w : Waiting) → w ≡ left_of w 0
unfolding left_of
left_none w = refl

pub left_more : (w l next : Waiting) (k : ℕ) → l ≡ left_of w k → next ≡ dropped_of l → next ≡ left_of w (k + 1)
unfolding left_of
left_more w l next k p q = rw (add-one, ← p, q)

left_fit : (w : Waiting) (k : ℕ) → Fit w → Fit (left_of w k)
unfolding left_of
left_fit w zero f = f
left_fit w (suc k) f = dropped_fit (left_of w k) (left_fit w k f)

-- the k oldest are gone
left_listed : (w : Waiting) (k : ℕ) → Fit w → listed (left_of w k) ≡ drop k (listed w)
unfolding left_of
left_listed w zero f = refl
left_listed w (suc k) f =
    dropped_listed (left_of w k) (left_fit w k f) ∙ ap (λ (l : List ℕ). drop 1 l) (left_listed w k f) ∙ drop-drop 1 k (listed w) ∙ rw (add-one k)

module _ (w : Waiting) (word : ℕ) (f : Fit w) where
  listed_length : length (listed w) ≡ w.count
  listed_length = let few = f.few in let long = f.long in length-take-le w.count w.words (omega arith)

  appended_fit : Fit (appended_of w word)
  unfolding appended_of
  appended_fit =
      cases (ltb w.count 8)
      (λ t. let h = ltb-true w.count 8 t in rw t (record { long = length-set w.words w.count word ∙ f.long; few = omega arith }))
      (λ t. rw t f)

  -- one more waits
  appended_listed : w.count < 8 → listed (appended_of w word) ≡ listed w ++ (word ∷ [])
  unfolding appended_of
  appended_listed h =
      let long = f.long in
      rw (lt-ltb _ _ h, add-one) (take-suc-set w.words w.count word (omega arith))

module _ (w : Waiting) (word : ℕ) (f : Fit w) where
  joined_fit : Fit (joined_of w word)
  unfolding joined_of
  joined_fit =
      cases (ltb w.count 8)
      (λ t. rw t (appended_fit w word f))
      (λ t. rw t (appended_fit (dropped_of w) word (dropped_fit w f)))

  -- one more waits, and the oldest falls away beyond 8
  joined_listed : listed (joined_of w word) ≡ newest (listed w ++ (word ∷ []))
  unfolding joined_of
  joined_listed =
      cases (ltb w.count 8)
      (λ t.
      let h = ltb-true w.count 8 t in
      let n : length (listed w ++ (word ∷ [])) - 8 ≡ 0 = rw (length-append (listed w) (word ∷ []), listed_length w word f) (omega arith) in
      rw (t, n) (appended_listed w word f h))
      (λ t.
      let h = ltb-false w.count 8 t in
      let few = f.few in
      let n : length (listed w ++ (word ∷ [])) - 8 ≡ 1 = rw (length-append (listed w) (word ∷ []), listed_length w word f) (omega arith) in
      let m : 1 ≤ length (listed w) = rw (listed_length w word f) (omega arith) in
      rw (t, n, drop-append-le 1 (listed w) (word ∷ []) m)
      (appended_listed (dropped_of w) word (dropped_fit w f) (dropped_fewer w few) ∙ ap (λ (l : List ℕ). l ++ (word ∷ [])) (dropped_listed w f)))

map_drop : (n : ℕ) (l : List Telegram) → map telegram_word (drop n l) ≡ drop n (map telegram_word l)
map_drop zero l = refl
map_drop (suc n) [] = refl
map_drop (suc n) (t ∷ l) = map_drop n l

map_append : (l m : List Telegram) → map telegram_word (l ++ m) ≡ map telegram_word l ++ map telegram_word m
map_append [] m = refl
map_append (t ∷ l) m = ap (λ (r : List ℕ). telegram_word t ∷ r) (map_append l m)

-- at the start none
pub waits_none : Waits nothing_waits []
unfolding nothing_waits
waits_none = record { fit = record { long = refl; few = lit≤ tt }; words = refl }

module _ {w : Waiting} {telegrams : List Telegram} (g : Waits w telegrams) where
  -- how many they are
  pub waits_count : w.count ≡ length telegrams
  waits_count = sym (listed_length w 0 g.fit) ∙ ap (λ (l : List ℕ). length l) g.words ∙ length-map telegrams telegram_word

  -- one of them
  pub waits_few : length telegrams ≤ 8
  waits_few = rw (← waits_count) g.fit.few

  -- one more, and beyond 8 the oldest falls away
  pub waits_joined : (word : ℕ) (t : Telegram) → word ≡ telegram_word t → Waits (joined_of w word) (newest (telegrams ++ (t ∷ [])))
  waits_joined word t e =
      record {
        fit = joined_fit w word g.fit;
        words =
            joined_listed w word g.fit
            ∙ rw (e, g.words, ← map_append telegrams (t ∷ []), length-map (telegrams ++ (t ∷ [])) telegram_word)
            (sym (map_drop (length (telegrams ++ (t ∷ [])) - 8) (telegrams ++ (t ∷ []))));
      }

  -- and without the k oldest
  pub waits_left : (k : ℕ) → Waits (left_of w k) (drop k telegrams)
  waits_left k =
      record {
        fit = left_fit w k g.fit;
        words = left_listed w k g.fit ∙ rw g.words (sym (map_drop k telegrams));
      }
