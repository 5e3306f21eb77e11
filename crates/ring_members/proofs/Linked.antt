-- The members of a set linked in rising order, the first behind the highest, are the tables of the set. Assumes nothing.
use Prim.Native.Nat.{ℕ, zero, suc, ◌+◌, ◌-◌, ◌*◌, ◌/◌, ◌%◌, ◌<◌, ◌≤◌}
use Rattle.std.specs.Prelude.{◌≡◌, refl, Bool, true, false, cond, List, length, replicate, eqb, ltb}
use Rattle.std.proofs.Common.{sym, ap, subst, ◌∙◌, arith, lt-ltb, le-ltb, eqb-true, ltb-true, ltb-false}
use Rattle.std.proofs.lemmas.Bool.{eqb-false}
use borrow.Table.Steps.{cases}
use Rattle.std.proofs.lemmas.List.{length-replicate, get_or-replicate}
use Rattle.codec_fields.specs.Fields.{bit_at}
use Rattle.ring_addresses.specs.Set.{place_of, nearest}
use Rattle.ring_addresses.specs.SetLaws.{true≢false}
use Rattle.ring_links.specs.Links.{after, before, after_of, before_of, links_of, link_of}
use Rattle.ring_links.specs.Tables.{length_put, after_put, before_put}
use Rattle.ring_links.specs.Sets.{links_is, nearest_low, nearest_in}
use Rattle.ring_links.specs.Near.{Near, SomeNear, near_is, near_some, near_member, there_and_back}
use Rattle.ring_members.specs.Members.{byte_at, in_set, highest_below, Chain, chain_of, bit_linked, bits_linked, byte_linked, bytes_linked, set_linked}
use Rattle.ring_members.proofs.Laws.{no_bit}

-- The addresses of a byte.

-- an address of a byte is in the set exactly if its bit is one
in_byte_lem : (s : List ℕ) (i k : ℕ) → k < 8 → in_set s (8 * i + k) ≡ bit_at (byte_at s i) (7 - k)
unfolding in_set
in_byte_lem s i k l =
    let place : (8 * i + k) / 8 ≡ i = omega (arith, l) in
    let bit_place : (8 * i + k) % 8 ≡ k = omega (arith, l) in
    ap (λ (n : ℕ). bit_at (byte_at s n) (7 - (8 * i + k) % 8)) place ∙ ap (λ (n : ℕ). bit_at (byte_at s i) (7 - n)) bit_place

-- a byte that is 0 has none
not_there : (s : List ℕ) (i x : ℕ) → byte_at s i ≡ 0 → 8 * i ≤ x → x < 8 * i + 8 → in_set s x ≡ false
not_there s i x e far low =
    let is : 8 * i + (x - 8 * i) ≡ x = omega (arith, far) in
    ap (in_set s) (sym is) ∙ in_byte_lem s i (x - 8 * i) (omega (arith, far, low)) ∙ ap (λ (b : ℕ). bit_at b (7 - (x - 8 * i))) e ∙ no_bit (7 - (x - 8 * i))

-- nobody from byte i on, where nobody is from the next one on and the byte is 0
pub nobody_from :
    (s : List ℕ) (i : ℕ)
    → 1 ≤ i
    → byte_at s i ≡ 0
    → ((x : ℕ) → 8 * i + 8 ≤ x → x < 128 → in_set s x ≡ false)
    → (x : ℕ)
    → 8 * (i - 1) + 8 ≤ x
    → x < 128
    → in_set s x ≡ false
nobody_from s i some e none x far low =
    cases (ltb x (8 * i + 8)) (λ t. not_there s i x e (omega (arith, some, far)) (ltb-true x (8 * i + 8) t)) (λ f. none x (ltb-false x (8 * i + 8) f) low)

-- The highest member.

-- nobody from n on
pub highest_down : (f : ℕ → Bool) (n m : ℕ) → n ≤ m → ((x : ℕ) → n ≤ x → x < m → f x ≡ false) → highest_below f m ≡ highest_below f n
unfolding highest_below
highest_down f n zero l none = let e : 0 ≡ n = omega (arith, l) in ap (highest_below f) e
highest_down f n (suc m) l none =
    cases (eqb n (suc m)) (λ t. ap (highest_below f) (sym (eqb-true n (suc m) t)))
    (λ u.
    let less : n ≤ m = omega (arith, l, eqb-false n (suc m) u) in
    rw (none m less (omega arith)) (highest_down f n m less (λ x a b. none x a (omega (arith, b)))))

-- the one below n is a member
pub highest_at : (f : ℕ → Bool) (n : ℕ) → 1 ≤ n → f (n - 1) ≡ true → highest_below f n ≡ n - 1
unfolding highest_below
highest_at f zero l h = absurd (omega (arith, l))
highest_at f (suc n) l h =
    let e : suc n - 1 ≡ n = omega arith in
    let here : f n ≡ true = ap f (sym e) ∙ h in
    rw here (sym e)

-- the one below n is none
pub highest_less : (f : ℕ → Bool) (n : ℕ) → 1 ≤ n → f (n - 1) ≡ false → highest_below f n ≡ highest_below f (n - 1)
unfolding highest_below
highest_less f zero l h = absurd (omega (arith, l))
highest_less f (suc n) l h =
    let e : suc n - 1 ≡ n = omega arith in
    let here : f n ≡ false = ap f (sym e) ∙ h in
    rw here (ap (highest_below f) (sym e))

-- a search for the highest begins where nobody is from there on
pub highest_from : (f : ℕ → Bool) (n : ℕ) → n ≤ 126 → ((x : ℕ) → n ≤ x → x < 126 → f x ≡ false) → highest_below f n ≡ highest_below f 126
highest_from f n low none = sym (highest_down f n 126 low none)

-- one that went on down to 0 met nobody
pub highest_none : (f : ℕ → Bool) (n m : ℕ) → n ≤ 0 → highest_below f n ≡ highest_below f m → 0 ≡ highest_below f m
unfolding highest_below
highest_none f zero m l e = e
highest_none f (suc n) m l e = absurd (omega (arith, l))

-- what the highest of some is
record Highest (f : ℕ → Bool) (n h : ℕ) : Type 0 where
  pub low : h < n
  pub in_set_lem : f h ≡ true
  pub none : (x : ℕ) → h < x → x < n → f x ≡ false

highest_is : (f : ℕ → Bool) (n z : ℕ) → z < n → f z ≡ true → Highest f n (highest_below f n)
unfolding highest_below
highest_is f zero z l h = absurd (omega (arith, l))
highest_is f (suc n) z l h = go (λ less. highest_is f n z less h) (f n) refl
  where
    go : (z < n → Highest f n (highest_below f n)) → (b : Bool) → f n ≡ b → Highest f (suc n) (cond (f n) n (highest_below f n))
    go below true q = rw q (record { low = omega arith; in_set_lem = q; none = λ x a u. absurd (omega (arith, a, u)) })
    go below false q =
        let before = below (less (eqb z n) refl) in
        rw q
        (record {
          low = omega (arith, before.low);
          in_set_lem = before.in_set_lem;
          none = λ x a u. cases (eqb x n) (λ t. ap f (eqb-true x n t) ∙ q) (λ e. before.none x a (omega (arith, u, eqb-false x n e)));
        })
      where
        less : (b : Bool) → eqb z n ≡ b → z < n
        less true e = absurd (true≢false (sym h ∙ ap f (eqb-true z n e) ∙ q))
        less false e = omega (arith, l, eqb-false z n e)

-- it comes before address 0
highest_before : (f : ℕ → Bool) (z : ℕ) → z < 126 → f z ≡ true → highest_below f 126 ≡ nearest false f 0
highest_before f z l h =
    let k = highest_is f 126 z l h in
    let low = k.low in
    let there : place_of false 0 (126 - highest_below f 126) ≡ highest_below f 126 = omega (arith, low) in
    sym
    (near_is false f 0 (126 - highest_below f 126) (omega arith)
    (record {
      low = omega (arith, low);
      high = omega arith;
      in_set_lem = ap f there ∙ k.in_set_lem;
      none = λ i a u.
          let is : place_of false 0 i ≡ 126 - i = omega (arith, a, u) in
          ap f is ∙ k.none (126 - i) (omega (arith, u)) (omega (arith, a, u));
    })
    ∙ there)

-- One address after the other.

-- tables in which the members of f below n are linked to who comes before them, and who comes before n
record Linked (f : ℕ → Bool) (n : ℕ) (c : Chain) : Type 0 where
  pub long : length c.links ≡ 252
  pub after_is : (k : ℕ) → k < 126 → after c.links k ≡ cond (f k) (cond (ltb (nearest true f k) n) (nearest true f k) 127) 127
  pub before_is : (k : ℕ) → k < 126 → before c.links k ≡ cond (f k) (cond (ltb k n) (nearest false f k) 127) 127
  pub last_is : n < 126 → (z : ℕ) → z < 126 → f z ≡ true → c.last ≡ nearest false f n

-- a test against n and against the next is the same but for n itself
ltb_on : (x n : ℕ) → (x ≡ n → ⊥) → ltb x n ≡ ltb x (suc n)
ltb_on x n far =
    cases (ltb x n) (λ t. t ∙ sym (lt-ltb x (suc n) (omega (arith, ltb-true x n t)))) (λ u. u ∙ sym (le-ltb x (suc n) (omega (arith, far, ltb-false x n u))))

module _ (f : ℕ → Bool) (n : ℕ) (low : n < 126) (c : Chain) (w : Linked f n c) where
  -- who is linked to another than n stays so
  stays : (g : ℕ → ℕ) (way : Bool) (k : ℕ) → (f k ≡ true → g k ≡ n → ⊥) → cond (f k) (cond (ltb (g k) n) (nearest way f k) 127) 127 ≡ cond (f k) (cond (ltb (g k) (suc n)) (nearest way f k) 127) 127
  stays g way k far = go (f k) refl
    where
      go : (b : Bool) → f k ≡ b → cond b (cond (ltb (g k) n) (nearest way f k) 127) 127 ≡ cond b (cond (ltb (g k) (suc n)) (nearest way f k) 127) 127
      go true q = ap (λ (t : Bool). cond t (nearest way f k) 127) (ltb_on (g k) n (far q))
      go false q = refl

  -- n is no member
  passed : f n ≡ false → Linked f (suc n) c
  passed q =
      record {
        long = w.long;
        after_is = λ k l. w.after_is k l ∙ stays (nearest true f) true k (λ h e. true≢false (sym (nearest_in true f k h) ∙ ap f e ∙ q));
        before_is = λ k l. w.before_is k l ∙ stays (λ x. x) false k (λ h e. true≢false (sym h ∙ ap f e ∙ q));
        last_is = λ l z m h. w.last_is low z m h ∙ on l z m h;
      }
    where
      on : suc n < 126 → (z : ℕ) → z < 126 → f z ≡ true → nearest false f n ≡ nearest false f (suc n)
      on l z m h = go (ltb e 126) refl
        where
          some : SomeNear false f n
          some = near_some false f n z low m h

          e : ℕ
          e = some.dist

          near : Near false f n e
          near = some.near

          there : (i : ℕ) → i < 126 → place_of false (suc n) (suc i) ≡ place_of false n i
          there i u = omega (arith, l, u)

          go : (b : Bool) → ltb e 126 ≡ b → nearest false f n ≡ nearest false f (suc n)
          go true t =
              let short = ltb-true e 126 t in
              near_is false f n e low near
              ∙ sym (there e short)
              ∙ sym
              (near_is false f (suc n) (suc e) l
              (record {
                low = omega arith;
                high = omega (arith, short);
                in_set_lem = ap f (there e short) ∙ near.in_set_lem;
                none = λ i a u. by i a u;
              }))
            where
              by : (i : ℕ) → 1 ≤ i → i < suc e → f (place_of false (suc n) i) ≡ false
              by zero a u = absurd (omega (arith, a))
              by (suc zero) a u = let here : place_of false (suc n) 1 ≡ n = omega (arith, l) in ap f here ∙ q
              by (suc (suc i)) a u =
                  let short = ltb-true e 126 t in
                  ap f (there (suc i) (omega (arith, u, short))) ∙ near.none (suc i) (omega arith) (omega (arith, u))
          go false t =
              let all : e ≡ 126 = omega (arith, near.high, ltb-false e 126 t) in
              let here : place_of false n e ≡ n = omega (arith, all, low) in
              absurd (true≢false (sym near.in_set_lem ∙ ap f here ∙ q))

  -- n is a member
  joined : f n ≡ true → Linked f (suc n) (chain_of (link_of c.links c.last n) n)
  unfolding link_of
  joined q =
      record {
        long = length_put c.links p n n p ∙ w.long;
        after_is = λ k l. after_put c.links p n n p k w.long p_low l ∙ after_n k l (eqb k p) refl;
        before_is = λ k l. before_put c.links p n n p k w.long p_low low l ∙ before_n k l (eqb k n) refl;
        last_is = λ l z m h. behind l;
      }
    where
      p : ℕ
      p = c.last

      p_is : p ≡ nearest false f n
      p_is = w.last_is low n low q

      p_low : p < 126
      p_low = subst (λ (x : ℕ). x < 126) (sym p_is) (nearest_low false f n low)

      p_in : f p ≡ true
      p_in = ap f p_is ∙ near_member false f n n low low q

      -- after p comes n
      p_next : nearest true f p ≡ n
      p_next = ap (nearest true f) p_is ∙ there_and_back false f n low q

      after_n : (k : ℕ) → k < 126 → (b : Bool) → eqb k p ≡ b → cond b n (after c.links k) ≡ cond (f k) (cond (ltb (nearest true f k) (suc n)) (nearest true f k) 127) 127
      after_n k l true e =
          let is = eqb-true k p e in
          let next : nearest true f k ≡ n = ap (nearest true f) is ∙ p_next in
          rw (ap f is ∙ p_in, next, lt-ltb n (suc n) (omega arith)) refl
      after_n k l false e =
          w.after_is k l
          ∙ stays (nearest true f) true k (λ h z. eqb-false k p e (sym (there_and_back true f k l h) ∙ ap (nearest false f) z ∙ sym p_is))

      before_n : (k : ℕ) → k < 126 → (b : Bool) → eqb k n ≡ b → cond b p (before c.links k) ≡ cond (f k) (cond (ltb k (suc n)) (nearest false f k) 127) 127
      before_n k l true e =
          let is = eqb-true k n e in
          rw (is, q, lt-ltb n (suc n) (omega arith)) p_is
      before_n k l false e = w.before_is k l ∙ stays (λ x. x) false k (λ h z. eqb-false k n e z)

      -- before the next comes n
      behind : suc n < 126 → n ≡ nearest false f (suc n)
      behind l =
          let here : place_of false (suc n) 1 ≡ n = omega (arith, l) in
          sym
          (near_is false f (suc n) 1 l (record { low = omega arith; high = omega arith; in_set_lem = ap f here ∙ q; none = λ i a u. absurd (omega (arith, a, u)) })
          ∙ here)

-- one bit
bit_linked_lem : (f : ℕ → Bool) (byte at n : ℕ) (c : Chain) → n < 126 → f n ≡ bit_at byte at → Linked f n c → Linked f (suc n) (bit_linked c byte at n)
unfolding bit_linked
bit_linked_lem f byte at n c low is w =
    cases (bit_at byte at) (λ t. rw t (joined f n low c w (is ∙ t))) (λ u. rw u (passed f n low c w (is ∙ u)))

-- the first k bits of a byte
bits_linked_lem : (f : ℕ → Bool) (byte a k : ℕ) (c : Chain) → a + k ≤ 126 → ((i : ℕ) → i < k → f (a + i) ≡ bit_at byte (7 - i)) → Linked f a c → Linked f (a + k) (bits_linked c byte a k)
unfolding bits_linked
bits_linked_lem f byte a zero c room is w = let e : a ≡ a + 0 = omega arith in subst (λ (n : ℕ). Linked f n c) e w
bits_linked_lem f byte a (suc k) c room is w =
    let e : suc (a + k) ≡ a + suc k = omega arith in
    subst (λ (n : ℕ). Linked f n (bit_linked (bits_linked c byte a k) byte (7 - k) (a + k))) e
    (bit_linked_lem f byte (7 - k) (a + k) (bits_linked c byte a k) (omega (arith, room)) (is k (omega arith))
    (bits_linked_lem f byte a k c (omega (arith, room)) (λ i l. is i (omega (arith, l))) w))

-- a byte that is 0 links nobody
bits_none : (c : Chain) (a k : ℕ) → bits_linked c 0 a k ≡ c
unfolding bits_linked bit_linked
bits_none c a zero = refl
bits_none c a (suc k) = rw (no_bit (7 - k)) (bits_none c a k)

byte_linked_lem : (f : ℕ → Bool) (byte a k : ℕ) (c : Chain) → a + k ≤ 126 → ((i : ℕ) → i < k → f (a + i) ≡ bit_at byte (7 - i)) → Linked f a c → Linked f (a + k) (byte_linked c byte a k)
unfolding byte_linked
byte_linked_lem f byte a k c room is w =
    let all = bits_linked_lem f byte a k c room is w in
    cases (eqb byte 0) (λ t. rw t (subst (Linked f (a + k)) (ap (λ (b : ℕ). bits_linked c b a k) (eqb-true byte 0 t) ∙ bits_none c a k) all)) (λ u. rw u all)

-- the first i bytes of a set
bytes_linked_lem : (s : List ℕ) (i : ℕ) (c : Chain) → i ≤ 15 → Linked (in_set s) 0 c → Linked (in_set s) (8 * i) (bytes_linked c s i)
unfolding bytes_linked
bytes_linked_lem s zero c l w = w
bytes_linked_lem s (suc i) c l w =
    let e : 8 * i + 8 ≡ 8 * suc i = omega arith in
    subst (λ (n : ℕ). Linked (in_set s) n (byte_linked (bytes_linked c s i) (byte_at s i) (8 * i) 8)) e
    (byte_linked_lem (in_set s) (byte_at s i) (8 * i) 8 (bytes_linked c s i) (omega (arith, l)) (in_byte_lem s i) (bytes_linked_lem s i c (omega (arith, l)) w))

-- Begun with tables that hold 127 everywhere and the highest member.
begun : (f : ℕ → Bool) → Linked f 0 (chain_of (replicate 252 127) (highest_below f 126))
begun f =
    record {
      long = length-replicate {A = ℕ} 252 127;
      after_is = λ k l. get_or-replicate {A = ℕ} 252 k 127 0 (omega (arith, l)) ∙ sym (nothing (nearest true f k) (f k) (nearest true f k));
      before_is = λ k l. get_or-replicate {A = ℕ} 252 (126 + k) 127 0 (omega (arith, l)) ∙ sym (nothing k (f k) (nearest false f k));
      last_is = λ l z m h. highest_before f z m h;
    }
  where
    nothing : (x : ℕ) (b : Bool) (v : ℕ) → cond b (cond (ltb x 0) v 127) 127 ≡ 127
    nothing x true v = rw (le-ltb x 0 (omega arith)) refl
    nothing x false v = refl

-- all members linked
ended : (f : ℕ → Bool) (c : Chain) → Linked f 126 c → c.links ≡ links_of f
unfolding after_of before_of
ended f c w =
    links_is f c.links w.long
    (λ k l. w.after_is k l ∙ rw (lt-ltb (nearest true f k) 126 (nearest_low true f k l)) refl)
    (λ k l. w.before_is k l ∙ rw (lt-ltb k 126 l) refl)

-- The theorem: the members of any set, linked so, are its tables.
pub linked_tables : (s : List ℕ) → (set_linked (chain_of (replicate 252 127) (highest_below (in_set s) 126)) s).links ≡ links_of (in_set s)
unfolding set_linked
linked_tables s =
    let c = chain_of (replicate 252 127) (highest_below (in_set s) 126) in
    ended (in_set s) (byte_linked (bytes_linked c s 15) (byte_at s 15) 120 6)
    (byte_linked_lem (in_set s) (byte_at s 15) 120 6 (bytes_linked c s 15) (omega arith) (λ i l. in_byte_lem s 15 i (omega (arith, l)))
    (bytes_linked_lem s 15 c (omega arith) (begun (in_set s))))

-- so are those that the calls leave, one after the other
pub tables_stand :
    (s l m l' : List ℕ) (h last end byte : ℕ)
    → l ≡ replicate 252 127
    → h ≡ highest_below (in_set s) 126
    → chain_of m last ≡ bytes_linked (chain_of l h) s 15
    → byte ≡ byte_at s 15
    → chain_of l' end ≡ byte_linked (chain_of m last) byte 120 6
    → l' ≡ links_of (in_set s)
unfolding set_linked
tables_stand s l m l' h last end byte el eh em eb e =
    ap (λ (c : Chain). c.links)
    (e
    ∙ ap (λ (b : ℕ). byte_linked (chain_of m last) b 120 6) eb
    ∙ ap (λ (c : Chain). byte_linked c (byte_at s 15) 120 6)
    (em ∙ ap (λ (t : List ℕ). bytes_linked (chain_of t h) s 15) el ∙ ap (λ (n : ℕ). bytes_linked (chain_of (replicate 252 127) n) s 15) eh))
    ∙ linked_tables s
