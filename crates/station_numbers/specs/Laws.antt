-- A state comes back from its numbers, and its numbers from their two words. Assumes nothing.
use Rattle.std.specs.Prelude.{ℕ, ◌^◌, ◌<◌, ◌≡◌, refl, Bool, true, false, List, get_or, eqb, Option, Some, None}
use Rattle.std.proofs.Common.{ap, ◌∙◌, arith, ne_eqb, lit<, lit≤}
use Rattle.codec_fields.specs.Fields.{field_of, bit_number, unpack, Within}
use Rattle.codec_fields.proofs.Laws.{unpack_put, put_below, bit_below, bit_read}
use Rattle.station.specs.declared.state.PassTokenAttempt.{PassTokenAttempt}
use Rattle.station.specs.declared.state.PassTokenAttempt.TheVariants.{First, Second, Third}
use Rattle.station.specs.declared.state.UseTokenData.{UseTokenData}
use Rattle.station.specs.declared.state.State.{State}
use Rattle.station.specs.declared.state.State.TheVariants.{Offline, ListenToken, ActiveIdle, UseToken, ClaimToken, AwaitDataResponse, PassToken, CheckTokenPass, AwaitStatusResponse, PassiveIdle}
use Rattle.station_numbers.specs.declared.StateNumbers.{StateNumbers}
use Rattle.station_numbers.specs.Numbers.{number_or_none, none_or_number, attempt_number, attempt_of, plain_numbers, held_numbers, state_numbers, held_of, state_from, state_widths, state_values, state_word, numbers_in}

-- What fits.

-- no address or application, or one that is not the number of none
abbrev pub NumberFits : Option ℕ → Type 0
NumberFits None = Unit {0}
NumberFits (Some a) = a < 255

-- a state whose numbers fit their fields
abbrev pub StateFits : State → Type 0
StateFits Offline = Unit {0}
StateFits (ListenToken request collisions) = NumberFits request × (collisions < 2 ^ 8)
StateFits (ActiveIdle request newPreviousStation collisions) = NumberFits request × (NumberFits newPreviousStation × (collisions < 2 ^ 8))
StateFits (UseToken cycled held) = NumberFits held.first_app
StateFits (ClaimToken first) = Unit {0}
StateFits (AwaitDataResponse address held) = (address < 2 ^ 8) × NumberFits held.first_app
StateFits (PassToken gap attempt) = Unit {0}
StateFits (CheckTokenPass attempt) = Unit {0}
StateFits (AwaitStatusResponse address) = address < 2 ^ 8
StateFits (PassiveIdle request) = NumberFits request

-- A state from its numbers.

number_read : (q : Option ℕ) → NumberFits q → none_or_number (number_or_none q) ≡ q
unfolding none_or_number
number_read None f = refl
number_read (Some a) f = rw (ne_eqb a 255 (λ e. omega (arith, e, f)))

attempt_read : (a : PassTokenAttempt) → attempt_of (attempt_number a) ≡ a
unfolding attempt_of
attempt_read First = refl
attempt_read Second = refl
attempt_read Third = refl

-- a token, by its time and its first application
abbrev token : UseTokenData → Option ℕ → UseTokenData
token held first = record { token_time = held.token_time; first_app = first }

-- a state comes back from its numbers
pub state_read : (x : State) → StateFits x → state_from (state_numbers x) ≡ x
unfolding state_from state_numbers plain_numbers held_numbers held_of
state_read Offline f = refl
state_read (ListenToken q k) f = ap (λ (r : Option ℕ). ListenToken r k) (number_read q f.0)
state_read (ActiveIdle q m k) f =
    ap (λ (r : Option ℕ). ActiveIdle r (none_or_number (number_or_none m)) k) (number_read q f.0) ∙ ap (λ (r : Option ℕ). ActiveIdle q r k) (number_read m f.1.0)
state_read (UseToken i d) f = ap (λ (r : Option ℕ). UseToken i (token d r)) (number_read d.first_app f)
state_read (ClaimToken b) f = refl
state_read (AwaitDataResponse a d) f = ap (λ (r : Option ℕ). AwaitDataResponse a (token d r)) (number_read d.first_app f.1)
state_read (PassToken g a) f = ap (PassToken g) (attempt_read a)
state_read (CheckTokenPass a) f = ap CheckTokenPass (attempt_read a)
state_read (AwaitStatusResponse a) f = refl
state_read (PassiveIdle q) f = ap PassiveIdle (number_read q f)

-- The numbers from their words.

number_below : (q : Option ℕ) → NumberFits q → number_or_none q < 2 ^ 8
number_below None f = lit< tt
number_below (Some a) f = omega (arith, f)

attempt_below : (a : PassTokenAttempt) → attempt_number a < 2 ^ 8
attempt_below First = lit< tt
attempt_below Second = lit< tt
attempt_below Third = lit< tt

-- numbers within their fields
record NumbersFit (f : StateNumbers) : Type 0 where
  kind : f.kind < 2 ^ 7
  request : f.request < 2 ^ 8
  previous : f.previous < 2 ^ 8
  collisions : f.collisions < 2 ^ 8
  attempt : f.attempt < 2 ^ 8
  address : f.address < 2 ^ 8
  first_app : f.first_app < 2 ^ 8

plain_fit : (kind : ℕ) (flag : Bool) (request previous collisions attempt address : ℕ) → kind < 2 ^ 7 → request < 2 ^ 8 → previous < 2 ^ 8 → collisions < 2 ^ 8 → attempt < 2 ^ 8 → address < 2 ^ 8 → NumbersFit (plain_numbers kind flag request previous collisions attempt address)
unfolding plain_numbers
plain_fit kind flag request previous collisions attempt address a b c d e g =
    record { kind = a; request = b; previous = c; collisions = d; attempt = e; address = g; first_app = lit< tt }

held_fit : (kind : ℕ) (flag : Bool) (address : ℕ) (held : UseTokenData) → kind < 2 ^ 7 → address < 2 ^ 8 → NumberFits held.first_app → NumbersFit (held_numbers kind flag address held)
unfolding held_numbers
held_fit kind flag address held a b f =
    record { kind = a; request = lit< tt; previous = lit< tt; collisions = lit< tt; attempt = lit< tt; address = b; first_app = number_below held.first_app f }

numbers_fit : (x : State) → StateFits x → NumbersFit (state_numbers x)
unfolding state_numbers
numbers_fit Offline f = plain_fit 0 false 0 0 0 0 0 (lit< tt) (lit< tt) (lit< tt) (lit< tt) (lit< tt) (lit< tt)
numbers_fit (ListenToken q k) f = plain_fit 1 false _ 0 k 0 0 (lit< tt) (number_below q f.0) (lit< tt) f.1 (lit< tt) (lit< tt)
numbers_fit (ActiveIdle q m k) f = plain_fit 2 false _ _ k 0 0 (lit< tt) (number_below q f.0) (number_below m f.1.0) f.1.1 (lit< tt) (lit< tt)
numbers_fit (UseToken i d) f = held_fit 3 i 0 d (lit< tt) (lit< tt) f
numbers_fit (ClaimToken b) f = plain_fit 4 b 0 0 0 0 0 (lit< tt) (lit< tt) (lit< tt) (lit< tt) (lit< tt) (lit< tt)
numbers_fit (AwaitDataResponse a d) f = held_fit 5 false a d (lit< tt) f.0 f.1
numbers_fit (PassToken g a) f = plain_fit 6 g 0 0 0 _ 0 (lit< tt) (lit< tt) (lit< tt) (lit< tt) (attempt_below a) (lit< tt)
numbers_fit (CheckTokenPass a) f = plain_fit 7 false 0 0 0 _ 0 (lit< tt) (lit< tt) (lit< tt) (lit< tt) (attempt_below a) (lit< tt)
numbers_fit (AwaitStatusResponse a) f = plain_fit 8 false 0 0 0 0 a (lit< tt) (lit< tt) (lit< tt) (lit< tt) (lit< tt) f
numbers_fit (PassiveIdle q) f = plain_fit 9 false _ 0 0 0 0 (lit< tt) (number_below q f) (lit< tt) (lit< tt) (lit< tt) (lit< tt)

within : (f : StateNumbers) → NumbersFit f → Within state_widths (state_values f)
within f n = (n.kind, (bit_below f.flag, (n.request, (n.previous, (n.collisions, (n.attempt, (n.address, (n.first_app, (lit< tt, tt)))))))))

-- numbers from a list of values
abbrev made : ℕ → List ℕ → StateNumbers
made time l =
    record { token_time = time; kind = get_or l 0 0; flag = eqb (get_or l 1 0) 1; request = get_or l 2 0; previous = get_or l 3 0; collisions = get_or l 4 0; attempt = get_or l 5 0; address = get_or l 6 0; first_app = get_or l 7 0 }

-- numbers that fit come back from their words
word_read : (f : StateNumbers) → NumbersFit f → numbers_in (state_word f) f.token_time ≡ f
unfolding numbers_in state_word
word_read f n =
    ap (made f.token_time) (unpack_put state_widths (lit≤ tt) (state_values f) (within f n))
    ∙ ap (λ (b : Bool). record { token_time = f.token_time; kind = f.kind; flag = b; request = f.request; previous = f.previous; collisions = f.collisions; attempt = f.attempt; address = f.address; first_app = f.first_app }) (bit_read f.flag)

-- The theorem: a state that fits comes back from its two words.
pub state_back : (x : State) → StateFits x → state_from (numbers_in (state_word (state_numbers x)) (state_numbers x).token_time) ≡ x
state_back x f = ap state_from (word_read (state_numbers x) (numbers_fit x f)) ∙ state_read x f

-- and the first of them has 64 bits
pub state_word_below : (x : State) → StateFits x → state_word (state_numbers x) < 2 ^ 64
unfolding state_word
state_word_below x f = put_below state_widths (lit≤ tt) (state_values (state_numbers x)) (within (state_numbers x) (numbers_fit x f))
