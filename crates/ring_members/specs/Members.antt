-- The members of a ring as a set of bits, and the ring that has them: each address whose bit is one is added. Assumes nothing.
use Rattle.std.specs.Prelude.{ℕ, zero, suc, ◌+◌, ◌-◌, ◌*◌, ◌/◌, ◌%◌, ◌^◌, Bool, cond, List, length, get_or, set, eqb, ltb}
use Rattle.codec_fields.specs.Fields.{bit_at, bit_number}
use Rattle.ring_links.specs.Links.{after, tab, link_of}
use Rattle.ring.specs.Ring.{Ring, add_of}

-- the byte at i, 0 where there is none
unfoldable pub byte_at : List ℕ → ℕ → ℕ
byte_at s i = cond (ltb i (length s)) (get_or s i 0) 0

-- whether an address is in the set that these bytes are: address 0 is the highest bit of the first byte
unfoldable pub in_set : List ℕ → ℕ → Bool
in_set s x = bit_at (byte_at s (x / 8)) (7 - x % 8)

-- an address added where a bit of a byte is one
unfoldable pub bit_added : Ring → ℕ → ℕ → ℕ → Ring
bit_added r byte at a = cond (bit_at byte at) (add_of r a) r

-- the first k bits of a byte, for the addresses from a on
unfoldable pub bits_added : Ring → ℕ → ℕ → ℕ → Ring
bits_added r byte a zero = r
bits_added r byte a (suc k) = bit_added (bits_added r byte a k) byte (7 - k) (a + k)

-- a byte's eight; a byte that is 0 has none
unfoldable pub byte_added : Ring → ℕ → ℕ → Ring
byte_added r byte a = cond (eqb byte 0) r (bits_added r byte a 8)

-- the first i bytes of a set
unfoldable pub set_added : Ring → List ℕ → ℕ → Ring
set_added r s zero = r
set_added r s (suc i) = byte_added (set_added r s i) (byte_at s i) (8 * i)

-- In one pass.

-- the highest member below n; 0 where there is none
unfoldable pub highest_below : (ℕ → Bool) → ℕ → ℕ
highest_below f zero = 0
highest_below f (suc n) = cond (f n) n (highest_below f n)

-- tables in the making, and the member that the next one comes behind
pub record Chain : Type 0 where
  pub links : List ℕ
  pub last : ℕ

abbrev pub chain_of : List ℕ → ℕ → Chain
chain_of l last = record { links = l; last = last }

-- an address linked behind the last where a bit of a byte is one
unfoldable pub bit_linked : Chain → ℕ → ℕ → ℕ → Chain
bit_linked c byte at a = cond (bit_at byte at) (chain_of (link_of c.links c.last a) a) c

-- the first k bits of a byte, for the addresses from a on
unfoldable pub bits_linked : Chain → ℕ → ℕ → ℕ → Chain
bits_linked c byte a zero = c
bits_linked c byte a (suc k) = bit_linked (bits_linked c byte a k) byte (7 - k) (a + k)

-- the same; a byte that is 0 has none
unfoldable pub byte_linked : Chain → ℕ → ℕ → ℕ → Chain
byte_linked c byte a k = cond (eqb byte 0) c (bits_linked c byte a k)

-- the first i bytes of a set
unfoldable pub bytes_linked : Chain → List ℕ → ℕ → Chain
bytes_linked c s zero = c
bytes_linked c s (suc i) = byte_linked (bytes_linked c s i) (byte_at s i) (8 * i) 8

-- all addresses of a set: 15 bytes, and six bits of the last
unfoldable pub set_linked : Chain → List ℕ → Chain
set_linked c s = byte_linked (bytes_linked c s 15) (byte_at s 15) 120 6

-- Written.

-- the weight of an address in its byte; 0 for what is none
unfoldable pub weight_of : ℕ → ℕ
weight_of a = cond (ltb a 126) (2 ^ (7 - a % 8)) 0

-- the weight of a member; 0 for all others
unfoldable pub weighed : List ℕ → ℕ → ℕ
weighed l a = cond (eqb (after l a) 127) 0 (weight_of a)

-- eight numbers from a on added
unfoldable pub eight_added : List ℕ → ℕ → ℕ
eight_added w a =
    get_or w a 0
    + get_or w (a + 1) 0
    + get_or w (a + 2) 0
    + get_or w (a + 3) 0
    + get_or w (a + 4) 0
    + get_or w (a + 5) 0
    + get_or w (a + 6) 0
    + get_or w (a + 7) 0

-- the number that the bits of k addresses from a on make, the first the highest
unfoldable pub bits_of : (ℕ → Bool) → ℕ → ℕ → ℕ
bits_of f a zero = 0
bits_of f a (suc k) = bits_of f a k * 2 + bit_number (f (a + k))

-- the first i bytes of a set written over others
unfoldable pub set_written : List ℕ → (ℕ → Bool) → ℕ → List ℕ
set_written out f zero = out
set_written out f (suc i) = set (set_written out f i) i (bits_of f (8 * i) 8)

-- all 16; as they are where there are fewer
unfoldable pub set_over : List ℕ → (ℕ → Bool) → List ℕ
set_over out f = cond (ltb (length out) 16) out (set_written out f 16)

-- the 16 bytes by themselves
abbrev pub set_bytes : (ℕ → Bool) → List ℕ
set_bytes f = tab (λ (i : ℕ). bits_of f (8 * i) 8) 16 0
