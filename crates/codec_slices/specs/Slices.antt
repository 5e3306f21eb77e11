-- A field of any width at any bit of bytes: the bytes are one number, and the field is some of its bits. Bit 0 is the highest of the
-- first byte. Assumes nothing.
use Rattle.std.specs.Prelude.{ℕ, ◌+◌, ◌-◌, ◌*◌, ◌/◌, ◌%◌, ◌^◌, ◌≤◌, List, [], ◌∷◌, Bool, cond, ◌&&◌, length, leb}
use Rattle.codec_fields.specs.Fields.{field_of, put_of, be, low_bytes}

-- how many bytes width bits from bit at on touch
abbrev pub touched : ℕ → ℕ → ℕ
touched at width = (at % 8 + width + 7) / 8

-- how many bits of these bytes stand behind them
abbrev pub behind : ℕ → ℕ → ℕ
behind at width = 8 * touched at width - (at % 8 + width)

-- whether a slice of this length has these bits, in at most 8 bytes
abbrev pub has_bits : ℕ → ℕ → ℕ → Bool
has_bits length at width = leb (touched at width) 8 && leb (at + width) (8 * length)

-- the width bits of s from bit at on; 0 where s ends before, and for a field that touches more than 8 bytes
unfoldable pub field_at : List ℕ → ℕ → ℕ → ℕ
field_at s at width = cond (has_bits (length s) at width) (field_of (be s) (8 * length s - (at + width)) width) 0

-- the same for a field of at most so many bits; 0 for a wider one, too
abbrev pub field_up_to : ℕ → List ℕ → ℕ → ℕ → ℕ
field_up_to most s at width = cond (leb width most) (field_at s at width) 0

-- the number n with the lowest width bits of value in the place of those above its lowest at
unfoldable pub over_field : ℕ → ℕ → ℕ → ℕ → ℕ
over_field n at width value = (n / 2 ^ (at + width) * 2 ^ width + value % 2 ^ width) * 2 ^ at + n % 2 ^ at

-- s with the lowest width bits of value in the place of its bits from bit at on, and every other bit as it is; as it is where s ends
-- before, and for a field that touches more than 8 bytes
unfoldable pub put_at : List ℕ → ℕ → ℕ → ℕ → List ℕ
put_at s at width value =
    cond (has_bits (length s) at width) (low_bytes (length s) (over_field (be s) (8 * length s - (at + width)) width value)) s

-- the same in one word: what stands above the field, the value, and what stands behind it, put below one another
unfoldable pub over_word : ℕ → ℕ → ℕ → ℕ → ℕ
over_word word after width value = put_of (put_of (field_of word (after + width) 64) width value) after word

-- fields of these widths written into s one after the other, from bit at on
abbrev pub put_from : ℕ → List ℕ → List ℕ → List ℕ → List ℕ
put_from at (w ∷ ws) (v ∷ vs) s = put_from (at + w) ws vs (put_at s at w v)
put_from at [] vs s = s
put_from at (w ∷ ws) [] s = s

-- fields of these widths read from s one after the other, from bit at on
abbrev pub fields_from : ℕ → List ℕ → List ℕ → List ℕ
fields_from at [] s = []
fields_from at (w ∷ ws) s = field_at s at w ∷ fields_from (at + w) ws s

-- widths of fields that lie in at most 8 bytes wherever they begin
abbrev pub Short : List ℕ → Type 0
Short [] = Unit {0}
Short (w ∷ ws) = (w ≤ 57) × Short ws
