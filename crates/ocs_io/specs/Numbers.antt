-- Numbers as text.
use Rattle.std.specs.Prelude.{ℕ, zero, suc, ◌+◌, ◌/◌, ◌%◌, ◌^◌, Bool, true, false, ◌&&◌, ◌||◌, not, ◌==◌}
use Rattle.std.specs.Prelude.{nat_le, nat_lt, if◌then◌else◌, List, [], ◌∷◌, length, Option, Some, None}
use Rattle.std.specs.Str.Parse.{digits_value}

abbrev pub is_digit : ℕ → Bool
is_digit b = nat_le 48 b && nat_le b 57

abbrev pub is_lower_hex : ℕ → Bool
is_lower_hex b = is_digit b || (nat_le 97 b && nat_le b 102)

-- each of the bytes passes the test
abbrev pub all_bytes : (ℕ → Bool) → List ℕ → Bool
all_bytes test [] = true
all_bytes test (b ∷ bytes) = test b && all_bytes test bytes

-- a text of decimal digits that begins with 0 only where it is `0`
abbrev pub is_decimal : List ℕ → Bool
is_decimal [] = false
is_decimal (b ∷ bytes) = is_digit b && all_bytes is_digit bytes && (not (b == 48) || (length bytes == 0))

-- the number that a decimal text without sign and leading zero writes, where it is below 2 ^ 64
unfoldable pub dec_of : List ℕ → Option ℕ
dec_of bytes =
    if is_decimal bytes && nat_lt (digits_value 10 bytes) (2 ^ 64) then Some (digits_value 10 bytes) else None

-- the number that one to four lower-case hexadecimal digits write
unfoldable pub hex_of : List ℕ → Option ℕ
hex_of bytes =
    if all_bytes is_lower_hex bytes && nat_le 1 (length bytes) && nat_le (length bytes) 4 then Some (digits_value 16 bytes) else None

-- the lower-case character of a hexadecimal digit
abbrev pub hex_digit : ℕ → ℕ
hex_digit d = if nat_lt d 10 then 48 + d else 87 + d

-- so many lower-case hexadecimal digits of a number, high first: the digit at the place k, counted
-- from 0 at the right, is that of n / 16 ^ k % 16
unfoldable pub hex_text : ℕ → ℕ → List ℕ
hex_text zero n = []
hex_text (suc k) n = hex_digit (n / 16 ^ k % 16) ∷ hex_text k n
