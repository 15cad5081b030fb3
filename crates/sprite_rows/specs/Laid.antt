-- Values laid over the bytes of a pair.
use Rattle.std.specs.Prelude.{ℕ, ◌+◌, ◌-◌, ◌*◌, ◌/◌, ◌%◌, ◌&&◌, Bool, nat_le, nat_lt, if◌then◌else◌, List, [], slice_index, slice_index_or}

-- the byte of a pair at a position
abbrev pub byte_of : List (List ℕ) → ℕ → ℕ → ℕ
byte_of pairs p x = slice_index (slice_index_or pairs p []) x

-- a byte with another value of its even or its odd sprite
abbrev pub with_even : ℕ → ℕ → ℕ
with_even byte value = byte / 4 * 4 + value

abbrev pub with_odd : ℕ → ℕ → ℕ
with_odd byte value = byte % 4 + 4 * value

abbrev pub with_value : Bool → ℕ → ℕ → ℕ
with_value is_even byte value = if is_even then with_even byte value else with_odd byte value

-- the first so many values laid over a row from a position on, by what each makes of a byte
abbrev pub laid_byte : (ℕ → ℕ → ℕ) → List ℕ → ℕ → List ℕ → ℕ → ℕ → ℕ
laid_byte put row x values count k =
    if nat_le x k && nat_lt k (x + count) then put (slice_index row k) (slice_index values (k - x)) else slice_index row k
