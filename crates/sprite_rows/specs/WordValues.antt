-- The values of a sprite's two words.
use Rattle.std.specs.Prelude.{ℕ, ◌+◌, ◌-◌, ◌*◌, ◌/◌, ◌%◌, ◌^◌, List, map}
use Rattle.std.specs.List.{range_with_len}

-- the value of the bits so many places above the last
abbrev pub last_value : ℕ → ℕ → ℕ → ℕ
last_value place a b = a / 2 ^ place % 2 + 2 * (b / 2 ^ place % 2)

-- all sixteen, bit 15 first
unfoldable pub word_values : ℕ → ℕ → List ℕ
word_values a b = map (λ passed. last_value (15 - passed) a b) (range_with_len 0 16)
