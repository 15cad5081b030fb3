-- The bits of the words of three planes of one parity, as bits 0, 2 and 4.
use Rattle.std.specs.Prelude.{ℕ, ◌+◌, ◌*◌, ◌/◌, ◌%◌, ◌^◌, Bool, List, map}
use Rattle.std.specs.List.{range_with_len}
use Rattle.planes.specs.PlaneBit.{word_bit}

-- so many positions after the start of the words
abbrev pub three_bits : Bool → ℕ → ℕ → ℕ → ℕ → ℕ
three_bits hires passed a b c = word_bit hires passed a + 4 * word_bit hires passed b + 16 * word_bit hires passed c

-- the bits so many places above the last
abbrev pub three_last : ℕ → ℕ → ℕ → ℕ → ℕ
three_last place a b c = a / 2 ^ place % 2 + 4 * (b / 2 ^ place % 2) + 16 * (c / 2 ^ place % 2)

-- all 32 positions that may show a bit of them
unfoldable pub spread_bits : Bool → ℕ → ℕ → ℕ → List ℕ
spread_bits hires a b c = map (λ passed. three_bits hires passed a b c) (range_with_len 0 32)

-- the last four bits of a word, the highest first, as the digits of 256
abbrev pub bits_spread : ℕ → ℕ
bits_spread n = n / 8 % 2 + 256 * (n / 4 % 2) + 65536 * (n / 2 % 2) + 16777216 * (n % 2)

-- the last four bits of a word, the highest first, as the digits of 256, each two times
abbrev pub bits_doubled : ℕ → ℕ
bits_doubled n = 0x101 * (n / 8 % 2) + 0x101_0000 * (n / 4 % 2) + 0x101_0000_0000 * (n / 2 % 2) + 0x101_0000_0000_0000 * (n % 2)
