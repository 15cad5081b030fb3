-- Parities of bits.
use Rattle.std.specs.Prelude.{ℕ, ◌+◌, ◌%◌, Bool, ◌==◌}
use Rattle.blit_words.specs.BlitWords.{word_with, ones_right_of}

-- a carry is an odd number of 1 bits
abbrev pub is_carry : ℕ → Bool
is_carry n = n % 2 == 1

-- for each bit of a word whether the number of 1 bits up to and with it is odd
unfoldable pub parities_in : ℕ → ℕ
parities_in word = word_with (λ i. ones_right_of (i + 1) word % 2)
