-- Choices between words, bit by bit.
use Rattle.std.specs.Prelude.{◌≡◌, ℕ, ◌+◌, ◌==◌, if◌then◌else◌, bit_and, bit_xor}
use Rattle.std.specs.Int.{bit_at}
use Rattle.blit_words.specs.BlitWords.{word_with}

-- the bits of one word where a third has a 1, and of the other where it has a 0
unfoldable pub chosen : ℕ → ℕ → ℕ → ℕ
chosen by set clear = word_with (λ i. if bit_at by i == 1 then bit_at set i else bit_at clear i)

-- a bit of LF in all sixteen places
unfoldable pub everywhere_of : ℕ → ℕ → ℕ
everywhere_of lf place = if bit_at lf place == 1 then 0xffff else 0

-- the two bits of LF from a place on, as the first and what turns it into the second
pub record IsChoice (lf place clear turn : ℕ) : Type 0 where
  pub first_is : clear ≡ everywhere_of lf place
  pub turn_is : turn ≡ bit_xor (everywhere_of lf (place + 1)) (everywhere_of lf place)

abbrev pub chosen_by_c : ℕ → ℕ → ℕ → ℕ
chosen_by_c clear turn c = bit_xor clear (bit_and c turn)
