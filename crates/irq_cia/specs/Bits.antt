-- Words of which each bit stands for itself.
use Rattle.std.specs.Prelude.{ℕ, ◌-◌, Bool, ◌==◌, nat_le, if◌then◌else◌, bit_and, bit_or}

-- all bits of the mask are set in the word
abbrev pub has_bits : ℕ → ℕ → Bool
has_bits word mask = bit_and word mask == mask

-- a word whose bit 15 says whether its other 1 bits are set or cleared in the kept word, of the bits in the mask
abbrev pub set_or_clear : ℕ → ℕ → ℕ → ℕ
set_or_clear mask old word = if nat_le 32768 word then bit_or old (bit_and word mask) else bit_and old (65535 - word)
