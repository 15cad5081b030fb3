-- The chip memory that an image makes.
use Rattle.std.specs.Prelude.{ℕ, ◌+◌, ◌*◌, ◌-◌, ◌/◌, List, [], ◌∷◌, ◌++◌, length, replicate}
use Rattle.ocs_base.specs.Sizes.{bytes_of}
use Rattle.ocs_base.specs.declared.chip_size.ChipSize.{ChipSize}

-- the words that bytes make, the high byte of each first; a last single byte makes none
unfoldable pub words : List ℕ → List ℕ
words (high ∷ low ∷ bytes) = (256 * high + low) ∷ words bytes
words bytes = []

-- the words of chip memory, half as many as it has bytes: those of the image from address 0 on, the rest zero
unfoldable pub memory_of : ChipSize → List ℕ → List ℕ
memory_of size image = words image ++ replicate (bytes_of size / 2 - length image / 2) 0
