-- The images that chip memory can be made of.
use Rattle.std.specs.Prelude.{ℕ, ◌%◌, Bool, ◌&&◌, ◌==◌, nat_le, List, length}
use Rattle.ocs_base.specs.Sizes.{bytes_of}
use Rattle.ocs_base.specs.declared.chip_size.ChipSize.{ChipSize}
use Rattle.ocs_base.specs.declared.chip_size.ChipSize.TheVariants.{Mib1}

-- an even number of bytes, at least 8 and at most as many as the greater chip memory has
abbrev pub is_image : List ℕ → Bool
is_image image = (length image % 2 == 0) && nat_le 8 (length image) && nat_le (length image) (bytes_of Mib1)

-- it is not longer than a chip memory of this size
abbrev pub fits_chip : ChipSize → List ℕ → Bool
fits_chip size image = nat_le (length image) (bytes_of size)
