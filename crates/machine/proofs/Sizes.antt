-- A size of chip memory is the one that its bytes name.
use Rattle.std.proofs.Common.{◌≡◌, true, refl}
use Rattle.ocs_base.specs.Sizes.{bytes_of, is_chip_size, size_of_bytes}
use Rattle.ocs_base.specs.declared.chip_size.ChipSize.{ChipSize}
use Rattle.ocs_base.specs.declared.chip_size.ChipSize.TheVariants.{Kib512, Mib1}

pub is_size : (size : ChipSize) → is_chip_size (bytes_of size) ≡ true
is_size Kib512 = refl
is_size Mib1 = refl

pub size_named : (size : ChipSize) → size_of_bytes (bytes_of size) ≡ size
size_named Kib512 = refl
size_named Mib1 = refl
