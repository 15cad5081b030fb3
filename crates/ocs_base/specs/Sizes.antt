-- The sizes of chip memory.
use Rattle.std.specs.Prelude.{ℕ, Bool, ◌||◌, ◌==◌, if◌then◌else◌}
use Rattle.ocs_base.specs.declared.chip_size.ChipSize.{ChipSize}
use Rattle.ocs_base.specs.declared.chip_size.ChipSize.TheVariants.{Kib512, Mib1}

-- how many bytes a size is
abbrev pub bytes_of : ChipSize → ℕ
bytes_of Kib512 = 524288
bytes_of Mib1 = 1048576

-- a number of bytes that is one of the two sizes
abbrev pub is_chip_size : ℕ → Bool
is_chip_size bytes = (bytes == 524288) || (bytes == 1048576)

abbrev pub size_of_bytes : ℕ → ChipSize
size_of_bytes bytes = if bytes == 1048576 then Mib1 else Kib512
