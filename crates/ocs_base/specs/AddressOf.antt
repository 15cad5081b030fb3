-- The address that a number names.
use Rattle.std.specs.Prelude.{◌≡◌, ℕ, ◌<◌, ◌%◌}
use Rattle.std.proofs.Common.{arith}
use Rattle.ocs_base.specs.Addr.{even_address}
use Rattle.ocs_base.specs.Sizes.{bytes_of}
use Rattle.ocs_base.specs.declared.addr.Addr.{Addr}
use Rattle.ocs_base.specs.declared.chip_size.ChipSize.{ChipSize}
use Rattle.ocs_base.specs.declared.chip_size.ChipSize.TheVariants.{Kib512, Mib1}

pub even_is : (size : ChipSize) (n : ℕ) → even_address (bytes_of size) n % 2 ≡ 0
even_is Kib512 n = omega arith
even_is Mib1 n = omega arith

pub below_span : (size : ChipSize) (n : ℕ) → even_address (bytes_of size) n < bytes_of size
below_span Kib512 n = omega arith
below_span Mib1 n = omega arith

-- in a memory of this size: by its bits 18 to 1, or 19 to 1
abbrev pub addr_at : ChipSize → ℕ → Addr
addr_at size n =
    record { value = even_address (bytes_of size) n; size = size; even = even_is size n; below = below_span size n }
