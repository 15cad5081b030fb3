-- The register that a word names.
use Rattle.std.specs.Prelude.{◌≡◌, ℕ, ◌<◌, ◌%◌}
use Rattle.std.proofs.Common.{arith}
use Rattle.ocs_base.specs.Addr.{even_address}
use Rattle.ocs_base.specs.declared.reg.Reg.{Reg}

pub even_offset : (n : ℕ) → even_address 512 n % 2 ≡ 0
even_offset n = omega arith

pub offset_below : (n : ℕ) → even_address 512 n < 512
offset_below n = omega arith

-- by its bits 8 to 1
abbrev pub register_of : ℕ → Reg
register_of word = record { offset = even_address 512 word; even = even_offset word; below = offset_below word }
