-- The opcodes 0000 to 0FFF.
use Rattle.std.proofs.Common.{◌≡◌, ℕ, true, ◌/◌, refl, arith}
use Rattle.m68k_opcodes.specs.Row.{joined}
use Rattle.m68k_opcodes.specs.Table.{groups}
use Rattle.m68k_opcodes.specs.code.Lines as L
use Rattle.m68k_opcodes.proofs.Table.{window, line_agrees, Whole, whole}

test_0 : line_agrees 0 L.immediates_and_bits (joined (window 0 2 groups)) ≡ true
test_0 = refl

pub at_0 : (n : ℕ) → n / 4096 ≡ 0 → Whole (L.immediates_and_bits n) n
at_0 n h = whole 0 L.immediates_and_bits 0 2 (omega arith) refl test_0 n h
