-- The opcodes 4000 to 4FFF.
use Rattle.std.proofs.Common.{◌≡◌, ℕ, true, ◌/◌, refl, arith}
use Rattle.m68k_opcodes.specs.Row.{joined}
use Rattle.m68k_opcodes.specs.Table.{groups}
use Rattle.m68k_opcodes.specs.code.Lines as L
use Rattle.m68k_opcodes.proofs.Table.{window, line_agrees, Whole, whole}

test_4 : line_agrees 16384 L.miscellaneous (joined (window 2 1 groups)) ≡ true
test_4 = refl

pub at_4 : (n : ℕ) → n / 4096 ≡ 4 → Whole (L.miscellaneous n) n
at_4 n h = whole 4 L.miscellaneous 2 1 (omega arith) refl test_4 n h
