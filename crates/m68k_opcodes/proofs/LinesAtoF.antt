-- The opcodes A000 to FFFF.
use Rattle.std.proofs.Common.{◌≡◌, ℕ, true, ◌/◌, refl, arith}
use Rattle.m68k_opcodes.specs.declared.instr.Instr.TheVariants as I
use Rattle.m68k_opcodes.specs.Row.{joined}
use Rattle.m68k_opcodes.specs.Table.{groups}
use Rattle.m68k_opcodes.specs.code.Lines as L
use Rattle.m68k_opcodes.proofs.Table.{window, line_agrees, Whole, whole}

test_A : line_agrees 40960 (λ n. I.LineA) (joined (window 8 1 groups)) ≡ true
test_A = refl

pub at_A : (n : ℕ) → n / 4096 ≡ 10 → Whole I.LineA n
at_A n h = whole 10 (λ n. I.LineA) 8 1 (omega arith) refl test_A n h

test_B : line_agrees 45056 L.compare (joined (window 9 1 groups)) ≡ true
test_B = refl

pub at_B : (n : ℕ) → n / 4096 ≡ 11 → Whole (L.compare n) n
at_B n h = whole 11 L.compare 9 1 (omega arith) refl test_B n h

test_C : line_agrees 49152 L.and_and_multiply (joined (window 10 1 groups)) ≡ true
test_C = refl

pub at_C : (n : ℕ) → n / 4096 ≡ 12 → Whole (L.and_and_multiply n) n
at_C n h = whole 12 L.and_and_multiply 10 1 (omega arith) refl test_C n h

test_D : line_agrees 53248 (λ n. L.sums n 1) (joined (window 11 1 groups)) ≡ true
test_D = refl

pub at_D : (n : ℕ) → n / 4096 ≡ 13 → Whole (L.sums n 1) n
at_D n h = whole 13 (λ n. L.sums n 1) 11 1 (omega arith) refl test_D n h

test_E : line_agrees 57344 L.shifts (joined (window 12 1 groups)) ≡ true
test_E = refl

pub at_E : (n : ℕ) → n / 4096 ≡ 14 → Whole (L.shifts n) n
at_E n h = whole 14 L.shifts 12 1 (omega arith) refl test_E n h

test_F : line_agrees 61440 (λ n. I.LineF) (joined (window 13 1 groups)) ≡ true
test_F = refl

pub at_F : (n : ℕ) → n / 4096 ≡ 15 → Whole I.LineF n
at_F n h = whole 15 (λ n. I.LineF) 13 1 (omega arith) refl test_F n h
