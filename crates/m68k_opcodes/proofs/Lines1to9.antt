-- The opcodes 1000 to 3FFF and 5000 to 9FFF.
use Rattle.std.proofs.Common.{◌≡◌, ℕ, true, ◌/◌, refl, arith}
use Rattle.m68k_opcodes.specs.declared.operand.Size.TheVariants as S
use Rattle.m68k_opcodes.specs.Row.{joined}
use Rattle.m68k_opcodes.specs.Table.{groups}
use Rattle.m68k_opcodes.specs.code.Lines as L
use Rattle.m68k_opcodes.proofs.Table.{window, line_agrees, Whole, whole}

test_1 : line_agrees 4096 (λ n. L.moves n S.Byte) (joined (window 1 1 groups)) ≡ true
test_1 = refl

pub at_1 : (n : ℕ) → n / 4096 ≡ 1 → Whole (L.moves n S.Byte) n
at_1 n h = whole 1 (λ n. L.moves n S.Byte) 1 1 (omega arith) refl test_1 n h

test_2 : line_agrees 8192 (λ n. L.moves n S.Long) (joined (window 1 1 groups)) ≡ true
test_2 = refl

pub at_2 : (n : ℕ) → n / 4096 ≡ 2 → Whole (L.moves n S.Long) n
at_2 n h = whole 2 (λ n. L.moves n S.Long) 1 1 (omega arith) refl test_2 n h

test_3 : line_agrees 12288 (λ n. L.moves n S.Word) (joined (window 1 1 groups)) ≡ true
test_3 = refl

pub at_3 : (n : ℕ) → n / 4096 ≡ 3 → Whole (L.moves n S.Word) n
at_3 n h = whole 3 (λ n. L.moves n S.Word) 1 1 (omega arith) refl test_3 n h

test_5 : line_agrees 20480 L.quick_and_conditions (joined (window 3 1 groups)) ≡ true
test_5 = refl

pub at_5 : (n : ℕ) → n / 4096 ≡ 5 → Whole (L.quick_and_conditions n) n
at_5 n h = whole 5 L.quick_and_conditions 3 1 (omega arith) refl test_5 n h

test_6 : line_agrees 24576 L.branch (joined (window 4 1 groups)) ≡ true
test_6 = refl

pub at_6 : (n : ℕ) → n / 4096 ≡ 6 → Whole (L.branch n) n
at_6 n h = whole 6 L.branch 4 1 (omega arith) refl test_6 n h

test_7 : line_agrees 28672 L.move_quick (joined (window 5 1 groups)) ≡ true
test_7 = refl

pub at_7 : (n : ℕ) → n / 4096 ≡ 7 → Whole (L.move_quick n) n
at_7 n h = whole 7 L.move_quick 5 1 (omega arith) refl test_7 n h

test_8 : line_agrees 32768 L.or_and_divide (joined (window 6 1 groups)) ≡ true
test_8 = refl

pub at_8 : (n : ℕ) → n / 4096 ≡ 8 → Whole (L.or_and_divide n) n
at_8 n h = whole 8 L.or_and_divide 6 1 (omega arith) refl test_8 n h

test_9 : line_agrees 36864 (λ n. L.sums n 0) (joined (window 7 1 groups)) ≡ true
test_9 = refl

pub at_9 : (n : ℕ) → n / 4096 ≡ 9 → Whole (L.sums n 0) n
at_9 n h = whole 9 (λ n. L.sums n 0) 7 1 (omega arith) refl test_9 n h
