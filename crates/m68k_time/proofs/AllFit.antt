-- Every instruction that an opcode decodes to has clocks that serve its accesses.
use Rattle.std.proofs.Common.{◌≡◌, ℕ, ◌+◌, ◌/◌, ◌<◌, ◌≤◌, ◌-◌, ◌*◌, true, refl, arith, subst, inl, inr}
use Rattle.std.proofs.lemmas.Bool.{cases_eq}
use Rattle.m68k_opcodes.specs.declared.operand.Size.TheVariants as S
use Rattle.m68k_opcodes.specs.declared.instr.Instr.{Instr}
use Rattle.m68k_opcodes.specs.declared.instr.Instr.TheVariants as I
use Rattle.m68k_opcodes.specs.Table.{decode_of}
use Rattle.m68k_opcodes.specs.code.Lines as L
use Rattle.m68k_opcodes.proofs.Table.{all_below, from_all, Whole}
use Rattle.m68k_opcodes.proofs.Line0.{at_0}
use Rattle.m68k_opcodes.proofs.Line4.{at_4}
use Rattle.m68k_opcodes.proofs.Lines1to9.{at_1, at_2, at_3, at_5, at_6, at_7, at_8, at_9}
use Rattle.m68k_opcodes.proofs.LinesAtoF.{at_A, at_B, at_C, at_D, at_E, at_F}
use Rattle.m68k_time.proofs.Fits.{fits}

-- the opcodes of a line, as the code takes them apart
abbrev line_fits : ℕ → (ℕ → Instr) → Type 0
line_fits base f = all_below 4096 (λ k. fits (f (base + k))) ≡ true

test_0 : line_fits 0 L.immediates_and_bits
unfolding fits
test_0 = refl

test_1 : line_fits 4096 (λ n. L.moves n S.Byte)
unfolding fits
test_1 = refl

test_2 : line_fits 8192 (λ n. L.moves n S.Long)
unfolding fits
test_2 = refl

test_3 : line_fits 12288 (λ n. L.moves n S.Word)
unfolding fits
test_3 = refl

test_4 : line_fits 16384 L.miscellaneous
unfolding fits
test_4 = refl

test_5 : line_fits 20480 L.quick_and_conditions
unfolding fits
test_5 = refl

test_6 : line_fits 24576 L.branch
unfolding fits
test_6 = refl

test_7 : line_fits 28672 L.move_quick
unfolding fits
test_7 = refl

test_8 : line_fits 32768 L.or_and_divide
unfolding fits
test_8 = refl

test_9 : line_fits 36864 (λ n. L.sums n 0)
unfolding fits
test_9 = refl

test_A : line_fits 40960 (λ n. I.LineA)
unfolding fits
test_A = refl

test_B : line_fits 45056 L.compare
unfolding fits
test_B = refl

test_C : line_fits 49152 L.and_and_multiply
unfolding fits
test_C = refl

test_D : line_fits 53248 (λ n. L.sums n 1)
unfolding fits
test_D = refl

test_E : line_fits 57344 L.shifts
unfolding fits
test_E = refl

test_F : line_fits 61440 (λ n. I.LineF)
unfolding fits
test_F = refl

in_line : (line : ℕ) (f : ℕ → Instr) → line_fits (4096 * line) f → (n : ℕ) → n / 4096 ≡ line → Whole (f n) n → fits (decode_of n) ≡ true
in_line line f test n h whole =
    let k : ℕ = n - 4096 * line in
    let e : 4096 * line + k ≡ n = omega arith in
    let below : k < 4096 = omega arith in
    let here : fits (f (4096 * line + k)) ≡ true = from_all 4096 (λ j. fits (f (4096 * line + j))) test k below in
    subst (λ i. fits i ≡ true) whole.instr (subst (λ m. fits (f m) ≡ true) e here)

abbrev Fit : ℕ → Type 0
Fit n = fits (decode_of n) ≡ true

-- what holds at a line and at all lines behind it holds from that line on
from_line : (n line : ℕ) → (n / 4096 ≡ line → Fit n) → (line < n / 4096 → Fit n) → line ≤ n / 4096 → Fit n
from_line n line here behind h =
    elim (cases_eq (n / 4096) line) [
      | inl e ↦ here e
      | inr other ↦ (let o : n / 4096 ≡ line → ⊥ = other in
          behind (omega arith))
    ]

pub fits_at : (n : ℕ) → n < 65536 → fits (decode_of n) ≡ true
fits_at n below =
    from_line n 0 (λ h. in_line 0 L.immediates_and_bits test_0 n h (at_0 n h))
    (from_line n 1 (λ h. in_line 1 (λ n. L.moves n S.Byte) test_1 n h (at_1 n h))
    (from_line n 2 (λ h. in_line 2 (λ n. L.moves n S.Long) test_2 n h (at_2 n h))
    (from_line n 3 (λ h. in_line 3 (λ n. L.moves n S.Word) test_3 n h (at_3 n h))
    (from_line n 4 (λ h. in_line 4 L.miscellaneous test_4 n h (at_4 n h))
    (from_line n 5 (λ h. in_line 5 L.quick_and_conditions test_5 n h (at_5 n h))
    (from_line n 6 (λ h. in_line 6 L.branch test_6 n h (at_6 n h))
    (from_line n 7 (λ h. in_line 7 L.move_quick test_7 n h (at_7 n h))
    (from_line n 8 (λ h. in_line 8 L.or_and_divide test_8 n h (at_8 n h))
    (from_line n 9 (λ h. in_line 9 (λ n. L.sums n 0) test_9 n h (at_9 n h))
    (from_line n 10 (λ h. in_line 10 (λ n. I.LineA) test_A n h (at_A n h))
    (from_line n 11 (λ h. in_line 11 L.compare test_B n h (at_B n h))
    (from_line n 12 (λ h. in_line 12 L.and_and_multiply test_C n h (at_C n h))
    (from_line n 13 (λ h. in_line 13 (λ n. L.sums n 1) test_D n h (at_D n h))
    (from_line n 14 (λ h. in_line 14 L.shifts test_E n h (at_E n h))
    (from_line n 15 (λ h. in_line 15 (λ n. I.LineF) test_F n h (at_F n h))
    (λ h. absurd (omega arith))))))))))))))))) (omega arith)
