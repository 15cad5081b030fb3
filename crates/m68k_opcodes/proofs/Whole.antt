-- Every opcode: the lines together.
use Rattle.std.proofs.Common.{◌≡◌, ℕ, ◌/◌, ◌<◌, ◌≤◌, ◌∙◌, ap, inl, inr, arith}
use Rattle.std.proofs.lemmas.Bool.{cases_eq}
use Rattle.m68k_opcodes.specs.declared.instr.Instr.{Instr}
use Rattle.m68k_opcodes.specs.Table.{decode_of, clocks_at}
use Rattle.m68k_opcodes.specs.code.Timing.{timing}
use Rattle.m68k_opcodes.proofs.Table.{Whole}
use Rattle.m68k_opcodes.proofs.Line0.{at_0}
use Rattle.m68k_opcodes.proofs.Line4.{at_4}
use Rattle.m68k_opcodes.proofs.Lines1to9.{at_1, at_2, at_3, at_5, at_6, at_7, at_8, at_9}
use Rattle.m68k_opcodes.proofs.LinesAtoF.{at_A, at_B, at_C, at_D, at_E, at_F}

-- the clocks of an opcode are those of its instruction
abbrev pub Timed : ℕ → Type 0
Timed n = clocks_at n ≡ timing (decode_of n)

timed : (i : Instr) (n : ℕ) → Whole i n → Timed n
timed i n w = w.clocks ∙ ap timing w.instr

-- what holds at a line and at all lines behind it holds from that line on
from_line : (n line : ℕ) → (n / 4096 ≡ line → Timed n) → (line < n / 4096 → Timed n) → line ≤ n / 4096 → Timed n
from_line n line here behind h =
    elim (cases_eq (n / 4096) line) [
      | inl e ↦ here e
      | inr other ↦ (let o : n / 4096 ≡ line → ⊥ = other in
          behind (omega arith))
    ]

pub timed_at : (n : ℕ) → n < 65536 → Timed n
timed_at n below =
    from_line n 0 (λ h. timed _ n (at_0 n h))
    (from_line n 1 (λ h. timed _ n (at_1 n h))
    (from_line n 2 (λ h. timed _ n (at_2 n h))
    (from_line n 3 (λ h. timed _ n (at_3 n h))
    (from_line n 4 (λ h. timed _ n (at_4 n h))
    (from_line n 5 (λ h. timed _ n (at_5 n h))
    (from_line n 6 (λ h. timed _ n (at_6 n h))
    (from_line n 7 (λ h. timed _ n (at_7 n h))
    (from_line n 8 (λ h. timed _ n (at_8 n h))
    (from_line n 9 (λ h. timed _ n (at_9 n h))
    (from_line n 10 (λ h. timed _ n (at_A n h))
    (from_line n 11 (λ h. timed _ n (at_B n h))
    (from_line n 12 (λ h. timed _ n (at_C n h))
    (from_line n 13 (λ h. timed _ n (at_D n h))
    (from_line n 14 (λ h. timed _ n (at_E n h))
    (from_line n 15 (λ h. timed _ n (at_F n h))
    (λ h. absurd (omega arith))))))))))))))))) (omega arith)
