-- MOVEM's registers and MOVEP's bytes, one by one.
use Rattle.std.proofs.Common.{◌≡◌, ◌≢◌, ℕ, zero, suc, ◌+◌, ◌-◌, ◌*◌, ◌/◌, ◌%◌, ◌<◌, [], ◌∷◌, false, refl, arith}
use Rattle.m68k_opcodes.specs.declared.operand.Size.TheVariants as S
use Rattle.m68k_opcodes.specs.declared.instr.Instr.{Instr}
use Rattle.m68k_decode.specs.Registers.{word32}
use Rattle.m68k_decode.specs.Run.{Run, finish, read, write}
use Rattle.m68k_decode.specs.Lists.{numbers, scatter, gather, gathered}

-- ---- MOVEM's registers, bit by bit

pub numbers_none : (m : ℕ) → numbers 0 m ≡ []
unfolding numbers
numbers_none m = refl

pub numbers_one : (k m : ℕ) → 0 < k → m % 2 ≡ 1 → numbers k m ≡ (15 - (k - 1)) ∷ numbers (k - 1) (m / 2)
unfolding numbers
numbers_one zero m h e = absurd (omega arith)
numbers_one (suc k) m h e =
    let same : suc k - 1 ≡ k = omega arith in
    rw (same, e) refl

pub numbers_zero : (k m : ℕ) → 0 < k → m % 2 ≢ 1 → numbers k m ≡ numbers (k - 1) (m / 2)
unfolding numbers
numbers_zero zero m h e = absurd (omega arith)
numbers_zero (suc k) m h e =
    let same : suc k - 1 ≡ k = omega arith in
    let clear : m % 2 ≡ 0 = omega arith in
    rw (same, clear) refl

-- ---- MOVEP's bytes

pub scatter_none : (at value : ℕ) (s : Run) → scatter 0 at value s ≡ finish 0 s
unfolding scatter
scatter_none at value s = refl

pub scatter_step : (n at value : ℕ) (s : Run) → 0 < n
    → scatter n at value s ≡ write s S.Byte at (value / 16777216) (scatter (n - 1) (word32 (at + 2)) (word32 (value * 256)) s)
unfolding scatter
scatter_step zero at value s h = absurd (omega arith)
scatter_step (suc n) at value s h =
    let same : suc n - 1 ≡ n = omega arith in
    rw same refl

pub gather_none : (i : Instr) (at value : ℕ) (s : Run) → gather i 0 at value s ≡ gathered i value s
unfolding gather
gather_none i at value s = refl

pub gather_step : (i : Instr) (n at value : ℕ) (s : Run) → 0 < n
    → gather i n at value s ≡ read s S.Byte false at (λ byte. gather i (n - 1) (word32 (at + 2)) (word32 (value * 256 + byte)) s)
unfolding gather
gather_step i zero at value s h = absurd (omega arith)
gather_step i (suc n) at value s h =
    let same : suc n - 1 ≡ n = omega arith in
    rw same refl
