-- One bit of a number, set, cleared and changed by masks.
use Rattle.std.proofs.Common.{◌≡◌, ℕ, ◌+◌, ◌-◌, ◌*◌, ◌/◌, ◌%◌, ◌^◌, ◌<◌, Bool, true, false}
use Rattle.std.proofs.Common.{if◌then◌else◌, ◌==◌, bit_and, bit_or, bit_xor, arith, refl, inl, inr, ◌∙◌, eqb-true}
use Rattle.std.specs.Int.Bits.{or_zero_r, xor_zero_r}
use Rattle.std.proofs.lemmas.Bool.{cases_eq, eqb-false}
use Rattle.std.proofs.lemmas.Nat.{or_block, xor_block, shr_split, mod_below, pow_pos, and-not, and_comm, one_shl, pow_below}
use Rattle.std.proofs.lemmas.Nat.Bits.{and_pow}
use Rattle.m68k_decode.specs.ResultsBits.{is_set, with_bit, without_bit, changed_bit}
use Rattle.m68k_alu.proofs.Words.{or_with_one}

-- ---- the lowest bit

or_one : (n : ℕ) → bit_or n 1 ≡ n / 2 * 2 + 1
or_one n =
    let rest : n % 2 < 2 = omega arith in
    let e : n / 2 * 2 + n % 2 ≡ n = omega arith in
    let one : 1 < 2 = omega arith in
    let block : bit_or (n / 2 * 2 + n % 2) 1 ≡ bit_or (n / 2) 0 * 2 + bit_or (n % 2) 1 = or_block 1 (n / 2) 0 (n % 2) 1 rest one in
    omega (arith, rw e at block, or_zero_r (n / 2), or_with_one (n % 2) rest)

xor_with_one : (n : ℕ) → n < 2 → bit_xor n 1 ≡ 1 - n
xor_with_one n h =
    elim (cases_eq n 0) [
      | inl e ↦ (let zero : n ≡ 0 = e in rw zero refl)
      | inr e ↦ (let other : n ≡ 0 → ⊥ = e in
          let one : n ≡ 1 = omega arith in rw one refl)
    ]

xor_one : (n : ℕ) → bit_xor n 1 ≡ n / 2 * 2 + (1 - n % 2)
xor_one n =
    let rest : n % 2 < 2 = omega arith in
    let e : n / 2 * 2 + n % 2 ≡ n = omega arith in
    let one : 1 < 2 = omega arith in
    let block : bit_xor (n / 2 * 2 + n % 2) 1 ≡ bit_xor (n / 2) 0 * 2 + bit_xor (n % 2) 1 = xor_block 1 (n / 2) 0 (n % 2) 1 rest one in
    omega (arith, rw e at block, xor_zero_r (n / 2), xor_with_one (n % 2) rest)

-- ---- bit k

or_parts : (n k : ℕ) → bit_or n (2 ^ k) ≡ (n / 2 ^ k / 2 * 2 + 1) * 2 ^ k + n % 2 ^ k
or_parts n k =
    let rest : n % 2 ^ k < 2 ^ k = mod_below n (2 ^ k) (pow_pos k) in
    let block : bit_or (n / 2 ^ k * 2 ^ k + n % 2 ^ k) (1 * 2 ^ k + 0) ≡ bit_or (n / 2 ^ k) 1 * 2 ^ k + bit_or (n % 2 ^ k) 0 =
    or_block k (n / 2 ^ k) 1 (n % 2 ^ k) 0 rest (pow_pos k) in
    let p : 1 * 2 ^ k + 0 ≡ 2 ^ k = omega arith in
    let whole = rw (shr_split n k, p, or_one, or_zero_r) at block in
    whole

xor_parts : (n k : ℕ) → bit_xor n (2 ^ k) ≡ (n / 2 ^ k / 2 * 2 + (1 - n / 2 ^ k % 2)) * 2 ^ k + n % 2 ^ k
xor_parts n k =
    let rest : n % 2 ^ k < 2 ^ k = mod_below n (2 ^ k) (pow_pos k) in
    let block : bit_xor (n / 2 ^ k * 2 ^ k + n % 2 ^ k) (1 * 2 ^ k + 0) ≡ bit_xor (n / 2 ^ k) 1 * 2 ^ k + bit_xor (n % 2 ^ k) 0 =
    xor_block k (n / 2 ^ k) 1 (n % 2 ^ k) 0 rest (pow_pos k) in
    let p : 1 * 2 ^ k + 0 ≡ 2 ^ k = omega arith in
    let whole = rw (shr_split n k, p, xor_one, xor_zero_r) at block in
    whole

is_one : (n : ℕ) → (n % 2 == 1) ≡ false → n % 2 ≡ 0
is_one n e = omega (arith, eqb-false (n % 2) 1 e)

or_is : (n k : ℕ) → bit_or n (2 ^ k) ≡ with_bit n k
or_is n k =
    let q : ℕ = n / 2 ^ k in
    let P : Bool → Type 0 = λ b. is_set n k ≡ b → bit_or n (2 ^ k) ≡ (if b then n else n + 2 ^ k) in
    let split : (b : Bool) → P b =
    (λ b. elim b as P [
      | true ↦ λ e. (let odd : q % 2 ≡ 1 = eqb-true (q % 2) 1 e in
          let h : q / 2 * 2 + 1 ≡ q = omega arith in
          or_parts n k ∙ rw h (shr_split n k))
      | false ↦ λ e. (let even : q % 2 ≡ 0 = is_one q e in
          let h : q / 2 * 2 + 1 ≡ q + 1 = omega arith in
          let it : (q + 1) * 2 ^ k + n % 2 ^ k ≡ n + 2 ^ k = omega (arith, shr_split n k) in
          or_parts n k ∙ rw h it)
    ]) in
    split (is_set n k) refl

xor_is : (n k : ℕ) → bit_xor n (2 ^ k) ≡ changed_bit n k
xor_is n k =
    let q : ℕ = n / 2 ^ k in
    let P : Bool → Type 0 = λ b. is_set n k ≡ b → bit_xor n (2 ^ k) ≡ (if b then n - 2 ^ k else n + 2 ^ k) in
    let split : (b : Bool) → P b =
    (λ b. elim b as P [
      | true ↦ λ e. (let odd : q % 2 ≡ 1 = eqb-true (q % 2) 1 e in
          let h : q / 2 * 2 + (1 - q % 2) + 1 ≡ q = omega arith in
          let whole : (q / 2 * 2 + (1 - q % 2) + 1) * 2 ^ k + n % 2 ^ k ≡ n = rw h (shr_split n k) in
          xor_parts n k ∙ omega (arith, whole))
      | false ↦ λ e. (let even : q % 2 ≡ 0 = is_one q e in
          let h : q / 2 * 2 + (1 - q % 2) ≡ q + 1 = omega arith in
          let it : (q + 1) * 2 ^ k + n % 2 ^ k ≡ n + 2 ^ k = omega (arith, shr_split n k) in
          xor_parts n k ∙ rw h it)
    ]) in
    split (is_set n k) refl

and_not_is : (n k : ℕ) → k < 32 → n < 4294967296 → bit_and n (4294967295 - 2 ^ k) ≡ without_bit n k
and_not_is n k h fits =
    let q : ℕ = n / 2 ^ k in
    let p : 2 ^ k < 4294967296 = pow_below k 32 h in
    let kept : bit_and (4294967295 - 2 ^ k) n + bit_and (2 ^ k) n ≡ n = and-not 32 (2 ^ k) n p fits in
    let masked : bit_and (2 ^ k) n ≡ q % 2 * 2 ^ k = and_comm (2 ^ k) n ∙ and_pow n k in
    let P : Bool → Type 0 = λ b. is_set n k ≡ b → bit_and n (4294967295 - 2 ^ k) ≡ (if b then n - 2 ^ k else n) in
    let split : (b : Bool) → P b =
    (λ b. elim b as P [
      | true ↦ λ e. (let odd : q % 2 ≡ 1 = eqb-true (q % 2) 1 e in
          let m : bit_and (2 ^ k) n ≡ 1 * 2 ^ k = rw odd at masked in
          and_comm n (4294967295 - 2 ^ k) ∙ omega arith)
      | false ↦ λ e. (let even : q % 2 ≡ 0 = is_one q e in
          let m : bit_and (2 ^ k) n ≡ 0 * 2 ^ k = rw even at masked in
          and_comm n (4294967295 - 2 ^ k) ∙ omega arith)
    ]) in
    split (is_set n k) refl

-- ---- as the code has them

pub set_by_mask : (n k : ℕ) → k < 32 → bit_or n (1 * 2 ^ k % 4294967296) ≡ with_bit n k
set_by_mask n k h = rw (one_shl k 32 h) (or_is n k)

pub changed_by_mask : (n k : ℕ) → k < 32 → bit_xor n (1 * 2 ^ k % 4294967296) ≡ changed_bit n k
changed_by_mask n k h = rw (one_shl k 32 h) (xor_is n k)

pub cleared_by_mask : (n k : ℕ) → k < 32 → n < 4294967296 → bit_and n (4294967295 - 1 * 2 ^ k % 4294967296) ≡ without_bit n k
cleared_by_mask n k h fits = rw (one_shl k 32 h) (and_not_is n k h fits)
