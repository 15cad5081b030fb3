-- Words and bytes that are joined by `|`.
use Rattle.std.proofs.Common.{◌≡◌, ℕ, ◌+◌, ◌*◌, ◌/◌, ◌%◌, ◌<◌, bit_or, arith, refl, inl, inr}
use Rattle.std.specs.Int.Bits.{or_zero_r}
use Rattle.std.proofs.lemmas.Bool.{cases_eq}
use Rattle.std.proofs.lemmas.Nat.{or_shifted, or_block}

pub words_joined : (n : ℕ) → n < 4294967296 → bit_or (n * 65536 % 4294967296) (n / 65536) ≡ n % 65536 * 65536 + n / 65536 % 65536
words_joined n h =
    let e : n * 65536 % 4294967296 ≡ n % 65536 * 65536 = omega arith in
    let low : n / 65536 < 65536 = omega arith in
    let same : n / 65536 % 65536 ≡ n / 65536 = omega arith in
    rw (e, same) (or_shifted (n % 65536) 16 (n / 65536) low)

pub or_with_one : (n : ℕ) → n < 2 → bit_or n 1 ≡ 1
or_with_one n h =
    elim (cases_eq n 0) [
      | inl e ↦ (let zero : n ≡ 0 = e in rw zero refl)
      | inr e ↦ (let other : n ≡ 0 → ⊥ = e in
          let one : n ≡ 1 = omega arith in rw one refl)
    ]

pub byte_with_top_bit : (n : ℕ) → n < 256 → bit_or n 128 ≡ n % 128 + 128
byte_with_top_bit n h =
    let top : n / 128 < 2 = omega arith in
    let rest : n % 128 < 128 = omega arith in
    let e : n / 128 * 128 + n % 128 ≡ n = omega arith in
    let none : 0 < 128 = omega arith in
    let block : bit_or (n / 128 * 128 + n % 128) 128 ≡ bit_or (n / 128) 1 * 128 + bit_or (n % 128) 0 = or_block 7 (n / 128) 1 (n % 128) 0 rest none in
    omega (arith, rw e at block, or_with_one (n / 128) top, or_zero_r (n % 128))
