-- A mask that leaves an even number below a power of two.
use Rattle.std.proofs.Common.{◌≡◌, ℕ, ◌%◌, ◌/◌, ◌*◌, ◌∙◌, arith, bit_and}
use Rattle.std.proofs.lemmas.Nat.Bits.{and_high}

pub even_address_masked : (n : ℕ) → bit_and n 524286 ≡ n % 524288 / 2 * 2
even_address_masked n =
    let e : n / 2 % 262144 * 2 ≡ n % 524288 / 2 * 2 = omega arith in
    and_high n 18 1 ∙ e

pub wide_address_masked : (n : ℕ) → bit_and n 1048574 ≡ n % 1048576 / 2 * 2
wide_address_masked n =
    let e : n / 2 % 524288 * 2 ≡ n % 1048576 / 2 * 2 = omega arith in
    and_high n 19 1 ∙ e

pub even_offset_masked : (n : ℕ) → bit_and n 510 ≡ n % 512 / 2 * 2
even_offset_masked n =
    let e : n / 2 % 256 * 2 ≡ n % 512 / 2 * 2 = omega arith in
    and_high n 8 1 ∙ e
