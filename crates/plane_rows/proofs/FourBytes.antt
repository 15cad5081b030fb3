-- The four bytes of a sum of two words.
use Rattle.std.proofs.Common.{◌≡◌, ℕ, ◌+◌, ◌*◌, ◌/◌, ◌%◌, ◌<◌, ◌≤◌, [], ◌∷◌, arith, w32}
use Rattle.std.specs.Int.{to_le_bytes}

-- the bytes of a number of four digits
four_digits : (n a b c d : ℕ) → a < 256 → b < 256 → c < 256 → d < 256 → n ≡ a + 256 * b + 65536 * c + 16777216 * d
    → to_le_bytes w32 n ≡ a ∷ b ∷ c ∷ d ∷ []
four_digits n a b c d la lb lc ld is =
    let at0 : n % 256 ≡ a = omega arith in
    let at1 : n / 256 % 256 ≡ b = omega arith in
    let at2 : n / 65536 % 256 ≡ c = omega arith in
    let at3 : n / 16777216 % 256 ≡ d = omega arith in
    rw (at0, at1, at2, at3)

-- of one whose bytes are up to 21, and twice another
pub four_sums : (odd even a b c d a' b' c' d' : ℕ) → a ≤ 21 → b ≤ 21 → c ≤ 21 → d ≤ 21 → a' ≤ 21 → b' ≤ 21 → c' ≤ 21 → d' ≤ 21
    → odd ≡ a + 256 * b + 65536 * c + 16777216 * d → even ≡ a' + 256 * b' + 65536 * c' + 16777216 * d'
    → to_le_bytes w32 (odd + 2 * even) ≡ (a + 2 * a') ∷ (b + 2 * b') ∷ (c + 2 * c') ∷ (d + 2 * d') ∷ []
four_sums odd even a b c d a' b' c' d' la lb lc ld la' lb' lc' ld' is is' =
    four_digits (odd + 2 * even) (a + 2 * a') (b + 2 * b') (c + 2 * c') (d + 2 * d')
    (omega (arith, la, la')) (omega (arith, lb, lb')) (omega (arith, lc, lc')) (omega (arith, ld, ld')) (omega (arith, is, is'))
