-- The bytes of a sum of words whose bits are spread over bytes.
use Rattle.std.proofs.Common.{◌≡◌, ℕ, ◌+◌, ◌*◌, ◌/◌, ◌%◌, ◌<◌, [], ◌∷◌, arith, w64}
use Rattle.std.specs.Int.{to_le_bytes}
use Rattle.sprite_rows.proofs.Spreading.{spread_bits, eight_digits, upper_bits, lower_bits}
use Rattle.plane_rows.specs.code.Words.{three_last}

-- the bytes of three words' last eight bits
three_small : (a b c : ℕ) → a % 2 + 4 * (b % 2) + 16 * (c % 2) < 256
three_small a b c = omega arith

sum_of_digits : (a b c d e f g h a' b' c' d' e' f' g' h' a'' b'' c'' d'' e'' f'' g'' h'' : ℕ) →
    (a + 256 * b + 65536 * c + 16777216 * d) + 4 * (a' + 256 * b' + 65536 * c' + 16777216 * d')
    + 16 * (a'' + 256 * b'' + 65536 * c'' + 16777216 * d'')
    + 4294967296 * ((e + 256 * f + 65536 * g + 16777216 * h) + 4 * (e' + 256 * f' + 65536 * g' + 16777216 * h')
    + 16 * (e'' + 256 * f'' + 65536 * g'' + 16777216 * h''))
    ≡ (a + 4 * a' + 16 * a'') + 256 * (b + 4 * b' + 16 * b'') + 65536 * (c + 4 * c' + 16 * c'') + 16777216 * (d + 4 * d' + 16 * d'')
    + 4294967296 * (e + 4 * e' + 16 * e'') + 1099511627776 * (f + 4 * f' + 16 * f'') + 281474976710656 * (g + 4 * g' + 16 * g'')
    + 72057594037927936 * (h + 4 * h' + 16 * h'')
sum_of_digits a b c d e f g h a' b' c' d' e' f' g' h' a'' b'' c'' d'' e'' f'' g'' h'' = omega arith

pub eight_bytes : (a b c : ℕ) →
    to_le_bytes w64 (spread_bits (a / 16) + 4 * spread_bits (b / 16) + 16 * spread_bits (c / 16)
    + 4294967296 * (spread_bits a + 4 * spread_bits b + 16 * spread_bits c))
    ≡ three_last 7 a b c ∷ three_last 6 a b c ∷ three_last 5 a b c ∷ three_last 4 a b c
    ∷ three_last 3 a b c ∷ three_last 2 a b c ∷ three_last 1 a b c ∷ three_last 0 a b c ∷ []
eight_bytes a b c =
    rw (upper_bits a, upper_bits b, upper_bits c, lower_bits a, lower_bits b, lower_bits c)
    (eight_digits _ _ _ _ _ _ _ _ _
    (three_small (a / 128) (b / 128) (c / 128)) (three_small (a / 64) (b / 64) (c / 64))
    (three_small (a / 32) (b / 32) (c / 32)) (three_small (a / 16) (b / 16) (c / 16))
    (three_small (a / 8) (b / 8) (c / 8)) (three_small (a / 4) (b / 4) (c / 4))
    (three_small (a / 2) (b / 2) (c / 2)) (three_small (a / 1) (b / 1) (c / 1))
    (sum_of_digits
    (a / 128 % 2) (a / 64 % 2) (a / 32 % 2) (a / 16 % 2) (a / 8 % 2) (a / 4 % 2) (a / 2 % 2) (a / 1 % 2)
    (b / 128 % 2) (b / 64 % 2) (b / 32 % 2) (b / 16 % 2) (b / 8 % 2) (b / 4 % 2) (b / 2 % 2) (b / 1 % 2)
    (c / 128 % 2) (c / 64 % 2) (c / 32 % 2) (c / 16 % 2) (c / 8 % 2) (c / 4 % 2) (c / 2 % 2) (c / 1 % 2)))

-- the upper four bits of three words, and their lower four
pub regrouped : (a a' b b' c c' : ℕ) →
    a + 4294967296 * a' + 4 * (b + 4294967296 * b') + 16 * (c + 4294967296 * c') ≡ a + 4 * b + 16 * c + 4294967296 * (a' + 4 * b' + 16 * c')
regrouped a a' b b' c c' = omega arith

-- the same of two words
pub two_regrouped : (a a' b b' : ℕ) →
    a + 4294967296 * a' + 4 * (b + 4294967296 * b') ≡ a + 4 * b + 16 * 0 + 4294967296 * (a' + 4 * b' + 16 * 0)
two_regrouped a a' b b' = omega arith

-- the bytes of two pixels whose components are these
pub pixel_bytes : (red green blue : ℕ) → red < 16 → green < 16 → blue < 16 →
    to_le_bytes w64 ((red + green * 256 + blue * 65536) * 17 * 16777217)
    ≡ 17 * red ∷ 17 * green ∷ 17 * blue ∷ 17 * red ∷ 17 * green ∷ 17 * blue ∷ 0 ∷ 0 ∷ []
pixel_bytes red green blue r g b =
    eight_digits ((red + green * 256 + blue * 65536) * 17 * 16777217) (17 * red) (17 * green) (17 * blue) (17 * red) (17 * green) (17 * blue) 0 0
    (omega (arith, r)) (omega (arith, g)) (omega (arith, b)) (omega (arith, r)) (omega (arith, g)) (omega (arith, b))
    (omega arith) (omega arith) (omega arith)
