-- The bits of two words, spread over bytes; and the bytes of a sum of such.
use Rattle.std.proofs.Common.{◌≡◌, ℕ, zero, suc, ◌+◌, ◌-◌, ◌*◌, ◌/◌, ◌%◌, ◌<◌, ◌≤◌, Bool, true, false, nat_lt}
use Rattle.std.proofs.Common.{List, [], ◌∷◌, length, get_or, slice_index, refl, sym, ◌∙◌, ap, arith, w64}
use Rattle.std.specs.Int.{to_le_bytes}
use Rattle.std.proofs.Math.Nat.{div-div-eq-div-mul, div-one}
use Rattle.std.proofs.Math.ListN.{get_or-eq_default}
use Rattle.std.proofs.lemmas.List.FromFn.{get_or-map-range_with_len}
use Rattle.std.proofs.lemmas.Bool.Decides.{nat_tests}
use Rattle.sprite_rows.specs.WordValues.{last_value, word_values}

abbrev entries : List ℕ
entries =
    0 ∷ 16777216 ∷ 65536 ∷ 16842752 ∷ 256 ∷ 16777472 ∷ 65792 ∷ 16843008 ∷ 1 ∷ 16777217 ∷ 65537 ∷ 16842753 ∷ 257 ∷ 16777473 ∷ 65793 ∷ 16843009 ∷ []

entry : (n : ℕ) → n < 16 → get_or entries n 0 ≡ n / 8 % 2 + 256 * (n / 4 % 2) + 65536 * (n / 2 % 2) + 16777216 * (n % 2)
entry zero h = refl
entry (suc zero) h = refl
entry (suc (suc zero)) h = refl
entry (suc (suc (suc zero))) h = refl
entry (suc (suc (suc (suc zero)))) h = refl
entry (suc (suc (suc (suc (suc zero))))) h = refl
entry (suc (suc (suc (suc (suc (suc zero)))))) h = refl
entry (suc (suc (suc (suc (suc (suc (suc zero))))))) h = refl
entry (suc (suc (suc (suc (suc (suc (suc (suc zero)))))))) h = refl
entry (suc (suc (suc (suc (suc (suc (suc (suc (suc zero))))))))) h = refl
entry (suc (suc (suc (suc (suc (suc (suc (suc (suc (suc zero)))))))))) h = refl
entry (suc (suc (suc (suc (suc (suc (suc (suc (suc (suc (suc zero))))))))))) h = refl
entry (suc (suc (suc (suc (suc (suc (suc (suc (suc (suc (suc (suc zero)))))))))))) h = refl
entry (suc (suc (suc (suc (suc (suc (suc (suc (suc (suc (suc (suc (suc zero))))))))))))) h = refl
entry (suc (suc (suc (suc (suc (suc (suc (suc (suc (suc (suc (suc (suc (suc zero)))))))))))))) h = refl
entry (suc (suc (suc (suc (suc (suc (suc (suc (suc (suc (suc (suc (suc (suc (suc zero))))))))))))))) h = refl
entry (suc (suc (suc (suc (suc (suc (suc (suc (suc (suc (suc (suc (suc (suc (suc (suc n)))))))))))))))) h = absurd (omega arith)

-- the table at a word's last four bits
pub entry_of : (n : ℕ) → get_or entries (n % 16) 0
    ≡ n / 8 % 2 + 256 * (n / 4 % 2) + 65536 * (n / 2 % 2) + 16777216 * (n % 2)
entry_of n = entry (n % 16) (omega arith) ∙ omega arith

-- the bytes of a number of eight digits
pub eight_digits : (n a b c d e f g h : ℕ) → a < 256 → b < 256 → c < 256 → d < 256 → e < 256 → f < 256 → g < 256 → h < 256 →
    n ≡ a + 256 * b + 65536 * c + 16777216 * d + 4294967296 * e + 1099511627776 * f + 281474976710656 * g + 72057594037927936 * h →
    to_le_bytes w64 n ≡ a ∷ b ∷ c ∷ d ∷ e ∷ f ∷ g ∷ h ∷ []
eight_digits n a b c d e f g h la lb lc ld le lf lg lh is =
    let at0 : n % 256 ≡ a = omega arith in
    let at1 : n / 256 % 256 ≡ b = omega arith in
    let at2 : n / 65536 % 256 ≡ c = omega arith in
    let at3 : n / 16777216 % 256 ≡ d = omega arith in
    let at4 : n / 4294967296 % 256 ≡ e = omega arith in
    let at5 : n / 1099511627776 % 256 ≡ f = omega arith in
    let at6 : n / 281474976710656 % 256 ≡ g = omega arith in
    let at7 : n / 72057594037927936 % 256 ≡ h = omega arith in
    rw (at0, at1, at2, at3, at4, at5, at6, at7)

-- a word's last four bits, each as a byte
abbrev pub spread_bits : ℕ → ℕ
spread_bits n = n / 8 % 2 + 256 * (n / 4 % 2) + 65536 * (n / 2 % 2) + 16777216 * (n % 2)

two_small : (a b : ℕ) → a % 2 + 2 * (b % 2) < 256
two_small a b = omega arith

sum_of_digits : (a b c d e f g h a' b' c' d' e' f' g' h' : ℕ) →
    (a + 256 * b + 65536 * c + 16777216 * d) + 2 * (a' + 256 * b' + 65536 * c' + 16777216 * d')
    + 4294967296 * ((e + 256 * f + 65536 * g + 16777216 * h) + 2 * (e' + 256 * f' + 65536 * g' + 16777216 * h'))
    ≡ (a + 2 * a') + 256 * (b + 2 * b') + 65536 * (c + 2 * c') + 16777216 * (d + 2 * d')
    + 4294967296 * (e + 2 * e') + 1099511627776 * (f + 2 * f') + 281474976710656 * (g + 2 * g')
    + 72057594037927936 * (h + 2 * h')
sum_of_digits a b c d e f g h a' b' c' d' e' f' g' h' = omega arith

pub upper_bits : (n : ℕ) → spread_bits (n / 16) ≡ n / 128 % 2 + 256 * (n / 64 % 2) + 65536 * (n / 32 % 2) + 16777216 * (n / 16 % 2)
upper_bits n = simp div-div-eq-div-mul

pub lower_bits : (n : ℕ) → spread_bits n ≡ n / 8 % 2 + 256 * (n / 4 % 2) + 65536 * (n / 2 % 2) + 16777216 * (n / 1 % 2)
lower_bits n = ap (λ (m : ℕ). n / 8 % 2 + 256 * (n / 4 % 2) + 65536 * (n / 2 % 2) + 16777216 * (m % 2)) (sym (div-one n))

-- the bytes of two words' last eight bits
pub eight_bytes : (a b : ℕ) →
    to_le_bytes w64 (spread_bits (a / 16) + 2 * spread_bits (b / 16) + 4294967296 * (spread_bits a + 2 * spread_bits b))
    ≡ last_value 7 a b ∷ last_value 6 a b ∷ last_value 5 a b ∷ last_value 4 a b
    ∷ last_value 3 a b ∷ last_value 2 a b ∷ last_value 1 a b ∷ last_value 0 a b ∷ []
eight_bytes a b =
    rw (upper_bits a, upper_bits b, lower_bits a, lower_bits b)
    (eight_digits _ _ _ _ _ _ _ _ _
    (two_small (a / 128) (b / 128)) (two_small (a / 64) (b / 64)) (two_small (a / 32) (b / 32)) (two_small (a / 16) (b / 16))
    (two_small (a / 8) (b / 8)) (two_small (a / 4) (b / 4)) (two_small (a / 2) (b / 2)) (two_small (a / 1) (b / 1))
    (sum_of_digits
    (a / 128 % 2) (a / 64 % 2) (a / 32 % 2) (a / 16 % 2) (a / 8 % 2) (a / 4 % 2) (a / 2 % 2) (a / 1 % 2)
    (b / 128 % 2) (b / 64 % 2) (b / 32 % 2) (b / 16 % 2) (b / 8 % 2) (b / 4 % 2) (b / 2 % 2) (b / 1 % 2)))

-- the sixteen values of two words
pub word_values-length : (a b : ℕ) → length (word_values a b) ≡ 16
unfolding word_values
word_values-length a b = refl

pub word_values-at : (a b k : ℕ) → k < 16 → slice_index (word_values a b) k ≡ last_value (15 - k) a b
unfolding word_values
word_values-at a b k h = get_or-map-range_with_len (λ (passed : ℕ). last_value (15 - passed) a b) 0 16 k k 0 h (omega arith)

last_value-le : (place a b : ℕ) → last_value place a b ≤ 3
last_value-le place a b = omega arith

value-le_by : (a b k : ℕ) (t : Bool) → nat_lt k 16 ≡ t → slice_index (word_values a b) k ≤ 3
value-le_by a b k true is =
    let within : k < 16 = grind (arith, nat_tests) in
    omega (arith, word_values-at a b k within, last_value-le (15 - k) a b)
value-le_by a b k false is =
    let after : length (word_values a b) ≤ k = grind (arith, nat_tests, word_values-length a b) in
    omega (arith, get_or-eq_default (word_values a b) 0 after)

pub word_values-le : (a b k : ℕ) → slice_index (word_values a b) k ≤ 3
word_values-le a b k = value-le_by a b k (nat_lt k 16) refl
