-- Fill by the parity of the bits up to each.
use Rattle.std.proofs.Common.{arith, ◌≡◌, ℕ, zero, suc, ◌+◌, ◌-◌, ◌/◌, ◌%◌, ◌^◌, ◌<◌, max, Bool}
use Rattle.std.proofs.Common.{true, false, if◌then◌else◌, nat_eq, count_ones, bit_or, ap, ◌∙◌, refl}
use Rattle.std.proofs.lemmas.Nat.{or_lt}
use Rattle.std.proofs.lemmas.Nat.Bits.{bit_at-lt, bit_at_or, bit_at_not}
use Rattle.std.specs.Int.{bit_at, w16}
use Rattle.blit_words.specs.BlitWords.{number_of, filled_word, ones_right_of, one_if}
use Rattle.blit_words.specs.Parity.{parities_in, is_carry}
use Rattle.blit_words.proofs.Numbers.{from_digits, bit_of_number, number_lt}
use Rattle.blit_words.proofs.Parities.{one_more}

parity-at : (word i : ℕ) → i < 16 → bit_at (parities_in word) i ≡ ones_right_of (i + 1) word % 2
unfolding parities_in
parity-at word i low = bit_of_number 16 (λ (i : ℕ). ones_right_of (i + 1) word % 2) i (λ j. omega arith) low

parities_lt : (word : ℕ) → parities_in word < 2 ^ 16
unfolding parities_in
parities_lt word = number_lt 16 (λ (i : ℕ). ones_right_of (i + 1) word % 2) (λ j. omega arith)

with_bit : (word i : ℕ) → ones_right_of (i + 1) word ≡ bit_at word i + ones_right_of i word
with_bit word i =
    let e : i + 1 ≡ 1 + i = omega arith in
    ap (λ (j : ℕ). ones_right_of j word) e ∙ one_more i word

pub without_carry : (word : ℕ) → parities_in word ≡ filled_word true (one_if false) word
unfolding filled_word
without_carry word =
    from_digits 16 _ _ (parities_lt word) (λ i low. omega (arith, parity-at word i low, with_bit word i))

pub with_carry : (word : ℕ) → 65535 - parities_in word ≡ filled_word true (one_if true) word
unfolding filled_word
with_carry word =
    from_digits 16 _ _ (omega arith) (λ i low.
    omega (arith, bit_at_not w16 (parities_in word) i (parities_lt word) low, parity-at word i low, with_bit word i))

exclusive-at : (n word i : ℕ) → i < 16 → bit_at (filled_word true n word) i ≡ (n + ones_right_of (i + 1) word) % 2
unfolding filled_word
exclusive-at n word i low =
    let e = bit_of_number 16 (λ (i : ℕ). ((n + ones_right_of i word) % 2 + bit_at word i) % 2) i (λ j. omega arith) low in
    omega (arith, e, with_bit word i)

exclusive_lt : (n word : ℕ) → filled_word true n word < 2 ^ 16
unfolding filled_word
exclusive_lt n word = number_lt 16 (λ (i : ℕ). ((n + ones_right_of i word) % 2 + bit_at word i) % 2) (λ j. omega arith)

inclusive_from_digits : (n word x : ℕ) → x < 2 ^ 16
    → ((i : ℕ) → i < 16 → bit_at x i ≡ max ((n + ones_right_of i word) % 2) (bit_at word i))
    → x ≡ filled_word false n word
unfolding filled_word
inclusive_from_digits n word x bound same = from_digits 16 _ _ bound same

-- an inclusive fill has the bits of the exclusive one and those of the word
pub inclusive_is : (n word : ℕ) → word < 2 ^ 16 → bit_or (filled_word true n word) word ≡ filled_word false n word
inclusive_is n word bound = inclusive_from_digits n word _ (or_lt 16 (filled_word true n word) word (exclusive_lt n word) bound) (λ i low.
    omega (arith, bit_at_or (filled_word true n word) word i, exclusive-at n word i low, with_bit word i, bit_at-lt word i))

-- its top bit is the carry after the word
pub carry_is : (n word : ℕ) → word < 2 ^ 16 → nat_eq (filled_word true n word / 32768) 1 ≡ is_carry (n + count_ones word)
carry_is n word bound =
    let top = exclusive-at n word 15 (omega arith) in
    let below = exclusive_lt n word in
    let whole : word % 2 ^ 16 ≡ word = omega arith in
    let ones : ones_right_of 16 word ≡ count_ones word = ap count_ones whole in
    let same : filled_word true n word / 32768 ≡ (n + count_ones word) % 2 = omega (arith, top, below, ones) in
    ap (λ (d : ℕ). nat_eq d 1) same

-- ---- a carry stands for the number of 1 bits so far

digit_of : (d : ℕ) → d < 2 → one_if (nat_eq d 1) ≡ d
digit_of zero low = refl
digit_of (suc zero) low = refl
digit_of (suc (suc d)) low = omega arith

carry_parity : (n : ℕ) → one_if (is_carry n) ≡ n % 2
carry_parity n = digit_of (n % 2) (omega arith)

pub carry_more : (n k : ℕ) → is_carry (one_if (is_carry n) + k) ≡ is_carry (n + k)
carry_more n k =
    let same : (one_if (is_carry n) + k) % 2 ≡ (n + k) % 2 = omega (arith, carry_parity n) in
    ap (λ (d : ℕ). nat_eq d 1) same

pub filled_by_carry : (exclusive : Bool) (n word : ℕ) → filled_word exclusive (one_if (is_carry n)) word ≡ filled_word exclusive n word
unfolding filled_word
filled_by_carry exclusive n word =
    let same : (i : ℕ) → (one_if (is_carry n) + ones_right_of i word) % 2 ≡ (n + ones_right_of i word) % 2 =
    λ i. omega (arith, carry_parity n) in
    λ t. number_of 16 (λ i. if exclusive then (same i t + bit_at word i) % 2 else max (same i t) (bit_at word i))
