-- The parity of the bits up to each, by doubling the length of the runs of bits that were added.
use Rattle.std.proofs.Common.{arith, ◌≡◌, ℕ, zero, suc, ◌+◌, ◌-◌, ◌*◌, ◌/◌, ◌%◌, ◌^◌, ◌<◌, ◌≤◌, inl, inr, bit_xor, sym, ap, ◌∙◌, refl}
use Rattle.std.proofs.lemmas.Bool.{cases_lt}
use Rattle.std.proofs.lemmas.Nat.{xor_lt, mod-pow-add, ones_cat, ones_le_self, shr_split, pow_pos}
use Rattle.std.proofs.lemmas.Nat.Bits.{bit_at-lt, bit_at_xor, bit_at_cat_low, bit_at_cat_high, bit_at-zero}
use Rattle.std.specs.Int.{bit_at}
use Rattle.std.specs.Int.Count.{ones, ones_in}
use Rattle.blit_words.specs.BlitWords.{ones_right_of}
use Rattle.blit_words.specs.Parity.{parities_in}
use Rattle.blit_words.proofs.Numbers.{from_digits}

ones_of_digit : (d : ℕ) → d < 2 → ones d ≡ d
unfolding ones ones_in
ones_of_digit zero low = refl
ones_of_digit (suc zero) low = refl
ones_of_digit (suc (suc d)) low = omega arith

-- one bit more
pub one_more : (i n : ℕ) → ones_right_of (1 + i) n ≡ bit_at n i + ones_right_of i n
one_more i n =
    ap ones (mod-pow-add n 1 i) ∙ ones_cat i (bit_at n i) (n % 2 ^ i) (omega (arith, pow_pos i))
    ∙ ap (λ (d : ℕ). d + ones_right_of i n) (ones_of_digit (bit_at n i) (bit_at-lt n i))

none_right_of_0 : (n : ℕ) → ones_right_of 0 n ≡ 0
none_right_of_0 n = omega (arith, ones_le_self (n % 2 ^ 0))

-- the parity of the k bits that end with bit i
abbrev run : ℕ → ℕ → ℕ → ℕ
run k n i = (ones_right_of (1 + i) n + ones_right_of (1 + i - k) n) % 2

record HasRuns (k n x : ℕ) : Type 0 where
  bound : x < 2 ^ 16
  digit : (i : ℕ) → i < 16 → bit_at x i ≡ run k n i

single_runs : (n : ℕ) → n < 2 ^ 16 → HasRuns 1 n n
single_runs n bound = record {
  bound = bound;
  digit = λ i low.
      let e : 1 + i - 1 ≡ i = omega arith in
      let same : ones_right_of (1 + i - 1) n ≡ ones_right_of i n = ap (λ (j : ℕ). ones_right_of j n) e in
      omega (arith, one_more i n, same, bit_at-lt n i);
}

-- a shifted word, cut to 16 bits
shifted-at : (x k i : ℕ) → i < 16 → bit_at (x * 2 ^ k % 65536) i ≡ bit_at (x * 2 ^ k) i
shifted-at x k i low =
    sym (bit_at_cat_low (x * 2 ^ k / 2 ^ 16) 16 (x * 2 ^ k % 65536) i low) ∙ ap (λ (y : ℕ). bit_at y i) (shr_split (x * 2 ^ k) 16)

shifted_low : (x k i : ℕ) → i < k → bit_at (x * 2 ^ k) i ≡ 0
shifted_low x k i low =
    let e : x * 2 ^ k ≡ x * 2 ^ k + 0 = omega arith in
    ap (λ (y : ℕ). bit_at y i) e ∙ bit_at_cat_low x k 0 i low ∙ bit_at-zero i

shifted_high : (x k i : ℕ) → k ≤ i → bit_at (x * 2 ^ k) i ≡ bit_at x (i - k)
shifted_high x k i high =
    let e : x * 2 ^ k ≡ x * 2 ^ k + 0 = omega arith in
    let positive : 0 < 2 ^ k = omega (arith, pow_pos k) in
    ap (λ (y : ℕ). bit_at y i) e ∙ bit_at_cat_high x k 0 i positive high

longer_runs : (k n x : ℕ) → HasRuns k n x → HasRuns (k + k) n (bit_xor x (x * 2 ^ k % 65536))
longer_runs k n x h = record {
  bound = xor_lt 16 x (x * 2 ^ k % 65536) h.bound (omega arith);
  digit = λ i low.
      let both = bit_at_xor x (x * 2 ^ k % 65536) i in
      let cut = shifted-at x k i low in
      let own = h.digit i low in
      elim (cases_lt i k) [
        | inl below ↦
            let none = shifted_low x k i below in
            let e : 1 + i - (k + k) ≡ 1 + i - k = omega arith in
            let same : ones_right_of (1 + i - (k + k)) n ≡ ones_right_of (1 + i - k) n = ap (λ (j : ℕ). ones_right_of j n) e in
            omega (arith, both, cut, own, none, same)
        | inr above ↦
            let moved = shifted_high x k i above in
            let other = h.digit (i - k) (omega arith) in
            let e : 1 + (i - k) ≡ 1 + i - k = omega arith in
            let f : 1 + (i - k) - k ≡ 1 + i - (k + k) = omega arith in
            let same : ones_right_of (1 + (i - k)) n ≡ ones_right_of (1 + i - k) n = ap (λ (j : ℕ). ones_right_of j n) e in
            let last : ones_right_of (1 + (i - k) - k) n ≡ ones_right_of (1 + i - (k + k)) n = ap (λ (j : ℕ). ones_right_of j n) f in
            omega (arith, both, cut, own, moved, other, same, last)
      ];
}

abbrev doubled : ℕ → ℕ → ℕ
doubled k x = bit_xor x (x * 2 ^ k % 65536)

pub parities_is : (n : ℕ) → n < 2 ^ 16 → doubled 8 (doubled 4 (doubled 2 (doubled 1 n))) ≡ parities_in n
unfolding parities_in
parities_is n bound =
    let runs = longer_runs 8 n _ (longer_runs 4 n _ (longer_runs 2 n _ (longer_runs 1 n _ (single_runs n bound)))) in
    from_digits 16 _ _ runs.bound (λ i low.
    let e : 1 + i - 16 ≡ 0 = omega arith in
    let none : ones_right_of (1 + i - 16) n ≡ ones_right_of 0 n = ap (λ (j : ℕ). ones_right_of j n) e in
    let f : 1 + i ≡ i + 1 = omega arith in
    let same : ones_right_of (1 + i) n ≡ ones_right_of (i + 1) n = ap (λ (j : ℕ). ones_right_of j n) f in
    omega (arith, runs.digit i low, none, none_right_of_0 n, same))
