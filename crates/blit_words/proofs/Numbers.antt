-- A number and its binary digits.
use Rattle.std.proofs.Common.{arith, ◌≡◌, ℕ, zero, suc, ◌+◌, ◌*◌, ◌/◌, ◌%◌, ◌^◌, ◌<◌, sym, ap, ◌∙◌, pow-suc}
use Rattle.std.proofs.lemmas.Nat.Bits.{bit_at_lowest, bit_at-suc}
use Rattle.std.specs.Int.{bit_at}
use Rattle.blit_words.specs.BlitWords.{number_of}

-- a number whose digits these are is the number of them
pub from_digits : (w n : ℕ) (f : ℕ → ℕ) → n < 2 ^ w → ((i : ℕ) → i < w → bit_at n i ≡ f i) → n ≡ number_of w f
unfolding number_of
from_digits zero n f bound same = omega (arith, bound)
from_digits (suc w) n f bound same =
    let below : n / 2 < 2 ^ w = omega (arith, pow-suc 2 w) in
    let rest = from_digits w (n / 2) (λ i. f (suc i)) below (λ i low. sym (bit_at-suc n i) ∙ same (suc i) (omega arith)) in
    let lowest : n % 2 ≡ f 0 = sym (bit_at_lowest n) ∙ same 0 (omega arith) in
    omega (arith, rest, lowest)

-- the digits of the number of some digits are those
pub bit_of_number : (w : ℕ) (f : ℕ → ℕ) (i : ℕ) → ((j : ℕ) → f j < 2) → i < w → bit_at (number_of w f) i ≡ f i
unfolding number_of
bit_of_number zero f i digits low = omega arith
bit_of_number (suc w) f zero digits low = bit_at_lowest (f 0 + 2 * number_of w (λ i. f (suc i))) ∙ omega (arith, digits 0)
bit_of_number (suc w) f (suc i) digits low =
    let rest : ℕ = number_of w (λ j. f (suc j)) in
    let half : (f 0 + 2 * rest) / 2 ≡ rest = omega (arith, digits 0) in
    bit_at-suc (f 0 + 2 * rest) i
    ∙ ap (λ (n : ℕ). bit_at n i) half
    ∙ bit_of_number w (λ j. f (suc j)) i (λ j. digits (suc j)) (omega arith)

pub number_lt : (w : ℕ) (f : ℕ → ℕ) → ((j : ℕ) → f j < 2) → number_of w f < 2 ^ w
unfolding number_of
number_lt zero f digits = omega arith
number_lt (suc w) f digits = omega (arith, digits 0, number_lt w (λ i. f (suc i)) (λ j. digits (suc j)), pow-suc 2 w)
