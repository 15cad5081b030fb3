-- Shifts of numbers below 2 ^ 32.
use Rattle.std.proofs.Common.{◌≡◌, ℕ, zero, suc, ◌+◌, ◌-◌, ◌*◌, ◌/◌, ◌%◌, ◌^◌, ◌<◌, ◌≤◌, min, nat_lt}
use Rattle.std.proofs.Common.{nat_le, arith, refl, inl, inr, ◌∙◌, sym, pow-add, rules, lt-ltb, le-ltb, le-leb}
use Rattle.std.proofs.lemmas.Nat.{shl_whole, shl-shr, pow_pos, mul-le}
use Rattle.std.proofs.lemmas.Bool.{cases_lt}
use Rattle.std.proofs.lemmas.Int.{ints}
use Rattle.m68k_opcodes.specs.declared.operand.Size.{Size}
use Rattle.m68k_opcodes.specs.declared.operand.Size.TheVariants.{Byte, Word, Long}
use Rattle.m68k_decode.specs.Results.{span, half}
use Rattle.m68k_decode.specs.ResultsShifts.{shifted_left, top_bit_changes}

-- `number << count.min(32)` loses nothing
pub wide_is : (n k : ℕ) → n < 4294967296 → n * 2 ^ min k 32 % 18446744073709551616 ≡ n * 2 ^ min k 32
wide_is n k h =
    let room : 32 + min k 32 ≤ 64 = omega arith in shl_whole n 32 (min k 32) 64 h room

-- a shift by w or more is one by w after another
far : (w n k : ℕ) → w ≤ k → n * 2 ^ k ≡ n * 2 ^ (k - w) * 2 ^ w
far w n k h =
    let e : k - w + w ≡ k = omega arith in
    let p : 2 ^ (k - w + w) ≡ 2 ^ (k - w) * 2 ^ w = pow-add 2 (k - w) w in
    let q : 2 ^ k ≡ 2 ^ (k - w) * 2 ^ w = rw e at p in
    rw q (omega arith)

-- What holds of a shift and itself, and of a shift by 32 and a farther one, holds of a shift by a count cut to 32 and
-- one by the count.
by_count : (P : ℕ → ℕ → Type 0) (m k : ℕ) → ((x : ℕ) → P x x)
    → ((j : ℕ) → P (m * 4294967296) (m * 2 ^ j * 4294967296)) → P (m * 2 ^ min k 32) (m * 2 ^ k)
by_count P m k same farther =
    elim (cases_lt k 33) [
      | inl small ↦ (let below : k < 33 = small in
          let whole : min k 32 ≡ k = omega arith in
          rw whole (same (m * 2 ^ k)))
      | inr large ↦ (let above : 33 ≤ k = large in
          let cut : min k 32 ≡ 32 = omega arith in
          let less : 32 ≤ k = omega arith in
          let f : m * 2 ^ k ≡ m * 2 ^ (k - 32) * 4294967296 = far 32 m k less in
          rw (cut, f) (farther (k - 32)))
    ]

-- ---- to the left

-- the low bits of a size are among the low 32
low_of_long : (s : Size) (x : ℕ) → x % 4294967296 % span s ≡ x % span s
low_of_long Byte x = omega arith
low_of_long Word x = omega arith
low_of_long Long x = omega arith

-- none of them is left after a shift by 32
all_out : (s : Size) (x : ℕ) → x * 4294967296 % span s ≡ 0
all_out Byte x = omega arith
all_out Word x = omega arith
all_out Long x = omega arith

pub left_is : (s : Size) (n k : ℕ) → n * 2 ^ min k 32 % 4294967296 % span s ≡ shifted_left s n k
left_is s n k =
    by_count (λ a b. a % 4294967296 % span s ≡ b % span s) n k (low_of_long s)
    (λ j. low_of_long s (n * 4294967296) ∙ all_out s n ∙ sym (all_out s (n * 2 ^ j)))

pub last_within : (w n k : ℕ) → w ≤ 32 → k ≤ w → n * 2 ^ min k 32 ≡ n * 2 ^ k
last_within w n k h below =
    let m : min k 32 ≡ k = omega arith in rw m refl

pub last_beyond : (w n k : ℕ) → w < k → n * 2 ^ k / 2 ^ w % 2 ≡ 0
last_beyond w n k h =
    let less : w ≤ k = omega arith in
    let j : ℕ = k - w - 1 in
    let e : k - w ≡ 1 + j = omega arith in
    let f : n * 2 ^ k ≡ n * 2 ^ (k - w) * 2 ^ w = far w n k less in
    let p : 2 ^ (1 + j) ≡ 2 ^ 1 * 2 ^ j = pow-add 2 1 j in
    rw (f, shl-shr, e, p) (omega arith)

-- ---- the top bit

pub positive_top : (s : Size) (n k : ℕ) → n < half s → top_bit_changes s n k ≡ nat_le (half s) (n * 2 ^ k)
positive_top Byte n k h = rw (lt-ltb n 128 h) (search rules)
positive_top Word n k h = grind (arith, ints)
positive_top Long n k h = rw (lt-ltb n 2147483648 h) (grind arith)

pub negative_top : (s : Size) (n k : ℕ) → half s ≤ n → n < span s → top_bit_changes s n k ≡ nat_lt (half s) ((span s - n) * 2 ^ k)
negative_top Byte n k h below = rw (le-ltb n 128 h) (search rules)
negative_top Word n k h below = rw (le-ltb n 32768 h) (grind (arith, ints))
negative_top Long n k h below = rw (le-ltb n 2147483648 h) (search rules)

-- for a bound up to 2 ^ 32 a shift by more than 32 is as one by 32
at_least_far : (h m j : ℕ) → 0 < h → h ≤ 4294967296 → nat_le h (m * 4294967296) ≡ nat_le h (m * 2 ^ j * 4294967296)
at_least_far h zero j some bound =
    let none : 0 * 2 ^ j * 4294967296 ≡ 0 = omega arith in rw none refl
at_least_far h (suc m) j some bound =
    let one : 1 ≤ suc m * 2 ^ j = mul-le 1 1 (suc m) (2 ^ j) (omega arith) (pow_pos j) in
    let left : h ≤ suc m * 4294967296 = omega arith in
    let right : h ≤ suc m * 2 ^ j * 4294967296 = omega arith in
    le-leb h (suc m * 4294967296) left ∙ sym (le-leb h (suc m * 2 ^ j * 4294967296) right)

at_least : (h m k : ℕ) → 0 < h → h ≤ 4294967296 → nat_le h (m * 2 ^ min k 32) ≡ nat_le h (m * 2 ^ k)
at_least h m k some bound =
    by_count (λ a b. nat_le h a ≡ nat_le h b) m k (λ x. refl) (λ j. at_least_far h m j some bound)

half_bounds : (s : Size) → (0 < half s) × (half s < 4294967296)
half_bounds Byte = (omega arith, omega arith)
half_bounds Word = (omega arith, omega arith)
half_bounds Long = (omega arith, omega arith)

-- so the tests of `sign_changes` do not see the cut

pub positive_is : (s : Size) (n k : ℕ) → n < half s → nat_le (half s) (n * 2 ^ min k 32) ≡ top_bit_changes s n k
positive_is s n k h =
    let b : half s < 4294967296 = (half_bounds s).1 in
    at_least (half s) n k (half_bounds s).0 (omega arith) ∙ sym (positive_top s n k h)

pub negative_is : (s : Size) (n k : ℕ) → half s ≤ n → n < span s
    → nat_lt (half s) ((span s - n) * 2 ^ min k 32) ≡ top_bit_changes s n k
negative_is s n k h below =
    let b : half s < 4294967296 = (half_bounds s).1 in
    at_least (suc (half s)) (span s - n) k (omega arith) (omega arith) ∙ sym (negative_top s n k h below)
