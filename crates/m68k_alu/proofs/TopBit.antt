-- The top bit in the steps of a shift to the left.
use Rattle.std.proofs.Common.{◌≡◌, ℕ, zero, suc, ◌+◌, ◌-◌, ◌*◌, ◌%◌, ◌^◌, ◌<◌, ◌≤◌, ◌↔◌, Bool, true, false, arith, refl, inl, inr, ◌∙◌, sym, le-leb, true≢false}
use Rattle.std.specs.Prelude.{IsTrue}
use Rattle.std.proofs.Math.Nat.{pow-suc, mul-le-mul_left}
use Rattle.std.proofs.Math.Pow.{pow_mono}
use Rattle.std.proofs.lemmas.Bool.{cases_lt, lt-leb, leb-true, leb-false, ltb-true, ltb-false}
use Rattle.m68k_opcodes.specs.declared.operand.Size.{Size}
use Rattle.m68k_opcodes.specs.declared.operand.Size.TheVariants.{Byte, Word, Long}
use Rattle.m68k_decode.specs.Results.{low, span, half, is_negative}
use Rattle.m68k_decode.specs.ResultsShifts.{shifted_left, top_bit_changes, ChangesAtSomeStep}
use Rattle.m68k_alu.proofs.Shifting.{positive_top, negative_top}

-- ---- the top bit of x, which is a number of the size or less than one below a multiple of the span

clear_within : (s : Size) (x : ℕ) → x < half s → is_negative s (x % span s) ≡ false
clear_within Byte x h = grind arith
clear_within Word x h = grind arith
clear_within Long x h = grind arith

set_beyond : (s : Size) (x : ℕ) → half s ≤ x → x < half s + half s → is_negative s (x % span s) ≡ true
set_beyond Byte x h below = grind arith
set_beyond Word x h below = grind arith
set_beyond Long x h below = grind arith

set_within : (s : Size) (x y p : ℕ) → x + y ≡ span s * p → 0 < y → y ≤ half s → is_negative s (x % span s) ≡ true
set_within Byte x y p e some h = grind arith
set_within Word x y p e some h = grind arith
set_within Long x y p e some h = grind arith

clear_beyond : (s : Size) (x y p : ℕ) → x + y ≡ span s * p → half s < y → y ≤ half s + half s → is_negative s (x % span s) ≡ false
clear_beyond Byte x y p e h below = grind arith
clear_beyond Word x y p e h below = grind arith
clear_beyond Long x y p e h below = grind arith

halves : (s : Size) → half s + half s ≡ span s
halves Byte = refl
halves Word = refl
halves Long = refl

less_at : (n j k : ℕ) → j ≤ k → n * 2 ^ j ≤ n * 2 ^ k
less_at n j k h = mul-le-mul_left n (pow_mono h)

doubled : (n k : ℕ) → n * 2 ^ suc k ≡ n * 2 ^ k + n * 2 ^ k
doubled n k = rw (pow-suc 2 k) (omega arith)

-- ---- a number with a clear top bit

positive_found : (s : Size) (n k : ℕ) → n < half s → half s ≤ n * 2 ^ k → ChangesAtSomeStep s n k
positive_found s n zero h out = (let none : ⊥ = omega arith in absurd none)
positive_found s n (suc k) h out =
    elim (cases_lt (n * 2 ^ k) (half s)) [
      | inl w ↦ (let within : n * 2 ^ k < half s = w in
          let d : n * 2 ^ suc k ≡ n * 2 ^ k + n * 2 ^ k = doubled n k in
          let below : n * 2 ^ suc k < half s + half s = omega arith in
          let set : is_negative s (shifted_left s n (suc k)) ≡ true = set_beyond s (n * 2 ^ suc k) out below in
          let clear : is_negative s n ≡ false = lt-leb (half s) n h in
          (suc k, (omega arith, λ same. true≢false (sym set ∙ same ∙ clear))))
      | inr o ↦ (let earlier : half s ≤ n * 2 ^ k = o in
          let r : ChangesAtSomeStep s n k = positive_found s n k h earlier in
          let b : r.0 ≤ k = r.1.0 in
          (r.0, (omega arith, r.1.1)))
    ]

positive_kept : (s : Size) (n k j : ℕ) → n < half s → n * 2 ^ k < half s → j ≤ k → is_negative s (shifted_left s n j) ≡ is_negative s n
positive_kept s n k j h within step =
    let l : n * 2 ^ j ≤ n * 2 ^ k = less_at n j k step in
    let still : n * 2 ^ j < half s = omega arith in
    clear_within s (n * 2 ^ j) still ∙ sym (lt-leb (half s) n h)

-- ---- a number with a set top bit, which is m below the span

negative_sum : (s : Size) (n k : ℕ) → n < span s → n * 2 ^ k + (span s - n) * 2 ^ k ≡ span s * 2 ^ k
negative_sum s n k below =
    let m : ℕ = span s - n in
    let e : n + m ≡ span s = omega arith in
    let it : n * 2 ^ k + m * 2 ^ k ≡ (n + m) * 2 ^ k = omega arith in
    rw e at it

positive_product : (m k : ℕ) → 0 < m → 0 < m * 2 ^ k
positive_product m k h =
    let z : 0 ≤ k = omega arith in
    let l : m * 2 ^ 0 ≤ m * 2 ^ k = less_at m 0 k z in omega arith

negative_found : (s : Size) (n k : ℕ) → half s ≤ n → n < span s → half s < (span s - n) * 2 ^ k → ChangesAtSomeStep s n k
negative_found s n zero h below out =
    (let e : half s + half s ≡ span s = halves s in
    let none : ⊥ = omega arith in absurd none)
negative_found s n (suc k) h below out =
    elim (cases_lt (half s) ((span s - n) * 2 ^ k)) [
      | inl o ↦ (let earlier : half s < (span s - n) * 2 ^ k = o in
          let r : ChangesAtSomeStep s n k = negative_found s n k h below earlier in
          let b : r.0 ≤ k = r.1.0 in
          (r.0, (omega arith, r.1.1)))
      | inr w ↦ (let within : (span s - n) * 2 ^ k ≤ half s = w in
          let d : (span s - n) * 2 ^ suc k ≡ (span s - n) * 2 ^ k + (span s - n) * 2 ^ k = doubled (span s - n) k in
          let most : (span s - n) * 2 ^ suc k ≤ half s + half s = omega arith in
          let clear : is_negative s (shifted_left s n (suc k)) ≡ false =
          clear_beyond s (n * 2 ^ suc k) ((span s - n) * 2 ^ suc k) (2 ^ suc k) (negative_sum s n (suc k) below) out most in
          let set : is_negative s n ≡ true = le-leb (half s) n h in
          (suc k, (omega arith, λ same. true≢false (sym set ∙ sym same ∙ clear))))
    ]

negative_kept : (s : Size) (n k j : ℕ) → half s ≤ n → n < span s → (span s - n) * 2 ^ k ≤ half s → j ≤ k → is_negative s (shifted_left s n j) ≡ is_negative s n
negative_kept s n k j h below within step =
    let l : (span s - n) * 2 ^ j ≤ (span s - n) * 2 ^ k = less_at (span s - n) j k step in
    let still : (span s - n) * 2 ^ j ≤ half s = omega arith in
    let some : 0 < span s - n = omega arith in
    set_within s (n * 2 ^ j) ((span s - n) * 2 ^ j) (2 ^ j) (negative_sum s n j below) (positive_product (span s - n) j some) still ∙ sym (le-leb (half s) n h)

-- ---- the two together

found : (s : Size) (n k : ℕ) → n < span s → top_bit_changes s n k ≡ true → ChangesAtSomeStep s n k
found s n k below t =
    elim (cases_lt n (half s)) [
      | inl p ↦ (let h : n < half s = p in
          positive_found s n k h (leb-true (half s) (n * 2 ^ k) (sym (positive_top s n k h) ∙ t)))
      | inr q ↦ (let h : half s ≤ n = q in
          negative_found s n k h below (ltb-true (half s) ((span s - n) * 2 ^ k) (sym (negative_top s n k h below) ∙ t)))
    ]

kept : (s : Size) (n k j : ℕ) → n < span s → top_bit_changes s n k ≡ false → j ≤ k → is_negative s (shifted_left s n j) ≡ is_negative s n
kept s n k j below t step =
    elim (cases_lt n (half s)) [
      | inl p ↦ (let h : n < half s = p in
          positive_kept s n k j h (leb-false (half s) (n * 2 ^ k) (sym (positive_top s n k h) ∙ t)) step)
      | inr q ↦ (let h : half s ≤ n = q in
          negative_kept s n k j h below (ltb-false (half s) ((span s - n) * 2 ^ k) (sym (negative_top s n k h below) ∙ t)) step)
    ]

only_true : (b : Bool) → (b ≡ false → ⊥) → b ≡ true
only_true true h = refl
only_true false h = absurd (h refl)

top_bit_changes_is : (s : Size) (n k : ℕ) → n < span s → IsTrue (top_bit_changes s n k) ↔ ChangesAtSomeStep s n k
top_bit_changes_is s n k below =
    (found s n k below, λ c. only_true (top_bit_changes s n k) (λ t. c.1.1 (kept s n k c.0 below t c.1.0)))

low_below : (s : Size) (n : ℕ) → low s n < span s
low_below Byte n = omega arith
low_below Word n = omega arith
low_below Long n = omega arith

-- as ASL has it
pub flag_is : (v : Bool) (s : Size) (a k : ℕ) → v ≡ top_bit_changes s (low s a) k → IsTrue v ↔ ChangesAtSomeStep s (low s a) k
flag_is v s a k e = rw e (top_bit_changes_is s (low s a) k (low_below s a))
