-- A rotation by one more is one step.
use Rattle.std.proofs.Common.{◌≡◌, ℕ, ◌+◌, ◌-◌, ◌*◌, ◌/◌, ◌%◌, ◌^◌, ◌<◌, ◌≤◌, ◌≢◌, arith, refl, sym, ◌∙◌, inl, inr, pow-add}
use Rattle.std.proofs.lemmas.Bool.{cases_eq}
use Rattle.m68k_opcodes.specs.declared.operand.Size.{Size}
use Rattle.m68k_opcodes.specs.declared.operand.Size.TheVariants.{Byte, Word, Long}
use Rattle.m68k_decode.specs.Results.{bits, span, low}
use Rattle.m68k_decode.specs.ResultsShifts.{rotated, rotated_left, rotated_right, one_left, one_right, GoesByStep}
use Rattle.m68k_alu.proofs.Rotating.{rotated_below}

twice : (n k : ℕ) → n * 2 ^ (1 + k) ≡ n * 2 ^ k * 2
twice n k =
    let p : 2 ^ (1 + k) ≡ 2 ^ 1 * 2 ^ k = pow-add 2 1 k in rw p (omega arith)

-- x * 2, folded into the size, is the folded x after one step
folded : (s : Size) (x : ℕ) → x * 2 % span s + x * 2 / span s < span s → x * 2 % span s + x * 2 / span s ≡ one_left s (x % span s + x / span s)
folded Byte x h = omega arith
folded Word x h = omega arith
folded Long x h = omega arith

span_is : (s : Size) → 2 ^ bits s ≡ span s
span_is Byte = refl
span_is Word = refl
span_is Long = refl

below : (s : Size) (n k : ℕ) → k ≤ bits s → n < span s → rotated (bits s) k n < span s
below Byte n k h small = rotated_below 8 n k h small
below Word n k h small = rotated_below 16 n k h small
below Long n k h small = rotated_below 32 n k h small

next : (s : Size) (n k : ℕ) → 1 + k ≤ bits s → n < span s → rotated (bits s) (1 + k) n ≡ one_left s (rotated (bits s) k n)
next s n k h small =
    let b : rotated (bits s) (1 + k) n < span s = below s n (1 + k) h small in
    let b' = rw (twice n k, span_is s) at b in
    rw (twice n k, span_is s) (folded s (n * 2 ^ k) b')

none : (s : Size) (n : ℕ) → n < span s → rotated (bits s) 0 n ≡ n
none Byte n h = omega arith
none Word n h = omega arith
none Long n h = omega arith

all : (s : Size) (n : ℕ) → rotated (bits s) (bits s) n ≡ n
all Byte n = omega arith
all Word n = omega arith
all Long n = omega arith

back : (s : Size) (n : ℕ) → n < span s → one_right s (one_left s n) ≡ n
back Byte n h = omega arith
back Word n h = omega arith
back Long n h = omega arith

-- the count modulo the bits, one on
count_next : (s : Size) (k : ℕ) → 1 + k % bits s ≢ bits s → (1 + k) % bits s ≡ 1 + k % bits s
count_next Byte k h = omega arith
count_next Word k h = omega arith
count_next Long k h = omega arith

count_over : (s : Size) (k : ℕ) → 1 + k % bits s ≡ bits s → (1 + k) % bits s ≡ 0
count_over Byte k h = omega arith
count_over Word k h = omega arith
count_over Long k h = omega arith

count_within : (s : Size) (k : ℕ) → 1 + k % bits s ≤ bits s
count_within Byte k = omega arith
count_within Word k = omega arith
count_within Long k = omega arith

no_count : (s : Size) → 0 % bits s ≡ 0
no_count Byte = refl
no_count Word = refl
no_count Long = refl

low_below : (s : Size) (n : ℕ) → low s n < span s
low_below Byte n = omega arith
low_below Word n = omega arith
low_below Long n = omega arith

left_next : (s : Size) (n k : ℕ) → n < span s → rotated_left s n (1 + k) ≡ one_left s (rotated_left s n k)
left_next s n k small =
    elim (cases_eq (1 + k % bits s) (bits s)) [
      | inl e ↦ (let over : 1 + k % bits s ≡ bits s = e in
          let step : rotated (bits s) (1 + k % bits s) n ≡ one_left s (rotated (bits s) (k % bits s) n) = next s n (k % bits s) (count_within s k) small in
          let whole = rw (over, all s n) at step in
          rw (count_over s k over, none s n small) whole)
      | inr o ↦ (let other : 1 + k % bits s ≢ bits s = o in
          rw (count_next s k other) (next s n (k % bits s) (count_within s k) small))
    ]

pub left_goes : (s : Size) (a : ℕ) → GoesByStep (rotated_left s (low s a)) (one_left s) (low s a)
left_goes s a =
    (rw (no_count s) (none s (low s a) (low_below s a)), λ k. left_next s (low s a) k (low_below s a))

-- to the right by k and one more is to the left by j, where that by k is to the left by j and one more
right_next : (s : Size) (n k : ℕ) → n < span s → rotated_right s n (1 + k) ≡ one_right s (rotated_right s n k)
right_next s n k small =
    let within : 1 + k % bits s ≤ bits s = count_within s k in
    let j : ℕ = bits s - (1 + k % bits s) in
    let most : 1 + j ≤ bits s = omega arith in
    let less : j ≤ bits s = omega arith in
    let from : bits s - k % bits s ≡ 1 + j = omega arith in
    let step : rotated (bits s) (1 + j) n ≡ one_left s (rotated (bits s) j n) = next s n j most small in
    let here : rotated (bits s) j n ≡ one_right s (rotated (bits s) (1 + j) n) = sym (rw step (back s (rotated (bits s) j n) (below s n j less small))) in
    let there : rotated (bits s) (bits s - (1 + k) % bits s) n ≡ rotated (bits s) j n =
    elim (cases_eq (1 + k % bits s) (bits s)) [
      | inl e ↦ (let over : 1 + k % bits s ≡ bits s = e in
          let zero : j ≡ 0 = omega arith in
          let whole : bits s - 0 ≡ bits s = omega arith in
          rw (count_over s k over, zero, whole) (all s n ∙ sym (none s n small)))
      | inr o ↦ (let other : 1 + k % bits s ≢ bits s = o in
          rw (count_next s k other) refl)
    ] in
    there ∙ rw from here

pub right_goes : (s : Size) (a : ℕ) → GoesByStep (rotated_right s (low s a)) (one_right s) (low s a)
right_goes s a =
    let whole : bits s - 0 ≡ bits s = omega arith in
    (rw (no_count s, whole) (all s (low s a)), λ k. right_next s (low s a) k (low_below s a))
