-- A number of some bits, rotated to the left.
use Rattle.std.proofs.Common.{◌≡◌, ℕ, ◌+◌, ◌-◌, ◌*◌, ◌/◌, ◌%◌, ◌^◌, ◌<◌, ◌≤◌, bit_and, bit_or, arith, sym, pow-add}
use Rattle.std.proofs.lemmas.Nat.{one_shl, and_mask, or_shifted, pow_pos, mod_below, shl-shr, shr-shr, shr_below, mod-pow-add, mod_low, mul-add-lt}
use Rattle.m68k_decode.specs.ResultsShifts.{rotated}

-- the low bits, moved up
raised : (w n k : ℕ) → k ≤ w → n * 2 ^ k % 2 ^ w ≡ n % 2 ^ (w - k) * 2 ^ k
raised w n k h =
    let e : w - k + k ≡ w = omega arith in
    let split : n * 2 ^ k % 2 ^ (w - k + k) ≡ (n * 2 ^ k / 2 ^ k % 2 ^ (w - k)) * 2 ^ k + n * 2 ^ k % 2 ^ k = mod-pow-add (n * 2 ^ k) (w - k) k in
    let none : (n * 2 ^ k + 0) % 2 ^ k ≡ 0 = mod_low n k 0 (pow_pos k) in
    let same : n * 2 ^ k + 0 ≡ n * 2 ^ k = omega arith in
    let zero : n * 2 ^ k % 2 ^ k ≡ 0 = rw same at none in
    let whole = rw (e, shl-shr, zero) at split in
    omega arith

-- the high bits, moved down
lowered : (w n k : ℕ) → k ≤ w → n * 2 ^ k / 2 ^ w ≡ n / 2 ^ (w - k)
lowered w n k h =
    let e : k + (w - k) ≡ w = omega arith in
    let split : n * 2 ^ k / 2 ^ k / 2 ^ (w - k) ≡ n * 2 ^ k / 2 ^ (k + (w - k)) = shr-shr (n * 2 ^ k) k (w - k) in
    let whole = rw (shl-shr, e) at split in
    sym whole

cut_twice : (w x : ℕ) → w ≤ 64 → x % 18446744073709551616 % 2 ^ w ≡ x % 2 ^ w
cut_twice w x h =
    let e : 64 - w + w ≡ 64 = omega arith in
    let split : x % 2 ^ (64 - w + w) ≡ (x / 2 ^ w % 2 ^ (64 - w)) * 2 ^ w + x % 2 ^ w = mod-pow-add x (64 - w) w in
    let whole : x % 18446744073709551616 ≡ (x / 2 ^ w % 2 ^ (64 - w)) * 2 ^ w + x % 2 ^ w = rw e at split in
    rw whole (mod_low (x / 2 ^ w % 2 ^ (64 - w)) w (x % 2 ^ w) (mod_below x (2 ^ w) (pow_pos w)))

high_below : (w n k : ℕ) → k ≤ w → n < 2 ^ w → n / 2 ^ (w - k) < 2 ^ k
high_below w n k h below =
    let e : k + (w - k) ≡ w = omega arith in
    let b : n < 2 ^ (k + (w - k)) = rw e below in shr_below n k (w - k) b

pub rotated_is : (w n k : ℕ) → w ≤ 33 → k ≤ w → n < 2 ^ w
    → bit_or (bit_and (n * 2 ^ k % 18446744073709551616) (1 * 2 ^ w % 18446744073709551616 - 1)) (n / 2 ^ (w - k)) ≡ rotated w k n
rotated_is w n k wide within below =
    let narrow : w < 64 = omega arith in
    let most : w ≤ 64 = omega arith in
    let one : 1 * 2 ^ w % 18446744073709551616 ≡ 2 ^ w = one_shl w 64 narrow in
    let joined : bit_or (n % 2 ^ (w - k) * 2 ^ k) (n / 2 ^ (w - k)) ≡ n % 2 ^ (w - k) * 2 ^ k + n / 2 ^ (w - k) =
    or_shifted (n % 2 ^ (w - k)) k (n / 2 ^ (w - k)) (high_below w n k within below) in
    rw (one, and_mask, cut_twice w (n * 2 ^ k) most, raised w n k within, lowered w n k within) joined

pub rotated_below : (w n k : ℕ) → k ≤ w → n < 2 ^ w → rotated w k n < 2 ^ w
rotated_below w n k within below =
    let e : k + (w - k) ≡ w = omega arith in
    let p : 2 ^ (k + (w - k)) ≡ 2 ^ k * 2 ^ (w - k) = pow-add 2 k (w - k) in
    let whole : 2 ^ w ≡ 2 ^ k * 2 ^ (w - k) = rw e at p in
    let it : n % 2 ^ (w - k) * 2 ^ k + n / 2 ^ (w - k) < 2 ^ k * 2 ^ (w - k) =
    mul-add-lt (n % 2 ^ (w - k)) (2 ^ k) (n / 2 ^ (w - k)) (2 ^ (w - k)) (mod_below n (2 ^ (w - k)) (pow_pos (w - k))) (high_below w n k within below) in
    omega (arith, raised w n k within, lowered w n k within)

pub joined_below : (w n k : ℕ) → w ≤ 33 → k ≤ w → n < 2 ^ w
    → bit_or (bit_and (n * 2 ^ k % 18446744073709551616) (1 * 2 ^ w % 18446744073709551616 - 1)) (n / 2 ^ (w - k)) < 2 ^ w
joined_below w n k wide within below = rw (rotated_is w n k wide within below) (rotated_below w n k within below)
