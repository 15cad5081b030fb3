-- Counting bits, place by place.
use Rattle.std.proofs.Common.{◌≡◌, ℕ, zero, suc, ◌+◌, ◌-◌, ◌*◌, ◌/◌, ◌%◌, ◌^◌, ◌==◌, ◌<◌, if◌then◌else◌, count_ones}
use Rattle.std.proofs.Common.{refl, ap, sym, ◌∙◌, arith}
use Rattle.std.proofs.Math.Nat.{pow-suc}
use Rattle.std.proofs.lemmas.Nat.{ones-le}
use Rattle.std.specs.Int.Bits.{block_half, block_odd}
use Rattle.std.specs.Int.Count.{ones_step}
use Rattle.m68k_decode.specs.RowWords.{ones, turns}

-- the 1 bits of the low places are those of what is left of the number without the places above them
ones_block : (k above low : ℕ) → low < 2 ^ k → ones k (above * 2 ^ k + low) ≡ count_ones low
unfolding ones
ones_block zero above low h = omega (arith, ones-le 0 low h)
ones_block (suc k) above low h =
    let half : low / 2 < 2 ^ k = omega (arith, h, pow-suc 2 k) in
    rw (block_odd above k low, block_half above k low, ones_block k above (low / 2) half) (sym (ones_step low))

pub ones_word : (n : ℕ) → count_ones (n % 0x10000) ≡ ones 16 n
ones_word n =
    let parts : n / 0x10000 * 0x10000 + n % 0x10000 ≡ n = omega arith in
    let low : n % 0x10000 < 2 ^ 16 = omega arith in
    sym (ones_block 16 (n / 0x10000) (n % 0x10000) low) ∙ ap (λ number. ones 16 number) parts

pub turns_none : (n : ℕ) → turns 0 n ≡ 0
unfolding turns
turns_none n = refl

pub turns_step : (k n : ℕ) → 0 < k → turns k n ≡ (if n % 2 == n / 2 % 2 then 0 else 1) + turns (k - 1) (n / 2)
unfolding turns
turns_step zero n h = absurd (omega arith)
turns_step (suc k) n h =
    let same : suc k - 1 ≡ k = omega arith in
    rw same refl

-- the pair of the lowest bit and the 0 behind it
pub turns_before_zero : (n : ℕ) → turns 16 (2 * n) ≡ n % 2 + turns 15 n
turns_before_zero n =
    let below : 2 * n % 2 ≡ 0 = omega arith in
    let above : 2 * n / 2 ≡ n = omega arith in
    let pair : (if 0 == n % 2 then 0 else 1) ≡ n % 2 = grind arith in
    rw (turns_step 16 (2 * n) (omega arith), below, above, pair) refl
