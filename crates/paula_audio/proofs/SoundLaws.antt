-- A level is at least -128 and at most 127.
use Rattle.std.proofs.Common.{◌≡◌, ap, ◌∙◌, ℕ, zero, suc, ◌+◌, ◌*◌, ◌/◌, ◌<◌, ◌≤◌, arith, ℤ, pos, negsuc, neg_ℤ, ◌*ℤ◌, ◌≤ℤ◌}
use Rattle.std.proofs.Math.IntN.{*ℤ-zero, negsuc-*ℤ-pos}
use Rattle.std.proofs.lemmas.Int.{ints}
use Rattle.std.specs.Int.{int_div_euclid}
use Rattle.paula_audio.specs.Sound.{signed_byte}

product_most : (m v : ℕ) → v ≤ 64 → m * v ≤ m * 64
product_most m v few = grind arith

quotient_most : (m v : ℕ) → v ≤ 64 → m * v / 64 ≤ m
quotient_most m v few = let most = product_most m v few in omega (arith, most)

negative_product : (m v : ℕ) → negsuc m *ℤ pos (suc v) ≡ negsuc (m * suc v + v)
negative_product m v =
    let next : suc m * suc v ≡ suc (m * suc v + v) = grind arith in
    negsuc-*ℤ-pos m (suc v) ∙ ap (λ (n : ℕ). neg_ℤ (pos n)) next

negative_level : (m v : ℕ) → m ≤ 127 → v ≤ 64 → (negsuc 127 ≤ℤ int_div_euclid (negsuc m *ℤ pos v) (pos 64))
negative_level m zero small few = rw (*ℤ-zero (negsuc m)) (omega (arith, ints))
negative_level m (suc v) small few =
    let most : m * suc v ≤ m * 64 = product_most m (suc v) few in
    let below : (m * suc v + v) / 64 ≤ 127 = omega (arith, most) in
    rw (negative_product m v) (omega (arith, ints, below))

negative_below : (m v : ℕ) → int_div_euclid (negsuc m *ℤ pos v) (pos 64) ≤ℤ pos 127
negative_below m zero = rw (*ℤ-zero (negsuc m)) (omega (arith, ints))
negative_below m (suc v) = rw (negative_product m v) (omega (arith, ints))

pub level_least : (s : ℤ) (v : ℕ) → negsuc 127 ≤ℤ s → v ≤ 64 → negsuc 127 ≤ℤ int_div_euclid (s *ℤ pos v) (pos 64)
level_least (pos m) v least few = omega (arith, ints)
level_least (negsuc m) v least few = negative_level m v (omega (arith, ints, least)) few

pub level_most : (s : ℤ) (v : ℕ) → s ≤ℤ pos 127 → v ≤ 64 → int_div_euclid (s *ℤ pos v) (pos 64) ≤ℤ pos 127
level_most (pos m) v most few = let quotient = quotient_most m v few in omega (arith, ints, most, quotient)
level_most (negsuc m) v most few = negative_below m v

-- of a byte's number and a volume
pub record IsLevel (z : ℤ) : Type 0 where
  pub least : negsuc 127 ≤ℤ z
  pub most : z ≤ℤ pos 127

signed_least : (byte : ℕ) → byte < 256 → negsuc 127 ≤ℤ signed_byte byte
signed_least byte below = grind (arith, ints)

signed_most : (byte : ℕ) → byte < 256 → signed_byte byte ≤ℤ pos 127
signed_most byte below = grind (arith, ints)

pub is_level : (byte v : ℕ) → byte < 256 → v ≤ 64 → IsLevel (int_div_euclid (signed_byte byte *ℤ pos v) (pos 64))
is_level byte v below few = record {
  least = level_least (signed_byte byte) v (signed_least byte below) few;
  most = level_most (signed_byte byte) v (signed_most byte below) few;
}
