-- Sums modulo a span, of which one part was taken modulo it already.
use Rattle.std.proofs.Common.{arith, ◌≡◌, ℕ, suc, ◌+◌, ◌*◌, ◌%◌, ℤ, pos, negsuc, ◌+ℤ◌, unsigned_abs, sym, ap, ◌∙◌, refl}
use Rattle.std.specs.Int.{int_rem_euclid}
use Rattle.std.proofs.lemmas.Int.{ints, int_rem_euclid_is}
use Rattle.std.proofs.Math.Nat.{mod-add-mod}

-- a number raised by as many spans as it is great
abbrev lift : ℕ → ℤ → ℕ
lift m (pos a) = a + a * suc m
lift m (negsuc a) = suc a * m

lift_is : (m : ℕ) (z : ℤ) → z +ℤ pos (unsigned_abs z * suc m) ≡ pos (lift m z)
lift_is m (pos a) = refl
lift_is m (negsuc a) = omega (arith, ints)

pub rem_is : (m : ℕ) (z : ℤ) → int_rem_euclid z (pos (suc m)) ≡ pos (lift m z % suc m)
rem_is m z = int_rem_euclid_is z (pos (suc m)) (suc m) (unsigned_abs z) (lift m z) (omega arith) refl (lift_is m z)

pub rem_add_any : (m : ℕ) (z y : ℤ) → int_rem_euclid (int_rem_euclid z (pos (suc m)) +ℤ y) (pos (suc m)) ≡ int_rem_euclid (z +ℤ y) (pos (suc m))
rem_add_any m z y =
    let a : ℕ = lift m z in
    let b : ℕ = lift m y in
    let first = ap (λ (x : ℤ). int_rem_euclid (x +ℤ y) (pos (suc m))) (rem_is m z) in
    let y_is = lift_is m y in
    let z_is = lift_is m z in
    let left : (pos (a % suc m) +ℤ y) +ℤ pos (unsigned_abs y * suc m) ≡ pos (a % suc m + b) = omega (arith, ints, y_is) in
    let right : (z +ℤ y) +ℤ pos ((unsigned_abs z + unsigned_abs y) * suc m) ≡ pos (a + b) = omega (arith, ints, y_is, z_is) in
    first
    ∙ int_rem_euclid_is (pos (a % suc m) +ℤ y) (pos (suc m)) (suc m) (unsigned_abs y) (a % suc m + b) (omega arith) refl left
    ∙ ap pos (mod-add-mod a (suc m) b)
    ∙ sym (int_rem_euclid_is (z +ℤ y) (pos (suc m)) (suc m) (unsigned_abs z + unsigned_abs y) (a + b) (omega arith) refl right)
