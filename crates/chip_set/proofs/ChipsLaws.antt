-- The pointers to the two Copper lists.
use Rattle.std.proofs.Common.{◌≡◌, ℕ, true, ap, ◌∙◌, refl}
use Rattle.serial_model.specs.RegisterTable.{rows, row_at, is_pointer_high}

pub first_list : (n : ℕ) → n ≡ 0x80 → is_pointer_high n ≡ true
unfolding row_at rows
first_list n is = ap (λ m. is_pointer_high m) is ∙ refl

pub second_list : (n : ℕ) → n ≡ 0x84 → is_pointer_high n ≡ true
unfolding row_at rows
second_list n is = ap (λ m. is_pointer_high m) is ∙ refl

-- and the blitter's pointers
pub pointer_a : (n : ℕ) → n ≡ 0x50 → is_pointer_high n ≡ true
unfolding row_at rows
pointer_a n is = ap (λ m. is_pointer_high m) is ∙ refl

pub pointer_b : (n : ℕ) → n ≡ 0x4c → is_pointer_high n ≡ true
unfolding row_at rows
pointer_b n is = ap (λ m. is_pointer_high m) is ∙ refl

pub pointer_c : (n : ℕ) → n ≡ 0x48 → is_pointer_high n ≡ true
unfolding row_at rows
pointer_c n is = ap (λ m. is_pointer_high m) is ∙ refl

pub pointer_d : (n : ℕ) → n ≡ 0x54 → is_pointer_high n ≡ true
unfolding row_at rows
pointer_d n is = ap (λ m. is_pointer_high m) is ∙ refl
