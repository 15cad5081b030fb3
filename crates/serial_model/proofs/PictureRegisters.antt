-- Denise's registers, as the code tests for them: computed over all offsets.
use Rattle.std.proofs.Common.{◌≡◌, ℕ, Bool, ◌*◌, ◌/◌, ◌%◌, ◌<◌, ◌==◌, ◌&&◌, ◌||◌, nat_le, List, get_or, map, refl, ap, sym, ◌∙◌, arith}
use Rattle.std.specs.List.{range_with_len}
use Rattle.std.proofs.lemmas.List.FromFn.{get_or-map-range_with_len}
use Rattle.serial_model.specs.RegisterTable.{rows, row_at}
use Rattle.serial_model.specs.Registers.{is_picture_register}

-- a test's values at all registers
abbrev at_all : (ℕ → Bool) → List Bool
at_all f = map (λ k. f (2 * k)) (range_with_len 0 256)

from_all : (f : ℕ → Bool) (n : ℕ) → n % 2 ≡ 0 → n < 512 → get_or (at_all f) (n / 2) (f 0) ≡ f n
from_all f n even below =
    let e : 2 * (n / 2) ≡ n = omega arith in
    get_or-map-range_with_len (λ k. f (2 * k)) 0 256 (n / 2) (n / 2) (f 0) (omega arith) (omega arith) ∙ ap f e

law : (f g : ℕ → Bool) → at_all f ≡ at_all g → f 0 ≡ g 0 → (n : ℕ) → n % 2 ≡ 0 → n < 512 → f n ≡ g n
law f g same first n even below =
    sym (from_all f n even below) ∙ ap (λ l. get_or l (n / 2) (f 0)) same ∙ ap (λ d. get_or (at_all g) (n / 2) d) first ∙ from_all g n even below

abbrev is_within : ℕ → ℕ → ℕ → Bool
is_within low high n = nat_le low n && nat_le n high

abbrev found : ℕ → Bool
found n = (n == 0x08e) || (n == 0x090) || (n == 0x098) || is_within 0x100 0x104 n || is_within 0x110 0x11a n || is_within 0x140 0x17e n
    || is_within 0x180 0x1be n

agree : at_all is_picture_register ≡ at_all found
unfolding is_picture_register row_at rows
agree = refl

pub picture_law : (n : ℕ) → n % 2 ≡ 0 → n < 512 → is_picture_register n ≡ found n
unfolding is_picture_register row_at rows
picture_law = law is_picture_register found agree refl
