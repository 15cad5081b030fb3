-- The bits of a few planes are a small number.
use Rattle.std.proofs.Common.{◌≡◌, ◌≤◌, ◌<◌, ◌^◌, ◌/◌, ◌%◌, ◌∙◌, ◌&&◌, ℕ, zero, suc, Bool, true}
use Rattle.std.proofs.Common.{false, List, [], ◌∷◌, length, get_or, min, nat_le, bit_and, sym, arith}
use Rattle.std.specs.Bool.{if◌then◌else◌}
use Rattle.std.proofs.Math.Pow.{pow_mono}
use Rattle.std.proofs.lemmas.Nat.Bits.{shr_and_one}
use Rattle.std.proofs.lemmas.Bool.Decides.{nat_tests}
use Rattle.priority_ham.specs.PlaneCount.{planes_of, is_hires}

pub below : (bits n k : ℕ) → n ≤ k → bits < 2 ^ n → bits < 2 ^ k
below bits n k le h =
    let more : 2 ^ n ≤ 2 ^ k = pow_mono le in
    omega arith

six_or_four : (n : ℕ) (hires : Bool) → min n (if hires then 4 else 6) ≤ 6
six_or_four n true = omega arith
six_or_four n false = omega arith

pub at_most_six : (con0 : ℕ) → planes_of con0 ≤ 6
at_most_six con0 = six_or_four (con0 / 2 ^ 12 % 8) (is_hires con0)

pub four_in_hires : (con0 : ℕ) → bit_and (con0 / 2 ^ 15) 1 ≡ 1 → planes_of con0 ≤ 4
four_in_hires con0 e =
    let hires : con0 / 2 ^ 15 % 2 ≡ 1 = sym (shr_and_one con0 15) ∙ e in
    grind (arith, nat_tests)

first_colour : (x : ℕ) (others : Bool) → (nat_le x 4095 && others) ≡ true → x ≤ 4095
first_colour x others e = grind (arith, nat_tests)

other_colours : (x : ℕ) (others : Bool) → (nat_le x 4095 && others) ≡ true → others ≡ true
other_colours x others e = grind (arith, nat_tests)

-- a list of colours, by a test of each
abbrev pub are_colours : List ℕ → Bool
are_colours [] = true
are_colours (x ∷ xs) = nat_le x 4095 && are_colours xs

pub are_colours-each : (xs : List ℕ) → are_colours xs ≡ true → (k d : ℕ) → k < length xs → get_or xs k d ≤ 4095
are_colours-each [] e k d h = absurd (omega arith)
are_colours-each (x ∷ xs) e zero d h = first_colour x (are_colours xs) e
are_colours-each (x ∷ xs) e (suc k) d h = are_colours-each xs (other_colours x (are_colours xs) e) k d (omega arith)
