-- The planes that speak against a match, as one mask.
use Rattle.std.proofs.Common.{◌≡◌, ℕ, ◌+◌, ◌*◌, ◌/◌, ◌%◌, ◌<◌, ◌&&◌, ◌||◌, nat_eq, min, max, bit_and, bit_or, ◌∙◌, ap, refl, arith}
use Rattle.std.specs.Int.{bit_at}
use Rattle.std.specs.Int.RustNames.{bit_xor}
use Rattle.std.proofs.lemmas.Nat.Bits.{and_pow, bit_at_and, bit_at_or, bit_at_xor, bit_at-lt}
use Rattle.std.proofs.lemmas.Bool.Decides.{nat_tests}
use Rattle.collisions.specs.Collision.{playfield_matches}

-- a plane speaks against a match where it is enabled and its bit is not the wanted one
one_plane : (e c b : ℕ) → e < 2 → c < 2 → b < 2 → nat_eq (min e ((c + b) % 2)) 0 ≡ (nat_eq e 0 || nat_eq b c)
one_plane e c b he hc hb = grind (arith, nat_tests)

none_of_three : (a b c : ℕ) → nat_eq (max (max a b) c) 0 ≡ ((nat_eq a 0 && nat_eq b 0) && nat_eq c 0)
none_of_three a b c = grind (arith, nat_tests)

three_planes : (a b c e f g h i j : ℕ) → a < 2 → b < 2 → c < 2 → e < 2 → f < 2 → g < 2 → h < 2 → i < 2 → j < 2 →
    nat_eq (max (max (min a ((b + c) % 2)) (min e ((f + g) % 2))) (min h ((i + j) % 2))) 0
    ≡ (((nat_eq a 0 || nat_eq c b) && (nat_eq e 0 || nat_eq g f)) && (nat_eq h 0 || nat_eq j i))
three_planes a b c e f g h i j ha hb hc he hf hg hh hi hj =
    rw (none_of_three _ _ _, one_plane a b c ha hb hc, one_plane e f g he hf hg, one_plane h i j hh hi hj)

-- the planes that speak against a match, and those two and four places above in the place of the lowest
against : ℕ → ℕ → ℕ
against con b = bit_and (con / 64) (bit_xor con b)

pub any_against : ℕ → ℕ → ℕ
any_against con b = bit_or (bit_or (against con b) (against con b / 4)) (against con b / 16)

against-at : (con b i : ℕ) → bit_at (against con b) i ≡ min (bit_at (con / 64) i) ((bit_at con i + bit_at b i) % 2)
unfolding against
against-at con b i = bit_at_and (con / 64) (bit_xor con b) i ∙ ap (min (bit_at (con / 64) i)) (bit_at_xor con b i)

any-at : (con b i : ℕ) → bit_at (any_against con b) i
    ≡ max (max (bit_at (against con b) i) (bit_at (against con b / 4) i)) (bit_at (against con b / 16) i)
unfolding any_against
any-at con b i = rw (bit_at_or _ _ i, bit_at_or _ _ i)

-- the bit of a plane that speaks against a match, from CLXCON and the planes
shifted : (con b i j k : ℕ) → bit_at (con / 64) i ≡ bit_at con k → i ≡ j →
    bit_at (against con b) i ≡ min (bit_at con k) ((bit_at con j + bit_at b j) % 2)
shifted con b i j k e f = against-at con b i ∙ (rw (e, f))

planes_of_one : (con b : ℕ) → nat_eq (bit_and (any_against con b) 1) 0 ≡ playfield_matches con b 1
planes_of_one con b =
    let w : ℕ = against con b in
    let low : bit_and (any_against con b) 1 ≡ bit_at (any_against con b) 0 =
    and_pow (any_against con b) 0 ∙ omega arith in
    let third : bit_at (against con b / 4) 0 ≡ bit_at (against con b) 2 = omega arith in
    let fifth : bit_at (against con b / 16) 0 ≡ bit_at (against con b) 4 = omega arith in
    let a : bit_at (con / 64) 0 ≡ bit_at con 6 = omega arith in
    let e : bit_at (con / 64) 2 ≡ bit_at con 8 = omega arith in
    let h : bit_at (con / 64) 4 ≡ bit_at con 10 = omega arith in
    rw (low, any-at con b 0, third, fifth, shifted con b 0 0 6 a refl, shifted con b 2 2 8 e refl, shifted con b 4 4 10 h refl)
    (three_planes (bit_at con 6) (bit_at con 0) (bit_at b 0) (bit_at con 8) (bit_at con 2) (bit_at b 2) (bit_at con 10) (bit_at con 4) (bit_at b 4)
    (bit_at-lt con 6) (bit_at-lt con 0) (bit_at-lt b 0)
    (bit_at-lt con 8) (bit_at-lt con 2) (bit_at-lt b 2)
    (bit_at-lt con 10) (bit_at-lt con 4) (bit_at-lt b 4))

-- a number times two is none where it is none
twice_is_none : (n : ℕ) → nat_eq (n * 2) 0 ≡ nat_eq n 0
twice_is_none n = grind (arith, nat_tests)

planes_of_two : (con b : ℕ) → nat_eq (bit_and (any_against con b) 2) 0 ≡ playfield_matches con b 2
planes_of_two con b =
    let low : nat_eq (bit_and (any_against con b) 2) 0 ≡ nat_eq (bit_at (any_against con b) 1) 0 =
    ap (λ (n : ℕ). nat_eq n 0) (and_pow (any_against con b) 1) ∙ twice_is_none (bit_at (any_against con b) 1) in
    let third : bit_at (against con b / 4) 1 ≡ bit_at (against con b) 3 = omega arith in
    let fifth : bit_at (against con b / 16) 1 ≡ bit_at (against con b) 5 = omega arith in
    let a : bit_at (con / 64) 1 ≡ bit_at con 7 = omega arith in
    let e : bit_at (con / 64) 3 ≡ bit_at con 9 = omega arith in
    let h : bit_at (con / 64) 5 ≡ bit_at con 11 = omega arith in
    low ∙ (rw (any-at con b 1, third, fifth, shifted con b 1 1 7 a refl, shifted con b 3 3 9 e refl, shifted con b 5 5 11 h refl)
    (three_planes (bit_at con 7) (bit_at con 1) (bit_at b 1) (bit_at con 9) (bit_at con 3) (bit_at b 3) (bit_at con 11) (bit_at con 5) (bit_at b 5)
    (bit_at-lt con 7) (bit_at-lt con 1) (bit_at-lt b 1)
    (bit_at-lt con 9) (bit_at-lt con 3) (bit_at-lt b 3)
    (bit_at-lt con 11) (bit_at-lt con 5) (bit_at-lt b 5)))

pub one_matches : (con b : ℕ) →
    nat_eq (bit_and (bit_or (bit_or (bit_and (con / 64) (bit_xor con b)) (bit_and (con / 64) (bit_xor con b) / 4))
    (bit_and (con / 64) (bit_xor con b) / 16)) 1) 0
    ≡ playfield_matches con b 1
unfolding any_against against
one_matches con b = planes_of_one con b

pub two_matches : (con b : ℕ) →
    nat_eq (bit_and (bit_or (bit_or (bit_and (con / 64) (bit_xor con b)) (bit_and (con / 64) (bit_xor con b) / 4))
    (bit_and (con / 64) (bit_xor con b) / 16)) 2) 0
    ≡ playfield_matches con b 2
unfolding any_against against
two_matches con b = planes_of_two con b
