-- The collisions of one pixel, as CLXDAT gathers them.
use Rattle.std.specs.Prelude.{ℕ, ◌+◌, ◌-◌, ◌*◌, ◌/◌, ◌%◌, ◌^◌, ◌==◌, ◌&&◌, ◌||◌, Bool, not, List, [], ◌∷◌, if◌then◌else◌, slice_index}

-- a bit of a number
abbrev pub bit : ℕ → ℕ → ℕ
bit place n = n / 2 ^ place % 2

-- Plane p, from 1, does not speak against a match where CLXCON does not enable it (ENBPp, bit p + 5),
-- or where it shows the wanted bit (MVBPp, bit p - 1).
abbrev pub plane_matches : ℕ → ℕ → ℕ → Bool
plane_matches con bits p = (bit (p + 5) con == 0) || (bit (p - 1) bits == bit (p - 1) con)

-- playfield 1 has planes 1, 3 and 5, playfield 2 planes 2, 4 and 6
abbrev pub playfield_matches : ℕ → ℕ → ℕ → Bool
playfield_matches con bits playfield =
    plane_matches con bits playfield && plane_matches con bits (playfield + 2) && plane_matches con bits (playfield + 4)

-- A pair of sprites, from 0, is present by its even sprite, or by its odd one where CLXCON counts it
-- (ENSP1, 3, 5 and 7, bits 12 to 15).
abbrev pub is_present : ℕ → List ℕ → ℕ → Bool
is_present con values pair =
    not (slice_index values (2 * pair) == 0)
    || (not (slice_index values (2 * pair + 1) == 0) && (bit (pair + 12) con == 1))

-- the number whose bits, from the lowest, are these
abbrev pub number_of : List Bool → ℕ
number_of [] = 0
number_of (b ∷ bs) = (if b then 1 else 0) + 2 * number_of bs

-- which collisions there are among two playfields and four pairs, in the order of the bits of CLXDAT from 0 to 14
abbrev pub collisions_among : Bool → Bool → Bool → Bool → Bool → Bool → List Bool
collisions_among one two a b c d =
    (one && two) ∷
    (one && a) ∷ (one && b) ∷ (one && c) ∷ (one && d) ∷
    (two && a) ∷ (two && b) ∷ (two && c) ∷ (two && d) ∷
    (a && b) ∷ (a && c) ∷ (a && d) ∷ (b && c) ∷ (b && d) ∷ (c && d) ∷ []

-- the collision bits of a pixel: CLXCON, the bits of the planes (plane p is bit p - 1), the sprites' values
unfoldable pub collision_bits : ℕ → ℕ → List ℕ → ℕ
collision_bits con bits values =
    number_of (collisions_among
    (playfield_matches con bits 1) (playfield_matches con bits 2)
    (is_present con values 0) (is_present con values 1) (is_present con values 2) (is_present con values 3))
