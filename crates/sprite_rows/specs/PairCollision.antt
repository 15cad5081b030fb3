-- The collisions of a pixel, from what its playfields alone meet and the pairs that are present.
use Rattle.std.specs.Prelude.{true, ℕ, ◌+◌, ◌*◌, ◌%◌, ◌==◌, ◌&&◌, Bool, not, if◌then◌else◌, List, [], ◌∷◌}
use Rattle.collisions.specs.Collision.{bit, playfield_matches, is_present, number_of, collisions_among}

-- whether a pair is present, by its byte: 4 times the odd sprite's value and the even one's
abbrev pub is_byte_present : ℕ → ℕ → ℕ → Bool
is_byte_present con pair byte = not ((if bit (pair + 12) con == 1 then byte else byte % 4) == 0)

-- the pairs that are present, pair p as bit p
unfoldable pub present_pairs : ℕ → List ℕ → ℕ
present_pairs con values =
    number_of (is_present con values 0 ∷ is_present con values 1 ∷ is_present con values 2 ∷ is_present con values 3 ∷ [])

-- what pair 0 adds to the collision bits by meeting the playfields; pair p adds 2 ^ p times as much
unfoldable pub worth_of_playfields : ℕ → ℕ → ℕ
worth_of_playfields con bits =
    (if playfield_matches con bits 1 then 2 else 0) + (if playfield_matches con bits 2 then 32 else 0)

-- what so many pairs add by meeting one another
abbrev pub among_pairs : ℕ → ℕ
among_pairs present =
    let a = bit 0 present == 1 in
    let b = bit 1 present == 1 in
    let c = bit 2 present == 1 in
    let d = bit 3 present == 1 in
    512 * number_of ((a && b) ∷ (a && c) ∷ (a && d) ∷ (b && c) ∷ (b && d) ∷ (c && d) ∷ [])

-- the most that a pixel may collide where the pairs have these bytes: both playfields match, and each pair is present that shows
abbrev pub most_collisions : ℕ → ℕ → ℕ → ℕ → ℕ
most_collisions a b c d =
    number_of (collisions_among true true (not (a == 0)) (not (b == 0)) (not (c == 0)) (not (d == 0)))
