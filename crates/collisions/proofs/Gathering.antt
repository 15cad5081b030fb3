-- The fifteen bits in four parts.
use Rattle.std.proofs.Common.{◌≡◌, ◌+◌, ◌*◌, ◌&&◌, Bool, true, false, [], ◌∷◌, arith, refl}
use mir.Val.{bool_byte}
use Rattle.collisions.specs.Collision.{number_of, collisions_among}

byte_is : (b : Bool) → bool_byte b ≡ number_of (b ∷ [])
byte_is true = refl
byte_is false = refl

pub gathered : (one two a b c d : Bool) →
    bool_byte (one && two)
    + 2 * number_of ((one && a) ∷ (one && b) ∷ (one && c) ∷ (one && d) ∷ [])
    + 32 * number_of ((two && a) ∷ (two && b) ∷ (two && c) ∷ (two && d) ∷ [])
    + 512 * number_of ((a && b) ∷ (a && c) ∷ (a && d) ∷ (b && c) ∷ (b && d) ∷ (c && d) ∷ [])
    ≡ number_of (collisions_among one two a b c d)
gathered one two a b c d = omega (arith, byte_is (one && two))
