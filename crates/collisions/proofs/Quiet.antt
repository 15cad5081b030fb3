-- Collisions where no sprite shows: those of the playfields with one another.
use Rattle.std.proofs.Common.{◌≡◌, ℕ, ◌&&◌, Bool, true, false, replicate, refl}
use Rattle.std.specs.Bool.{if◌then◌else◌}
use Rattle.collisions.specs.Collision.{collision_bits, collisions_among, number_of, playfield_matches}

no_pairs : (one two : Bool) → number_of (collisions_among one two false false false false) ≡ (if one && two then 1 else 0)
no_pairs true true = refl
no_pairs true false = refl
no_pairs false true = refl
no_pairs false false = refl

pub quiet_bits : (con bits : ℕ) →
    collision_bits con bits (replicate 8 0) ≡ (if playfield_matches con bits 1 && playfield_matches con bits 2 then 1 else 0)
unfolding collision_bits
quiet_bits con bits = no_pairs (playfield_matches con bits 1) (playfield_matches con bits 2)
