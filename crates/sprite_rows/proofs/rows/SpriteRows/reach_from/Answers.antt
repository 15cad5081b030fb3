use Rattle.std.proofs.Common.{◌∙◌, ℕ, bit_or, ap, sym}
use Rattle.collisions.specs.Collision.{collision_bits}
use Rattle.sprite_rows.specs.LineValues.{values_at}
use Rattle.sprite_rows.proofs.Reaching.{reach_ahead}
use Rattle.sprite_rows.proofs.rows.SpriteRows.reach_from.Goals as goal

pub returns : goal.returns
returns c y runs le lt are con bits =
    ap (λ (n : ℕ). bit_or n (collision_bits con bits (values_at y runs))) c.reach_of.ensures
    ∙ reach_ahead c.args.x y c.args.self.now runs con bits are le lt
    ∙ sym c.reach_of.ensures
