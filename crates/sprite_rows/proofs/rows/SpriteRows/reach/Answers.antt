use Rattle.std.proofs.Common.{◌∙◌, ℕ, bit_or, ap, sym, arith}
use Rattle.collisions.specs.Collision.{collision_bits}
use Rattle.sprite_rows.specs.LineValues.{values_at}
use Rattle.sprite_rows.proofs.Reaching.{reach_at}
use Rattle.sprite_rows.proofs.rows.SpriteRows.reach.Goals as goal

pub returns : goal.returns
returns c runs are con bits =
    ap (λ (n : ℕ). bit_or n (collision_bits con bits (values_at c.args.x runs))) c.reach_of.ensures
    ∙ reach_at c.args.x c.args.self.now runs con bits are (omega arith)
    ∙ sym c.reach_of.ensures
