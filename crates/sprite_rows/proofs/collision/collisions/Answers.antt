use Rattle.std.proofs.Common.{ℕ, List}
use Rattle.sprite_rows.proofs.Meeting.{collisions_by_parts}
use Rattle.sprite_rows.proofs.collision.collisions.Goals as goal

pub returns : goal.returns
returns c =
    λ (con bits : ℕ) (values : List ℕ) quiet worth present.
    collisions_by_parts con bits values c.args.quiet c.args.worth c.args.present c.requires.present quiet worth present
