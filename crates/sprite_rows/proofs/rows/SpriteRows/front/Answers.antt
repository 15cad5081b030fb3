use Rattle.std.proofs.Common.{List, Option, ◌∙◌, arith}
use Rattle.sprites.specs.declared.runs.Start.{Start}
use Rattle.sprite_rows.proofs.Standing.{front_at}
use Rattle.sprite_rows.proofs.rows.SpriteRows.front.Goals as goal

pub returns-clause-value : goal.returns-clause-value
returns-clause-value c =
    λ (runs : List (Option Start)) are.
    c.pixel_in_front.ensures.value ∙ front_at c.args.x c.args.self.now runs c.args.attached are (omega arith)
