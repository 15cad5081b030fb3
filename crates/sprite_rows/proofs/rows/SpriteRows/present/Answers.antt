use Rattle.std.proofs.Common.{List, Option, ◌∙◌, arith}
use Rattle.sprites.specs.declared.runs.Start.{Start}
use Rattle.sprite_rows.proofs.Standing.{present_at}
use Rattle.sprite_rows.proofs.rows.SpriteRows.present.Goals as goal

pub returns-clause-value : goal.returns-clause-value
returns-clause-value c =
    λ (runs : List (Option Start)) are.
    c.present_in.ensures ∙ present_at c.args.x c.args.self.now runs c.args.clxcon are (omega arith)
