use Rattle.std.proofs.Common.{subst, arith}
use Rattle.sprite_rows.specs.LineValues.{IsRowsOf}
use Rattle.painter.specs.code.SpriteState.{SpriteRegisters}
use Rattle.painter.proofs.LaidOut.{later_rows}
use Rattle.sprite_rows.proofs.Reaching.{all_within}
use Rattle.serial_model.specs.Picture.{sprite_values}
use Rattle.painter.proofs.sprite_state.SpriteState.reach.Goals as goal

pub returns-then-column-self : goal.returns-then-column-self
returns-then-column-self c con bits = all_within con bits (sprite_values c.args.column c.args.self.now.runs)

pub returns : goal.returns
returns c =
    let from = c.self.inside.exact_from in
    let rows = c.self.inside.rows in
    let laid : IsRowsOf c.self.inside.exact_from c.self.inside.rows c.args.self.now.runs =
    subst (λ (s : SpriteRegisters). IsRowsOf from rows s.runs) c.self.view_is c.self.invariant.laid in
    c.reach.ensures c.args.self.now.runs (later_rows from c.args.column rows c.args.self.now.runs (omega arith) laid)
