use Rattle.std.proofs.Common.{subst, arith}
use Rattle.sprite_rows.specs.LineValues.{IsRowsOf}
use Rattle.painter.specs.code.SpriteState.{SpriteRegisters}
use Rattle.painter.proofs.LaidOut.{later_rows}
use Rattle.sprite_rows.proofs.Reaching.{all_within}
use Rattle.serial_model.specs.Picture.{sprite_values}
use Rattle.painter.proofs.sprite_state.SpriteState.reach_from.Goals as goal

pub returns-then-column-self : goal.returns-then-column-self
returns-then-column-self c x con bits le few = all_within con bits (sprite_values x c.args.self.now.runs)

pub returns : goal.returns
returns c x con bits le few =
    let from = c.self.inside.exact_from in
    let rows = c.self.inside.rows in
    let laid : IsRowsOf c.self.inside.exact_from c.self.inside.rows c.args.self.now.runs =
    subst (λ (s : SpriteRegisters). IsRowsOf from rows s.runs) c.self.view_is c.self.invariant.laid in
    c.reach_from.ensures x c.args.self.now.runs le (omega (arith, few))
    (later_rows from x rows c.args.self.now.runs (omega (arith, le)) laid) con bits
