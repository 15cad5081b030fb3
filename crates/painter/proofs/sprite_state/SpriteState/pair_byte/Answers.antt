use Rattle.std.proofs.Common.{subst, arith}
use Rattle.sprite_rows.specs.LineValues.{IsRowsOf}
use Rattle.painter.specs.code.SpriteState.{SpriteRegisters}
use Rattle.painter.proofs.LaidOut.{later_rows}
use Rattle.painter.proofs.sprite_state.SpriteState.pair_byte.Goals as goal

pub returns-clause-value : goal.returns-clause-value
returns-clause-value c =
    let from = c.self.inside.exact_from in
    let rows = c.self.inside.rows in
    let laid : IsRowsOf c.self.inside.exact_from c.self.inside.rows c.args.self.now.runs =
    subst (λ (s : SpriteRegisters). IsRowsOf from rows s.runs) c.self.view_is c.self.invariant.laid in
    c.byte.ensures.value c.args.self.now.runs (later_rows from c.args.column rows c.args.self.now.runs (omega arith) laid)
