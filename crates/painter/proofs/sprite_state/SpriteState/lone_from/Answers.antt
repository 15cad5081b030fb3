use Rattle.std.proofs.Common.{◌∙◌, sym, subst, arith}
use Rattle.sprite_rows.specs.LineValues.{IsRowsOf}
use Rattle.painter.specs.code.SpriteState.{SpriteRegisters}
use Rattle.painter.proofs.sprite_state.SpriteState.lone_from.Goals as goal

pub returns : goal.returns
returns c one =
    let from = c.self.inside.exact_from in
    let rows = c.self.inside.rows in
    let laid : IsRowsOf c.self.inside.exact_from c.self.inside.rows c.args.self.now.runs =
    subst (λ (s : SpriteRegisters). IsRowsOf from rows s.runs) c.self.view_is c.self.invariant.laid in
    record {
      none = λ q x few other le room.
          sym (laid.bytes q x few (omega (arith, le)) room) ∙ c.lone_from.ensures one q x few other le;
    }
