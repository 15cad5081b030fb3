use Rattle.std.proofs.Common.{◌∙◌, sym, subst, arith}
use Rattle.sprite_rows.specs.LineValues.{IsRowsOf, values_at}
use Rattle.collisions.proofs.Quiet.{quiet_bits}
use Rattle.painter.specs.code.SpriteState.{SpriteRegisters}
use Rattle.painter.proofs.LaidOut.{later_rows, worth_is, quiet_is}
use Rattle.painter.proofs.sprite_state.SpriteState.collisions.Goals as goal

pub returns : goal.returns
returns c =
    let from = c.self.inside.exact_from in
    let rows = c.self.inside.rows in
    let laid : IsRowsOf c.self.inside.exact_from c.self.inside.rows c.args.self.now.runs =
    subst (λ (s : SpriteRegisters). IsRowsOf from rows s.runs) c.self.view_is c.self.invariant.laid in
    let one = c.playfields-one.ensures.one in
    let two = c.playfields-one.ensures.two in
    c.collisions.ensures c.args.clxcon c.args.bits (values_at c.args.column c.args.self.now.runs)
    (quiet_is _ _ c.args.clxcon c.args.bits one two ∙ sym (quiet_bits c.args.clxcon c.args.bits))
    (worth_is _ _ c.args.clxcon c.args.bits one two)
    (c.present-present.ensures.value c.args.self.now.runs
    (later_rows from c.args.column rows c.args.self.now.runs (omega arith) laid))
