use Rattle.std.proofs.Common.{◌∙◌, ap, arith, subst}
use Rattle.serial_model.specs.Side.{IsQuietSide, later_side}
use Rattle.machine.specs.Machine.{machine_over}
use Rattle.machine.proofs.QuietLaws.{machine_passes}
use Rattle.machine.proofs.machine.Machine.pass_beside_side.Goals as goal

pub returns-clause-passes : goal.returns-clause-passes
returns-clause-passes g c =
    let old = machine_over g.S.Side.seen c.args.self.now in
    λ some. machine_passes old _ _ c.pass_quiet-passed.result c.quiet-still.result c.requires.inner
    (omega (arith, c.requires.room, c.pass_quiet-passed.ensures.most, c.quiet-still.ensures.most)) c.pass_quiet-passed.ensures.most
    (subst (λ d. IsQuietSide old.beam d c.quiet-still.result old.side) c.dmacon-dmacon.ensures c.quiet-still.ensures.quiet)
    (c.skip.ensures ∙ ap (λ d. later_side c.pass_quiet-passed.result old.beam d old.side) c.dmacon-dmacon.ensures)
    (c.pass_quiet-passed.ensures.quiet some)
