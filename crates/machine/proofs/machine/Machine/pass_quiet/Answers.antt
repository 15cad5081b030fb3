use Rattle.std.proofs.Common.{arith}
use Rattle.machine.specs.Machine.{machine_over}
use Rattle.machine.proofs.QuietLaws.{machine_passes, none_is_quiet, none_later}
use Rattle.machine.proofs.machine.Machine.pass_quiet.Goals as goal

pub returns-clause-passes : goal.returns-clause-passes
returns-clause-passes g c =
    let old = machine_over g.S.Side.seen c.args.self.now in
    λ some. machine_passes old _ _ c.pass_quiet-passed.result c.pass_quiet-passed.result c.requires.inner
    (omega (arith, c.requires.room, c.pass_quiet-passed.ensures.most)) (omega arith)
    (none_is_quiet old.beam _ c.pass_quiet-passed.result old.side (c.is_nothing.ensures c.if-not-is_nothing.false))
    (none_later c.pass_quiet-passed.result old.beam _ old.side (c.is_nothing.ensures c.if-not-is_nothing.false))
    (c.pass_quiet-passed.ensures.quiet some)
