use Rattle.machine.specs.Machine.{machine_over}
use Rattle.std.proofs.Common.{OnOk, sym, subst}
use Rattle.serial_model.specs.declared.bus.Made.TheVariants as M
use Rattle.machine.specs.MachineSteps.{Does}
use Rattle.machine.proofs.StepLaws.{Does-quietly}
use Rattle.machine.proofs.machine.Machine.write.Goals as goal

pub returns-in-None-clause-does : goal.returns-in-None-clause-does
returns-in-None-clause-does g c = λ clx.
    subst (λ by. Does (M.Wrote c.args.reg c.args.word by) clx (machine_over g.S.Side.seen c.args.self.now) c.args.out.now
    (machine_over g.S.Side.seen c.write_register.new.self) c.args.out.now) (sym c.in-None.is)
    (Does-quietly c.args.reg c.args.word clx (machine_over g.S.Side.seen c.args.self.now) _ c.args.out.now c.write_register.ensures)

pub returns-in-Some-clause-does : goal.returns-in-Some-clause-does
returns-in-Some-clause-does g c = λ clx.
    subst (λ by. OnOk c.write_with_line.result
    (Does (M.Wrote c.args.reg c.args.word by) clx (machine_over g.S.Side.seen c.args.self.now) c.args.out.now
    (machine_over g.S.Side.seen c.write_with_line.new.self) c.write_with_line.new.out))
    (sym c.in-Some.is) (c.write_with_line.ensures.does clx)
