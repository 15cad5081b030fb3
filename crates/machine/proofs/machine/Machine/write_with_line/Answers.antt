use Rattle.machine.specs.Machine.{machine_over}
use Rattle.machine.proofs.StepLaws.{Does-write}
use Rattle.machine.proofs.machine.Machine.write_with_line.Goals as goal

pub returns-clause-does : goal.returns-clause-does
returns-clause-does g c = λ clx.
    Does-write c.args.reg c.args.word c.args.by clx (machine_over g.S.Side.seen c.args.self.now) _ c.args.out.now _ c.in_ok-line.ensures.ok
    c.in_ok-line.ensures.together
    c.write_register.ensures
