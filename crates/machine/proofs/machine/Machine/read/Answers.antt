use Rattle.machine.specs.Machine.{machine_over}
use Rattle.machine.proofs.StepLaws.{read_done}
use Rattle.machine.proofs.machine.Machine.read.Goals as goal

pub returns-clause-does : goal.returns-clause-does
returns-clause-does g c =
    read_done c.args.reg c.args.by c.args.clx c.peek-word.result (machine_over g.S.Side.seen c.args.self.now) c.args.out.now _ c.line.result c.peek-word.ensures
    c.line.ensures.ok c.line.ensures.together
