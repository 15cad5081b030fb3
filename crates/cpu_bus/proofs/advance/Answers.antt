use Rattle.std.proofs.Common.{sym, ◌∙◌}
use Rattle.cpu_bus.proofs.BusLaws.{halt_stays}
use Rattle.cpu_bus.proofs.advance.Goals as goal

pub returns-in-Halted : goal.returns-in-Halted
returns-in-Halted c r u ws stands =
    halt_stays c.args.cpu.now r u ws c.args.word c.args.level stands (sym c.in-Halted.is ∙ c.ask.ensures.next r u ws stands)
