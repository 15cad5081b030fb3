use Rattle.cpu_bus.proofs.QuietLaws.{none_given, rests_off, rests_halted}
use Rattle.std.proofs.Common.{sym, ◌∙◌}
use Rattle.cpu_bus.proofs.BusCpu.quiet.Goals as goal

-- src/quiet.rt:22:13
pub returns-then-not-self-clause-rests : goal.returns-then-not-self-clause-rests
returns-then-not-self-clause-rests c = rests_off c.args.irq.now 4294967295 c.args.self.now c.if-not-self.true

-- src/quiet.rt:17:5
pub returns-in-Halted-clause-rests : goal.returns-in-Halted-clause-rests
returns-in-Halted-clause-rests c =
    rests_halted c.args.irq.now 4294967295 c.args.self.now
    (none_given c.args.self.now.given (sym c.is_some.ensures ∙ c.if-is_some.false)) c.in-Halted.is
