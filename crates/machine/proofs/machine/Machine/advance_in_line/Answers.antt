use Rattle.std.proofs.Common.{refl, sym}
use Rattle.machine.specs.Machine.{machine_over}
use Rattle.machine.proofs.BusLaws.{place_in_line}
use Rattle.machine.proofs.StepLaws.{Makes-advanced}
use Rattle.machine.proofs.machine.Machine.advance_in_line.Goals as goal

pub returns-clause-step : goal.returns-clause-step
returns-clause-step g c system =
    Makes-advanced system (machine_over g.S.Side.seen c.args.self.now) _ refl (sym (place_in_line system _ c.args.self.now.beam c.requires.line)) refl

pub returns-clause-beam : goal.returns-clause-beam
returns-clause-beam g c system = sym (place_in_line system _ c.args.self.now.beam c.requires.line)
