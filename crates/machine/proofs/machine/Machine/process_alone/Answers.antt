use Rattle.std.proofs.Common.{sym, ◌∙◌}
use Rattle.machine.specs.Machine.{machine_over}
use Rattle.machine.proofs.AheadLaws.{waits_alone}
use Rattle.machine.proofs.machine.Machine.process_alone.Goals as goal

pub returns-in-Waits-clause-made : goal.returns-in-Waits-clause-made
returns-in-Waits-clause-made g c waited =
    waits_alone c.in-Waits.spent (machine_over g.S.Side.seen c.args.self.now) c.wait_beside.new.self c.args.out.now c.requires.leaves
    (sym c.turn_beside.ensures ∙ c.in-Waits.is) (c.wait_beside.ensures.waits waited)
