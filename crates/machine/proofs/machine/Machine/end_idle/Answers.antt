use Rattle.std.proofs.lemmas.Result.{on_ok_weaker}
use Rattle.machine.specs.Machine.{machine_over}
use Rattle.machine.proofs.AheadLaws.{idle_ends}
use Rattle.machine.proofs.machine.Machine.end_idle.Goals as goal

pub returns-clause-made : goal.returns-clause-made
returns-clause-made g c =
    on_ok_weaker c.tell_interrupt.result
    (idle_ends (machine_over g.S.Side.seen c.args.self.now) c.end_idle-begins.result c.end_idle-begins.new.self c.args.out.now _ c.requires.leaves
    c.end_idle-begins.ensures.runs c.end_idle-begins.ensures.interrupt c.end_idle-begins.ensures.kept) c.tell_interrupt.ensures.lines
