use Rattle.std.proofs.Common.{◌∙◌}
use Rattle.std.proofs.lemmas.Result.{on_ok_weaker, on_err_weaker}
use Rattle.serial_model.specs.declared.bus.ProcessorAsk.TheVariants as P
use Rattle.machine.specs.Machine.{MachineValue, machine_over}
use Rattle.machine.proofs.TwoLaws.{begins_with, two_read, part_read}
use Rattle.machine.proofs.machine.Machine.read_in_two.Goals as goal

pub returns-clause-clocks : goal.returns-clause-clocks
returns-clause-clocks g c =
    let m : MachineValue = machine_over g.S.Side.seen c.args.self.now in
    on_ok_weaker c.end_in_two.result
    (two_read c.args.at c.read-word.result m (machine_over g.S.Side.seen c.end_in_two.new.self) _ c.args.out.now _
    (begins_with c.requires.alone.0 (P.Read c.args.at) m c.args.out.now c.requires.alone.1 c.requires.next c.requires.anew c.requires.asks)
    c.read-word.ensures.word c.read-word.ensures.reads) c.end_in_two.ensures.ends

pub returns-clause-part : goal.returns-clause-part
returns-clause-part g c =
    let m : MachineValue = machine_over g.S.Side.seen c.args.self.now in
    on_err_weaker c.end_in_two.result
    (part_read c.args.at m (machine_over g.S.Side.seen c.end_in_two.new.self) c.args.out.now _
    (begins_with c.requires.alone.0 (P.Read c.args.at) m c.args.out.now c.requires.alone.1 c.requires.next c.requires.anew c.requires.asks)
    (c.end_in_two.ensures.chip ∙ c.read-word.ensures.reads)) c.end_in_two.ensures.refused
