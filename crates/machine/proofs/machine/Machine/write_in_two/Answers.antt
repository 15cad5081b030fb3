use Rattle.std.proofs.Common.{refl, ap, ◌∙◌}
use Rattle.std.proofs.lemmas.Result.{on_ok_weaker, on_err_weaker}
use Rattle.ocs_io.proofs.MapLaws.{on_err}
use Rattle.mem_versions.specs.Chip.{ChipValue}
use Rattle.serial_model.specs.declared.bus.ProcessorAsk.TheVariants as P
use Rattle.machine.specs.Machine.{MachineValue, machine_over}
use Rattle.machine.proofs.TwoLaws.{begins_with, two_write, part_write}
use Rattle.machine.proofs.machine.Machine.write_in_two.Goals as goal

pub returns-in_err-store_in-clause-part : goal.returns-in_err-store_in-clause-part
returns-in_err-store_in-clause-part g c =
    let m : MachineValue = machine_over g.S.Side.seen c.args.self.now in
    on_err c.from_residual.result _
    (part_write c.args.at c.args.half c.args.word m (machine_over g.S.Side.seen c.store_in.new.self) c.args.out.now c.args.out.now
    (begins_with c.requires.alone.0 (P.Write c.args.at c.args.half c.args.word) m c.args.out.now c.requires.alone.1 c.requires.next
    c.requires.anew c.requires.asks)
    (ap (λ m. (machine_over g.S.Side.seen m).chip.reads) c.in_err-store_in.ensures.kept) refl)

pub returns-clause-clocks : goal.returns-clause-clocks
returns-clause-clocks g c =
    let m : MachineValue = machine_over g.S.Side.seen c.args.self.now in
    on_ok_weaker c.end_in_two.result
    (two_write c.args.at c.args.half c.args.word m (machine_over g.S.Side.seen c.store_in.new.self)
    (machine_over g.S.Side.seen c.end_in_two.new.self) c.args.out.now _
    (begins_with c.requires.alone.0 (P.Write c.args.at c.args.half c.args.word) m c.args.out.now c.requires.alone.1 c.requires.next
    c.requires.anew c.requires.asks)
    (ap (λ m. machine_over g.S.Side.seen m) c.store_in.ensures.same) c.in_ok-store_in.ensures.stores) c.end_in_two.ensures.ends

pub returns-clause-part : goal.returns-clause-part
returns-clause-part g c =
    let m : MachineValue = machine_over g.S.Side.seen c.args.self.now in
    on_err_weaker c.end_in_two.result
    (part_write c.args.at c.args.half c.args.word m (machine_over g.S.Side.seen c.end_in_two.new.self) c.args.out.now _
    (begins_with c.requires.alone.0 (P.Write c.args.at c.args.half c.args.word) m c.args.out.now c.requires.alone.1 c.requires.next
    c.requires.anew c.requires.asks)
    (ap (λ (chip : ChipValue). chip.reads) (c.end_in_two.ensures.chip ∙ c.in_ok-store_in.ensures.stores))) c.end_in_two.ensures.refused
