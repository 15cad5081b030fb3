use Rattle.std.proofs.Common.{refl, ap, ◌∙◌}
use Rattle.blit_words.specs.declared.blit.SlotAsk.TheVariants as SlotAsk
use Rattle.serial_model.specs.declared.bus.Ask.TheVariants as A
use Rattle.serial_model.specs.declared.bus.Made.TheVariants as M
use Rattle.cpu_bus.specs.Beside.{only_waits}
use Rattle.machine.specs.Machine.{MachineValue, machine_over}
use Rattle.machine.proofs.AheadLaws.{waits_behind, left_behind}
use Rattle.machine.proofs.BlitLaws.{goes_to_read, blit_read, turn_behind}
use Rattle.machine.proofs.machine.Machine.read_for_blit.Goals as goal

pub give_blit-requires : goal.give_blit-requires
give_blit-requires g c = goes_to_read c.args.at c.args.self.now.chips c.requires.asks

pub returns-clause-only : goal.returns-clause-only
returns-clause-only g c = λ chips stands.
    c.wait_beside.ensures.only
    ∙ ap only_waits (turn_behind c.read-word.result c.args.self.now.chips c.give_blit.new.self c.give_blit.ensures.gives chips stands)

pub returns-clause-waits : goal.returns-clause-waits
returns-clause-waits g c waited out =
    let m : MachineValue = machine_over g.S.Side.seen c.args.self.now in
    let mid : MachineValue = record m { chip = c.read-word.new.self; chips = c.give_blit.new.self } in
    waits_behind (A.Blit (SlotAsk.Read c.args.at)) M.Nothing m mid c.wait_beside.new.self out refl (c.wait_beside.ensures.waits waited)
    (blit_read c.args.at m c.read-word.result c.read-word.new.self c.give_blit.new.self out c.requires.leaves c.read-word.ensures.word
    c.read-word.ensures.reads c.give_blit.ensures.gives c.give_blit.ensures.kept)

pub returns-clause-left : goal.returns-clause-left
returns-clause-left g c left out =
    let m : MachineValue = machine_over g.S.Side.seen c.args.self.now in
    let mid : MachineValue = record m { chip = c.read-word.new.self; chips = c.give_blit.new.self } in
    left_behind (A.Blit (SlotAsk.Read c.args.at)) M.Nothing m mid c.wait_beside.new.self out
    (c.wait_beside.ensures.left left (A.Blit (SlotAsk.Read c.args.at)) refl)
    (blit_read c.args.at m c.read-word.result c.read-word.new.self c.give_blit.new.self out c.requires.leaves c.read-word.ensures.word
    c.read-word.ensures.reads c.give_blit.ensures.gives c.give_blit.ensures.kept)
