use Rattle.std.proofs.Common.{refl, ap, ◌∙◌}
use Rattle.blit_words.specs.declared.blit.SlotAsk.TheVariants as SlotAsk
use Rattle.mem_versions.specs.Chip.{ChipValue}
use Rattle.serial_model.specs.declared.bus.Ask.TheVariants as A
use Rattle.serial_model.specs.declared.bus.Half.TheVariants as Half
use Rattle.serial_model.specs.declared.bus.Made.TheVariants as M
use Rattle.cpu_bus.specs.Beside.{only_waits, turn_beside_of}
use Rattle.machine.specs.Machine.{MachineValue, machine_over}
use Rattle.machine.proofs.AheadLaws.{waits_behind, left_behind}
use Rattle.machine.proofs.BlitLaws.{goes_to_write, blit_write, turn_behind}
use Rattle.machine.proofs.machine.Machine.write_for_blit.Goals as goal

pub give_blit-requires : goal.give_blit-requires
give_blit-requires g c = goes_to_write c.args.at c.args.word c.args.self.now.chips c.requires.asks

pub returns-clause-only : goal.returns-clause-only
returns-clause-only g c = λ chips stands.
    c.wait_beside.ensures.only
    ∙ ap (λ (m : MachineValue). only_waits (turn_beside_of m.chips.processor)) (ap (λ m. machine_over g.S.Side.seen m) c.store.ensures.same)
    ∙ ap only_waits (turn_behind 0 c.args.self.now.chips c.give_blit.new.self c.give_blit.ensures.gives chips stands)

pub returns-clause-waits : goal.returns-clause-waits
returns-clause-waits g c waited out =
    let m : MachineValue = machine_over g.S.Side.seen c.args.self.now in
    let mid : MachineValue = machine_over g.S.Side.seen c.store.new.self in
    waits_behind (A.Blit (SlotAsk.Write c.args.at c.args.word)) (M.Stored c.args.at Half.Both c.args.word) m mid c.wait_beside.new.self out refl
    (c.wait_beside.ensures.waits waited)
    (blit_write c.args.at c.args.word m mid c.give_blit.new.self out c.requires.leaves (ap (λ m. machine_over g.S.Side.seen m) c.store.ensures.same)
    c.in_ok-store.ensures.stores c.give_blit.ensures.gives c.give_blit.ensures.kept)

pub returns-clause-left : goal.returns-clause-left
returns-clause-left g c left out =
    let m : MachineValue = machine_over g.S.Side.seen c.args.self.now in
    let mid : MachineValue = machine_over g.S.Side.seen c.store.new.self in
    left_behind (A.Blit (SlotAsk.Write c.args.at c.args.word)) (M.Stored c.args.at Half.Both c.args.word) m mid c.wait_beside.new.self out
    (c.wait_beside.ensures.left left (A.Blit (SlotAsk.Write c.args.at c.args.word)) refl)
    (blit_write c.args.at c.args.word m mid c.give_blit.new.self out c.requires.leaves (ap (λ m. machine_over g.S.Side.seen m) c.store.ensures.same)
    c.in_ok-store.ensures.stores c.give_blit.ensures.gives c.give_blit.ensures.kept)

pub returns-clause-reads : goal.returns-clause-reads
returns-clause-reads g c = ap (λ (chip : ChipValue). chip.reads) c.in_ok-store.ensures.stores
