-- The Copper has no step, so that its part of the answer is none.
use Rattle.std.proofs.Common.{subst}
use Rattle.chip_set.specs.Chips.{WorkingChips, AnswersOwner}
use Rattle.chip_set.proofs.BusLaws.{bus_answered, bus_makes}
use Rattle.chip_set.proofs.chips.Chips.answer_on_bus.Goals as goal

pub returns-clause-access : goal.returns-clause-access
returns-clause-access c clx =
    bus_answered c.args.beam.now clx c.args.chip.now.words c.args.ask.now c.args.self.now c.answer_owner.new.self c.read_on_bus-word.result
    c.made_by.result c.requires.leaves c.requires.bus (c.read_on_bus-word.ensures.word c.args.beam.now clx c.args.self.now)
    (subst (λ (mid : WorkingChips). AnswersOwner c.args.ask.now c.read_on_bus-word.result mid c.answer_owner.new.self) c.count_missed.ensures
    c.answer_owner.ensures.owner) c.made_by.ensures

pub returns-clause-made : goal.returns-clause-made
returns-clause-made c = bus_makes c.args.ask.now c.read_on_bus-word.result c.made_by.result c.requires.bus c.made_by.ensures
