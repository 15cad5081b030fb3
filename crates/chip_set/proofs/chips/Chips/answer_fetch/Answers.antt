-- Neither a blit nor the processor has a word.
use Rattle.std.proofs.Common.{subst, sym}
use Rattle.chip_set.specs.Chips.{CanDo}
use Rattle.chip_set.proofs.AbleLaws.{can_make}
use Rattle.chip_set.proofs.FetchLaws.{fetch_answered}
use Rattle.chip_set.proofs.chips.Chips.answer_fetch.Goals as goal

pub returns-clause-access : goal.returns-clause-access
returns-clause-access c clx =
    fetch_answered c.args.beam.now clx c.args.chip.now.words c.args.ask.now c.args.self.now c.step_copper-act.new.self
    c.count_missed.new.self c.read_fetch-word.result c.step_copper-act.result c.made_by_fetch.result c.requires.fetch
    (c.read_fetch-word.ensures.word c.args.beam.now clx c.args.self.now)
    c.step_copper-act.ensures.chips c.count_missed.ensures c.step_copper-act.ensures.act c.made_by_fetch.ensures

pub returns-clause-able : goal.returns-clause-able
returns-clause-able c = subst CanDo (sym c.made_by_fetch.ensures) (can_make c.args.ask.now c.read_fetch-word.result _ c.requires.able)
