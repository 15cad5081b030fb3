use Rattle.std.proofs.Common.{subst, sym}
use Rattle.chip_set.specs.Chips.{CanDo}
use Rattle.chip_set.proofs.AbleLaws.{can_make}
use Rattle.chip_set.proofs.AskLaws.{answer_is}
use Rattle.chip_set.proofs.chips.Chips.answer_any.Goals as goal

pub returns : goal.returns
returns c = record {
  access = answer_is c.args.beam.now c.args.clx c.args.chip.now.words c.args.ask c.args.self.now c.answer_with.new.self
      c.answer_with.result (record {
        word = c.fetch-word.result;
        answer = c.fetch-word.ensures.word;
        owner = c.answer_with.ensures.owner;
        makes = c.answer_with.ensures.made;
      });
  able = subst CanDo (sym c.answer_with.ensures.made) (can_make c.args.ask c.fetch-word.result _ c.requires.able);
  reads = c.fetch-word.ensures.reads;
}
