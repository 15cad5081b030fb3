use Rattle.std.proofs.Common.{subst, sym}
use Rattle.serial_model.specs.declared.bus.Ask.{Ask}
use Rattle.serial_model.specs.Registers.{blitter_dma}
use Rattle.chip_set.specs.Chips.{AnswersOwner, IsBlitAsk, kept_wish}
use Rattle.chip_set.proofs.BlitLaws.{going_by}
use Rattle.chip_set.proofs.chips.Chips.answer_owner.Goals as goal

pub give_blit-requires : goal.give_blit-requires
give_blit-requires c =
    let wish = subst (λ (ask : Ask). IsBlitAsk ask (kept_wish c.args.self.now)) c.in-Blit.is c.requires in
    going_by (blitter_dma c.args.self.now.registers) c.args.self.now.blit c.in-Blit.ask wish.0 wish.1

pub returns-in-Blit-clause-owner : goal.returns-in-Blit-clause-owner
returns-in-Blit-clause-owner c =
    subst (λ (ask : Ask). AnswersOwner ask c.args.word c.args.self.now c.give_blit.new.self) (sym c.in-Blit.is) c.give_blit.ensures.gives

pub returns-in-Processor-clause-owner : goal.returns-in-Processor-clause-owner
returns-in-Processor-clause-owner c =
    subst (λ (ask : Ask). AnswersOwner ask c.args.word c.args.self.now c.give_processor.new.self) (sym c.in-Processor.is)
    c.give_processor.ensures.gives
