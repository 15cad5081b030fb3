use Rattle.std.proofs.Common.{subst, sym}
use Rattle.serial_model.specs.declared.registers.Effect.{Effect}
use Rattle.serial_model.specs.Write.{carry_effect}
use Rattle.chip_set.specs.Chips.{IsChipsOf}
use Rattle.chip_set.proofs.chips.Chips.follow.Goals as goal

pub returns-in-Jump : goal.returns-in-Jump
returns-in-Jump c x is =
    subst (λ (effect : Effect). IsChipsOf c.restart.new.self (carry_effect effect c.args.reg.offset c.args.word x)) (sym c.in-Jump.is)
    (c.restart.ensures x is)

pub returns-in-Blit : goal.returns-in-Blit
returns-in-Blit c x is =
    subst (λ (effect : Effect). IsChipsOf c.start_blit.new.self (carry_effect effect c.args.reg.offset c.args.word x)) (sym c.in-Blit.is)
    (c.start_blit.ensures x is)

pub returns-in-Interrupt : goal.returns-in-Interrupt
returns-in-Interrupt c x is =
    subst (λ (effect : Effect). IsChipsOf c.write_interrupts.new.self (carry_effect effect c.args.reg.offset c.args.word x)) (sym c.in-Interrupt.is)
    (c.write_interrupts.ensures x is)
