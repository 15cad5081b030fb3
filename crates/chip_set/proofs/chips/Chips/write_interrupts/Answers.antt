use Rattle.chip_set.proofs.PartLaws.{ena_written, req_written}
use Rattle.chip_set.proofs.chips.Chips.write_interrupts.Goals as goal

pub returns-then-reg-eq-INTENA : goal.returns-then-reg-eq-INTENA
returns-then-reg-eq-INTENA c x is =
    ena_written c.args.reg.offset c.args.word _ _ c.poke_ena.new.self x c.self.view_is c.if-reg-eq-INTENA.true c.poke_ena.ensures is

pub returns-else-reg-eq-INTENA : goal.returns-else-reg-eq-INTENA
returns-else-reg-eq-INTENA c x is =
    req_written c.args.reg.offset c.args.word _ _ c.poke_req.new.self x c.self.view_is c.if-reg-eq-INTENA.false c.poke_req.ensures is
