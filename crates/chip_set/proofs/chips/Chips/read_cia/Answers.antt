use Rattle.chip_set.proofs.PartLaws.{a_was_read, b_was_read, a_byte, b_byte}
use Rattle.chip_set.proofs.chips.Chips.read_cia.Goals as goal

pub returns-in-A-clause-chips : goal.returns-in-A-clause-chips
returns-in-A-clause-chips c x is =
    a_was_read c.args.cia c.args.reg.number _ _ c.peek.new.self x c.self.view_is c.in-A.is c.peek.ensures.state is

pub returns-in-A-clause-word : goal.returns-in-A-clause-word
returns-in-A-clause-word c x is =
    a_byte c.args.cia c.args.reg.number c.pins-pins.result c.peek.result _ _ x c.self.view_is c.in-A.is c.pins-pins.ensures c.peek.ensures.byte is

pub returns-in-B-clause-chips : goal.returns-in-B-clause-chips
returns-in-B-clause-chips c x is =
    b_was_read c.args.cia c.args.reg.number _ _ c.peek-in-B.new.self x c.self.view_is c.in-B.is c.peek-in-B.ensures.state is

pub returns-in-B-clause-word : goal.returns-in-B-clause-word
returns-in-B-clause-word c x is =
    b_byte c.args.cia c.args.reg.number c.pins-pins.result c.peek-in-B.result _ _ x c.self.view_is c.in-B.is c.pins-pins.ensures
    c.peek-in-B.ensures.byte is
