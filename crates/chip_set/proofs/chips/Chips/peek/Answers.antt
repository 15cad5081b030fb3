use Rattle.chip_set.proofs.PartLaws.{clx_word, ena_word, req_word}
use Rattle.chip_set.proofs.chips.Chips.peek.Goals as goal

pub returns-in-14 : goal.returns-in-14
returns-in-14 c x is = clx_word c.args.reg.offset c.args.beam.now c.args.clx x c.in-14.is

pub returns-in-28 : goal.returns-in-28
returns-in-28 c x is =
    ena_word c.args.reg.offset c.args.beam.now c.args.clx c.ena.result _ _ x c.self.view_is c.in-28.is c.ena.ensures is

pub returns-in-30 : goal.returns-in-30
returns-in-30 c x is =
    req_word c.args.reg.offset c.args.beam.now c.args.clx c.req.result _ _ x c.self.view_is c.in-30.is c.req.ensures is
