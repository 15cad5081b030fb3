use Rattle.std.proofs.Common.{arith}
use Rattle.bitplane_dma.proofs.RuleLaws.{asked_as, moved_as, none_asked, none_moved, some_in_unit, none_in_unit}
use Rattle.bitplane_dma.proofs.fetch_in_unit.Goals as goal

pub returns-then-plane-eq0-clause-ask : goal.returns-then-plane-eq0-clause-ask
returns-then-plane-eq0-clause-ask c =
    none_asked c.requires.rules.0 c.args.h c.args.start c.args.regs.now c.args.rules.now c.requires.rules.1
    (none_in_unit c.args.rules.now c.args.h c.args.start c.slot-plane.result c.requires.low c.requires.high
    c.slot-plane.ensures.plane (omega arith))

pub returns-then-plane-eq0-clause-moved : goal.returns-then-plane-eq0-clause-moved
returns-then-plane-eq0-clause-moved c =
    none_moved c.requires.rules.0 c.args.h c.args.start c.args.regs.now c.args.rules.now c.requires.rules.1
    (none_in_unit c.args.rules.now c.args.h c.args.start c.slot-plane.result c.requires.low c.requires.high
    c.slot-plane.ensures.plane (omega arith))

pub returns-clause-ask : goal.returns-clause-ask
returns-clause-ask c =
    asked_as c.requires.rules.0 c.args.h c.args.start c.slot-plane.result c.args.regs.now c.args.rules.now c.fetch_word_by.result c.requires.rules.1
    (some_in_unit c.args.rules.now c.args.h c.args.start c.slot-plane.result c.requires.low c.requires.high
    c.slot-plane.ensures.plane (omega arith)) c.fetch_word_by.ensures.ask

pub returns-clause-moved : goal.returns-clause-moved
returns-clause-moved c =
    moved_as c.requires.rules.0 c.args.h c.args.start c.slot-plane.result c.bytes-bytes.result c.args.regs.now _ c.args.rules.now c.requires.rules.1
    (some_in_unit c.args.rules.now c.args.h c.args.start c.slot-plane.result c.requires.low c.requires.high
    c.slot-plane.ensures.plane (omega arith))
    c.bytes-bytes.ensures.value c.fetch_word_by.ensures.moved
