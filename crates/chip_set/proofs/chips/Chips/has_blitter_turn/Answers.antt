use Rattle.chip_set.proofs.BusLaws.{turn_of_blitter, turn_of_processor, turn_if_first, no_turn}
use Rattle.chip_set.proofs.chips.Chips.has_blitter_turn.Goals as goal

pub returns-then-claim-clause-blitter : goal.returns-then-claim-clause-blitter
returns-then-claim-clause-blitter c =
    turn_of_blitter c.args.self.now _ (turn_if_first c.args.self.now c.args.claim.now.asks c.is_processor_first.result c.requires.asks
    c.if-claim.true c.is_processor_first.ensures)

pub returns-then-claim-clause-processor : goal.returns-then-claim-clause-processor
returns-then-claim-clause-processor c =
    turn_of_processor c.args.self.now _ (turn_if_first c.args.self.now c.args.claim.now.asks c.is_processor_first.result c.requires.asks
    c.if-claim.true c.is_processor_first.ensures)

pub returns-else-claim-clause-processor : goal.returns-else-claim-clause-processor
returns-else-claim-clause-processor c =
    turn_of_processor c.args.self.now _ (no_turn c.args.self.now c.args.claim.now.asks c.requires.asks c.if-claim.false)
