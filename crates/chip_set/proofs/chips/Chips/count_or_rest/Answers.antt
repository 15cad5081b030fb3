-- Where the CIAs rest nothing is done for them.
use Rattle.chip_set.proofs.BusLaws.{rest_next}
use Rattle.chip_set.proofs.TurnLaws.{rested}
use Rattle.chip_set.proofs.chips.Chips.count_or_rest.Goals as goal

pub returns-then-rest-gt0-clause-chips : goal.returns-then-rest-gt0-clause-chips
returns-then-rest-gt0-clause-chips c x is = rested c.args.t c.args.rest c.args.self.now x c.requires.rest c.if-rest-gt0.true is

pub returns-then-rest-gt0-clause-rest : goal.returns-then-rest-gt0-clause-rest
returns-then-rest-gt0-clause-rest c = rest_next c.args.t c.args.rest c.args.self.now c.requires.rest
