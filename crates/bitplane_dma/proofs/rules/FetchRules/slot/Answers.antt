use Rattle.bitplane_dma.proofs.RuleLaws.{slot_most}
use Rattle.bitplane_dma.proofs.rules.FetchRules.slot.Goals as goal

pub returns-clause-most : goal.returns-clause-most
returns-clause-most c = slot_most c.requires.rules.0 c.args.slot c.requires.rules.1 c.args.self.now c.requires.rules.2
