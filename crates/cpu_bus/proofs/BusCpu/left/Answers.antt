use Rattle.cpu_bus.proofs.QuietLaws.{rests_as_left}
use Rattle.cpu_bus.proofs.BusCpu.left.Goals as goal

-- src/quiet.rt:38:5
pub returns-clause-rests : goal.returns-clause-rests
returns-clause-rests c =
    rests_as_left c.args.irq.now c.saturating_sub-2.result c.saturating_sub.result c.args.clocks c.args.self.now
    c.saturating_sub-2.ensures c.saturating_sub.ensures c.requires.on c.requires.given c.requires.clocks c.requires.timed
