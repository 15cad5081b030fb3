use Rattle.cpu_bus.proofs.QuietLaws.{rests_stopped}
use Rattle.std.proofs.Common.{sym, ◌∙◌}
use Rattle.cpu_bus.proofs.BusCpu.left_stopped.Goals as goal

-- src/quiet.rt:50:5
pub returns-then-level-mask : goal.returns-then-level-mask
returns-then-level-mask c =
    rests_stopped c.args.irq.now 4294967295 c.level.result c.mask.result c.args.self.now c.requires.on c.requires.given c.if-self-eq0.true c.requires.untimed
    (λ p s. sym c.if-is_stopped.true ∙ c.is_stopped.ensures p.regs p.under p.answers s.stands) (λ p s. c.mask.ensures p.regs p.under p.answers s.stands)
    c.level.ensures.level c.if-level-mask.true
