use Rattle.std.proofs.Common.{ap, ◌∙◌, ◌-◌, arith}
use Rattle.paula_audio.specs.code.Quiet.{counted}
use Rattle.paula_audio.proofs.QuietLaws.{no_tick, ticked_on, ticked_off}
use Rattle.paula_audio.proofs.channel.Channel.skip.Goals as goal

pub returns-then-clocks-eq0 : goal.returns-then-clocks-eq0
returns-then-clocks-eq0 c = no_tick c.args.dma c.args.clocks c.args.self.now c.if-clocks-eq0.true

pub returns-then-dma : goal.returns-then-dma
returns-then-dma c =
    c.count_for.ensures ∙ ap (λ x. counted (c.args.clocks - 1) x) c.tick.ensures.state
    ∙ ticked_on c.args.dma c.args.clocks c.args.self.now c.if-dma.true (omega (arith, c.if-clocks-eq0.false))

pub returns-else-dma : goal.returns-else-dma
returns-else-dma c = c.tick.ensures.state ∙ ticked_off c.args.dma c.args.clocks c.args.self.now c.if-dma.false (omega (arith, c.if-clocks-eq0.false))
