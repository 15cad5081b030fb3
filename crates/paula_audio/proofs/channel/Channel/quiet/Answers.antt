use Rattle.std.proofs.Common.{◌-◌, ◌∙◌, sym, arith}
use Rattle.paula_audio.proofs.QuietLaws.{quiet_off, quiet_behind, quiet_before, quiet_holding}
use Rattle.paula_audio.proofs.channel.Channel.quiet.Goals as goal

pub returns-then-not-dma-clause-quiet : goal.returns-then-not-dma-clause-quiet
returns-then-not-dma-clause-quiet c =
    quiet_off c.args.h c.args.slot c.args.dma c.args.most c.args.self.now (sym c.requests.ensures ∙ c.if-requests.false) c.if-not-dma.true

pub returns-then-slot-h-clause-quiet : goal.returns-then-slot-h-clause-quiet
returns-then-slot-h-clause-quiet c =
    quiet_behind c.args.h c.args.slot c.args.dma c.args.most c.args.self.now (sym c.requests.ensures ∙ c.if-requests.false) c.if-not-dma.false
    c.if-slot-h.true

pub returns-then-most-before-clause-quiet : goal.returns-then-most-before-clause-quiet
returns-then-most-before-clause-quiet c =
    quiet_before c.args.h c.args.slot c.args.dma c.args.most c.args.self.now (sym c.requests.ensures ∙ c.if-requests.false) c.if-not-dma.false
    c.if-most-before.true

pub returns-then-holds_for-clause-quiet : goal.returns-then-holds_for-clause-quiet
returns-then-holds_for-clause-quiet c =
    quiet_holding c.args.h c.args.slot c.args.dma c.args.most c.args.self.now (sym c.requests.ensures ∙ c.if-requests.false) c.if-not-dma.false
    (c.holds_for.ensures.held c.if-holds_for.true) (c.holds_for.ensures.far c.if-holds_for.true)

pub returns-clause-quiet : goal.returns-clause-quiet
returns-clause-quiet c =
    quiet_before c.args.h c.args.slot c.args.dma (c.args.slot - c.args.h) c.args.self.now (sym c.requests.ensures ∙ c.if-requests.false)
    c.if-not-dma.false (omega arith)
