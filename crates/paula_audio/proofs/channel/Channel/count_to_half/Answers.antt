use Rattle.std.proofs.Common.{ap, ◌∙◌}
use Rattle.paula_audio.specs.Channel.{next_half}
use Rattle.paula_audio.proofs.QuietLaws.{counted_less, counted_half}
use Rattle.paula_audio.proofs.channel.Channel.count_to_half.Goals as goal

pub returns-then-most-self-clause-counted : goal.returns-then-most-self-clause-counted
returns-then-most-self-clause-counted c = counted_less c.args.most c.args.self.now c.if-most-self.true

pub returns-clause-counted : goal.returns-clause-counted
returns-clause-counted c =
    c.next_half.ensures ∙ ap (λ k. next_half (record c.args.self.now { counter = k })) c.saturating_sub-self.ensures
    ∙ counted_half c.max-clocks.result c.args.self.now c.max-clocks.ensures
