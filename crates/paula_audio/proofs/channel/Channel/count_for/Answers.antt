use Rattle.std.proofs.Common.{ap, ◌∙◌, sym, ◌-◌, arith}
use Rattle.paula_audio.specs.code.Quiet.{counted}
use Rattle.paula_audio.proofs.QuietLaws.{counted_rest, counted_none}
use Rattle.paula_audio.proofs.channel.Channel.count_for.Goals as goal

pub loop-left-preserved : goal.loop-left-preserved
loop-left-preserved c =
    ap (λ x. counted (c.loop-left.left - c.count_to_half-left.result) x) c.count_to_half-left.ensures.counted
    ∙ counted_rest c.loop-left.left c.count_to_half-left.result c.loop-left.self c.count_to_half-left.ensures.most ∙ c.loop-left.invariant

pub returns : goal.returns
returns c =
    sym (counted_none c.loop-left.left c.loop-left.self (omega (arith, c.loop-left-test.false))) ∙ c.loop-left.invariant
