use Rattle.std.proofs.Common.{◌≡◌}
use Rattle.paula_audio.specs.code.Quiet.{counted}
use Rattle.paula_audio.proofs.channel.Channel.count_for.Given as goal

-- the clocks that are left lead to where all of them do
abbrev pub invariant-loop-left : goal.invariant-loop-left
invariant-loop-left l = counted l.left l.self ≡ counted l.clocks l.initial.self

abbrev pub decreases-loop-left : goal.decreases-loop-left
decreases-loop-left l = l.left
