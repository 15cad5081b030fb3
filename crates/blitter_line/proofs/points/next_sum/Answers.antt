use Rattle.std.proofs.Common.{rules}
use Rattle.std.proofs.lemmas.Int.{wraps}
use Rattle.blit_words.specs.LineBlit.{next_sum}
use Rattle.blitter_line.proofs.points.next_sum.Goals as goal

pub returns-then-p : goal.returns-then-p
unfolding next_sum
returns-then-p c = search (rules, wraps)

pub returns-else-p : goal.returns-else-p
unfolding next_sum
returns-else-p c = search (rules, wraps)
