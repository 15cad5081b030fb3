-- The words so far were added.
use Rattle.std.proofs.Common.{◌≡◌, ◌≤◌, ◌*◌, take, sum}
use Rattle.foreground.proofs.memory_sum.sum_of_page.Given as goal

abbrev pub invariant-loop-word : goal.invariant-loop-word
invariant-loop-word l = record { total : l.total ≡ sum (take l.word-index l.words); most : l.total ≤ 65536 * l.word-index }
