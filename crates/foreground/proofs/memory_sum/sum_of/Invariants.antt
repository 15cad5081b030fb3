-- The pages so far were added, and their words counted.
use Rattle.std.proofs.Common.{◌≡◌, ◌≤◌, ◌<◌, ◌*◌, take, sum}
use Rattle.mem_versions.specs.Chip.{after_reads}
use Rattle.foreground.proofs.memory_sum.sum_of.Given as goal

abbrev pub invariant-loop-number : goal.invariant-loop-number
invariant-loop-number l =
    record {
      total : l.total ≡ sum (take (256 * l.number) l.initial.chip.words);
      most : l.total ≤ 16777216 * l.number;
      first : l.number ≡ 0 → l.chip ≡ l.initial.chip;
      counted : 0 < l.number → l.chip ≡ after_reads l.initial.chip (256 * l.number);
    }
