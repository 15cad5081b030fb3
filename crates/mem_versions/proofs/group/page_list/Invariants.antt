-- The pages so far are those of the first words.
use Rattle.std.proofs.Common.{◌≡◌, ◌*◌, take, length, All}
use Rattle.std.specs.List.{flat_map}
use Rattle.std.specs.Arc.{arc_value}
use Rattle.mem_versions.proofs.group.page_list.Given as goal

abbrev pub invariant-loop-number : goal.invariant-loop-number
invariant-loop-number l =
    record {
      words : flat_map arc_value l.list.items ≡ take (256 * l.number) l.words;
      count : length l.list.items ≡ l.number;
      size : All (λ page. length (arc_value page) ≡ 256) l.list.items;
    }
