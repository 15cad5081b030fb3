-- What is true of every chip memory.
use Rattle.std.specs.Prelude.{◌≡◌, ◌≤◌, ◌<◌, ℕ, List, length, All}
use Rattle.std.specs.List.Sorted.{IsNonDecreasingBy}
use Rattle.mem_versions.specs.declared.write.Write.{Write}
use Rattle.mem_versions.specs.MemoryAt.{words_after}

-- there are words, of 1 MiB at the most, and the present ones are those at the last cut, changed by the writes since, whose clocks do not fall
pub record IsSound (base words : List ℕ) (writes : List Write) (newest : ℕ) : Type 0 where
  pub some : 0 < length base
  pub few : length base ≤ 524288
  pub present : words ≡ words_after base writes
  pub stamped : IsNonDecreasingBy (λ write. write.clock) writes
  pub until : All (λ write. write.clock ≤ newest) writes
