-- What is kept of a chip memory, and the memory that is made of it.
use Rattle.std.specs.Prelude.{ℕ, max, List, []}
use Rattle.mem_versions.specs.Chip.{ChipValue}

pub record KeptValue : Type 0 where
  -- the words, from address 0 on
  pub words : List ℕ
  -- the clock of the last write or cut
  pub clock : ℕ

-- what is kept of a memory
abbrev pub kept_of : ChipValue → KeptValue
kept_of c = record { words = c.words; clock = max c.last c.newest }

-- the memory that is made of it: the last cut was at its clock, and there are no writes
abbrev pub chip_back : KeptValue → ChipValue
chip_back k = record { last = k.clock; base = k.words; writes = []; words = k.words; newest = k.clock; reads = 0 }
