-- A chip memory as contracts see it, and what its calls make of it.
use Rattle.std.specs.Prelude.{ℕ, ◌+◌, ◌-◌, ◌*◌, ◌/◌, ◌%◌, ◌^◌, min, Bool, true, false, List, [], ◌∷◌, ◌++◌, take, drop, slice_index, slice_set}
use Rattle.ocs_base.specs.declared.addr.Addr.{Addr}
use Rattle.ocs_base.specs.declared.chip_size.ChipSize.{ChipSize}
use Rattle.ocs_base.specs.Memory.{memory_of}
use Rattle.mem_versions.specs.declared.write.Write.{Write}
use Rattle.mem_versions.specs.MemoryAt.{memory_at, writes_from}

pub record ChipValue : Type 0 where
  -- the clock of the last cut, 0 before the first
  pub last : ℕ
  -- the words at that clock
  pub base : List ℕ
  -- the writes of clocks from it on, in order of happening
  pub writes : List Write
  -- the present words, from address 0 on
  pub words : List ℕ
  -- the clock of the newest write or cut, 0 before the first
  pub newest : ℕ
  -- how many words were read, where the count has not come to stand still
  pub reads : ℕ

-- the place in the list of the word at an address
abbrev pub word_index : Addr → ℕ
word_index at = at.value / 2

-- the word at an address, 0 above the memory
abbrev pub word_at : ChipValue → Addr → ℕ
word_at c at = slice_index c.words (word_index at)

-- the 256 words of a page
abbrev pub page_of : ChipValue → ℕ → List ℕ
page_of c number = take 256 (drop (256 * number) c.words)

-- the memory of a size that an image makes at clock 0
abbrev pub memory_from : ChipSize → List ℕ → ChipValue
memory_from size image =
    record { last = 0; base = memory_of size image; writes = []; words = memory_of size image; newest = 0; reads = 0 }

-- a count of reads after so many more: it stands still at the greatest number of 64 bits
abbrev pub more_reads : ℕ → ℕ → ℕ
more_reads count reads = min (reads + count) (2 ^ 64 - 1)

-- and the memory
abbrev pub after_reads : ChipValue → ℕ → ChipValue
after_reads c count = record c { reads = more_reads count c.reads }

-- the memory after a write of a word at a clock
abbrev pub after_write : ChipValue → ℕ → Addr → ℕ → ChipValue
after_write c now at word =
    let place = word_index at in
    record c { writes = c.writes ++ record { clock = now; place = place; word = word } ∷ []; words = slice_set c.words place word; newest = now }

-- the memory after a cut at a clock: the writes of that clock stay, and all before it are in the base
abbrev pub after_cut : ChipValue → ℕ → ChipValue
after_cut c now =
    record c { last = now; base = memory_at now c.base c.writes; writes = writes_from now c.writes; newest = now }

-- a word with its high or its low byte replaced
abbrev pub with_half : ℕ → Bool → ℕ → ℕ
with_half word true byte = 256 * byte + word % 256
with_half word false byte = 256 * (word / 256) + byte
