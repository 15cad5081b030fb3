-- The memory at a clock: the words at an earlier clock, changed by the writes before it.
use Rattle.std.specs.Prelude.{ℕ, not, List, [], ◌∷◌, ◌/◌, ◌==◌, nat_lt, filter, count_by, slice_set}
use Rattle.mem_versions.specs.declared.write.Write.{Write}

-- the words after writes, made in order
abbrev pub words_after : List ℕ → List Write → List ℕ
words_after words [] = words
words_after words (write ∷ writes) = words_after (slice_set words write.place write.word) writes

-- the writes of clocks below one, in order
abbrev pub writes_below : ℕ → List Write → List Write
writes_below clock = filter (λ write. nat_lt write.clock clock)

-- the writes of clocks from one on, in order
abbrev pub writes_from : ℕ → List Write → List Write
writes_from clock = filter (λ write. not (nat_lt write.clock clock))

-- the writes to a place, in order
abbrev pub writes_to : ℕ → List Write → List Write
writes_to place = filter (λ write. write.place == place)

-- how many writes there are to a page
abbrev pub page_writes : ℕ → List Write → ℕ
page_writes page = count_by (λ write. write.place / 256 == page)

-- the memory at the start of a clock: the writes of clocks below it are made, and none other
abbrev pub memory_at : ℕ → List ℕ → List Write → List ℕ
memory_at clock base writes = words_after base (writes_below clock writes)
