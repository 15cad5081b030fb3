-- The writes of memory of a run, as versions of the memory keep them.
use Rattle.std.specs.Prelude.{◌≡◌, ◌≤◌, ℕ, zero, suc, ◌+◌, ◌-◌, ◌/◌, List, [], ◌∷◌, ◌++◌, slice_index}
use Rattle.mem_versions.specs.Chip.{ChipValue}
use Rattle.mem_versions.specs.MemView.{ViewValue, IsViewOf, word_then}
use Rattle.mem_versions.specs.MemoryAt.{words_after, memory_at}
use Rattle.mem_versions.specs.declared.write.Write.{Write}
use Rattle.serial_model.specs.declared.bus.Made.{Made}
use Rattle.serial_model.specs.declared.bus.Made.TheVariants as M
use Rattle.serial_model.specs.Made.{merge_half}
use Rattle.serial_bands.specs.Run.{RunValue, run_memory}
use Rattle.serial_bands.specs.Clock.{made_at}
use Rattle.serial_bands.specs.RightJob.{HasMemory}

-- the write that an access makes of these words at a clock, if it stores a word or a byte
abbrev pub stores_of : ℕ → Made → List ℕ → List Write
stores_of c M.Nothing memory = []
stores_of c (M.Wrote reg word by) memory = []
stores_of c (M.Read reg by) memory = []
stores_of c (M.Stored at half word) memory =
    record { clock = c; place = at.value / 2; word = merge_half half (slice_index memory (at.value / 2)) word } ∷ []
stores_of c (M.Plane plane at) memory = []
stores_of c (M.Sprite sprite second at) memory = []

abbrev pub stores_at : RunValue → ℕ → List Write
stores_at run c = stores_of c (made_at run c) (run_memory run c)

-- the writes of so many clocks from one on
unfoldable pub stores_from : RunValue → ℕ → ℕ → List Write
stores_from run c zero = []
stores_from run c (suc n) = stores_from run c n ++ stores_at run (c + n)

-- they make the run's memory of the memory at the first of these clocks, at the end and at each clock before
abbrev pub StoresMakeMemory : Type 0
StoresMakeMemory = (run : RunValue) (c n : ℕ) → words_after (run_memory run c) (stores_from run c n) ≡ run_memory run (c + n)

abbrev pub MemoryByStores : Type 0
MemoryByStores = (run : RunValue) (c n k : ℕ) → k ≤ n →
    memory_at (c + k) (run_memory run c) (stores_from run c n) ≡ run_memory run (c + k)

-- so a view that is cut at a band's end from a chip memory that was cut at its begin has the run's words of the band
abbrev pub ViewHasMemory : Type 0
ViewHasMemory = (run : RunValue) (from to : ℕ) (chip : ChipValue) (view : ViewValue) → from ≤ to →
    chip.base ≡ run_memory run from → chip.writes ≡ stores_from run from (to - from) → IsViewOf chip to view →
    HasMemory run from to (word_then view)
