-- A view of the memory as contracts see it.
use Rattle.std.specs.Prelude.{◌≡◌, ◌≤◌, ℕ, List, length, slice_index}
use Rattle.ocs_base.specs.declared.addr.Addr.{Addr}
use Rattle.mem_versions.specs.declared.write.Write.{Write}
use Rattle.mem_versions.specs.Chip.{ChipValue, word_index}
use Rattle.mem_versions.specs.MemoryAt.{memory_at, writes_below, writes_to}

pub record ViewValue : Type 0 where
  -- the clock of the cut before, 0 where there was none
  pub from : ℕ
  -- the clock of the cut that made it
  pub to : ℕ
  -- the words at `from`
  pub base : List ℕ
  -- the writes from there on; those to one place are in order of happening
  pub writes : List Write

-- the view covers the clocks from the one cut to the other, ends included
abbrev pub Covers : ViewValue → ℕ → Type 0
Covers view clock = (view.from ≤ clock) × (clock ≤ view.to)

-- the word at an address at the start of a clock, 0 above the memory
abbrev pub word_then : ViewValue → ℕ → Addr → ℕ
word_then view clock at = slice_index (memory_at clock view.base view.writes) (word_index at)

-- what a cut of a chip memory at a clock gives
pub record IsViewOf (chip : ChipValue) (now : ℕ) (view : ViewValue) : Type 0 where
  pub from : view.from ≡ chip.last
  pub to : view.to ≡ now
  pub base : view.base ≡ chip.base
  -- to each place the writes are those of clocks below the cut, in the order in which they happened
  pub writes : (place : ℕ) → writes_to place view.writes ≡ writes_to place (writes_below now chip.writes)
  pub count : length view.writes ≡ length (writes_below now chip.writes)
  -- up to the cut the memory at each clock is the chip's
  pub memory : (clock : ℕ) → clock ≤ now → memory_at clock view.base view.writes ≡ memory_at clock chip.base chip.writes
