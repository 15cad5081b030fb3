-- The collision bits of a state, where those of the bands before a clock were gathered and those of the clocks from it on were not.
use Rattle.std.specs.Prelude.{◌≡◌, ◌≤◌, ℕ, ◌+◌, ◌-◌, true, false, bit_or}
use Rattle.serial_model.specs.Made.{is_clx_read}
use Rattle.serial_bands.specs.Run.{RunValue, state_of}
use Rattle.serial_bands.specs.Clock.{made_at, due_at, clx_before_at, clx_after_at}
use Rattle.serial_bands.specs.Bands.{has_clx_read}
use Rattle.serial_bands.specs.BandShown.{clx_from}

-- The collision bits of the state in which a clock begins are those that were gathered of the bands before `first`, and those of
-- the picture steps from it on. A read by the script in this clock sees them.
abbrev pub IsGathered : RunValue → ℕ → ℕ → ℕ → Type 0
IsGathered run c clx first = (state_of run c).clx ≡ bit_or clx (clx_from run first (c - first))

-- the same of the collision bits after the script's events of a clock, before its picture step
abbrev pub IsGatheredIn : RunValue → ℕ → ℕ → ℕ → Type 0
IsGatheredIn run c clx first = clx_before_at run c ≡ bit_or clx (clx_from run first (c - first))

-- a run begins with none
abbrev pub GatheredFirst : Type 0
GatheredFirst = (run : RunValue) → IsGathered run 0 0 0

-- bands that are gathered move the first clock, and once all are gathered the bits are those
abbrev pub GatheredMore : Type 0
GatheredMore = (run : RunValue) (c clx first to : ℕ) → first ≤ to → to ≤ c → IsGathered run c clx first →
    IsGathered run c (bit_or clx (clx_from run first (to - first))) to

abbrev pub GatheredMoreIn : Type 0
GatheredMoreIn = (run : RunValue) (c clx first to : ℕ) → first ≤ to → to ≤ c → IsGatheredIn run c clx first →
    IsGatheredIn run c (bit_or clx (clx_from run first (to - first))) to

abbrev pub GatheredWhole : Type 0
GatheredWhole = (run : RunValue) (c clx : ℕ) → IsGathered run c clx c → (state_of run c).clx ≡ clx

-- the script's events keep the bits, or clear them where they read CLXDAT
abbrev pub GatheredStart : Type 0
GatheredStart = (run : RunValue) (c clx first : ℕ) → has_clx_read (due_at run c) ≡ false → IsGathered run c clx first →
    IsGatheredIn run c clx first

abbrev pub GatheredCleared : Type 0
GatheredCleared = (run : RunValue) (c : ℕ) → has_clx_read (due_at run c) ≡ true → IsGatheredIn run c 0 c

-- a read by the access sees the bits of its own clock's picture step too, and clears them all; another access keeps them
abbrev pub GatheredAtAccess : Type 0
GatheredAtAccess = (run : RunValue) (c clx first : ℕ) → first ≤ c → IsGatheredIn run c clx first →
    clx_after_at run c ≡ bit_or clx (clx_from run first (c + 1 - first))

abbrev pub GatheredNext : Type 0
GatheredNext = (run : RunValue) (c clx first : ℕ) → first ≤ c → is_clx_read (made_at run c) ≡ false → IsGatheredIn run c clx first →
    IsGathered run (c + 1) clx first

abbrev pub GatheredRead : Type 0
GatheredRead = (run : RunValue) (c : ℕ) → is_clx_read (made_at run c) ≡ true → IsGathered run (c + 1) 0 (c + 1)

-- gathered bits of two ranges, one after the other, are those of the whole range
abbrev pub ClxOfRange : Type 0
ClxOfRange = (run : RunValue) (clx first to end : ℕ) → first ≤ to → to ≤ end →
    bit_or (bit_or clx (clx_from run first (to - first))) (clx_from run to (end - to)) ≡ bit_or clx (clx_from run first (end - first))
