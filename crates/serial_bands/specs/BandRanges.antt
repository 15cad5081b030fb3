-- Laws of the ranges that bands fill: their order, how they join, and how many bytes they show, under a tint or not.
use Rattle.std.specs.Prelude.{◌≡◌, ◌<◌, ◌≤◌, ℕ, ◌+◌, ◌-◌, ◌*◌, true, List, ◌++◌, length}
use Rattle.ocs_base.specs.declared.beam.Beam.{Beam}
use Rattle.mem_versions.specs.Chip.{ChipValue}
use Rattle.serial_model.specs.declared.picture.Denise.{Denise}
use Rattle.serial_bands.specs.declared.event.Event.{Event}
use Rattle.serial_bands.specs.Run.{RunValue}
use Rattle.serial_bands.specs.Bands.{begins, IsBand, AreBands}
use Rattle.serial_bands.specs.BandShown.{bytes_from, tinted_bytes}
use Rattle.serial_bands.specs.OpenBand.{IsOpen}

-- bytes under a tint are put together and counted as bytes without one
abbrev pub TintOfTwo : Type 0
TintOfTwo = (tint : ℕ) (a b : List ℕ) → tinted_bytes tint (a ++ b) ≡ tinted_bytes tint a ++ tinted_bytes tint b

abbrev pub LengthOfTint : Type 0
LengthOfTint = (tint : ℕ) (a : List ℕ) → length (tinted_bytes tint a) ≡ length a

-- bands are in order, and none is empty
abbrev pub BandsRise : Type 0
BandsRise = (run : RunValue) (n count from to : ℕ) → AreBands run n count from to → from + count ≤ to

-- where bands begin, one begins
abbrev pub BandsBegin : Type 0
BandsBegin = (run : RunValue) (n count from to : ℕ) → AreBands run n count from to → 0 < count → begins run from ≡ true

-- bands of these numbers fill one range alone
abbrev pub BandsAreAlone : Type 0
BandsAreAlone = (run : RunValue) (n count from to other end : ℕ) → 0 < count → AreBands run n count from to →
    AreBands run n count other end → (from ≡ other) × (to ≡ end)

-- bands follow bands
abbrev pub BandsOfTwo : Type 0
BandsOfTwo = (run : RunValue) (n count more from middle to : ℕ) → AreBands run n count from middle →
    AreBands run (n + count) more middle to → AreBands run n (count + more) from to

-- the bytes of two ranges, one after the other, are those of the whole range
abbrev pub BytesOfBandsTinted : Type 0
BytesOfBandsTinted = (run : RunValue) (tint first to end : ℕ) → first ≤ to → to ≤ end →
    tinted_bytes tint (bytes_from run first (to - first)) ++ tinted_bytes tint (bytes_from run to (end - to))
    ≡ tinted_bytes tint (bytes_from run first (end - first))

-- an open band is a band where the next one begins
abbrev pub OpenIsBand : Type 0
OpenIsBand = (run : RunValue) (n from c : ℕ) (beam : Beam) (opening : Denise) (events : List Event) (bytes : ℕ) (chip : ChipValue) →
    IsOpen run n from c beam opening events bytes chip → begins run c ≡ true → IsBand run n from c

-- a clock shows at most four pixels of three bytes
abbrev pub BytesRise : Type 0
BytesRise = (run : RunValue) (from n : ℕ) → length (bytes_from run from n) ≤ 12 * n
