-- What gathering bands from a raster gives.
use Rattle.std.specs.Prelude.{◌≡◌, ◌≤◌, ◌<◌, ◌↔◌, ℕ, zero, suc, ◌+◌, ◌-◌, List, [], ◌∷◌, ◌++◌, bit_or, Option, Some, None, IsSome, IsOk, Result}
use Rattle.out_files.specs.OutFiles.{OutFilesValue}
use Rattle.serial_model.specs.declared.picture.Denise.{Denise}
use Rattle.serial_bands.specs.Run.{RunValue}
use Rattle.serial_bands.specs.Bands.{AreBands}
use Rattle.serial_bands.specs.BandShown.{bytes_from, clx_from, tinted_bytes}
use Rattle.band_log.specs.Raster.{RasterValue, Outstanding, Takes}
use Rattle.out_files.specs.Gives.{Gives}
use Rattle.picture_log.specs.Closing.{IsClosing}

-- so many bands of a run, from number n on, as they are outstanding
abbrev pub outstanding_from : RunValue → ℕ → ℕ → List Outstanding
outstanding_from run n zero = []
outstanding_from run n (suc count) = record { run = run; number = n } ∷ outstanding_from run (n + 1) count

-- A raster fits: outstanding are the bands of the run from clock `first` on up to clock `to`, where band `number` begins,
-- which is the next; they are at most sixteen; and it takes bands of the run.
pub record Fits (run : RunValue) (number to first : ℕ) (seen : RasterValue) : Type 0 where
  pub least : ℕ
  pub count : ℕ
  pub few : count ≤ 16
  pub outstanding : seen.outstanding ≡ outstanding_from run least count
  pub bands : AreBands run least count first to
  pub next : seen.next ≡ number
  pub sum : least + count ≡ number
  pub bound : Takes seen.bound run

-- mark and tint stay, and to whom it is bound
pub record KeepsMark (old new : RasterValue) : Type 0 where
  pub bound : new.bound ≡ old.bound
  pub mark : new.mark ≡ old.mark
  pub tint : new.tint ≡ old.tint

-- the pixel bytes of a range of clocks under a raster's tint
abbrev pub tinted_range : RunValue → ℕ → ℕ → ℕ → List ℕ
tinted_range run tint from to = tinted_bytes tint (bytes_from run from (to - from))

-- The bands from clock `first` up to clock `then` were gathered: their pixel bytes went to the output files under the
-- tint, and their collision bits were added.
pub record HasGathered (run : RunValue) (number to first then : ℕ) (seen after : RasterValue) (old new : OutFilesValue)
    (clx gathered : ℕ) : Type 0 where
  pub least : first ≤ then
  pub most : then ≤ to
  pub fits : Fits run number to then after
  pub mark : KeepsMark seen after
  pub pixels : Gives old new (tinted_range run seen.tint first then) []
  pub bits : gathered ≡ bit_or clx (clx_from run first (then - first))

-- where memory was wanted, a part of their bytes went there, from the first one on
pub record HasGatheredPart (run : RunValue) (number to first : ℕ) (seen after : RasterValue) (old new : OutFilesValue)
    : Type 0 where
  pub then : ℕ
  pub least : first ≤ then
  pub most : then ≤ to
  pub fits : Fits run number to then after
  pub mark : KeepsMark seen after
  pub part : List ℕ
  pub rest : List ℕ
  pub split : part ++ rest ≡ tinted_range run seen.tint first then
  pub pixels : Gives old new part []

abbrev pub IsClosingIfAny : RunValue → ℕ → Option Denise → Type 0
IsClosingIfAny run to None = Unit {0}
IsClosingIfAny run to (Some closing) = IsClosing run to closing

-- a band was gathered that ends at some clock, and this stands for its closing picture state
pub record HasGatheredOne (run : RunValue) (number to first : ℕ) (seen after : RasterValue) (old new : OutFilesValue)
    (clx gathered : ℕ) (closing : Denise) : Type 0 where
  pub then : ℕ
  pub grows : first < then
  pub bands : HasGathered run number to first then seen after old new clx gathered
  pub closes : IsClosing run then closing

-- bands were gathered up to some clock, and this stands for the closing picture state of the last, if there was one
pub record HasGatheredTo (run : RunValue) (number to first then : ℕ) (seen after : RasterValue) (old new : OutFilesValue)
    (clx gathered : ℕ) (closing : Option Denise) : Type 0 where
  pub bands : HasGathered run number to first then seen after old new clx gathered
  pub any : IsSome closing ↔ (first < then)
  pub closes : IsClosingIfAny run then closing

-- The bands from clock `first` up to clock `then` were gathered, and the job of band `number`, which begins at clock `from`
-- and ends at clock `to`, was submitted: the raster then fits where the band behind it is the next.
pub record HasSubmitted (run : RunValue) (number from to first : ℕ) (seen after : RasterValue) (old new : OutFilesValue)
    (clx gathered : ℕ) : Type 0 where
  pub then : ℕ
  pub before : then ≤ from
  pub bands : HasGathered run (number + 1) to first then seen after old new clx gathered

-- What calls give, for whatever run and clocks the raster fits.
abbrev pub GathersOne : RasterValue → RasterValue → OutFilesValue → OutFilesValue → ℕ → ℕ → Denise → Type 0
GathersOne seen after old new clx gathered closing =
    (run : RunValue) (number to first : ℕ) → Fits run number to first seen →
    HasGatheredOne run number to first seen after old new clx gathered closing

abbrev pub GathersSome : RasterValue → RasterValue → OutFilesValue → OutFilesValue → ℕ → ℕ → Type 0
GathersSome seen after old new clx gathered =
    (run : RunValue) (number to first : ℕ) → Fits run number to first seen →
    (then : ℕ) × HasGathered run number to first then seen after old new clx gathered

abbrev pub GathersUpTo : RasterValue → RasterValue → OutFilesValue → OutFilesValue → ℕ → ℕ → Option Denise → Type 0
GathersUpTo seen after old new clx gathered closing =
    (run : RunValue) (number to first : ℕ) → Fits run number to first seen →
    (then : ℕ) × HasGatheredTo run number to first then seen after old new clx gathered closing

abbrev pub GathersAll : RasterValue → RasterValue → OutFilesValue → OutFilesValue → ℕ → ℕ → Option Denise → Type 0
GathersAll seen after old new clx gathered closing =
    (run : RunValue) (number to first : ℕ) → Fits run number to first seen →
    HasGatheredTo run number to first to seen after old new clx gathered closing

abbrev pub GathersPart : RasterValue → RasterValue → OutFilesValue → OutFilesValue → Type 0
GathersPart seen after old new =
    (run : RunValue) (number to first : ℕ) → Fits run number to first seen →
    HasGatheredPart run number to first seen after old new

-- no band was gathered: the raster is as said, nothing was given, and memory was not wanted
abbrev pub GathersNone : {E : Type 0} → Result (Unit {0}) E → RasterValue → RasterValue → OutFilesValue → OutFilesValue → ℕ → ℕ → Type 0
GathersNone answer seen after old new clx gathered = IsOk answer × (after ≡ seen) × (new ≡ old) × (gathered ≡ clx)

abbrev pub Submits : RunValue → ℕ → ℕ → ℕ → RasterValue → RasterValue → OutFilesValue → OutFilesValue → ℕ → ℕ → Type 0
Submits run number from to seen after old new clx gathered =
    (first : ℕ) → Fits run number from first seen →
    HasSubmitted run number from to first seen after old new clx gathered
