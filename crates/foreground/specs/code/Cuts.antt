-- What ends a band, and what gathering for a read of CLXDAT gives.
use Rattle.std.specs.Prelude.{◌≡◌, ◌≤◌, ◌-◌, Bool, ℕ, [], bit_or, Option, IsSome, Result, IfOk, OnErr}
use Rattle.out_files.specs.OutFiles.{OutFilesValue}
use Rattle.serial_model.specs.declared.picture.Denise.{Denise}
use Rattle.serial_bands.specs.BandShown.{clx_from}
use Rattle.band_log.specs.Raster.{RasterValue}
use Rattle.picture_log.specs.Log.{IsLogOf, IsEnding, IsCut}
use Rattle.band_gather.specs.Gathered.{Fits, HasGatheredTo}
use Rattle.foreground.specs.Clock.{HasGiven, HasGivenPart}
use Rattle.foreground.specs.Fore.{ForeValue}
use Rattle.foreground.specs.Steps.{ReadsBits, ReadsPart, KeepsClock}

-- right before the picture step of a clock: the log stands there, and outstanding are the bands from clock `first` on
pub record StandsBefore (to first : ℕ) (fore : ForeValue) (seen : RasterValue) : Type 0 where
  pub log : IsLogOf fore.run to fore.log fore.machine.chip
  pub fits : Fits fore.run fore.log.band.number fore.log.band.from first seen
  pub time : fore.machine.chip.newest ≤ to

-- the same where the band that is open ends there
pub record StandsAtEnd (to first : ℕ) (fore : ForeValue) (seen : RasterValue) : Type 0 where
  pub ending : IsEnding fore.run to fore.log fore.machine.chip
  pub fits : Fits fore.run fore.log.band.number fore.log.band.from first seen
  pub time : fore.machine.chip.newest ≤ to

-- The band that was open has ended before clock `to`, and the next begins there. Bands up to clock `until` are gathered, their
-- pixel bytes given and their collision bits added.
pub record HasEnded (to first until : ℕ) (old new : ForeValue) (seen after : RasterValue) (out given : OutFilesValue) : Type 0 where
  pub same : new ≡ record old { machine = record old.machine { chip = new.machine.chip }; log = new.log; clx = new.clx }
  pub words : new.machine.chip.words ≡ old.machine.chip.words
  pub begin : new.log.band.from ≡ to
  pub stands : StandsBefore to until new after
  pub gives : HasGiven old.run first until seen after out given []
  pub bits : new.clx ≡ bit_or old.clx (clx_from old.run first (until - first))

-- whatever clock the outstanding bands begin with: at a line some of them are gathered, and where CLXDAT is read all of them
abbrev pub EndsAtLine : ℕ → ForeValue → ForeValue → RasterValue → RasterValue → OutFilesValue → OutFilesValue → Type 0
EndsAtLine to old new seen after out given =
    (first : ℕ) → StandsBefore to first old seen → (until : ℕ) × HasEnded to first until old new seen after out given

abbrev pub EndsAtRead : ℕ → ForeValue → ForeValue → RasterValue → RasterValue → OutFilesValue → OutFilesValue → Type 0
EndsAtRead to old new seen after out given =
    (first : ℕ) → StandsAtEnd to first old seen → HasEnded to first to old new seen after out given

-- The same, while how the next band opens is not known yet: `closing` is the closing picture state of the last band.
pub record HasEndedAll (to first : ℕ) (old new : ForeValue) (seen after : RasterValue) (out given : OutFilesValue)
    (closing : Option Denise) : Type 0 where
  pub same : new ≡ record old { machine = record old.machine { chip = new.machine.chip }; log = new.log; clx = new.clx }
  pub words : new.machine.chip.words ≡ old.machine.chip.words
  pub time : new.machine.chip.newest ≤ to
  pub cut : IsCut old.run to new.log new.machine.chip
  pub some : IsSome closing
  pub gathered : HasGatheredTo old.run new.log.band.number to first to seen after out given old.clx new.clx closing

abbrev pub EndsAll : ℕ → ForeValue → ForeValue → RasterValue → RasterValue → OutFilesValue → OutFilesValue → Option Denise → Type 0
EndsAll to old new seen after out given closing =
    (first : ℕ) → StandsAtEnd to first old seen → HasEndedAll to first old new seen after out given closing

-- memory was wanted: a part of the pixels of outstanding bands was given
abbrev pub EndsPart : ℕ → ForeValue → RasterValue → RasterValue → OutFilesValue → OutFilesValue → Type 0
EndsPart to old seen after out given =
    (first : ℕ) → StandsBefore to first old seen → HasGivenPart old.run first seen after out given

abbrev pub EndsPartAtRead : ℕ → ForeValue → RasterValue → RasterValue → OutFilesValue → OutFilesValue → Type 0
EndsPartAtRead to old seen after out given =
    (first : ℕ) → StandsAtEnd to first old seen → HasGivenPart old.run first seen after out given

-- CLXDAT is read within a clock: the bits that the read sees, or, where memory was wanted, a part of the pixels of outstanding bands
pub record ReadsClxdat {E : Type 0} (shown : Bool) (old new : ForeValue) (seen after : RasterValue) (out given : OutFilesValue)
    (result : Result ℕ E) : Type 0 where
  pub bits : IfOk result (λ clx. ReadsBits shown old new clx seen after out given)
  pub part : OnErr result (ReadsPart shown old seen after out given)
  pub kept : KeepsClock old new
  pub reads : new.machine.chip.reads ≡ old.machine.chip.reads
