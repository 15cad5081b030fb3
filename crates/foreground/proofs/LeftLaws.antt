-- Which bands are outstanding where memory is wanted: the last of them ends where the open one begins.
use Rattle.std.proofs.Common.{◌≡◌, ℕ, true, ◌++◌, inl, inr, refl, sym, subst}
use Rattle.mem_versions.specs.Chip.{ChipValue}
use Rattle.serial_bands.specs.Run.{RunValue}
use Rattle.serial_bands.specs.Bands.{begins, begun}
use Rattle.serial_bands.specs.OpenBand.{clock_events}
use Rattle.serial_bands.specs.Stores.{stores_at}
use Rattle.band_log.specs.Raster.{RasterValue}
use Rattle.picture_log.specs.Log.{IsLogOf, IsStarted, IsShown, IsEnding, Grows}
use Rattle.band_gather.specs.Gathered.{Fits}
use Rattle.foreground.specs.Clock.{AreLeftFrom}
use Rattle.picture_log.specs.declared.band.OpenBand.{OpenBand}
use Rattle.picture_log.specs.declared.log.Log.{Log}

-- a band begins with a clock, and has this number
abbrev pub IsBeginOf : RunValue → ℕ → ℕ → Type 0
IsBeginOf run from number = (begun run from ≡ number) × (begins run from ≡ true)

pub left_from : (run : RunValue) (number to until : ℕ) (seen : RasterValue) → IsBeginOf run to number → Fits run number to until seen
    → AreLeftFrom run until seen
left_from run number to until seen place fits =
    record { number = number; to = to; fits = fits; count = place.0; begin = place.1 }

pub log_band : (run : RunValue) (c : ℕ) (log : Log) (chip : ChipValue) → IsLogOf run c log chip → IsBeginOf run log.band.from log.band.number
log_band run c log chip is =
    elim is.band [
      | inl beginning ↦
          subst (λ k. IsBeginOf run k log.band.number) (sym beginning.0.from) (beginning.0.number, beginning.0.begin)
      | inr growing ↦ (growing.kept.number, growing.kept.begin)
    ]

pub ending_band : (run : RunValue) (to : ℕ) (log : Log) (chip : ChipValue) → IsEnding run to log chip → IsBeginOf run log.band.from log.band.number
ending_band run to log chip is = (is.kept.number, is.kept.begin)

growing_band : (run : RunValue) (c : ℕ) (band : OpenBand) (chip : ChipValue) → Grows run c band chip → IsBeginOf run band.from band.number
growing_band run c band chip grows =
    let grown : OpenBand = record band { events = band.events ++ clock_events run c } in
    let after : ChipValue = record chip { writes = chip.writes ++ stores_at run c } in
    let kept = grows grown after refl refl refl in
    (kept.number, kept.begin)

pub started_band : (run : RunValue) (c : ℕ) (log : Log) (chip : ChipValue) → IsStarted run c log chip → IsBeginOf run log.band.from log.band.number
started_band run c log chip is = growing_band run c log.band chip is.grows

pub shown_band : (run : RunValue) (c : ℕ) (log : Log) (chip : ChipValue) → IsShown run c log chip → IsBeginOf run log.band.from log.band.number
shown_band run c log chip is =
    subst (λ (band : OpenBand). IsBeginOf run band.from band.number) (sym is.band) (growing_band run c is.before chip is.grows)
