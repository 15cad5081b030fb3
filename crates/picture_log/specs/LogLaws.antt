-- Laws of the log: from clock to clock, and from band to band.
use Rattle.std.specs.Prelude.{◌≡◌, ◌≤◌, ◌<◌, ℕ, ◌+◌, true, false, List, [], ◌∷◌, ◌++◌}
use Rattle.ocs_base.specs.declared.beam.Beam.{Beam}
use Rattle.mem_versions.specs.Chip.{ChipValue, after_cut}
use Rattle.serial_model.specs.Made.{is_clx_read}
use Rattle.serial_model.specs.declared.picture.Touch.{Touch}
use Rattle.serial_model.specs.Beam.{is_line_start}
use Rattle.serial_bands.specs.Run.{RunValue, beam_at}
use Rattle.serial_bands.specs.Clock.{made_at, bus_touch_at, sets_at}
use Rattle.serial_bands.specs.Bands.{begins, has_read_at}
use Rattle.serial_bands.specs.BusReads.{latched_words}
use Rattle.serial_bands.specs.Stores.{stores_at}
use Rattle.serial_bands.specs.Shadows.{IsInRange}
use Rattle.serial_bands.specs.Fetches.{fetches_in}
use Rattle.picture_log.specs.Log.{IsLogOf, IsEnding, IsCut, IsStarted, IsShown, with_waiting, with_begin}
use Rattle.picture_log.specs.Log.{with_script_touch, with_script_touches, with_access_touch, blank_after}
use Rattle.picture_log.specs.declared.log.Log.{Log}

-- a clock starts: with no band the write that waited is an event, and with a band its beam and its cleared opening are noted
abbrev pub LogStarts : Type 0
LogStarts = (run : RunValue) (c : ℕ) (log : Log) (chip : ChipValue) → IsLogOf run c log chip → begins run c ≡ false →
    (beam_at run c).frame < run.script.frames → IsStarted run c (with_waiting log) chip

abbrev pub LogBegins : Type 0
LogBegins = (run : RunValue) (c : ℕ) (beam : Beam) (log : Log) (chip : ChipValue) → IsLogOf run c log chip → log.band.from ≡ c →
    (beam_at run c).frame < run.script.frames → beam ≡ beam_at run c → IsStarted run c (with_begin beam log) chip

-- the script's touches of the clock are noted in their order
abbrev pub OneTouchMore : Type 0
OneTouchMore = (c : ℕ) (touch : Touch) (touches : List Touch) (log : Log) →
    with_script_touches c (touches ++ touch ∷ []) log ≡ with_script_touch c touch (with_script_touches c touches log)

abbrev pub LogShown : Type 0
LogShown = (run : RunValue) (c : ℕ) (log : Log) (chip : ChipValue) → IsStarted run c log chip →
    IsShown run c (with_script_touches c (sets_at run c) log) chip

-- the access's touch is noted, and its store is in the memory
abbrev pub LogAccessed : Type 0
LogAccessed = (run : RunValue) (c : ℕ) (log : Log) (chip after : ChipValue) → IsShown run c log chip → IsInRange (bus_touch_at run c) →
    after.base ≡ chip.base → after.last ≡ chip.last → after.writes ≡ chip.writes ++ stores_at run c →
    IsLogOf run (c + 1) (with_access_touch c (bus_touch_at run c) log) after

-- an access that reads CLXDAT touches and stores nothing, so the log stands at the next clock already; and a band begins there
abbrev pub LogRead : Type 0
LogRead = (run : RunValue) (c : ℕ) (log : Log) (chip : ChipValue) → IsShown run c log chip → is_clx_read (made_at run c) ≡ true →
    IsLogOf run (c + 1) log chip

abbrev pub ReadBegins : Type 0
ReadBegins = (run : RunValue) (c : ℕ) → is_clx_read (made_at run c) ≡ true → begins run (c + 1) ≡ true

-- a band that begins where CLXDAT is not read begins with a line
abbrev pub BeginsWithLine : Type 0
BeginsWithLine = (run : RunValue) (c : ℕ) → begins run c ≡ true → has_read_at run c ≡ false → is_line_start (beam_at run c) ≡ true

-- where a band begins with a clock, the one that began before it ends
abbrev pub LogEnds : Type 0
LogEnds = (run : RunValue) (to : ℕ) (log : Log) (chip : ChipValue) → IsLogOf run to log chip → log.band.from < to → begins run to ≡ true →
    IsEnding run to log chip

-- it is cut there, the number of the next band fits, and the words of the shadow that are not yet read are few
abbrev pub LogCuts : Type 0
LogCuts = (run : RunValue) (to : ℕ) (log : Log) (chip : ChipValue) → IsEnding run to log chip →
    IsCut run to (record log { band = blank_after to log.band }) (after_cut chip to)

abbrev pub NumberFits : Type 0
NumberFits = (run : RunValue) (to : ℕ) (log : Log) (chip : ChipValue) → IsEnding run to log chip → log.band.number + 1 ≤ to

abbrev pub FetchesAreFew : Type 0
FetchesAreFew = (run : RunValue) (to : ℕ) (log : Log) (chip : ChipValue) → IsLogOf run to log chip → log.band.from < to →
    fetches_in log.shadow ≤ latched_words run log.band.from to
