-- What the calls of an access ask for, and what they make.
use Rattle.std.specs.Prelude.{◌≡◌, ℕ, Option, Result, OnOk, OnErr}
use Rattle.out_files.specs.OutFiles.{OutFilesValue}
use Rattle.serial_model.specs.declared.bus.Ask.{Ask}
use Rattle.serial_model.specs.State.{State}
use Rattle.serial_model.specs.Tick.{ask_of, answer_of}
use Rattle.serial_model.specs.Bus.{reads_of_ask}
use Rattle.chip_set.specs.Chips.{CanAsk, IsBlitAsk, kept_wish}
use Rattle.band_log.specs.Raster.{RasterValue}
use Rattle.foreground.specs.Fore.{ForeValue}
use Rattle.serial_model.specs.RegisterRead.{register_read}
use Rattle.machine.specs.Machine.{reads_more}
use Rattle.foreground.specs.Steps.{IsLoggedBefore, HasAskedNow, MakesAskedAccess, AccessesPart, KeepsClock}

-- the log stands before the access of the clock, and the chips have asked for the slot with this
pub record CanAccess (ask : Ask) (fore : ForeValue) (seen : RasterValue) : Type 0 where
  pub logged : (first : ℕ) × IsLoggedBefore fore first seen
  pub asked : HasAskedNow ask fore
  pub able : CanAsk ask
  pub wish : IsBlitAsk ask (kept_wish fore.machine.chips)

-- the access with this ask was made, or, where memory was wanted, a part of the pixels of outstanding bands was given
pub record MakesAccessWith {A E : Type 0} (ask : Ask) (old new : ForeValue) (seen after : RasterValue) (out given : OutFilesValue)
    (result : Result A E) : Type 0 where
  pub makes : OnOk result (MakesAskedAccess old new seen after out given)
  pub part : OnErr result (AccessesPart old seen after out given)
  pub kept : KeepsClock old new
  pub reads : new.machine.chip.reads ≡ reads_more (reads_of_ask ask) old.machine.chip.reads

-- the word of a register that answers the access which is made in a state
abbrev pub IsWordAt : Option ℕ → State → Type 0
IsWordAt word s = word ≡ register_read (ask_of s) (answer_of s)
