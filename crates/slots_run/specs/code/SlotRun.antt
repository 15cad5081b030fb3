-- A run of which the slots are looked at: where it stands, and what its calls make of that.
use Rattle.std.specs.Prelude.{◌≡◌, ◌≤◌, ◌<◌, ℕ, ◌+◌, List, [], Option, Some, None, unwrap_or, false}
use Rattle.band_draw.specs.Direct.{DirectValue, seen_of}
use Rattle.band_log.specs.Raster.{RasterValue}
use Rattle.foreground.specs.Fore.{ForeOf, ForeValue, over, IsUnderway}
use Rattle.serial_bands.specs.Run.{RunValue, beam_at}
use Rattle.serial_model.specs.Side.{no_side}
use Rattle.serial_model.specs.declared.side.NoSide.{NoSide}
use Rattle.foreground.specs.declared.slot.Slot.{Slot}
use Rattle.ocs_base.specs.declared.addr.Addr.{Addr}
use Rattle.serial_model.specs.Made.{word_of}
use Rattle.slot_log.specs.Entry.{read_address}
use Rattle.slots_run.specs.declared.slot_run.SlotRun.{SlotRun}

-- a foreground without a side, and a raster that draws at once
abbrev pub fore_of : ForeOf NoSide → ForeValue
fore_of fore = over (λ side. no_side) fore

abbrev pub raster_of : DirectValue NoSide → RasterValue
raster_of raster = seen_of (λ side. no_side) raster

-- such a raster without bands
abbrev pub empty_raster : RasterValue
empty_raster = record { outstanding = []; next = 0; bound = None; mark = 0; tint = 0 }

-- the run, and the frame of the present clock
abbrev pub run_in : SlotRun → RunValue
run_in r = (fore_of r.fore).run

abbrev pub frame_in : SlotRun → ℕ
frame_in r = r.fore.machine.beam.frame

-- it stands at a clock of its run
pub record Stands (r : SlotRun) : Type 0 where
  pub first : ℕ
  pub stands : IsUnderway (fore_of r.fore) first (raster_of r.raster)
  pub fresh : r.fore.spent ≡ false

-- it has gone on to a later clock, and none of those that it passed is of a later frame than the first of them
pub record GoesOn (old new : SlotRun) : Type 0 where
  pub stands : Stands new
  pub run : run_in new ≡ run_in old
  pub later : old.fore.machine.t < new.fore.machine.t
  pub frames : (k : ℕ) → old.fore.machine.t ≤ k → k < new.fore.machine.t → (beam_at (run_in old) k).frame ≤ frame_in old
  pub next : frame_in new ≤ frame_in old + 1

-- it has come to the first clock of a frame
pub record Comes (frame : ℕ) (old new : SlotRun) : Type 0 where
  pub stands : Stands new
  pub run : run_in new ≡ run_in old
  pub on : old.fore.machine.t ≤ new.fore.machine.t
  pub there : frame_in new ≡ frame
  pub before : (k : ℕ) → old.fore.machine.t ≤ k → k < new.fore.machine.t → (beam_at (run_in old) k).frame < frame

-- the word that answered what the owner of a slot asked for, where these are the words of memory after the clock
abbrev pub answer_from : List ℕ → Option Addr → Option ℕ → ℕ
answer_from memory (Some at) register = word_of memory at.value
answer_from memory None register = unwrap_or register 0

abbrev pub answer_after : List ℕ → Slot → ℕ
answer_after memory slot = answer_from memory (read_address slot.ask) slot.read
