-- What an access or an event of the script makes, done to the machine without its picture.
use Rattle.std.specs.Prelude.{◌≡◌, ℕ, ◌/◌, List, [], slice_index}
use Rattle.mem_versions.specs.Chip.{ChipValue, after_write}
use Rattle.ocs_base.specs.declared.reg.Reg.{Reg}
use Rattle.out_files.specs.OutFiles.{OutFilesValue}
use Rattle.serial_model.specs.declared.bus.Ask.{Ask}
use Rattle.serial_model.specs.declared.bus.Ask.TheVariants as A
use Rattle.serial_model.specs.declared.bus.Made.{Made}
use Rattle.serial_model.specs.declared.bus.SideAsk.{SideAsk}
use Rattle.serial_model.specs.declared.bus.SideAsk.TheVariants as S
use Rattle.serial_model.specs.declared.bus.Made.TheVariants as M
use Rattle.serial_model.specs.Made.{word_of, chips_after, lof_after, merge_half, lines_of}
use Rattle.serial_model.specs.Side.{poke_side, answer_side, side_by_made}
use Rattle.serial_model.specs.State.{Chips, State}
use Rattle.serial_model.specs.Tick.{count_timers, ask_of}
use Rattle.serial_model.specs.Write.{write_chips, write_lof}
use Rattle.chip_set.specs.Chips.{IsChipsOf, read_by}
use Rattle.machine.specs.Machine.{MachineValue, IsMachineOf, HasAskedOf, MakesQuietly}
use Rattle.out_files.specs.Gives.{Gives}

-- a write reached the chips and LOF; the trace has no line of it yet
pub record WritesRegister (reg : Reg) (word : ℕ) (old new : MachineValue) : Type 0 where
  pub t : new.t ≡ old.t
  pub beam : new.beam ≡ record old.beam { lof = write_lof reg.offset word old.beam.lof }
  pub chip : new.chip ≡ old.chip
  pub chips : (c : Chips) → IsChipsOf old.chips c → IsChipsOf new.chips (write_chips reg.offset word c)
  pub side : new.side ≡ poke_side reg word old.side

-- the timers and the side have ticked, and with that the chips have asked for the slot: what the machine was in between
pub record AsksInTime (ask : Ask) (old new : MachineValue) : Type 0 where
  pub between : MachineValue
  pub timers : MakesQuietly count_timers old between
  pub kept : between ≡ record old { chips = between.chips; side = between.side }
  pub asks : (s : State) → IsMachineOf between s → ask ≡ ask_of s
  pub asked : (s : State) → IsMachineOf between s → HasAskedOf new s
  pub same : new ≡ record between { chips = new.chips }

-- the memory after a store at a clock; nothing else that is made changes it
abbrev pub chip_after : ℕ → Made → ChipValue → ChipValue
chip_after t M.Nothing chip = chip
chip_after t (M.Wrote reg word by) chip = chip
chip_after t (M.Read reg by) chip = chip
chip_after t (M.Stored at half word) chip =
    after_write chip t at (merge_half half (slice_index chip.words (at.value / 2)) word)
chip_after t (M.Plane plane at) chip = chip
chip_after t (M.Sprite sprite second at) chip = chip

-- a side that asked has its word: a disk the one that it stores, and audio the one that it reads, which counts
abbrev pub word_for_side : SideAsk → List ℕ → ℕ
word_for_side S.Nothing memory = 0
word_for_side (S.Disk at word) memory = word
word_for_side (S.Audio channel at) memory = word_of memory at.value

abbrev pub word_given : Ask → List ℕ → ℕ
word_given A.Free memory = 0
word_given (A.Side ask) memory = word_for_side ask memory
word_given (A.Plane ask) memory = 0
word_given (A.Sprite ask) memory = 0
word_given (A.Copper at) memory = 0
word_given (A.Blit ask) memory = 0
word_given (A.Processor ask) memory = 0

abbrev pub reads_for_side : SideAsk → ℕ
reads_for_side S.Nothing = 0
reads_for_side (S.Disk at word) = 0
reads_for_side (S.Audio channel at) = 1

abbrev pub reads_by_side : Ask → ℕ
reads_by_side A.Free = 0
reads_by_side (A.Side ask) = reads_for_side ask
reads_by_side (A.Plane ask) = 0
reads_by_side (A.Sprite ask) = 0
reads_by_side (A.Copper at) = 0
reads_by_side (A.Blit ask) = 0
reads_by_side (A.Processor ask) = 0

pub record GivesSide (ask : Ask) (old new : MachineValue) : Type 0 where
  pub same : new ≡ record old { chip = new.chip; side = new.side }
  pub chip : new.chip ≡ read_by (reads_by_side ask) old.chip
  pub side : new.side ≡ answer_side ask (word_given ask old.chip.words) old.side

-- what an access or an event makes was done, where the collision bits are these if it reads them
pub record Does (made : Made) (clx : ℕ) (old : MachineValue) (out : OutFilesValue) (new : MachineValue) (after : OutFilesValue) : Type 0 where
  pub t : new.t ≡ old.t
  pub beam : new.beam ≡ record old.beam { lof = lof_after made old.beam.lof }
  pub chip : new.chip ≡ chip_after old.t made old.chip
  pub chips : (c : Chips) → IsChipsOf old.chips c → IsChipsOf new.chips (chips_after made c)
  pub side : new.side ≡ side_by_made made old.side
  pub lines : (c : Chips) → IsChipsOf old.chips c → Gives out after [] (lines_of old.beam clx c made)
