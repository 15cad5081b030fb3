-- The machine without its picture: what it stands for, and what its steps make.
use Rattle.std.specs.Prelude.{◌≡◌, ◌≤◌, ◌==◌, if◌then◌else◌, ℕ, ◌+◌, Bool, true, List, [], ◌++◌}
use Rattle.ocs_base.specs.declared.beam.Beam.{Beam}
use Rattle.ocs_base.specs.declared.chip_size.ChipSize.{ChipSize}
use Rattle.ocs_base.specs.declared.script.Act.{Act}
use Rattle.mem_versions.specs.Chip.{ChipValue, memory_from, more_reads}
use Rattle.out_files.specs.OutFiles.{OutFilesValue}
use Rattle.serial_model.specs.declared.bus.Ask.{Ask}
use Rattle.serial_model.specs.declared.bus.Made.{Made}
use Rattle.serial_model.specs.declared.trace.TraceLine.{TraceLine}
use Rattle.serial_model.specs.Beam.{first_place}
use Rattle.serial_model.specs.Events.{do_event, made_by_act}
use Rattle.serial_model.specs.Made.{is_clx_read}
use Rattle.serial_model.specs.Side.{SideValue, IsInTime}
use Rattle.serial_model.specs.State.{State, reset_chips}
use Rattle.serial_model.specs.Tick.{side_wish, ask_of, made_of, make_access}
use Rattle.serial_bands.specs.Stores.{stores_of}
use Rattle.serial_model.specs.Bus.{reads_of_ask}
use Rattle.chip_set.specs.Chips.{WorkingChips, IsChipsOf, HasAsked}
use Rattle.chip_set.specs.AskLaws.{is_clx_ask}
use Rattle.out_files.specs.Gives.{Gives}
use Rattle.machine.specs.declared.machine.Machine.{Machine}

-- the machine as it is kept, with what its side does from then on
pub record MachineValue : Type 0 where
  pub t : ℕ
  pub beam : Beam
  pub chip : ChipValue
  pub chips : WorkingChips
  pub side : SideValue

abbrev pub machine_over : {S : Type 0} → (S → SideValue) → Machine S → MachineValue
machine_over seen m = record { t = m.t; beam = m.beam; chip = m.chip; chips = m.chips; side = seen m.side }

-- it stands for a state: all but picture, collision bits and the texts
pub record IsMachineOf (m : MachineValue) (s : State) : Type 0 where
  pub t : s.t ≡ m.t
  pub beam : s.beam ≡ m.beam
  pub memory : s.memory ≡ m.chip.words
  pub chips : IsChipsOf m.chips s.chips
  pub side : s.side ≡ m.side

-- the output files and the lines of the trace as they were at some point
pub record Start : Type 0 where
  pub out : OutFilesValue
  pub trace : List TraceLine

-- since then the trace has more lines, and they were given to the output files
pub record HasTold (start : Start) (out : OutFilesValue) (s : State) : Type 0 where
  pub lines : List TraceLine
  pub trace : s.trace ≡ start.trace ++ lines
  pub text : Gives start.out out [] lines

pub record Stands (start : Start) (m : MachineValue) (out : OutFilesValue) (s : State) : Type 0 where
  pub machine : IsMachineOf m s
  pub told : HasTold start out s

-- a step of it makes a step of the machine: what stood for a state stands for the state after the step. The second kind of
-- step gives the output files nothing
abbrev pub Makes : (State → State) → MachineValue → OutFilesValue → MachineValue → OutFilesValue → Type 0
Makes step old out new after = (start : Start) (s : State) → Stands start old out s → Stands start new after (step s)

abbrev pub MakesQuietly : (State → State) → MachineValue → MachineValue → Type 0
MakesQuietly step old new = (out : OutFilesValue) → Makes step old out new out

-- an event happens, where the collision bits are these if it reads them
abbrev pub MakesEvent : ℕ → Act → MachineValue → OutFilesValue → MachineValue → OutFilesValue → Type 0
MakesEvent clx act old out new after =
    (start : Start) (s : State) → (is_clx_read (made_by_act act) ≡ true → s.clx ≡ clx) → Stands start old out s →
    Stands start new after (do_event act s)

-- its chips have asked for the slot of a clock, and what they stood for before is that state
pub record HasAskedOf (m : MachineValue) (s : State) : Type 0 where
  pub t : s.t ≡ m.t
  pub beam : s.beam ≡ m.beam
  pub memory : s.memory ≡ m.chip.words
  pub chips : HasAsked s.beam s.chips m.chips
  pub side : s.side ≡ m.side
  pub time : IsInTime s.beam (side_wish s)

-- the access with this ask was made, where the collision bits are these if it reads them: this is what it makes
pub record HasMade (start : Start) (made : Made) (new : MachineValue) (after : OutFilesValue) (s : State) : Type 0 where
  pub makes : made ≡ made_of s
  pub stands : Stands start new after (make_access s)

abbrev pub MakesAccess : Ask → ℕ → Made → MachineValue → OutFilesValue → MachineValue → OutFilesValue → Type 0
MakesAccess ask clx made old out new after =
    (start : Start) (s : State) → ask ≡ ask_of s → (is_clx_ask ask ≡ true → s.clx ≡ clx) → HasAskedOf old s →
    HasTold start out s → HasMade start made new after s

-- the same frame, line and clock: LOF alone may be another
abbrev pub IsSamePlace : Beam → Beam → Type 0
IsSamePlace old new = new ≡ record old { lof = new.lof }

-- count of clocks and place stay
pub record StaysInPlace (old new : MachineValue) : Type 0 where
  pub t : new.t ≡ old.t
  pub beam : IsSamePlace old.beam new.beam

-- and memory too
pub record KeepsPlace (old new : MachineValue) : Type 0 where
  pub t : new.t ≡ old.t
  pub beam : IsSamePlace old.beam new.beam
  pub chip : new.chip ≡ old.chip

-- a count of reads after so many more, or none
abbrev pub reads_more : ℕ → ℕ → ℕ
reads_more count reads = if count == 0 then reads else more_reads count reads

-- and after an access with this ask
abbrev pub reads_after : Ask → ℕ → ℕ
reads_after ask reads = reads_more (reads_of_ask ask) reads

-- the memory after an access: a store is one more write of its version, and a read counts
pub record StoresMade (t : ℕ) (ask : Ask) (made : Made) (old new : ChipValue) : Type 0 where
  pub last : new.last ≡ old.last
  pub base : new.base ≡ old.base
  pub writes : new.writes ≡ old.writes ++ stores_of t made old.words
  pub time : (least : ℕ) → old.newest ≤ least → t ≤ least → new.newest ≤ least
  pub reads : new.reads ≡ reads_after ask old.reads

-- the machine at reset, with a chip memory of this size and a side as it is then
pub record IsReset (first : SideValue) (image : List ℕ) (size : ChipSize) (cpu : Bool) (m : MachineValue) : Type 0 where
  pub t : m.t ≡ 0
  pub beam : m.beam ≡ first_place
  pub chip : m.chip ≡ memory_from size image
  pub chips : IsChipsOf m.chips (reset_chips size cpu)
  pub side : m.side ≡ first
