-- Parts of a clock that the machine makes at once, and clocks that everybody else leaves to the processor.
use Rattle.std.specs.Prelude.{◌≡◌, ◌<◌, ◌+◌, ℕ, Bool, true, false, [], Option, Some, None, is_some}
use Rattle.out_files.specs.OutFiles.{OutFilesValue}
use Rattle.serial_model.specs.declared.bus.Ask.{Ask}
use Rattle.serial_model.specs.declared.bus.Ask.TheVariants as A
use Rattle.serial_model.specs.declared.bus.Made.{Made}
use Rattle.serial_model.specs.declared.bus.ProcessorAsk.{ProcessorAsk}
use Rattle.serial_model.specs.Made.{touch_of}
use Rattle.serial_model.specs.Processor.{Processor, slot_wish}
use Rattle.serial_model.specs.Side.{no_side}
use Rattle.serial_model.specs.Tick.{run_processor}
use Rattle.serial_model.specs.Turns.{taken_lines}
use Rattle.serial_model.specs.Beam.{later_beam}
use Rattle.irq_cia.specs.Interrupts.{level_of}
use Rattle.cpu_bus.specs.declared.BusCpu.{BusCpu}
use Rattle.cpu_bus.specs.declared.TurnBeside.{TurnBeside}
use Rattle.cpu_bus.specs.declared.TurnBeside.TheVariants as T
use Rattle.cpu_bus.specs.Bus.{IsProcessorOf, GoesOn}
use Rattle.cpu_bus.specs.Beside.{turn_beside_of}
use Rattle.chip_set.specs.AskLaws.{is_clx_ask}
use Rattle.chip_set.specs.Bus.{LeavesBus, CiasRest, KeepsOnBus, reaches_memory}
use Rattle.chip_set.specs.Chips.{CanAsk, CanDo, IsBlitAsk, kept_wish}
use Rattle.machine.specs.Machine.{MachineValue, Makes, MakesAccess, StaysInPlace, StoresMade, reads_after}
use Rattle.machine.specs.MachineSteps.{AsksInTime}
use Rattle.out_files.specs.Gives.{Gives}

-- the slot of this clock of a line is left to the processor by everybody else, and nothing is to be done for side and CIAs in it and
-- in so many clocks in all
pub record IsLeftToProcessor (rest : ℕ) (m : MachineValue) : Type 0 where
  pub side : m.side ≡ no_side
  pub leaves : LeavesBus m.beam m.chips
  pub alone : is_some (kept_wish m.chips) ≡ false
  pub rests : CiasRest m.t rest m.chips
  pub some : 0 < rest
  pub line : m.beam.h < 226

-- the access with this ask was made, for which the chips have asked: this is what it makes. The bus is left in further clocks
-- unless a blit has ended with it
pub record IsAccessAtOnce (ask : Ask) (made : Made) (old : MachineValue) (out : OutFilesValue) (new : MachineValue) (after : OutFilesValue) : Type 0 where
  pub does : CanDo made
  pub quiet : is_clx_ask ask ≡ false
  pub access : MakesAccess ask 0 made old out new after
  pub place : StaysInPlace old new
  pub stores : StoresMade old.t ask made old.chip new.chip
  pub reads : new.chip.reads ≡ reads_after ask old.chip.reads
  pub side : new.side ≡ old.side
  pub keeps : is_some new.chips.blit ≡ is_some old.chips.blit → KeepsOnBus old.chips new.chips

-- and the processor has taken its turn behind it: what the machine was in between
pub record IsMadeAtOnce (ask : Ask) (made : Made) (old : MachineValue) (out : OutFilesValue) (new : MachineValue) (after : OutFilesValue) : Type 0 where
  pub accessed : MachineValue
  pub access : IsAccessAtOnce ask made old out accessed out
  pub turns : Makes run_processor accessed out new after
  pub same : new ≡ record accessed { chips = new.chips }
  pub keeps : KeepsOnBus accessed.chips new.chips

-- where what the access makes is nothing that the picture sees, and no blit begins or ends with it
pub record IsUnseenAtOnce (ask : Ask) (old : MachineValue) (out : OutFilesValue) (new : MachineValue) (after : OutFilesValue) : Type 0 where
  pub made : Made
  pub unseen : touch_of made ≡ None
  pub at : IsMadeAtOnce ask made old out new after
  pub busy : is_some new.chips.blit ≡ is_some old.chips.blit

-- the processor's turn in a clock whose slot nobody else has is made so: it only waits, goes on, or asks for a word of memory
abbrev pub asks_for_memory : Option ProcessorAsk → Bool
asks_for_memory None = false
asks_for_memory (Some ask) = reaches_memory ask

abbrev pub goes_alone_by : TurnBeside → Option ProcessorAsk → Bool
goes_alone_by (T.Waits spent) wish = true
goes_alone_by T.Asks wish = asks_for_memory wish
goes_alone_by T.GoesOn wish = true
goes_alone_by T.Other wish = false

abbrev pub goes_alone : BusCpu → Bool
goes_alone now = goes_alone_by (turn_beside_of now) (slot_wish now.wait)

-- the whole clock was made, with this ask for its slot: what the machine was before the beam advanced
pub record IsClockAtOnce (ask : Ask) (old : MachineValue) (out : OutFilesValue) (new : MachineValue) (after : OutFilesValue) : Type 0 where
  pub asks : AsksInTime ask old old
  pub able : CanAsk ask
  pub wish : IsBlitAsk ask (kept_wish old.chips)
  pub line : old.beam.h < 226
  pub processed : MachineValue
  pub rest : IsUnseenAtOnce ask old out processed after
  pub advanced : new ≡ record processed { t = processed.t + 1; beam = later_beam 1 processed.beam }

-- where the first clock of an access is made, the clock behind it is left to the processor too
abbrev pub IsLeftThen : MachineValue → OutFilesValue → Type 0
IsLeftThen m out = (mid : MachineValue) → IsClockAtOnce A.Free m out mid out → (rest : ℕ) × IsLeftToProcessor rest mid

-- behind the access to memory that the second of two clocks makes, the processor has gone on with this word, the trace has the line
-- of an interrupt that begins with it, and both clocks are counted
pub record EndsInTwo (word : ℕ) (old : MachineValue) (out : OutFilesValue) (new : MachineValue) (after : OutFilesValue) : Type 0 where
  pub begins : Option ℕ
  pub goes : (p : Processor) → IsProcessorOf old.chips.processor p → GoesOn word (level_of old.chips.irq) p begins new.chips.processor
  pub lines : Gives out after [] (taken_lines (later_beam 1 old.beam) begins)
  pub chips : new.chips ≡ record old.chips { missed = 0; processor = new.chips.processor }
  pub same : new ≡ record old { t = old.t + 2; beam = later_beam 2 old.beam; chips = new.chips }

-- both clocks of an access were made: the first, in which nobody has the slot, and the second, with this ask for it
pub record IsAccessInTwo (old : MachineValue) (out : OutFilesValue) (new : MachineValue) (after : OutFilesValue) : Type 0 where
  pub mid : MachineValue
  pub ask : Ask
  pub begins : IsClockAtOnce A.Free old out mid out
  pub accesses : IsClockAtOnce ask mid out new after

-- memory was refused in the second of them: the first is as made, and the second has asked
pub record IsAccessInPart (old : MachineValue) (out : OutFilesValue) (new : MachineValue) (after : OutFilesValue) : Type 0 where
  pub mid : MachineValue
  pub ask : Ask
  pub begins : IsClockAtOnce A.Free old out mid out
  pub asks : AsksInTime ask mid mid
  pub quiet : is_clx_ask ask ≡ false
  pub reads : new.chip.reads ≡ reads_after ask mid.chip.reads
  pub same : after ≡ out
