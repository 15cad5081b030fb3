-- What the processor on the bus keeps stands for the processor of the machine.
use Rattle.std.specs.Prelude.{◌≡◌, ℕ, Bool, true, false, not, ◌&&◌, ◌==◌, if◌then◌else◌, List, [], ◌∷◌, ◌++◌, Option, None}
use Rattle.m68k_decode.specs.declared.regs.CpuRegs.{CpuRegs}
use Rattle.m68k_decode.specs.declared.under.Under.{Under}
use Rattle.m68k_decode.specs.Walk.{advance}
use Rattle.m68k_exec.specs.declared.ask.Ask.{Ask}
use Rattle.m68k_exec.specs.declared.ask.Ask.TheVariants as A
use Rattle.m68k_exec.specs.declared.state.Cpu.{Cpu}
use Rattle.m68k_exec.specs.Stands.{Stands, Reaches, settled_at}
use Rattle.ocs_base.specs.declared.chip_size.ChipSize.{ChipSize}
use Rattle.serial_model.specs.declared.bus.ProcessorAsk.{ProcessorAsk}
use Rattle.serial_model.specs.declared.processor.Wait.{Wait}
use Rattle.serial_model.specs.declared.processor.Wait.TheVariants as W
use Rattle.serial_model.specs.Processor.{Processor, target_of, read_wait, write_wait, processor_wait, slot_wish, stage_after, go_on}
use Rattle.cpu_bus.specs.declared.BusCpu.{BusCpu}

-- it has a chip memory of the same size on its bus, is on or off as that is, its registers and answers are kept by the working
-- processor, and what it waits for is kept
pub record IsProcessorOf (now : BusCpu) (p : Processor) : Type 0 where
  pub chip : p.chip ≡ now.chip
  pub on : p.on ≡ now.on
  pub stands : Stands now.cpu p.regs p.under p.answers
  pub wait : processor_wait p ≡ now.wait
  pub spent : p.spent ≡ now.spent
  pub given : p.given ≡ now.given

-- what it asks for in its slot, as it keeps it
abbrev pub wish_shown : BusCpu → Option ProcessorAsk
wish_shown now = if now.on && not (now.spent == 0) then slot_wish now.wait else None

-- what the working processor waits for, by what it asks for, with a chip memory of this size
unfoldable pub wait_by : ChipSize → Ask → Wait
wait_by chip (A.Read at byte) = read_wait (target_of chip at byte)
wait_by chip (A.Write at byte word) = write_wait at byte word (target_of chip at byte)
wait_by chip (A.Idle clocks) = W.Idle clocks
wait_by chip A.Halted = W.Halted

-- it waits for a slot
abbrev pub is_slot : Wait → Bool
is_slot (W.Slot ask) = true
is_slot (W.Cia cia reg byte) = false
is_slot W.Unmapped = false
is_slot (W.Idle clocks) = false
is_slot W.Halted = false

-- its access has this word for its answer, and what that leads to is settled by the interrupt level
pub record IsAnswered (word : ℕ) (now : BusCpu) (p : Processor) : Type 0 where
  pub chip : p.chip ≡ now.chip
  pub on : p.on ≡ now.on
  pub stands : Stands now.cpu p.regs p.under (p.answers ++ word ∷ [])
  pub settles : (level : ℕ) → stage_after word level p ≡ settled_at p.regs p.under (p.answers ++ word ∷ []) level

-- it goes on with a word, and this interrupt begins with it
pub record GoesOn (word level : ℕ) (p : Processor) (begins : Option ℕ) (new : BusCpu) : Type 0 where
  pub stands : IsProcessorOf new (go_on word level p)
  pub interrupt : begins ≡ (stage_after word level p).begins

-- the working processor has gone on with a word, whatever it stood for
abbrev pub AdvancesBy : ℕ → ℕ → Cpu → Option ℕ → Cpu → Type 0
AdvancesBy word level old begins new = (r : CpuRegs) (u : Under) (ws : List ℕ) → Stands old r u ws
    → Reaches new begins (advance r u ws word level)
