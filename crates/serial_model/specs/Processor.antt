-- The processor on the bus: where its accesses go, what it waits for, and what a clock makes of it.
use Rattle.std.specs.Prelude.{ℕ, ◌+◌, ◌*◌, ◌/◌, ◌%◌, ◌<◌, Bool, not, ◌&&◌, ◌||◌, ◌==◌, nat_le, nat_lt, if◌then◌else◌, List, [], Option, Some, None}
use Rattle.std.proofs.Common.{arith}
use Rattle.m68k_decode.specs.declared.regs.CpuRegs.{CpuRegs}
use Rattle.m68k_decode.specs.declared.under.Under.{Under}
use Rattle.m68k_decode.specs.declared.under.Under.TheVariants as U
use Rattle.m68k_decode.specs.Access.{Read, Write, Next, Asks, Ends, Halts}
use Rattle.m68k_decode.specs.Walk.{Stage, next, advance, regs_at_reset}
use Rattle.ocs_base.specs.AddressOf.{addr_at}
use Rattle.ocs_base.specs.Register.{register_of}
use Rattle.ocs_base.specs.Sizes.{bytes_of}
use Rattle.ocs_base.specs.declared.chip_size.ChipSize.{ChipSize}
use Rattle.serial_model.specs.declared.bus.ProcessorAsk.{ProcessorAsk}
use Rattle.serial_model.specs.declared.bus.ProcessorAsk.TheVariants as P
use Rattle.serial_model.specs.declared.bus.Half.{Half}
use Rattle.serial_model.specs.declared.bus.Half.TheVariants.{Both, High, Low}
use Rattle.serial_model.specs.declared.processor.CiaName.{CiaName}
use Rattle.serial_model.specs.declared.processor.CiaName.TheVariants as C
use Rattle.serial_model.specs.declared.processor.CiaRegister.{CiaRegister}
use Rattle.serial_model.specs.declared.processor.Target.{Target}
use Rattle.serial_model.specs.declared.processor.Target.TheVariants as G
use Rattle.serial_model.specs.declared.processor.Wait.{Wait}
use Rattle.serial_model.specs.declared.processor.Wait.TheVariants as W
use Rattle.serial_model.specs.declared.processor.Turn.{Turn}
use Rattle.serial_model.specs.declared.processor.Turn.TheVariants as T

pub record Processor : Type 0 where
  -- the size of the chip memory on its bus
  pub chip : ChipSize
  -- the script starts it
  pub on : Bool
  -- the registers with which what is under way began, what that is, and the answers since
  pub regs : CpuRegs
  pub under : Under
  pub answers : List ℕ
  -- the clocks that have passed of what it waits for
  pub spent : ℕ
  -- the word of the access that it has just made in its slot
  pub given : Option ℕ

-- at reset it begins the reset, if it is on
abbrev pub reset_processor : ChipSize → Bool → Processor
reset_processor chip on = record {
  chip = chip;
  on = on;
  regs = regs_at_reset;
  under = U.Reset;
  answers = [];
  spent = 0;
  given = None;
}

-- ---- where an access goes, by the low 24 bits of its address

abbrev pub is_within : ℕ → ℕ → ℕ → Bool
is_within first last a = nat_le first a && nat_le a last

-- CIA A has the odd bytes of its range and CIA B the even ones (profile): an access to a byte must be to one of these, and an
-- access to a word always has one
abbrev pub reaches_cia_a : ℕ → Bool → Bool
reaches_cia_a a byte = is_within 0xbfe000 0xbfefff a && (not byte || (a % 2 == 1))

abbrev pub reaches_cia_b : ℕ → Bool → Bool
reaches_cia_b a byte = is_within 0xbfd000 0xbfdfff a && (not byte || (a % 2 == 0))

-- bits 11 to 8 of the address are the register of a CIA
pub below_sixteen : (a : ℕ) → a / 256 % 16 < 16
below_sixteen a = omega arith

abbrev pub cia_register : ℕ → CiaRegister
cia_register a = record { number = a / 256 % 16; below = below_sixteen a }

abbrev pub target_at : ChipSize → ℕ → Bool → Target
target_at chip a byte =
    if nat_lt a (bytes_of chip) then G.Memory (addr_at chip a)
    else if is_within 0xdff000 0xdff1ff a then G.Register (register_of a)
    else if reaches_cia_a a byte then G.Cia C.A (cia_register a)
    else if reaches_cia_b a byte then G.Cia C.B (cia_register a)
    else G.Unmapped

unfoldable pub target_of : ChipSize → ℕ → Bool → Target
target_of chip at byte = target_at chip (at % 0x1000000) byte

-- ---- what it waits for

abbrev pub read_wait : Target → Wait
read_wait (G.Memory at) = W.Slot (P.Read at)
read_wait (G.Register reg) = W.Slot (P.ReadRegister reg)
read_wait (G.Cia cia reg) = W.Cia cia reg None
read_wait G.Unmapped = W.Unmapped

-- a write of a byte changes the half of a word that its address names, and both halves of a register
abbrev pub half_of : ℕ → Bool → Half
half_of at byte = if byte then (if at % 2 == 0 then High else Low) else Both

abbrev pub register_word : Bool → ℕ → ℕ
register_word byte word = if byte then 257 * (word % 256) else word

-- of a word CIA A has the low byte and CIA B the high one
abbrev pub cia_byte : CiaName → Bool → ℕ → ℕ
cia_byte C.A byte word = word % 256
cia_byte C.B byte word = if byte then word % 256 else word / 256

abbrev pub write_wait : ℕ → Bool → ℕ → Target → Wait
write_wait at byte word (G.Memory addr) = W.Slot (P.Write addr (half_of at byte) word)
write_wait at byte word (G.Register reg) = W.Slot (P.WriteRegister reg (register_word byte word))
write_wait at byte word (G.Cia cia reg) = W.Cia cia reg (Some (cia_byte cia byte word))
write_wait at byte word G.Unmapped = W.Unmapped

unfoldable pub wait_of : ChipSize → Next → Wait
wait_of chip (Asks (Read at byte)) = read_wait (target_of chip at byte)
wait_of chip (Asks (Write at byte word)) = write_wait at byte word (target_of chip at byte)
wait_of chip (Ends regs idle under) = W.Idle idle
wait_of chip Halts = W.Halted

abbrev pub processor_wait : Processor → Wait
processor_wait p = wait_of p.chip (next p.regs p.under p.answers)

-- ---- what it asks for: after a first clock without a slot, the slot of each clock until it has one

abbrev pub slot_wish : Wait → Option ProcessorAsk
slot_wish (W.Slot ask) = Some ask
slot_wish (W.Cia cia reg byte) = None
slot_wish W.Unmapped = None
slot_wish (W.Idle clocks) = None
slot_wish W.Halted = None

unfoldable pub processor_wish : Processor → Option ProcessorAsk
processor_wish p = if p.on && not (p.spent == 0) then slot_wish (processor_wait p) else None

abbrev pub give_processor : ℕ → Processor → Processor
give_processor word p = record p { given = Some word }

-- ---- what a clock makes of it once the slot was given

-- what takes so many clocks is over with the last of them
abbrev pub after_clocks : ℕ → ℕ → Turn → Turn
after_clocks clocks spent over = if nat_le clocks (spent + 1) then over else T.Waits (spent + 1)

-- an access that goes nowhere takes two clocks and reads 0; one to a CIA takes five, and is made in the fifth
abbrev pub turn_by : Wait → ℕ → Turn
turn_by (W.Slot ask) spent = T.Waits 1
turn_by (W.Cia cia reg byte) spent = after_clocks 5 spent (T.Cia cia reg byte)
turn_by W.Unmapped spent = after_clocks 2 spent (T.Goes 0)
turn_by (W.Idle clocks) spent = after_clocks clocks spent (T.Goes 0)
turn_by W.Halted spent = T.Rests

abbrev pub turn_with : Option ℕ → Wait → ℕ → Turn
turn_with (Some word) wait spent = T.Goes word
turn_with None wait spent = turn_by wait spent

unfoldable pub turn_of : Processor → Turn
turn_of p = if p.on then turn_with p.given (processor_wait p) p.spent else T.Rests

-- it goes on with the word of an answer and the interrupt level of this clock
abbrev pub stage_after : ℕ → ℕ → Processor → Stage
stage_after word level p = advance p.regs p.under p.answers word level

abbrev pub go_on : ℕ → ℕ → Processor → Processor
go_on word level p = record {
  chip = p.chip;
  on = p.on;
  regs = (stage_after word level p).regs;
  under = (stage_after word level p).under;
  answers = (stage_after word level p).answers;
  spent = 0;
  given = None;
}
