-- The Copper: its phases, its four instructions, and one step.
use Rattle.std.specs.Prelude.{ℕ, ◌+◌, ◌*◌, ◌/◌, ◌%◌, Bool, true, false, not, ◌&&◌, ◌||◌, ◌==◌}
use Rattle.std.specs.Prelude.{nat_le, nat_lt, if◌then◌else◌, bit_and, bit_or, Option, Some, None}
use Rattle.ocs_base.specs.Addr.{even_address}
use Rattle.ocs_base.specs.AddressOf.{addr_at}
use Rattle.ocs_base.specs.Register.{register_of}
use Rattle.ocs_base.specs.declared.addr.Addr.{Addr}
use Rattle.ocs_base.specs.declared.beam.Beam.{Beam}
use Rattle.serial_model.specs.declared.copper.CopperAct.{CopperAct}
use Rattle.serial_model.specs.declared.copper.CopperAct.TheVariants.{None as NoAct, Move}
use Rattle.serial_model.specs.declared.copper.CopperInstruction.{CopperInstruction}
use Rattle.serial_model.specs.declared.copper.CopperInstruction.TheVariants as I
use Rattle.serial_model.specs.declared.copper.CopperState.{CopperState}
use Rattle.serial_model.specs.declared.copper.CopperPhase.{CopperPhase}
use Rattle.serial_model.specs.declared.copper.CopperPhase.TheVariants.{First, Second, Waiting, Stopped}

-- a Copper that begins to fetch at an address; it keeps no word of what it did before
abbrev pub copper_from : Addr → CopperState
copper_from at = record { phase = First; at = at; first = 0; second = 0 }

-- the address so many bytes on
abbrev pub bytes_after : Addr → ℕ → Addr
bytes_after at bytes = addr_at at.size (at.value + bytes)

-- the word that it asks for: in a fetch phase that at its address
abbrev pub wish_in : CopperPhase → Addr → Option Addr
wish_in First at = Some at
wish_in Second at = Some at
wish_in Waiting at = None
wish_in Stopped at = None

abbrev pub wish_of : CopperState → Option Addr
wish_of c = wish_in c.phase c.at

abbrev pub is_stopped_phase : CopperPhase → Bool
is_stopped_phase First = false
is_stopped_phase Second = false
is_stopped_phase Waiting = false
is_stopped_phase Stopped = true

-- a forbidden MOVE has stopped it
abbrev pub is_stopped : CopperState → Bool
is_stopped c = is_stopped_phase c.phase

-- the comparison: line and clock of the beam are not below those of the first word, each under the mask, whose bit 15 is
-- always set; and bit 15 of the second word, BFD, is set or the blitter is not busy
abbrev pub comparison_holds : Beam → Bool → ℕ → ℕ → Bool
comparison_holds b busy first second =
    let mask = bit_or 0x8000 (bit_and second 0x7ffe) in
    nat_le (bit_and (bit_and first 0xfffe) mask) (bit_and (256 * (b.v % 256) + 2 * (b.h / 2)) mask)
    && (nat_le 0x8000 second || not busy)

-- the register that a MOVE names
abbrev pub move_offset : ℕ → ℕ
move_offset first = even_address 512 first

-- a MOVE is forbidden to a register below 040, and to one of 040 to 07E while CDANG is clear (profile)
abbrev pub is_forbidden : Bool → ℕ → Bool
is_forbidden danger first = nat_lt (move_offset first) 0x40 || (nat_lt (move_offset first) 0x80 && not danger)

-- the instruction of two words: MOVE where bit 0 of the first is clear, WAIT where it is set and bit 0 of the second is
-- clear, SKIP where both are set
abbrev pub instruction_of : Bool → ℕ → ℕ → CopperInstruction
instruction_of danger first second =
    if first % 2 == 0
    then (if is_forbidden danger first then I.ForbiddenMove else I.Move (register_of first) second)
    else (if second % 2 == 0 then I.Wait else I.Skip)

-- the phase after an instruction's second word: a forbidden MOVE stops the Copper until its next start or jump (profile)
abbrev pub phase_after : CopperInstruction → CopperPhase
phase_after (I.Move reg word) = First
phase_after I.ForbiddenMove = Stopped
phase_after I.Wait = Waiting
phase_after I.Skip = First

-- how many bytes the address moves then: a SKIP whose comparison holds passes over the next two words
abbrev pub length_of : Bool → CopperInstruction → ℕ
length_of holds (I.Move reg word) = 2
length_of holds I.ForbiddenMove = 2
length_of holds I.Wait = 2
length_of holds I.Skip = if holds then 6 else 2

-- what the instruction makes at the clock of its second word
abbrev pub act_of : CopperInstruction → CopperAct
act_of (I.Move reg word) = Move reg word
act_of I.ForbiddenMove = NoAct
act_of I.Wait = NoAct
act_of I.Skip = NoAct

-- the second word of an instruction was read
abbrev pub complete_instruction : Beam → Bool → CopperInstruction → ℕ → CopperState → CopperState
complete_instruction b busy instruction word c = record {
  phase = phase_after instruction;
  at = bytes_after c.at (length_of (comparison_holds b busy c.first word) instruction);
  first = c.first;
  second = word;
}

-- one step at an even clock, with the word that was read where the Copper got its slot
abbrev pub step_in : Beam → Bool → Bool → Option ℕ → CopperPhase → CopperState → CopperState
step_in b busy danger None First c = c
step_in b busy danger (Some word) First c = record c { phase = Second; at = bytes_after c.at 2; first = word }
step_in b busy danger None Second c = c
step_in b busy danger (Some word) Second c = complete_instruction b busy (instruction_of danger c.first word) word c
step_in b busy danger fetched Waiting c =
    record c { phase = if comparison_holds b busy c.first c.second then First else Waiting }
step_in b busy danger fetched Stopped c = c

unfoldable pub step_copper : Beam → Bool → Bool → Option ℕ → CopperState → CopperState
step_copper b busy danger fetched c = step_in b busy danger fetched c.phase c

-- what the step makes: only an instruction whose second word is read makes anything
abbrev pub act_in : Bool → Option ℕ → CopperPhase → ℕ → CopperAct
act_in danger fetched First first = NoAct
act_in danger None Second first = NoAct
act_in danger (Some word) Second first = act_of (instruction_of danger first word)
act_in danger fetched Waiting first = NoAct
act_in danger fetched Stopped first = NoAct

unfoldable pub copper_act : Bool → Option ℕ → CopperState → CopperAct
copper_act danger fetched c = act_in danger fetched c.phase c.first
