-- What a row says, by its instruction: the columns of the table.
use Rattle.std.specs.Prelude.{ℕ, Bool, true, false, if◌then◌else◌, Option}
use Rattle.m68k_opcodes.specs.declared.operand.Size.{Size}
use Rattle.m68k_opcodes.specs.declared.operand.Mode.{Mode}
use Rattle.m68k_opcodes.specs.declared.operand.Mode.TheVariants as M
use Rattle.m68k_opcodes.specs.declared.instr.Instr.{Instr}
use Rattle.m68k_decode.specs.declared.outcome.Flags.{Flags}
use Rattle.m68k_decode.specs.declared.outcome.Outcome.{Outcome}
use Rattle.m68k_decode.specs.declared.place.Place68.{Place68}
use Rattle.m68k_decode.specs.declared.place.Place68.TheVariants as P
use Rattle.m68k_decode.specs.declared.trap.Trap.{Trap}
use Rattle.m68k_decode.specs.declared.row.Source.{Source}
use Rattle.m68k_decode.specs.declared.row.Source.TheVariants as F
use Rattle.m68k_decode.specs.declared.row.Dest.{Dest}
use Rattle.m68k_decode.specs.declared.row.Dest.TheVariants as D
use Rattle.m68k_decode.specs.Rows.{general_row}
use Rattle.m68k_decode.specs.RowResults.{result_by, status_by, count_by, trap_by, trap_ea_by}

abbrev pub is_operand : Source → Bool
is_operand (F.Number n) = false
is_operand (F.Operand m) = true

abbrev pub source_mode_of : Source → Mode
source_mode_of (F.Number n) = M.Imm
source_mode_of (F.Operand m) = m

abbrev pub constant_of : Source → ℕ
constant_of (F.Number n) = n
constant_of (F.Operand m) = 0

abbrev pub is_dest : Dest → Bool
is_dest D.Nothing = false
is_dest (D.Operand m) = true

abbrev pub dest_mode_of : Dest → Mode
dest_mode_of D.Nothing = M.Imm
dest_mode_of (D.Operand m) = m

-- the size of the destination and of the result
abbrev pub dest_size : Instr → Size
dest_size i = (general_row i).size

abbrev pub source_size : Instr → Size
source_size i = (general_row i).source_size

-- whether there is a source operand; else the source is a number of the instruction
abbrev pub has_source : Instr → Bool
has_source i = is_operand (general_row i).source

abbrev pub source_mode : Instr → Mode
source_mode i = source_mode_of (general_row i).source

abbrev pub constant : Instr → ℕ
constant i = constant_of (general_row i).source

abbrev pub has_dest : Instr → Bool
has_dest i = is_dest (general_row i).dest

abbrev pub dest_mode : Instr → Mode
dest_mode i = dest_mode_of (general_row i).dest

-- whether the destination is read first
abbrev pub takes_old : Instr → Bool
takes_old i = (general_row i).reads_old

-- whether there is a result to be written: not where flags alone change
abbrev pub writes : Instr → Bool
writes i = (general_row i).writes

-- where the result goes
abbrev pub target : Instr → Place68 → Place68
target i p = if writes i then p else P.Value 0

-- the result and the flags, from the source, the old value and the status register
abbrev pub result_of : Instr → ℕ → ℕ → ℕ → Outcome
result_of i value old sr = result_by (general_row i).op (general_row i).source_size (general_row i).size value old sr

-- the status register afterwards
abbrev pub status_after : Instr → ℕ → Flags → ℕ → ℕ
status_after i value f sr = status_by (general_row i).op value f sr

-- the count with which the row's clocks are to be taken
abbrev pub count_of : Instr → ℕ → ℕ → ℕ
count_of i value sr = count_by (general_row i).count value sr

-- the exception that the operands make
abbrev pub trap_of : Instr → ℕ → ℕ → Option Trap
trap_of i value old = trap_by (general_row i).traps value old

-- the clocks of the operand's mode, which the entries of these exceptions take besides
abbrev pub trap_ea : Instr → ℕ
trap_ea i = trap_ea_by (general_row i).traps (source_mode i)
