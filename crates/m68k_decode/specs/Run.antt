-- What the parts of every row are made of: fetches, reads, writes, places of operands, address errors and the end.
use Rattle.std.specs.Prelude.{ℕ, Bool, true, false, [], ◌∷◌, ◌==◌, ◌+◌, ◌-◌, ◌*◌, ◌/◌, ◌%◌, if◌then◌else◌}
use Rattle.m68k_opcodes.specs.declared.operand.Size.{Size}
use Rattle.m68k_opcodes.specs.declared.operand.Size.TheVariants as S
use Rattle.m68k_opcodes.specs.declared.operand.Mode.{Mode}
use Rattle.m68k_opcodes.specs.Table.{clocks_at}
use Rattle.m68k_opcodes.specs.Clocks.{number}
use Rattle.m68k_decode.specs.declared.place.Place68.{Place68}
use Rattle.m68k_decode.specs.declared.place.Place68.TheVariants as P
use Rattle.m68k_decode.specs.declared.regs.CpuRegs.{CpuRegs}
use Rattle.m68k_decode.specs.declared.trap.Trap.TheVariants as T
use Rattle.m68k_decode.specs.declared.under.Under.TheVariants as U
use Rattle.m68k_decode.specs.Registers.{word32, data_of, address_of, with_data, with_address}
use Rattle.m68k_decode.specs.Places.{extensions, place_of, stepped}
use Rattle.m68k_decode.specs.Results.{low}
use Rattle.m68k_decode.specs.Access.{Prog, Ask, End, Enter, Read, Write}

pub record Run : Type 0 where
  -- the registers with which what is under way began
  pub start : CpuRegs
  -- the registers now; the PC is after the words read so far
  pub regs : CpuRegs
  -- the opcode; 0 before it is fetched and in what is no instruction
  pub opcode : ℕ
  -- an address error is being taken
  pub taking : Bool
  -- an access counts as one of an instruction
  pub instruction : Bool

-- ---- registers

abbrev pub with_regs : Run → CpuRegs → Run
with_regs s regs = record s { regs = regs }

abbrev pub stack_of : Run → ℕ
stack_of s = address_of s.regs 7

-- the run with another stack pointer
abbrev pub with_stack : Run → ℕ → Run
with_stack s at = with_regs s (with_address s.regs 7 at)

-- the run that goes on at an address
abbrev pub jumped : ℕ → Run → Run
jumped at s = with_regs s (record s.regs { pc = at })

-- the run after one more word of the program
abbrev pub moved : Run → Run
moved s = jumped (word32 (s.regs.pc + 2)) s

-- how many bytes a size has
abbrev pub width_of : Size → ℕ
width_of S.Byte = 1
width_of S.Word = 2
width_of S.Long = 4

-- the next address, and the one before, by a size
abbrev pub address_after : Size → ℕ → ℕ
address_after z at = word32 (at + width_of z)

abbrev pub address_before : Size → ℕ → ℕ
address_before z at = word32 (at + (4294967296 - width_of z))

-- ---- the end, and address errors

-- the end of an instruction, with the clocks of its row
abbrev pub ended : ℕ → Run → Prog
ended clocks s = End clocks s.regs (U.Instruction false)

-- the clocks of the row, with the count or the place of the outcome
abbrev pub row_clocks : ℕ → Run → ℕ
row_clocks extra s = number (clocks_at s.opcode) extra

unfoldable pub finish : ℕ → Run → Prog
finish extra s = ended (row_clocks extra s) s

-- An access to the odd address `at` is not made. All registers but the PC are those of the begin; while an address error is
-- being taken the processor halts.
unfoldable pub fault : Run → ℕ → Bool → Bool → Prog
fault s at read program =
    if s.taking then Enter s.start U.Halted
    else Enter (record s.start { pc = s.regs.pc }) (U.Entry (T.AddressError at s.opcode read program s.instruction) 0 true)

-- ---- reading

unfoldable pub read_word : Run → Bool → ℕ → (ℕ → Prog) → Prog
read_word s program at k = if at % 2 == 1 then fault s at true program else Ask (Read at false) k

-- the next word of the program
unfoldable pub fetch : Run → (ℕ → Run → Prog) → Prog
fetch s k = read_word s true s.regs.pc (λ w. k w (moved s))

-- the half of a word that a byte's address says: the high one at an even address
abbrev pub half_at : ℕ → ℕ → ℕ
half_at at word = if at % 2 == 1 then word % 256 else word / 256

-- a value in memory; a long is two words, the high one first
unfoldable pub read : Run → Size → Bool → ℕ → (ℕ → Prog) → Prog
read s S.Byte program at k = Ask (Read at true) (λ w. k (half_at at w))
read s S.Word program at k = read_word s program at k
read s S.Long program at k =
    read_word s program at (λ high. read_word s program (address_after S.Word at) (λ low. k (high * 65536 + low)))

-- ---- writing; p is what follows

unfoldable pub write_word : Run → ℕ → ℕ → Prog → Prog
write_word s at word p = if at % 2 == 1 then fault s at false false else Ask (Write at false word) (λ _. p)

unfoldable pub write : Run → Size → ℕ → ℕ → Prog → Prog
write s S.Byte at value p = Ask (Write at true (value % 256)) (λ _. p)
write s S.Word at value p = write_word s at (value % 65536) p
write s S.Long at value p =
    write_word s at (value / 65536) (write_word s (address_after S.Word at) (value % 65536) p)

-- ---- operands

unfoldable pub at_place : Run → Mode → Size → ℕ → ℕ → ℕ → (Place68 → Run → Prog) → Prog
at_place s m z pc high low k = k (place_of m s.regs (high ∷ low ∷ []) pc z) (with_regs s (stepped m s.regs z))

-- the place of an operand: its extension words are read and its step is made
unfoldable pub place : Run → Size → Mode → (Place68 → Run → Prog) → Prog
place s z m k =
    if extensions m z == 0 then at_place s m z s.regs.pc 0 0 k
    else (if extensions m z == 1 then fetch s (λ w t. at_place t m z s.regs.pc w 0 k)
    else fetch s (λ h t. fetch t (λ l u. at_place u m z s.regs.pc h l k)))

-- the value at a place, cut to a size
unfoldable pub load : Run → Size → Bool → Place68 → (ℕ → Prog) → Prog
load s z program (P.Data r) k = k (low z (data_of s.regs r))
load s z program (P.Address r) k = k (low z (address_of s.regs r))
load s z program (P.Value value) k = k (low z value)
load s z program (P.Memory at) k = read s z program at k

-- a data register's number with another low byte, low word or whole
unfoldable pub merged : Size → ℕ → ℕ → ℕ
merged S.Byte old value = old / 256 * 256 + value % 256
merged S.Word old value = old / 65536 * 65536 + value % 65536
merged S.Long old value = value

-- a result goes to its place and the instruction ends; a value in the instruction itself is no place
unfoldable pub store : Run → Size → Place68 → ℕ → ℕ → Prog
store s z (P.Data r) value clocks =
    ended clocks (with_regs s (with_data s.regs r (merged z (data_of s.regs r) value)))
store s z (P.Address r) value clocks = ended clocks (with_regs s (with_address s.regs r value))
store s z (P.Value v) value clocks = ended clocks s
store s z (P.Memory at) value clocks = write s z at value (ended clocks s)
