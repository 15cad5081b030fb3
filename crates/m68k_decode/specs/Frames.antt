-- Exceptions: the numbers of their vectors and the words of their frames.
use Rattle.std.specs.Prelude.{ℕ, Bool, List, [], ◌∷◌, ◌+◌, ◌/◌, ◌%◌, if◌then◌else◌}
use Rattle.m68k_decode.specs.declared.regs.CpuRegs.{CpuRegs}
use Rattle.m68k_decode.specs.declared.trap.Trap.{Trap}
use Rattle.m68k_decode.specs.declared.trap.Trap.TheVariants as T
use Rattle.m68k_decode.specs.Registers.{has_supervisor}

-- the number of an exception's vector, which stands in memory at 4 times that
abbrev pub vector_of : Trap → ℕ
vector_of (T.AddressError at opcode read program instruction) = 3
vector_of T.Illegal = 4
vector_of T.ZeroDivide = 5
vector_of T.Chk = 6
vector_of T.Trapv = 7
vector_of T.Privilege = 8
vector_of T.Trace = 9
vector_of T.LineA = 10
vector_of T.LineF = 11
vector_of (T.Interrupt level) = 24 + level
vector_of (T.Number v) = 32 + v

-- the function code of an access: 1 user data, 2 user program, 5 supervisor data, 6 supervisor program
abbrev pub function_code : Bool → Bool → ℕ
function_code supervisor program = (if supervisor then 4 else 0) + (if program then 2 else 1)

-- the word of an address error that says what the access was: 16 for a read, 8 where it belonged to no instruction
abbrev pub access_word : Bool → Bool → Bool → Bool → ℕ
access_word read program instruction supervisor =
    (if read then 16 else 0) + (if instruction then 0 else 8) + function_code supervisor program

-- the words that follow PC and SR: those of an address error are the opcode, the address and the kind of the access
abbrev pub access_of : Trap → CpuRegs → List ℕ
access_of (T.AddressError at opcode read program instruction) regs =
    opcode
    ∷ at % 65536
    ∷ at / 65536
    ∷ access_word read program instruction (has_supervisor regs.sr)
    ∷ []
access_of _ regs = []

-- the words of a frame, in the order in which they are written, downwards from the highest
abbrev pub frame_of : Trap → CpuRegs → List ℕ
frame_of kind regs = (regs.pc % 65536) ∷ (regs.pc / 65536) ∷ regs.sr ∷ access_of kind regs
