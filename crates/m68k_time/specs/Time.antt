-- The law on time. Where each access takes two colour clocks, an instruction takes half of the clocks that the
-- table of instructions gives for it, and so do the reset and the exceptions by their own numbers. An access to an
-- odd address is not made: what it breaks off has no end, and the law speaks of the entry of its address error.
use Rattle.std.specs.Prelude.{◌≡◌, ℕ, ◌==◌, ◌+◌, ◌*◌, ◌%◌, ◌<◌, Bool, true, false, if◌then◌else◌}
use Rattle.std.specs.Prelude.{List, [], ◌∷◌, length, slice_index}
use Rattle.m68k_opcodes.specs.declared.operand.Size.TheVariants as S
use Rattle.m68k_opcodes.specs.declared.operand.Mode.{Mode}
use Rattle.m68k_opcodes.specs.declared.operand.Mode.TheVariants as M
use Rattle.m68k_opcodes.specs.declared.instr.Instr.{Instr}
use Rattle.m68k_opcodes.specs.declared.instr.Instr.TheVariants as I
use Rattle.m68k_opcodes.specs.Clocks.{number}
use Rattle.m68k_opcodes.specs.Table.{decode_of, clocks_at}
use Rattle.m68k_decode.specs.declared.regs.CpuRegs.{CpuRegs}
use Rattle.m68k_decode.specs.declared.trap.Trap.{Trap}
use Rattle.m68k_decode.specs.declared.trap.Trap.TheVariants as T
use Rattle.m68k_decode.specs.declared.under.Under.{Under}
use Rattle.m68k_decode.specs.declared.under.Under.TheVariants as U
use Rattle.m68k_decode.specs.Registers.{data_of}
use Rattle.m68k_decode.specs.Results.{low, one_if}
use Rattle.m68k_decode.specs.Status.{flags_of, condition}
use Rattle.m68k_decode.specs.RowWords.{ones, turns, eight_if_zero}
use Rattle.m68k_decode.specs.RowData.{trap_ea}
use Rattle.m68k_decode.specs.Access.{Prog, Ask, End, Enter, Halt, Ends, idle_clocks}
use Rattle.m68k_decode.specs.Entries.{exception_clocks}
use Rattle.m68k_decode.specs.Walk.{Stage, stage, program, next, begin, advance}

-- ---- how long a program takes

-- what a program comes to after exactly these answers
abbrev pub ComesTo : Prog → List ℕ → Prog → Type 0
ComesTo p [] q = p ≡ q
ComesTo (Ask a k) (w ∷ ws) q = ComesTo (k w) ws q
ComesTo (End t r u) (w ∷ ws) q = ⊥
ComesTo (Enter r u) (w ∷ ws) q = ⊥
ComesTo Halt (w ∷ ws) q = ⊥

abbrev pub AreWords : List ℕ → Type 0
AreWords [] = Unit {0}
AreWords (w ∷ ws) = (w < 65536) × AreWords ws

-- the colour clocks up to an end with t clocks: two for each access, and the idle ones
abbrev pub colour_clocks : ℕ → ℕ → ℕ
colour_clocks t accesses = 2 * accesses + idle_clocks t accesses

-- An end with t clocks, after so many accesses, has this number of clocks, and half as many colour clocks have
-- gone by: so the number is even, and the accesses take no more than that.
pub record Takes (t accesses number : ℕ) : Type 0 where
  pub clocks : t ≡ number
  pub time : 2 * colour_clocks t accesses ≡ number

-- ---- instructions

-- the last of some words
abbrev pub last_word : List ℕ → ℕ
last_word [] = 0
last_word (w ∷ []) = w
last_word (v ∷ w ∷ ws) = last_word (w ∷ ws)

-- the source word of MULU and MULS: where it is in no register, it is the last word that was read
abbrev pub source_word : Mode → CpuRegs → List ℕ → ℕ
source_word (M.Dn n) r ws = low S.Word (data_of r n)
source_word _ r ws = last_word ws

-- the count of MULU and MULS: the 1 bits of the source, and the pairs 01 and 10 in the source followed by a 0
abbrev pub multiply_count : ℕ → ℕ → ℕ
multiply_count which source = if which == 0 then ones 16 source else turns 16 (2 * source)

-- the count of a register's shift
abbrev pub shift_count : ℕ → ℕ → CpuRegs → ℕ
shift_count in_register c r = (if in_register == 1 then data_of r c else eight_if_zero c) % 64

-- the outcome of DBcc: the condition is true, or the register's low word was 0, or it branches
abbrev pub dbcc_outcome : Bool → Bool → ℕ
dbcc_outcome holds over = if holds then 0 else (if over then 2 else 1)

-- the outcome of a branch: it is taken, or not, and then a word of displacement is behind its opcode or none
abbrev pub branch_outcome : Bool → Bool → ℕ
branch_outcome holds long = if holds then 0 else (if long then 2 else 1)

-- The count or the outcome with which a row's clocks are taken, from the registers at the begin and the words behind
-- the opcode; 0 where the clocks depend on nothing. MOVEM's count is the 1 bits of its mask, the first of these words.
abbrev pub outcome : Instr → CpuRegs → List ℕ → ℕ
outcome (I.MovemToMemory z m) r ws = ones 16 (slice_index ws 0)
outcome (I.MovemToRegisters z m) r ws = ones 16 (slice_index ws 0)
outcome (I.MuluMuls which n m) r ws = multiply_count which (source_word m r ws)
outcome (I.ShiftRegister c d z i t n) r ws = shift_count i c r
outcome (I.Scc c m) r ws = one_if (condition c (flags_of r.sr))
outcome (I.Dbcc c n) r ws = dbcc_outcome (condition c (flags_of r.sr)) (data_of r n % 65536 == 0)
outcome (I.Branch which c d) r ws = branch_outcome (condition c (flags_of r.sr)) (d == 0)
outcome _ r ws = 0

-- An end of an instruction: it comes after the opcode was read, and its number is that of the opcode's row.
abbrev pub InstructionTakes : CpuRegs → List ℕ → ℕ → Type 0
InstructionTakes r [] t = ⊥
InstructionTakes r (opcode ∷ ws) t =
    Takes t (length (opcode ∷ ws)) (number (clocks_at opcode) (outcome (decode_of opcode) r ws))

-- each opcode, with each outcome
abbrev pub InstructionTime : Type 0
InstructionTime = (r : CpuRegs) (taking : Bool) (ws : List ℕ) (t : ℕ) (r' : CpuRegs) (u : Under) →
    AreWords ws → ComesTo (program r (U.Instruction taking)) ws (End t r' u) →
    InstructionTakes r ws t

-- ---- exceptions

abbrev pub is_address_error : Trap → Bool
is_address_error (T.AddressError at opcode read program instruction) = true
is_address_error _ = false

-- The end of the entry that an instruction led to after these words: two colour clocks for each access of the
-- instruction, and those of the entry, are half the exception's number, with the clocks of the instruction's mode.
abbrev pub ExceptionTakes : List ℕ → Trap → ℕ → ℕ → Type 0
ExceptionTakes [] kind t accesses = ⊥
ExceptionTakes (opcode ∷ ws) kind t accesses =
    2 * (2 * length (opcode ∷ ws) + colour_clocks t accesses)
    ≡ exception_clocks kind (trap_ea (decode_of opcode))

-- every exception that an instruction leads to, but address errors: illegal, privilege, line A, line F, TRAP, TRAPV,
-- CHK and zero divide
abbrev pub ExceptionTime : Type 0
ExceptionTime = (r : CpuRegs) (taking : Bool) (ws : List ℕ)
    (r' : CpuRegs) (kind : Trap) (ea : ℕ) (taking' : Bool)
    (vs : List ℕ) (t : ℕ) (r'' : CpuRegs) (u : Under) →
    is_address_error kind ≡ false → AreWords ws → AreWords vs →
    ComesTo (program r (U.Instruction taking)) ws (Enter r' (U.Entry kind ea taking')) →
    ComesTo (program r' (U.Entry kind ea taking')) vs (End t r'' u) →
    ExceptionTakes ws kind t (length vs)

-- an entry by itself takes this number of clocks
abbrev pub EntryTakes : Trap → ℕ → Type 0
EntryTakes kind number = (r : CpuRegs) (ea : ℕ) (taking : Bool)
    (ws : List ℕ) (t : ℕ) (r' : CpuRegs) (u : Under) → AreWords ws →
    ComesTo (program r (U.Entry kind ea taking)) ws (End t r' u) →
    Takes t (length ws) number

-- the entries of what no instruction leads to, or an access to an odd address
abbrev pub AddressErrorTime : Type 0
AddressErrorTime = (at opcode : ℕ) (read program instruction : Bool) →
    EntryTakes (T.AddressError at opcode read program instruction) 50

abbrev pub TraceTime : Type 0
TraceTime = EntryTakes T.Trace 34

abbrev pub InterruptTime : Type 0
InterruptTime = (level : ℕ) → EntryTakes (T.Interrupt level) 44

-- ---- the reset, and waiting

abbrev pub ResetTime : Type 0
ResetTime = (r : CpuRegs) (ws : List ℕ) (t : ℕ) (r' : CpuRegs) (u : Under) → AreWords ws →
    ComesTo (program r U.Reset) ws (End t r' u) → Takes t (length ws) 40

-- STOP waits one colour clock at a time
abbrev pub StoppedTime : Type 0
StoppedTime = (r : CpuRegs) (ws : List ℕ) (t : ℕ) (r' : CpuRegs) (u : Under) →
    ComesTo (program r U.Stopped) ws (End t r' u) → Takes t (length ws) 2

-- ---- the walk

-- The processor's walk comes to these ends: after the accesses it is idle for the rest of the time.
abbrev pub WalkEnds : Type 0
WalkEnds = (r : CpuRegs) (u : Under) (ws : List ℕ) (t : ℕ) (r' : CpuRegs) (u' : Under) →
    ComesTo (program r u) ws (End t r' u') →
    next r u ws ≡ Ends r' (idle_clocks t (length ws)) u'

-- where an exception breaks an instruction off, it is not idle
abbrev pub WalkBreaksOff : Type 0
WalkBreaksOff = (r : CpuRegs) (u : Under) (ws : List ℕ) (r' : CpuRegs) (u' : Under) →
    ComesTo (program r u) ws (Enter r' u') → next r u ws ≡ Ends r' 0 u'

-- the answers of a stage are words, and its program comes to something after exactly these
abbrev pub IsExact : Stage → Type 0
IsExact s = (q : Prog) × ComesTo (program s.regs s.under) s.answers q × AreWords s.answers

-- And it comes to no others: each stage that begins is exact, and so is each that a word makes of one.
abbrev pub WalkBegins : Type 0
WalkBegins = (r : CpuRegs) (u : Under) → IsExact (begin r u)

abbrev pub WalkGoesOn : Type 0
WalkGoesOn = (r : CpuRegs) (u : Under) (ws : List ℕ) (w level : ℕ) → w < 65536 →
    IsExact (stage r u ws) → IsExact (advance r u ws w level)

-- what is under way next after the end of an instruction: the next one, or the wait of STOP. Else it was broken off.
abbrev pub GoesOn : Under → Type 0
GoesOn U.Reset = ⊥
GoesOn (U.Instruction taking) = Unit {0}
GoesOn (U.Entry kind ea taking) = ⊥
GoesOn U.Stopped = Unit {0}
GoesOn U.Halted = ⊥

-- An instruction's end, by the walk alone: four clocks for each answer and two for each idle clock are its number.
abbrev pub EndTakes : CpuRegs → List ℕ → ℕ → Type 0
EndTakes r [] idle = ⊥
EndTakes r (opcode ∷ ws) idle =
    4 * length (opcode ∷ ws) + 2 * idle ≡ number (clocks_at opcode) (outcome (decode_of opcode) r ws)

abbrev pub WalkTime : Type 0
WalkTime = (r : CpuRegs) (taking : Bool) (ws : List ℕ) (r' : CpuRegs) (idle : ℕ) (u : Under) →
    IsExact (stage r (U.Instruction taking) ws) →
    next r (U.Instruction taking) ws ≡ Ends r' idle u → GoesOn u → EndTakes r ws idle
