-- The processor's walk: from the registers with which something began, what that is, and the words of the accesses made
-- since, the next access or the end. It walks the accesses of the opcode's row from the first.
use Rattle.std.specs.Prelude.{ℕ, Bool, true, false, not, ◌&&◌, List, [], ◌∷◌, ◌++◌, length, ◌==◌, if◌then◌else◌, nat_lt, Option, Some, None}
use Rattle.m68k_opcodes.specs.declared.instr.Instr.{Instr}
use Rattle.m68k_opcodes.specs.declared.instr.Instr.TheVariants as I
use Rattle.m68k_opcodes.specs.Table.{decode_of}
use Rattle.m68k_decode.specs.declared.regs.CpuRegs.{CpuRegs}
use Rattle.m68k_decode.specs.declared.trap.Trap.{Trap}
use Rattle.m68k_decode.specs.declared.trap.Trap.TheVariants as T
use Rattle.m68k_decode.specs.declared.under.Under.{Under}
use Rattle.m68k_decode.specs.declared.under.Under.TheVariants as U
use Rattle.m68k_decode.specs.Registers.{has_supervisor}
use Rattle.m68k_decode.specs.Status.{needs_supervisor, has_trace, mask_of, entered_status}
use Rattle.m68k_decode.specs.Access.{Prog, Ask, End, Enter, Halt, Next, after, next_of, idle_clocks}
use Rattle.m68k_decode.specs.Run.{Run, with_regs, finish, fetch}
use Rattle.m68k_decode.specs.General.{general}
use Rattle.m68k_decode.specs.Flow.{control, own_word, unlink, system, returning, usp_moved, exchanged, branch}
use Rattle.m68k_decode.specs.Entries.{is_instruction, entry, reset}

-- ---- instructions

-- an exception in place of the instruction, whose address is the stacked PC
unfoldable pub refused : Trap → Run → Prog
refused kind s = Enter s.start (U.Entry kind 0 false)

-- an instruction after its opcode
unfoldable pub permitted : Instr → Run → Prog
permitted (I.Movep r o a) s = own_word (I.Movep r o a) s
permitted (I.Pea m) s = control (I.Pea m) s
permitted (I.MovemToMemory z m) s = own_word (I.MovemToMemory z m) s
permitted (I.MovemToRegisters z m) s = own_word (I.MovemToRegisters z m) s
permitted (I.Trap v) s = Enter s.regs (U.Entry (T.Number v) 0 false)
permitted (I.LinkUnlk which r) s =
    if which == 0 then own_word (I.LinkUnlk which r) s else unlink (I.LinkUnlk which r) r s
permitted (I.MoveUsp d r) s = finish 0 (with_regs s (usp_moved d r s.regs))
permitted (I.ResetNopStopRte which) s = system (I.ResetNopStopRte which) which s
permitted (I.RtsTrapvRtr which) s = returning (I.RtsTrapvRtr which) which s
permitted (I.JsrJmp which m) s = control (I.JsrJmp which m) s
permitted (I.Lea r m) s = control (I.Lea r m) s
permitted (I.Dbcc c r) s = own_word (I.Dbcc c r) s
permitted (I.Branch which c d) s = branch (I.Branch which c d) which c d s
permitted (I.Exg x o y) s = finish 0 (with_regs s (exchanged x o y s.regs))
permitted I.Illegal s = refused T.Illegal s
permitted I.LineA s = refused T.LineA s
permitted I.LineF s = refused T.LineF s
permitted i s = general i s

unfoldable pub execute : Instr → Run → Prog
execute i s =
    if needs_supervisor i && not (has_supervisor s.regs.sr) then refused T.Privilege s else permitted i s

-- the opcode is read; with it an address error is no longer being taken
unfoldable pub opcode_read : ℕ → Run → Prog
opcode_read opcode s = execute (decode_of opcode) (record s { opcode = opcode; taking = false })

unfoldable pub instruction : Run → Prog
instruction s = fetch s (λ opcode t. opcode_read opcode t)

-- ---- all that can be under way

-- the begin of an instruction or of the reset
abbrev pub begun : CpuRegs → Bool → Run
begun r taking = record { start = r; regs = r; opcode = 0; taking = taking; instruction = true }

-- the begin of an entry: S is set, the trace bit is clear
abbrev pub entering : CpuRegs → Trap → Bool → Run
entering r kind taking =
    record { start = r; regs = record r { sr = entered_status kind r.sr }; opcode = 0; taking = taking; instruction = is_instruction kind }

-- STOP waits one colour clock at a time; each is an end
unfoldable pub program : CpuRegs → Under → Prog
program r U.Reset = reset (begun r false)
program r (U.Instruction taking) = instruction (begun r taking)
program r (U.Entry kind ea taking) = entry kind ea (entering r kind taking)
program r U.Stopped = End 2 r U.Stopped
program r U.Halted = Halt

-- the next access, or the end
unfoldable pub next : CpuRegs → Under → List ℕ → Next
next r u ws = next_of (after (program r u) ws) (length ws)

-- ---- what an answer makes of it

-- registers, what is under way, the answers so far; and the level of an interrupt that begins with them
pub record Stage : Type 0 where
  pub regs : CpuRegs
  pub under : Under
  pub answers : List ℕ
  pub begins : Option ℕ

abbrev pub stage : CpuRegs → Under → List ℕ → Stage
stage r u ws = record { regs = r; under = u; answers = ws; begins = None }

-- What begins. Where its first access is to an odd address, the address error begins in its place; the entry of that may
-- come to an odd stack pointer, and then the halt begins. No third can follow, since a halt makes no access.
abbrev pub replaced : Prog → CpuRegs → Under → (CpuRegs → Under → Stage) → Stage
replaced (Enter r' u') r u k = k r' u'
replaced (Ask a k') r u k = stage r u []
replaced (End t r' u') r u k = stage r u []
replaced Halt r u k = stage r u []

unfoldable pub begin_again : CpuRegs → Under → Stage
begin_again r u = replaced (program r u) r u (λ r' u'. stage r' u' [])

unfoldable pub begin : CpuRegs → Under → Stage
begin r u = replaced (program r u) r u (λ r' u'. begin_again r' u')

-- whether an address error is being taken
unfoldable pub taking_of : Under → Bool
taking_of (U.Instruction taking) = taking
taking_of (U.Entry kind ea taking) = taking
taking_of _ = false

-- whether a trace follows: of an instruction that began with the trace bit set
unfoldable pub is_traced : CpuRegs → Under → Bool
is_traced r (U.Instruction taking) = has_trace r.sr
is_traced r _ = false

-- At an end: the trace where one follows, else an interrupt where its level is above the mask, else what is under way next.
unfoldable pub boundary : Bool → CpuRegs → Under → ℕ → Stage
boundary traced r u level =
    if traced then begin r (U.Entry T.Trace 0 (taking_of u))
    else (if nat_lt (mask_of r.sr) level
    then record (begin r (U.Entry (T.Interrupt level) 0 (taking_of u))) { begins = Some level }
    else begin r u)

-- after an access: an end without idle clocks comes with it
unfoldable pub settled : Prog → CpuRegs → Under → List ℕ → ℕ → Stage
settled (Ask a k) r u ws level = stage r u ws
settled (End t r' u') r u ws level =
    if idle_clocks t (length ws) == 0 then boundary (is_traced r u) r' u' level else stage r u ws
settled (Enter r' u') r u ws level = begin r' u'
settled Halt r u ws level = stage r u ws

-- the answer of an access is its word; where the processor was idle, its idle clocks are over
unfoldable pub answered : Prog → CpuRegs → Under → List ℕ → ℕ → ℕ → Stage
answered (Ask a k) r u ws w level = settled (k w) r u (ws ++ w ∷ []) level
answered (End t r' u') r u ws w level = boundary (is_traced r u) r' u' level
answered (Enter r' u') r u ws w level = begin r' u'
answered Halt r u ws w level = stage r u ws

-- what the word of an answer and the interrupt level of its clock make of (registers, under way, answers)
unfoldable pub advance : CpuRegs → Under → List ℕ → ℕ → ℕ → Stage
advance r u ws w level = answered (after (program r u) ws) r u ws w level

-- the registers before the reset: D0 to D7, A0 to A6 and USP are 0
abbrev pub regs_at_reset : CpuRegs
regs_at_reset =
    record { d = 0 ∷ 0 ∷ 0 ∷ 0 ∷ 0 ∷ 0 ∷ 0 ∷ 0 ∷ []; a = 0 ∷ 0 ∷ 0 ∷ 0 ∷ 0 ∷ 0 ∷ 0 ∷ []; usp = 0; ssp = 0; pc = 0; sr = 0x2700 }
