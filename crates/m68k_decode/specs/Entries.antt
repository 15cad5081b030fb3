-- Reset, and the entries of exceptions.
use Rattle.std.specs.Prelude.{ℕ, Bool, true, false, List, [], ◌∷◌, ◌+◌, ◌-◌, ◌*◌, ◌/◌}
use Rattle.m68k_opcodes.specs.declared.operand.Size.TheVariants as S
use Rattle.m68k_decode.specs.declared.trap.Trap.{Trap}
use Rattle.m68k_decode.specs.declared.trap.Trap.TheVariants as T
use Rattle.m68k_decode.specs.declared.under.Under.TheVariants as U
use Rattle.m68k_decode.specs.Frames.{vector_of, frame_of}
use Rattle.m68k_decode.specs.Access.{Prog, End}
use Rattle.m68k_decode.specs.Run.{Run, with_stack, stack_of, jumped, address_before, read, write_word}

-- whether an access of the entry counts as one of an instruction: not of a trace, an interrupt, and an opcode that is not
-- executed
unfoldable pub is_instruction : Trap → Bool
is_instruction T.Trace = false
is_instruction (T.Interrupt level) = false
is_instruction T.Illegal = false
is_instruction T.Privilege = false
is_instruction T.LineA = false
is_instruction T.LineF = false
is_instruction _ = true

-- the clocks of an exception, with those of the instruction's own accesses; ea is that of the operand's mode
abbrev pub exception_clocks : Trap → ℕ → ℕ
exception_clocks (T.AddressError at opcode read program instruction) ea = 50
exception_clocks T.ZeroDivide ea = 38 + ea
exception_clocks T.Chk ea = 40 + ea
exception_clocks (T.Interrupt level) ea = 44
exception_clocks _ ea = 34

-- The accesses that the instruction made before the entry: its opcode and those of its operand, one for each four of the
-- mode's clocks. An address error, a trace and an interrupt come after an instruction, and their clocks are the entry's alone.
abbrev pub accesses_before : Trap → ℕ → ℕ
accesses_before (T.AddressError at opcode read program instruction) ea = 0
accesses_before T.Trace ea = 0
accesses_before (T.Interrupt level) ea = 0
accesses_before _ ea = 1 + ea / 4

-- the clocks that an exception's number leaves to its entry
unfoldable pub entry_clocks : Trap → ℕ → ℕ
entry_clocks kind ea = exception_clocks kind ea - 4 * accesses_before kind ea

-- the vector is read: the handler begins
unfoldable pub handled : ℕ → ℕ → Run → Prog
handled clocks pc s = End clocks (jumped pc s).regs (U.Instruction s.taking)

-- the frame is written down to an address
unfoldable pub vectored : Trap → ℕ → ℕ → Run → Prog
vectored kind ea at s =
    read (with_stack s at) S.Long false (4 * vector_of kind)
    (λ pc. handled (entry_clocks kind ea) pc (with_stack s at))

-- the words of the frame that are left, downwards from an address
unfoldable pub pushes : Trap → ℕ → ℕ → List ℕ → Run → Prog
pushes kind ea at [] s = vectored kind ea at s
pushes kind ea at (w ∷ ws) s =
    write_word s (address_before S.Word at) w (pushes kind ea (address_before S.Word at) ws s)

-- an entry; the registers have the SR of the entry, and the frame keeps the SR before it
unfoldable pub entry : Trap → ℕ → Run → Prog
entry kind ea s = pushes kind ea (stack_of s) (frame_of kind s.start) s

-- the reset: SSP and PC are read from 0 and 4; 40 clocks
unfoldable pub reset_done : ℕ → ℕ → Run → Prog
reset_done ssp pc s = End 40 (record s.regs { ssp = ssp; pc = pc; sr = 0x2700 }) (U.Instruction false)

unfoldable pub reset_stack : ℕ → Run → Prog
reset_stack ssp s = read s S.Long false 4 (λ pc. reset_done ssp pc s)

unfoldable pub reset : Run → Prog
reset s = read s S.Long false 0 (λ ssp. reset_stack ssp s)
