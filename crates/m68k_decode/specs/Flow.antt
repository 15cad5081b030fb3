-- The rows that take an address, use the stack, branch, or change the processor's state by themselves.
use Rattle.std.specs.Prelude.{ℕ, false, ◌==◌, ◌+◌, ◌%◌, if◌then◌else◌}
use Rattle.m68k_opcodes.specs.declared.operand.Size.TheVariants as S
use Rattle.m68k_opcodes.specs.declared.operand.Mode.{Mode}
use Rattle.m68k_opcodes.specs.declared.operand.Mode.TheVariants as M
use Rattle.m68k_opcodes.specs.declared.instr.Instr.{Instr}
use Rattle.m68k_opcodes.specs.declared.instr.Instr.TheVariants as I
use Rattle.m68k_decode.specs.declared.place.Place68.{Place68}
use Rattle.m68k_decode.specs.declared.place.Place68.TheVariants as P
use Rattle.m68k_decode.specs.declared.regs.CpuRegs.{CpuRegs}
use Rattle.m68k_decode.specs.declared.trap.Trap.TheVariants as T
use Rattle.m68k_decode.specs.declared.under.Under.TheVariants as U
use Rattle.m68k_decode.specs.Registers.{word32, extended_word, extended_byte, data_of, address_of, with_data, with_address}
use Rattle.m68k_decode.specs.Access.{Prog, End, Enter}
use Rattle.m68k_decode.specs.Run.{Run, with_regs, with_stack, stack_of, jumped, address_after}
use Rattle.m68k_decode.specs.Run.{address_before, row_clocks, finish, fetch, place, read, write, merged}
use Rattle.m68k_decode.specs.Status.{flags_of, with_code, kept_status, condition}
use Rattle.m68k_decode.specs.General.{with_status}
use Rattle.m68k_decode.specs.Lists.{several, spread}

-- ---- addresses: JSR, JMP, LEA, PEA

-- the registers with a long's room more on the stack
abbrev pub lowered_stack : CpuRegs → CpuRegs
lowered_stack regs = with_address regs 7 (address_before S.Long (address_of regs 7))

abbrev pub lowered : Run → Run
lowered s = with_regs s (lowered_stack s.regs)

-- a long at the top of the stack; p is what follows
abbrev pub written_on_stack : Run → ℕ → Prog → Prog
written_on_stack s value p = write s S.Long (stack_of s) value p

-- the PC, which is after the words read so far, goes to the stack, and the program goes on at an address
unfoldable pub call : ℕ → Run → Prog
call at s = written_on_stack (lowered s) s.regs.pc (finish 0 (jumped at (lowered s)))

-- the address is known
unfoldable pub addressed_at : Instr → ℕ → Run → Prog
addressed_at (I.JsrJmp which m) at s = if which == 0 then call at s else finish 0 (jumped at s)
addressed_at (I.Lea r m) at s = finish 0 (with_regs s (with_address s.regs r at))
addressed_at (I.Pea m) at s = written_on_stack (lowered s) at (finish 0 (lowered s))
addressed_at _ at s = finish 0 s

unfoldable pub addressed : Instr → Place68 → Run → Prog
addressed i (P.Memory at) s = addressed_at i at s
addressed i (P.Data r) s = finish 0 s
addressed i (P.Address r) s = finish 0 s
addressed i (P.Value v) s = finish 0 s

unfoldable pub control_mode : Instr → Mode
control_mode (I.JsrJmp which m) = m
control_mode (I.Lea r m) = m
control_mode (I.Pea m) = m
control_mode _ = M.Imm

unfoldable pub control : Instr → Run → Prog
control i s = place s S.Long (control_mode i) (λ p t. addressed i p t)

-- ---- branches, which count from the opcode's address + 2

abbrev pub branch_target : ℕ → ℕ → ℕ
branch_target opcode_address displacement = word32 (opcode_address + 2 + displacement)

-- the displacement is known; `miss` is the place of the outcome of a branch that is not taken
unfoldable pub branched : ℕ → ℕ → ℕ → ℕ → Run → Prog
branched which c displacement miss s =
    if which == 1 then call (branch_target s.start.pc displacement) s
    else (if condition c (flags_of s.regs.sr) then finish 0 (jumped (branch_target s.start.pc displacement) s)
    else finish miss s)

-- DBcc, with its displacement: the low word of Dr less 1, and a branch unless it became FFFF
abbrev pub counted_down : ℕ → CpuRegs → CpuRegs
counted_down r regs = with_data regs r (merged S.Word (data_of regs r) (data_of regs r % 65536 + 65535))

unfoldable pub counted : ℕ → ℕ → ℕ → Run → Prog
counted c r displacement s =
    if condition c (flags_of s.regs.sr) then finish 0 s
    else (if data_of s.regs r % 65536 == 0 then finish 2 (with_regs s (counted_down r s.regs))
    else finish 1 (jumped (branch_target s.start.pc (extended_word displacement)) (with_regs s (counted_down r s.regs))))

-- ---- LINK and UNLK

-- LINK, with its displacement: the lowered stack pointer is there before Ar is stored
abbrev pub linked : ℕ → ℕ → CpuRegs → CpuRegs
linked r displacement regs =
    let pointing = with_address regs r (address_of regs 7) in
    with_address pointing 7 (word32 (address_of pointing 7 + extended_word displacement))

unfoldable pub link : ℕ → ℕ → Run → Prog
link r displacement s =
    let t = with_regs s (linked r displacement (lowered_stack s.regs)) in
    write t S.Long (stack_of (lowered s)) (address_of (lowered_stack s.regs) r) (finish 0 t)

-- UNLK, with the long where Ar points: Ar takes it after the stack pointer was set
unfoldable pub unlinked : Instr → ℕ → Run → Prog
unlinked (I.LinkUnlk which r) value s =
    let t = with_stack s (address_after S.Long (address_of s.regs r)) in
    finish 0 (with_regs t (with_address t.regs r value))
unlinked _ value s = finish 0 s

unfoldable pub unlink : Instr → ℕ → Run → Prog
unlink i r s = read s S.Long false (address_of s.regs r) (λ value. unlinked i value s)

-- ---- returns

-- the registers with so many bytes less on the stack
abbrev pub raised : ℕ → CpuRegs → CpuRegs
raised bytes regs = with_address regs 7 (word32 (address_of regs 7 + bytes))

unfoldable pub returned : ℕ → Run → Prog
returned pc s = finish 0 (jumped pc (with_regs s (raised 4 s.regs)))

abbrev pub resumed_with : ℕ → ℕ → Run → Prog
resumed_with sr pc s = finish 0 (jumped pc (with_status (with_regs s (raised 6 s.regs)) sr))

-- the word for SR or CCR and the PC are read: SR of RTE, and CCR of RTR
unfoldable pub resumed : Instr → ℕ → ℕ → Run → Prog
resumed (I.ResetNopStopRte which) word pc s = resumed_with (kept_status word) pc s
resumed _ word pc s = resumed_with (with_code s.regs.sr word) pc s

-- the word for SR or CCR is read
unfoldable pub resuming : Instr → ℕ → Run → Prog
resuming i word s = read s S.Long false (address_after S.Word (stack_of s)) (λ pc. resumed i (word % 65536) pc s)

unfoldable pub resume : Instr → Run → Prog
resume i s = read s S.Word false (stack_of s) (λ word. resuming i word s)

-- ---- STOP, with its word: it sets SR and waits

unfoldable pub stop : ℕ → Run → Prog
stop word s = End (row_clocks 0 s) (record s.regs { sr = kept_status word }) U.Stopped

-- ---- rows with one word of their own behind the opcode

unfoldable pub own : Instr → ℕ → Run → Prog
own (I.Movep r o a) word s = spread (I.Movep r o a) word s
own (I.MovemToMemory z m) word s = several (I.MovemToMemory z m) word s
own (I.MovemToRegisters z m) word s = several (I.MovemToRegisters z m) word s
own (I.LinkUnlk which r) word s = link r word s
own (I.ResetNopStopRte which) word s = stop word s
own (I.Dbcc c r) word s = counted c r word s
own (I.Branch which c d) word s = branched which c (extended_word word) 2 s
own _ word s = finish 0 s

unfoldable pub own_word : Instr → Run → Prog
own_word i s = fetch s (λ word t. own i word t)

-- ---- rows without another word

-- RESET, NOP, RTE; STOP has a word
unfoldable pub system : Instr → ℕ → Run → Prog
system i which s = if which == 2 then own_word i s else (if which == 3 then resume i s else finish 0 s)

-- RTS, TRAPV, RTR
unfoldable pub returning : Instr → ℕ → Run → Prog
returning i which s =
    if which == 0 then read s S.Long false (stack_of s) (λ pc. returned pc s)
    else (if which == 2 then resume i s
    else (if (flags_of s.regs.sr).v then Enter s.regs (U.Entry T.Trapv 0 false)
    else finish 0 s))

-- MOVE USP: d 0 is to USP
unfoldable pub usp_moved : ℕ → ℕ → CpuRegs → CpuRegs
usp_moved d r regs = if d == 0 then record regs { usp = address_of regs r } else with_address regs r regs.usp

-- EXG: o 8 Dx and Dy, 9 Ax and Ay, 17 Dx and Ay
unfoldable pub exchanged : ℕ → ℕ → ℕ → CpuRegs → CpuRegs
exchanged x o y regs =
    if o == 8 then with_data (with_data regs x (data_of regs y)) y (data_of regs x)
    else (if o == 9 then with_address (with_address regs x (address_of regs y)) y (address_of regs x)
    else with_address (with_data regs x (address_of regs y)) y (data_of regs x))

-- a displacement of 0 in the opcode says that a word follows
unfoldable pub branch : Instr → ℕ → ℕ → ℕ → Run → Prog
branch i which c d s = if d == 0 then own_word i s else branched which c (extended_byte d) 1 s
