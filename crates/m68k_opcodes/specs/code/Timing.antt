-- How the code finds an instruction's clocks. (Only private functions speak of these words; that they agree with the
-- table of instructions is proved.)
use Rattle.std.specs.Prelude.{ℕ, List, [], ◌∷◌, ◌==◌, ◌+◌, ◌||◌, if◌then◌else◌, slice_index}
use Rattle.m68k_opcodes.specs.declared.operand.Size.{Size}
use Rattle.m68k_opcodes.specs.declared.operand.Size.TheVariants as S
use Rattle.m68k_opcodes.specs.declared.operand.Mode.{Mode}
use Rattle.m68k_opcodes.specs.declared.instr.Instr.{Instr}
use Rattle.m68k_opcodes.specs.declared.instr.Instr.TheVariants as I
use Rattle.m68k_opcodes.specs.Modes.{code, sized, ea, move_dest, listed, control, control_or_post, control_alterable_or_pre}
use Rattle.m68k_opcodes.specs.Clocks.{Clocks, Always, Counted, Outcomes, Exception, in_dn, to_register}

abbrev pub bit_dynamic : ℕ → Mode → ℕ
bit_dynamic which m =
    if which == 0 then in_dn m 6 (4 + ea S.Byte m)
    else (if which == 2 then in_dn m 10 (8 + ea S.Byte m) else in_dn m 8 (8 + ea S.Byte m))

abbrev pub bit_static : ℕ → Mode → ℕ
bit_static which m =
    if which == 0 then in_dn m 10 (8 + ea S.Byte m)
    else (if which == 2 then in_dn m 14 (12 + ea S.Byte m) else in_dn m 12 (12 + ea S.Byte m))

abbrev pub quick : Size → Mode → ℕ
quick z m =
    if code m == 0 then sized z 4 8 else (if code m == 1 then 8 else sized z 8 12 + ea z m)

abbrev pub to_memory : List ℕ
to_memory = 8 ∷ 12 ∷ 14 ∷ 12 ∷ 16 ∷ 8 ∷ []

abbrev pub to_registers : List ℕ
to_registers = 12 ∷ 16 ∷ 18 ∷ 16 ∷ 20 ∷ 16 ∷ 18 ∷ 12 ∷ []

abbrev pub timing_of_arithmetic : Instr → Clocks
timing_of_arithmetic (I.OrAndToDn w r z m) = Always (to_register 4 z m)
timing_of_arithmetic (I.SubAddToDn w r z m) = Always (to_register 4 z m)
timing_of_arithmetic (I.ToMemory w r z m) = Always (sized z 8 12 + ea z m)
timing_of_arithmetic (I.Cmp r z m) = Always (sized z 4 6 + ea z m)
timing_of_arithmetic (I.Eor r z m) = Always (in_dn m (sized z 4 8) (sized z 8 12 + ea z m))
timing_of_arithmetic (I.Cmpm x z y) = Always (sized z 12 20)
timing_of_arithmetic (I.SubaAdda w r z m) = Always (to_register 8 z m)
timing_of_arithmetic (I.Cmpa r z m) = Always (sized z 6 6 + ea z m)
timing_of_arithmetic (I.SubxAddx w x z m y) = Always (if m == 0 then sized z 4 8 else sized z 18 30)
timing_of_arithmetic (I.SbcdAbcd w x m y) = Always (if m == 0 then 6 else 18)
timing_of_arithmetic (I.Exg x o y) = Always 6
timing_of_arithmetic (I.MuluMuls w r m) = Counted (38 + ea S.Word m) 2
timing_of_arithmetic (I.DivuDivs w r m) = Always ((if w == 0 then 140 else 158) + ea S.Word m)
timing_of_arithmetic (I.ShiftRegister c d z i t r) = Counted (sized z 6 8) 2
timing_of_arithmetic (I.ShiftMemory t d m) = Always (8 + ea S.Word m)
timing_of_arithmetic _ = Exception

abbrev pub timing_of_flow : Instr → Clocks
timing_of_flow (I.LinkUnlk w r) = Always (if w == 0 then 16 else 12)
timing_of_flow (I.MoveUsp d r) = Always 4
timing_of_flow (I.Moveq r d) = Always 4
timing_of_flow (I.ResetNopStopRte w) = Always (slice_index (132 ∷ 4 ∷ 8 ∷ 20 ∷ []) w)
timing_of_flow (I.RtsTrapvRtr w) = Always (slice_index (16 ∷ 4 ∷ 20 ∷ []) w)
timing_of_flow (I.Quick w q z m) = Always (quick z m)
timing_of_flow (I.Scc c m) = if code m == 0 then Outcomes (4 ∷ 6 ∷ []) else Always (8 + ea S.Byte m)
timing_of_flow (I.Dbcc c r) = Outcomes (12 ∷ 10 ∷ 14 ∷ [])
timing_of_flow (I.Branch w c d) =
    if c == 0 then Always 10 else (if c == 1 then Always 18 else Outcomes (10 ∷ 8 ∷ 12 ∷ []))
timing_of_flow i = timing_of_arithmetic i

abbrev pub timing_of_operands : Instr → Clocks
timing_of_operands (I.Unary w o z m) = Always (in_dn m (sized z 4 6) (sized z 8 12 + ea z m))
timing_of_operands (I.MoveFromSr m) = Always (in_dn m 6 (8 + ea S.Word m))
timing_of_operands (I.MoveToStatus w m) = Always (12 + ea S.Word m)
timing_of_operands (I.Nbcd m) = Always (in_dn m 6 (8 + ea S.Byte m))
timing_of_operands (I.Swap r) = Always 4
timing_of_operands (I.Ext z r) = Always 4
timing_of_operands (I.Pea m) = Always (listed control (12 ∷ 16 ∷ 20 ∷ 16 ∷ 20 ∷ 16 ∷ 20 ∷ []) m)
timing_of_operands (I.MovemToMemory z m) = Counted (listed control_alterable_or_pre to_memory m) (sized z 4 8)
timing_of_operands (I.MovemToRegisters z m) = Counted (listed control_or_post to_registers m) (sized z 4 8)
timing_of_operands (I.Tst z m) = Always (sized z 4 4 + ea z m)
timing_of_operands (I.Tas m) = Always (in_dn m 4 (10 + ea S.Byte m))
timing_of_operands (I.JsrJmp w m) =
    Always
    (if w == 0 then listed control (16 ∷ 18 ∷ 22 ∷ 18 ∷ 20 ∷ 18 ∷ 22 ∷ []) m
    else listed control (8 ∷ 10 ∷ 14 ∷ 10 ∷ 12 ∷ 10 ∷ 14 ∷ []) m)
timing_of_operands (I.Lea r m) = Always (listed control (4 ∷ 8 ∷ 12 ∷ 8 ∷ 12 ∷ 8 ∷ 12 ∷ []) m)
timing_of_operands (I.Chk r m) = Always (10 + ea S.Word m)
timing_of_operands i = timing_of_flow i

abbrev pub timing : Instr → Clocks
timing (I.Immediate w o z m) = Always (in_dn m (sized z 8 16) (sized z 12 20 + ea z m))
timing (I.Cmpi z m) = Always (in_dn m (sized z 8 14) (sized z 8 12 + ea z m))
timing (I.ImmediateToStatus w) = Always 20
timing (I.BitDynamic w r t m) = Always (bit_dynamic w m)
timing (I.BitStatic w t m) = Always (bit_static w m)
timing (I.Movep r o a) = Always (if (o == 0) || (o == 2) then 16 else 24)
timing (I.Move z dest m) = Always (sized z 4 4 + ea z m + move_dest z dest)
timing (I.Movea z r m) = Always (sized z 4 4 + ea z m)
timing i = timing_of_operands i
