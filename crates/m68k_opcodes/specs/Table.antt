-- The table of instructions: each row's pattern, the class of its modes, its instruction and its clocks.
use Rattle.std.specs.Prelude.{ℕ, List, [], ◌∷◌, ◌==◌, ◌+◌, ◌||◌, if◌then◌else◌, min, codes, length}
use Rattle.m68k_opcodes.specs.declared.operand.Size.TheVariants as S
use Rattle.m68k_opcodes.specs.declared.instr.Instr.{Instr}
use Rattle.m68k_opcodes.specs.declared.instr.Instr.TheVariants as I
use Rattle.m68k_opcodes.specs.Modes.{code, all_modes, data_modes, data_but_immediate, memory_alterable, data_alterable, alterable}
use Rattle.m68k_opcodes.specs.Modes.{control, control_or_post, control_alterable_or_pre, listed, sized, ea, move_dest}
use Rattle.m68k_opcodes.specs.Clocks.{Clocks, Always, Counted, Outcomes, Exception, in_dn, to_register}
use Rattle.m68k_opcodes.specs.Row.{Row, row, joined, taking, first, made, taken}
use Rattle.m68k_opcodes.specs.Letters.{a, c, d, i, m, o, q, r, t, v, x, y, rr, ss, s, zz, z, e, dest}

abbrev pub rows_0 : List Row
rows_0 =
    row (codes "0000 0000 00 111100") [] (λ f. I.ImmediateToStatus 0) (λ f. Always 20)
    ∷ row (codes "0000 0010 00 111100") [] (λ f. I.ImmediateToStatus 1) (λ f. Always 20)
    ∷ row (codes "0000 1010 00 111100") [] (λ f. I.ImmediateToStatus 2) (λ f. Always 20)
    ∷ row (codes "0000 0000 01 111100") [] (λ f. I.ImmediateToStatus 3) (λ f. Always 20)
    ∷ row (codes "0000 0010 01 111100") [] (λ f. I.ImmediateToStatus 4) (λ f. Always 20)
    ∷ row (codes "0000 1010 01 111100") [] (λ f. I.ImmediateToStatus 5) (λ f. Always 20)
    ∷ row (codes "0000 0000 ss eeeeee") data_alterable (λ f. I.Immediate 0 0 (ss f) (e f))
    (λ f. Always (in_dn (e f) (sized (ss f) 8 16) (sized (ss f) 12 20 + ea (ss f) (e f))))
    ∷ row (codes "0000 0010 ss eeeeee") data_alterable (λ f. I.Immediate 1 1 (ss f) (e f))
    (λ f. Always (in_dn (e f) (sized (ss f) 8 16) (sized (ss f) 12 20 + ea (ss f) (e f))))
    ∷ row (codes "0000 0100 ss eeeeee") data_alterable (λ f. I.Immediate 2 2 (ss f) (e f))
    (λ f. Always (in_dn (e f) (sized (ss f) 8 16) (sized (ss f) 12 20 + ea (ss f) (e f))))
    ∷ row (codes "0000 0110 ss eeeeee") data_alterable (λ f. I.Immediate 3 3 (ss f) (e f))
    (λ f. Always (in_dn (e f) (sized (ss f) 8 16) (sized (ss f) 12 20 + ea (ss f) (e f))))
    ∷ row (codes "0000 1010 ss eeeeee") data_alterable (λ f. I.Immediate 4 5 (ss f) (e f))
    (λ f. Always (in_dn (e f) (sized (ss f) 8 16) (sized (ss f) 12 20 + ea (ss f) (e f))))
    ∷ row (codes "0000 1100 ss eeeeee") data_alterable (λ f. I.Cmpi (ss f) (e f))
    (λ f. Always (in_dn (e f) (sized (ss f) 8 14) (sized (ss f) 8 12 + ea (ss f) (e f))))
    ∷ row (codes "0000 rrr1 00 eeeeee") data_modes (λ f. I.BitDynamic 0 (r f) 0 (e f))
    (λ f. Always (in_dn (e f) 6 (4 + ea S.Byte (e f))))
    ∷ row (codes "0000 rrr1 01 eeeeee") data_alterable (λ f. I.BitDynamic 1 (r f) 1 (e f))
    (λ f. Always (in_dn (e f) 8 (8 + ea S.Byte (e f))))
    ∷ row (codes "0000 rrr1 10 eeeeee") data_alterable (λ f. I.BitDynamic 2 (r f) 2 (e f))
    (λ f. Always (in_dn (e f) 10 (8 + ea S.Byte (e f))))
    ∷ row (codes "0000 rrr1 11 eeeeee") data_alterable (λ f. I.BitDynamic 3 (r f) 3 (e f))
    (λ f. Always (in_dn (e f) 8 (8 + ea S.Byte (e f))))
    ∷ row (codes "0000 1000 00 eeeeee") data_but_immediate (λ f. I.BitStatic 0 0 (e f))
    (λ f. Always (in_dn (e f) 10 (8 + ea S.Byte (e f))))
    ∷ row (codes "0000 1000 01 eeeeee") data_alterable (λ f. I.BitStatic 1 1 (e f))
    (λ f. Always (in_dn (e f) 12 (12 + ea S.Byte (e f))))
    ∷ row (codes "0000 1000 10 eeeeee") data_alterable (λ f. I.BitStatic 2 2 (e f))
    (λ f. Always (in_dn (e f) 14 (12 + ea S.Byte (e f))))
    ∷ row (codes "0000 1000 11 eeeeee") data_alterable (λ f. I.BitStatic 3 3 (e f))
    (λ f. Always (in_dn (e f) 12 (12 + ea S.Byte (e f))))
    ∷ row (codes "0000 rrr1 oo 001 aaa") [] (λ f. I.Movep (r f) (o f) (a f))
    (λ f. Always (if (o f == 0) || (o f == 2) then 16 else 24))
    ∷ []

abbrev pub row_move : Row
row_move =
    row (codes "00zz RRRMMM eeeeee") all_modes (λ f. I.Move (zz f) (dest f) (e f))
    (λ f. Always (4 + ea (zz f) (e f) + move_dest (zz f) (dest f)))

abbrev pub row_movea : Row
row_movea =
    row (codes "001z RRR001 eeeeee") all_modes (λ f. I.Movea (z f) (rr f) (e f))
    (λ f. Always (4 + ea (z f) (e f)))

abbrev pub rows_move : List Row
rows_move = row_move ∷ row_movea ∷ []

abbrev pub rows_4 : List Row
rows_4 =
    row (codes "0100 0000 ss eeeeee") data_alterable (λ f. I.Unary 0 0 (ss f) (e f))
    (λ f. Always (in_dn (e f) (sized (ss f) 4 6) (sized (ss f) 8 12 + ea (ss f) (e f))))
    ∷ row (codes "0100 0010 ss eeeeee") data_alterable (λ f. I.Unary 1 1 (ss f) (e f))
    (λ f. Always (in_dn (e f) (sized (ss f) 4 6) (sized (ss f) 8 12 + ea (ss f) (e f))))
    ∷ row (codes "0100 0100 ss eeeeee") data_alterable (λ f. I.Unary 2 2 (ss f) (e f))
    (λ f. Always (in_dn (e f) (sized (ss f) 4 6) (sized (ss f) 8 12 + ea (ss f) (e f))))
    ∷ row (codes "0100 0110 ss eeeeee") data_alterable (λ f. I.Unary 3 3 (ss f) (e f))
    (λ f. Always (in_dn (e f) (sized (ss f) 4 6) (sized (ss f) 8 12 + ea (ss f) (e f))))
    ∷ row (codes "0100 0000 11 eeeeee") data_alterable (λ f. I.MoveFromSr (e f))
    (λ f. Always (in_dn (e f) 6 (8 + ea S.Word (e f))))
    ∷ row (codes "0100 0100 11 eeeeee") data_modes (λ f. I.MoveToStatus 0 (e f))
    (λ f. Always (12 + ea S.Word (e f)))
    ∷ row (codes "0100 0110 11 eeeeee") data_modes (λ f. I.MoveToStatus 1 (e f))
    (λ f. Always (12 + ea S.Word (e f)))
    ∷ row (codes "0100 1000 00 eeeeee") data_alterable (λ f. I.Nbcd (e f))
    (λ f. Always (in_dn (e f) 6 (8 + ea S.Byte (e f))))
    ∷ row (codes "0100 1000 0100 0rrr") [] (λ f. I.Swap (r f)) (λ f. Always 4)
    ∷ row (codes "0100 1000 01 eeeeee") control (λ f. I.Pea (e f))
    (λ f. Always (listed control (12 ∷ 16 ∷ 20 ∷ 16 ∷ 20 ∷ 16 ∷ 20 ∷ []) (e f)))
    ∷ row (codes "0100 1000 1s00 0rrr") [] (λ f. I.Ext (s f) (r f)) (λ f. Always 4)
    ∷ row (codes "0100 1000 1s eeeeee") control_alterable_or_pre (λ f. I.MovemToMemory (s f) (e f))
    (λ f. Counted (listed control_alterable_or_pre (8 ∷ 12 ∷ 14 ∷ 12 ∷ 16 ∷ 8 ∷ []) (e f)) (sized (s f) 4 8))
    ∷ row (codes "0100 1100 1s eeeeee") control_or_post (λ f. I.MovemToRegisters (s f) (e f))
    (λ f. Counted (listed control_or_post (12 ∷ 16 ∷ 18 ∷ 16 ∷ 20 ∷ 16 ∷ 18 ∷ 12 ∷ []) (e f)) (sized (s f) 4 8))
    ∷ row (codes "0100 1010 ss eeeeee") data_alterable (λ f. I.Tst (ss f) (e f))
    (λ f. Always (4 + ea (ss f) (e f)))
    ∷ row (codes "0100 1010 11 eeeeee") data_alterable (λ f. I.Tas (e f))
    (λ f. Always (in_dn (e f) 4 (10 + ea S.Byte (e f))))
    ∷ row (codes "0100 1010 11 111100") [] (λ f. I.Illegal) (λ f. Exception)
    ∷ row (codes "0100 1110 0100 vvvv") [] (λ f. I.Trap (v f)) (λ f. Exception)
    ∷ row (codes "0100 1110 0101 0rrr") [] (λ f. I.LinkUnlk 0 (r f)) (λ f. Always 16)
    ∷ row (codes "0100 1110 0101 1rrr") [] (λ f. I.LinkUnlk 1 (r f)) (λ f. Always 12)
    ∷ row (codes "0100 1110 0110 drrr") [] (λ f. I.MoveUsp (d f) (r f)) (λ f. Always 4)
    ∷ row (codes "0100 1110 0111 0000") [] (λ f. I.ResetNopStopRte 0) (λ f. Always 132)
    ∷ row (codes "0100 1110 0111 0001") [] (λ f. I.ResetNopStopRte 1) (λ f. Always 4)
    ∷ row (codes "0100 1110 0111 0010") [] (λ f. I.ResetNopStopRte 2) (λ f. Always 8)
    ∷ row (codes "0100 1110 0111 0011") [] (λ f. I.ResetNopStopRte 3) (λ f. Always 20)
    ∷ row (codes "0100 1110 0111 0101") [] (λ f. I.RtsTrapvRtr 0) (λ f. Always 16)
    ∷ row (codes "0100 1110 0111 0110") [] (λ f. I.RtsTrapvRtr 1) (λ f. Always 4)
    ∷ row (codes "0100 1110 0111 0111") [] (λ f. I.RtsTrapvRtr 2) (λ f. Always 20)
    ∷ row (codes "0100 1110 10 eeeeee") control (λ f. I.JsrJmp 0 (e f))
    (λ f. Always (listed control (16 ∷ 18 ∷ 22 ∷ 18 ∷ 20 ∷ 18 ∷ 22 ∷ []) (e f)))
    ∷ row (codes "0100 1110 11 eeeeee") control (λ f. I.JsrJmp 1 (e f))
    (λ f. Always (listed control (8 ∷ 10 ∷ 14 ∷ 10 ∷ 12 ∷ 10 ∷ 14 ∷ []) (e f)))
    ∷ row (codes "0100 rrr1 11 eeeeee") control (λ f. I.Lea (r f) (e f))
    (λ f. Always (listed control (4 ∷ 8 ∷ 12 ∷ 8 ∷ 12 ∷ 8 ∷ 12 ∷ []) (e f)))
    ∷ row (codes "0100 rrr1 10 eeeeee") data_modes (λ f. I.Chk (r f) (e f))
    (λ f. Always (10 + ea S.Word (e f)))
    ∷ []

abbrev pub rows_5 : List Row
rows_5 =
    row (codes "0101 qqq0 ss eeeeee") alterable (λ f. I.Quick 0 (q f) (ss f) (e f))
    (λ f. Always (if code (e f) == 0 then sized (ss f) 4 8 else (if code (e f) == 1 then 8 else sized (ss f) 8 12 + ea (ss f) (e f))))
    ∷ row (codes "0101 qqq1 ss eeeeee") alterable (λ f. I.Quick 1 (q f) (ss f) (e f))
    (λ f. Always (if code (e f) == 0 then sized (ss f) 4 8 else (if code (e f) == 1 then 8 else sized (ss f) 8 12 + ea (ss f) (e f))))
    ∷ row (codes "0101 cccc 11 eeeeee") data_alterable (λ f. I.Scc (c f) (e f))
    (λ f. if code (e f) == 0 then Outcomes (4 ∷ 6 ∷ []) else Always (8 + ea S.Byte (e f)))
    ∷ row (codes "0101 cccc 1100 1rrr") [] (λ f. I.Dbcc (c f) (r f))
    (λ f. Outcomes (12 ∷ 10 ∷ 14 ∷ []))
    ∷ []

abbrev pub rows_6 : List Row
rows_6 =
    row (codes "0110 cccc dddddddd") [] (λ f. I.Branch (min (c f) 2) (c f) (d f))
    (λ f. if c f == 0 then Always 10 else (if c f == 1 then Always 18 else Outcomes (10 ∷ 8 ∷ 12 ∷ [])))
    ∷ []

abbrev pub rows_7 : List Row
rows_7 =
    row (codes "0111 rrr0 dddddddd") [] (λ f. I.Moveq (r f) (d f)) (λ f. Always 4)
    ∷ []

abbrev pub rows_8 : List Row
rows_8 =
    row (codes "1000 rrr0 ss eeeeee") data_modes (λ f. I.OrAndToDn 0 (r f) (ss f) (e f))
    (λ f. Always (to_register 4 (ss f) (e f)))
    ∷ row (codes "1000 rrr1 ss eeeeee") memory_alterable (λ f. I.ToMemory 0 (r f) (ss f) (e f))
    (λ f. Always (sized (ss f) 8 12 + ea (ss f) (e f)))
    ∷ row (codes "1000 xxx1 0000 myyy") [] (λ f. I.SbcdAbcd 0 (x f) (m f) (y f))
    (λ f. Always (if m f == 0 then 6 else 18))
    ∷ row (codes "1000 rrr0 11 eeeeee") data_modes (λ f. I.DivuDivs 0 (r f) (e f))
    (λ f. Always (140 + ea S.Word (e f)))
    ∷ row (codes "1000 rrr1 11 eeeeee") data_modes (λ f. I.DivuDivs 1 (r f) (e f))
    (λ f. Always (158 + ea S.Word (e f)))
    ∷ []

abbrev pub rows_9 : List Row
rows_9 =
    row (codes "1001 rrr0 ss eeeeee") all_modes (λ f. I.SubAddToDn 0 (r f) (ss f) (e f))
    (λ f. Always (to_register 4 (ss f) (e f)))
    ∷ row (codes "1001 rrr1 ss eeeeee") memory_alterable (λ f. I.ToMemory 2 (r f) (ss f) (e f))
    (λ f. Always (sized (ss f) 8 12 + ea (ss f) (e f)))
    ∷ row (codes "1001 rrrs 11 eeeeee") all_modes (λ f. I.SubaAdda 0 (r f) (s f) (e f))
    (λ f. Always (to_register 8 (s f) (e f)))
    ∷ row (codes "1001 xxx1 ss 00m yyy") [] (λ f. I.SubxAddx 0 (x f) (ss f) (m f) (y f))
    (λ f. Always (if m f == 0 then sized (ss f) 4 8 else sized (ss f) 18 30))
    ∷ []

abbrev pub rows_A : List Row
rows_A =
    row (codes "1010 nnnnnnnnnnnn") [] (λ f. I.LineA) (λ f. Exception)
    ∷ []

abbrev pub rows_B : List Row
rows_B =
    row (codes "1011 rrr0 ss eeeeee") all_modes (λ f. I.Cmp (r f) (ss f) (e f))
    (λ f. Always (sized (ss f) 4 6 + ea (ss f) (e f)))
    ∷ row (codes "1011 rrr1 ss eeeeee") data_alterable (λ f. I.Eor (r f) (ss f) (e f))
    (λ f. Always (in_dn (e f) (sized (ss f) 4 8) (sized (ss f) 8 12 + ea (ss f) (e f))))
    ∷ row (codes "1011 xxx1 ss 001 yyy") [] (λ f. I.Cmpm (x f) (ss f) (y f))
    (λ f. Always (sized (ss f) 12 20))
    ∷ row (codes "1011 rrrs 11 eeeeee") all_modes (λ f. I.Cmpa (r f) (s f) (e f))
    (λ f. Always (6 + ea (s f) (e f)))
    ∷ []

abbrev pub rows_C : List Row
rows_C =
    row (codes "1100 rrr0 ss eeeeee") data_modes (λ f. I.OrAndToDn 1 (r f) (ss f) (e f))
    (λ f. Always (to_register 4 (ss f) (e f)))
    ∷ row (codes "1100 rrr1 ss eeeeee") memory_alterable (λ f. I.ToMemory 1 (r f) (ss f) (e f))
    (λ f. Always (sized (ss f) 8 12 + ea (ss f) (e f)))
    ∷ row (codes "1100 xxx1 0000 myyy") [] (λ f. I.SbcdAbcd 1 (x f) (m f) (y f))
    (λ f. Always (if m f == 0 then 6 else 18))
    ∷ row (codes "1100 xxx1 01000 yyy") [] (λ f. I.Exg (x f) 8 (y f)) (λ f. Always 6)
    ∷ row (codes "1100 xxx1 01001 yyy") [] (λ f. I.Exg (x f) 9 (y f)) (λ f. Always 6)
    ∷ row (codes "1100 xxx1 10001 yyy") [] (λ f. I.Exg (x f) 17 (y f)) (λ f. Always 6)
    ∷ row (codes "1100 rrr0 11 eeeeee") data_modes (λ f. I.MuluMuls 0 (r f) (e f))
    (λ f. Counted (38 + ea S.Word (e f)) 2)
    ∷ row (codes "1100 rrr1 11 eeeeee") data_modes (λ f. I.MuluMuls 1 (r f) (e f))
    (λ f. Counted (38 + ea S.Word (e f)) 2)
    ∷ []

abbrev pub rows_D : List Row
rows_D =
    row (codes "1101 rrr0 ss eeeeee") all_modes (λ f. I.SubAddToDn 1 (r f) (ss f) (e f))
    (λ f. Always (to_register 4 (ss f) (e f)))
    ∷ row (codes "1101 rrr1 ss eeeeee") memory_alterable (λ f. I.ToMemory 3 (r f) (ss f) (e f))
    (λ f. Always (sized (ss f) 8 12 + ea (ss f) (e f)))
    ∷ row (codes "1101 rrrs 11 eeeeee") all_modes (λ f. I.SubaAdda 1 (r f) (s f) (e f))
    (λ f. Always (to_register 8 (s f) (e f)))
    ∷ row (codes "1101 xxx1 ss 00m yyy") [] (λ f. I.SubxAddx 1 (x f) (ss f) (m f) (y f))
    (λ f. Always (if m f == 0 then sized (ss f) 4 8 else sized (ss f) 18 30))
    ∷ []

abbrev pub rows_E : List Row
rows_E =
    row (codes "1110 cccd ssit trrr") [] (λ f. I.ShiftRegister (c f) (d f) (ss f) (i f) (t f) (r f))
    (λ f. Counted (sized (ss f) 6 8) 2)
    ∷ row (codes "1110 0ttd 11 eeeeee") memory_alterable (λ f. I.ShiftMemory (t f) (d f) (e f))
    (λ f. Always (8 + ea S.Word (e f)))
    ∷ []

abbrev pub rows_F : List Row
rows_F =
    row (codes "1111 nnnnnnnnnnnn") [] (λ f. I.LineF) (λ f. Exception)
    ∷ []

-- the rows by the first four digits of their patterns
abbrev pub groups : List (List Row)
groups =
    rows_0 ∷ rows_move ∷ rows_4 ∷ rows_5 ∷ rows_6 ∷ rows_7 ∷ rows_8
    ∷ rows_9 ∷ rows_A ∷ rows_B ∷ rows_C ∷ rows_D ∷ rows_E ∷ rows_F ∷ []

-- the whole table
abbrev pub rows : List Row
rows = joined groups

-- the instruction of an opcode
unfoldable pub decode_of : ℕ → Instr
decode_of opcode = made (first (taking rows opcode)) opcode

-- the clocks of an opcode's row
unfoldable pub clocks_at : ℕ → Clocks
clocks_at opcode = taken (first (taking rows opcode)) opcode

-- how many rows of the table take an opcode: at most one, so their order means nothing
unfoldable pub rows_at : ℕ → ℕ
rows_at opcode = length (taking rows opcode)
