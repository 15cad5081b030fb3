-- How the code takes opcodes apart, by their first four bits. (Only private functions speak of these words; that they
-- agree with the table of instructions is proved.)
use Rattle.std.specs.Prelude.{ℕ, Bool, true, false, Option, Some, None, ◌==◌, ◌+◌, ◌/◌, ◌%◌, ◌&&◌, ◌||◌, not, if◌then◌else◌, min, nat_le, nat_lt}
use Rattle.m68k_opcodes.specs.declared.operand.Size.{Size}
use Rattle.m68k_opcodes.specs.declared.operand.Size.TheVariants as S
use Rattle.m68k_opcodes.specs.declared.operand.Mode.{Mode}
use Rattle.m68k_opcodes.specs.declared.class.Class.TheVariants as K
use Rattle.m68k_opcodes.specs.declared.instr.Instr.{Instr}
use Rattle.m68k_opcodes.specs.declared.instr.Instr.TheVariants as I
use Rattle.m68k_opcodes.specs.code.Parts.{size_in, mode_in, operand_in, admits, any_of, alterable_of, word_or_long}

abbrev pub low : ℕ → ℕ
low n = n % 8

abbrev pub high : ℕ → ℕ
high n = n / 512 % 8

abbrev pub bits : ℕ → ℕ
bits n = n / 64 % 4

abbrev pub modes : ℕ → ℕ
modes n = n / 8 % 8

abbrev pub bit_8 : ℕ → ℕ
bit_8 n = n / 256 % 2

abbrev pub size : ℕ → Option Size
size n = size_in (bits n)

-- an instruction of a mode, illegal without
abbrev pub of_mode : Option Mode → (Mode → Instr) → Instr
of_mode (Some m) f = f m
of_mode None f = I.Illegal

-- an instruction of a size and a mode, another without
abbrev pub of_both : Option Size → Option Mode → (Size → Mode → Instr) → Instr → Instr
of_both (Some z) (Some m) f other = f z m
of_both (Some z) None f other = other
of_both None m f other = other

-- an instruction of a size, another without
abbrev pub of_size : Option Size → (Size → Instr) → Instr → Instr
of_size (Some z) f other = f z
of_size None f other = other

abbrev pub is_byte : Size → Bool
is_byte S.Byte = true
is_byte _ = false

abbrev pub immediate_to_status : ℕ → Instr
immediate_to_status n =
    if n == 60 then I.ImmediateToStatus 0
    else (if n == 572 then I.ImmediateToStatus 1
    else (if n == 2620 then I.ImmediateToStatus 2
    else (if n == 124 then I.ImmediateToStatus 3
    else (if n == 636 then I.ImmediateToStatus 4
    else (if n == 2684 then I.ImmediateToStatus 5
    else I.Illegal)))))

abbrev pub immediate : ℕ → ℕ → Instr
immediate n o =
    of_both (size n) (operand_in n K.DataAlterable) (λ z m. I.Immediate (if o == 5 then 4 else o) o z m) (immediate_to_status n)

abbrev pub compare_immediate : ℕ → Instr
compare_immediate n = of_both (size n) (operand_in n K.DataAlterable) (λ z m. I.Cmpi z m) I.Illegal

abbrev pub bit_static : ℕ → Instr
bit_static n =
    of_mode (operand_in n (if bits n == 0 then K.DataButImmediate else K.DataAlterable)) (λ m. I.BitStatic (bits n) (bits n) m)

abbrev pub bit_dynamic : ℕ → Instr
bit_dynamic n =
    if modes n == 1 then I.Movep (high n) (bits n) (low n)
    else of_mode (operand_in n (if bits n == 0 then K.Data else K.DataAlterable)) (λ m. I.BitDynamic (bits n) (high n) (bits n) m)

abbrev pub immediates_and_bits : ℕ → Instr
immediates_and_bits n =
    if bit_8 n == 1 then bit_dynamic n
    else (if high n == 4 then bit_static n
    else (if high n == 6 then compare_immediate n
    else (if high n == 7 then I.Illegal
    else immediate n (high n))))

abbrev pub moved : ℕ → Size → Option Mode → Option Mode → Instr
moved n z (Some m) (Some dest) =
    if admits K.DataAlterable dest then I.Move z dest m
    else (if (n / 64 % 8 == 1) && not (is_byte z) then I.Movea z (high n) m else I.Illegal)
moved n z (Some m) None = if (n / 64 % 8 == 1) && not (is_byte z) then I.Movea z (high n) m else I.Illegal
moved n z None dest = I.Illegal

abbrev pub moves : ℕ → Size → Instr
moves n z = moved n z (operand_in n (any_of z)) (mode_in (n / 64 % 8) (high n))

abbrev pub address_or_check : ℕ → Instr
address_or_check n =
    if bits n == 3 then of_mode (operand_in n K.Control) (λ m. I.Lea (high n) m)
    else (if bits n == 2 then of_mode (operand_in n K.Data) (λ m. I.Chk (high n) m) else I.Illegal)

abbrev pub status : ℕ → ℕ → Instr
status n o =
    if o == 0 then of_mode (operand_in n K.DataAlterable) (λ m. I.MoveFromSr m)
    else (if o == 2 then of_mode (operand_in n K.Data) (λ m. I.MoveToStatus 0 m)
    else (if o == 3 then of_mode (operand_in n K.Data) (λ m. I.MoveToStatus 1 m)
    else I.Illegal))

abbrev pub unary : ℕ → ℕ → Instr
unary n o = of_size (size n) (λ z. of_mode (operand_in n K.DataAlterable) (λ m. I.Unary o o z m)) (status n o)

abbrev pub movem_to_memory : ℕ → Size → Instr
movem_to_memory n z = of_mode (operand_in n K.ControlAlterableOrPre) (λ m. I.MovemToMemory z m)

abbrev pub swap_and_movem : ℕ → Instr
swap_and_movem n =
    if bits n == 0 then of_mode (operand_in n K.DataAlterable) (λ m. I.Nbcd m)
    else (if bits n == 1 then (if modes n == 0 then I.Swap (low n) else of_mode (operand_in n K.Control) (λ m. I.Pea m))
    else (if modes n == 0 then I.Ext (word_or_long (bits n == 3)) (low n)
    else movem_to_memory n (word_or_long (bits n == 3))))

abbrev pub test : ℕ → Instr
test n =
    of_size (size n) (λ z. of_mode (operand_in n K.DataAlterable) (λ m. I.Tst z m))
    (of_mode (operand_in n K.DataAlterable) (λ m. I.Tas m))

abbrev pub movem_to_registers : ℕ → Instr
movem_to_registers n =
    if nat_le 2 (bits n) then of_mode (operand_in n K.ControlOrPost) (λ m. I.MovemToRegisters (word_or_long (bits n == 3)) m)
    else I.Illegal

abbrev pub system : ℕ → Instr
system n =
    if modes n == 0 then I.Trap (low n)
    else (if modes n == 1 then I.Trap (8 + low n)
    else (if modes n == 2 then I.LinkUnlk 0 (low n)
    else (if modes n == 3 then I.LinkUnlk 1 (low n)
    else (if modes n == 4 then I.MoveUsp 0 (low n)
    else (if modes n == 5 then I.MoveUsp 1 (low n)
    else (if (modes n == 7) || (low n == 4) then I.Illegal
    else (if low n == 5 then I.RtsTrapvRtr 0
    else (if low n == 6 then I.RtsTrapvRtr 1
    else (if low n == 7 then I.RtsTrapvRtr 2
    else I.ResetNopStopRte (low n))))))))))

abbrev pub control : ℕ → Instr
control n =
    if bits n == 0 then I.Illegal
    else (if bits n == 1 then system n
    else of_mode (operand_in n K.Control) (λ m. I.JsrJmp (if bits n == 2 then 0 else 1) m))

abbrev pub miscellaneous : ℕ → Instr
miscellaneous n =
    if bit_8 n == 1 then address_or_check n
    else (if high n == 4 then swap_and_movem n
    else (if high n == 5 then test n
    else (if high n == 6 then movem_to_registers n
    else (if high n == 7 then control n
    else unary n (high n)))))

abbrev pub quick : ℕ → Size → Instr
quick n z = of_mode (operand_in n (alterable_of z)) (λ m. I.Quick (bit_8 n) (high n) z m)

abbrev pub quick_and_conditions : ℕ → Instr
quick_and_conditions n =
    of_size (size n) (quick n)
    (if modes n == 1 then I.Dbcc (n / 256 % 16) (low n)
    else of_mode (operand_in n K.DataAlterable) (λ m. I.Scc (n / 256 % 16) m))

abbrev pub branch : ℕ → Instr
branch n = I.Branch (min (n / 256 % 16) 2) (n / 256 % 16) (n % 256)

abbrev pub move_quick : ℕ → Instr
move_quick n = if bit_8 n == 1 then I.Illegal else I.Moveq (high n) (n % 256)

abbrev pub to_memory : ℕ → ℕ → Instr
to_memory n which = of_both (size n) (operand_in n K.MemoryAlterable) (λ z m. I.ToMemory which (high n) z m) I.Illegal

abbrev pub exchange : ℕ → ℕ → Instr
exchange n which =
    if which == 1 then
    (if bits n == 1 then I.Exg (high n) (if modes n == 0 then 8 else 9) (low n)
    else (if (bits n == 2) && (modes n == 1) then I.Exg (high n) 17 (low n) else I.Illegal))
    else I.Illegal

abbrev pub logic_to_register : ℕ → ℕ → Instr
logic_to_register n which = of_both (size n) (operand_in n K.Data) (λ z m. I.OrAndToDn which (high n) z m) I.Illegal

abbrev pub logic : ℕ → ℕ → Instr
logic n which =
    if bit_8 n == 0 then logic_to_register n which
    else (if nat_lt (modes n) 2 then
    (if bits n == 0 then I.SbcdAbcd which (high n) (modes n) (low n) else exchange n which)
    else to_memory n which)

abbrev pub or_and_divide : ℕ → Instr
or_and_divide n =
    if n / 64 % 8 == 3 then of_mode (operand_in n K.Data) (λ m. I.DivuDivs 0 (high n) m)
    else (if n / 64 % 8 == 7 then of_mode (operand_in n K.Data) (λ m. I.DivuDivs 1 (high n) m)
    else logic n 0)

abbrev pub and_and_multiply : ℕ → Instr
and_and_multiply n =
    if n / 64 % 8 == 3 then of_mode (operand_in n K.Data) (λ m. I.MuluMuls 0 (high n) m)
    else (if n / 64 % 8 == 7 then of_mode (operand_in n K.Data) (λ m. I.MuluMuls 1 (high n) m)
    else logic n 1)

abbrev pub sum_to_address : ℕ → ℕ → Size → Instr
sum_to_address n which z = of_mode (operand_in n K.All) (λ m. I.SubaAdda which (high n) z m)

abbrev pub sum_to_register : ℕ → ℕ → Size → Instr
sum_to_register n which z = of_mode (operand_in n (any_of z)) (λ m. I.SubAddToDn which (high n) z m)

abbrev pub sums : ℕ → ℕ → Instr
sums n which =
    of_size (size n)
    (λ z. if bit_8 n == 0 then sum_to_register n which z
    else (if nat_lt (modes n) 2 then I.SubxAddx which (high n) z (modes n) (low n)
    else to_memory n (2 + which)))
    (sum_to_address n which (word_or_long (bit_8 n == 1)))

abbrev pub compare_address : ℕ → Size → Instr
compare_address n z = of_mode (operand_in n K.All) (λ m. I.Cmpa (high n) z m)

abbrev pub compare_register : ℕ → Size → Instr
compare_register n z = of_mode (operand_in n (any_of z)) (λ m. I.Cmp (high n) z m)

abbrev pub exclusive_or : ℕ → Size → Instr
exclusive_or n z = of_mode (operand_in n K.DataAlterable) (λ m. I.Eor (high n) z m)

abbrev pub compare : ℕ → Instr
compare n =
    of_size (size n)
    (λ z. if bit_8 n == 0 then compare_register n z
    else (if modes n == 1 then I.Cmpm (high n) z (low n) else exclusive_or n z))
    (compare_address n (word_or_long (bit_8 n == 1)))

abbrev pub shifts : ℕ → Instr
shifts n =
    of_size (size n) (λ z. I.ShiftRegister (high n) (bit_8 n) z (modes n / 4) (modes n % 4) (low n))
    (of_mode (operand_in n K.MemoryAlterable) (λ m. if nat_lt (high n) 4 then I.ShiftMemory (high n) (bit_8 n) m else I.Illegal))
