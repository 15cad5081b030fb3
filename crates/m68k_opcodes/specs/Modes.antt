-- The address modes: their codes, their classes and their clocks.
use Rattle.std.specs.Prelude.{ℕ, Bool, false, List, [], ◌∷◌, ◌++◌, ◌==◌, ◌+◌, ◌||◌, if◌then◌else◌, slice_index}
use Rattle.m68k_opcodes.specs.declared.operand.Size.{Size}
use Rattle.m68k_opcodes.specs.declared.operand.Size.TheVariants as S
use Rattle.m68k_opcodes.specs.declared.operand.Mode.{Mode}
use Rattle.m68k_opcodes.specs.declared.operand.Mode.TheVariants as M

-- the code of a mode; the modes that the register's bits tell apart, 7.0 to 7.4, are 7 to 11
abbrev pub code : Mode → ℕ
code (M.Dn r) = 0
code (M.An r) = 1
code (M.Ind r) = 2
code (M.Post r) = 3
code (M.Pre r) = 4
code (M.Disp r) = 5
code (M.Index r) = 6
code M.Short = 7
code M.Long = 8
code M.PcDisp = 9
code M.PcIndex = 10
code M.Imm = 11

-- the code that mode bits and register bits say
abbrev pub code_at : ℕ → ℕ → ℕ
code_at mode reg = if mode == 7 then 7 + reg else mode

-- the mode with a code and a register
abbrev pub mode_with : ℕ → ℕ → Mode
mode_with mode reg =
    if mode == 0 then M.Dn reg
    else (if mode == 1 then M.An reg
    else (if mode == 2 then M.Ind reg
    else (if mode == 3 then M.Post reg
    else (if mode == 4 then M.Pre reg
    else (if mode == 5 then M.Disp reg
    else (if mode == 6 then M.Index reg
    else (if mode == 7 then M.Short
    else (if mode == 8 then M.Long
    else (if mode == 9 then M.PcDisp
    else (if mode == 10 then M.PcIndex
    else M.Imm))))))))))

abbrev pub among : ℕ → List ℕ → Bool
among c [] = false
among c (x ∷ xs) = (x == c) || among c xs

-- the classes of modes, by their codes
abbrev pub all_modes : List ℕ
all_modes = 0 ∷ 1 ∷ 2 ∷ 3 ∷ 4 ∷ 5 ∷ 6 ∷ 7 ∷ 8 ∷ 9 ∷ 10 ∷ 11 ∷ []

-- all but An
abbrev pub data_modes : List ℕ
data_modes = 0 ∷ 2 ∷ 3 ∷ 4 ∷ 5 ∷ 6 ∷ 7 ∷ 8 ∷ 9 ∷ 10 ∷ 11 ∷ []

abbrev pub data_but_immediate : List ℕ
data_but_immediate = 0 ∷ 2 ∷ 3 ∷ 4 ∷ 5 ∷ 6 ∷ 7 ∷ 8 ∷ 9 ∷ 10 ∷ []

abbrev pub memory_alterable : List ℕ
memory_alterable = 2 ∷ 3 ∷ 4 ∷ 5 ∷ 6 ∷ 7 ∷ 8 ∷ []

abbrev pub data_alterable : List ℕ
data_alterable = 0 ∷ memory_alterable

abbrev pub alterable : List ℕ
alterable = 0 ∷ 1 ∷ memory_alterable

abbrev pub control : List ℕ
control = 2 ∷ 5 ∷ 6 ∷ 7 ∷ 8 ∷ 9 ∷ 10 ∷ []

abbrev pub control_or_post : List ℕ
control_or_post = control ++ 3 ∷ []

-- control without the PC-relative modes, and -(An)
abbrev pub control_alterable_or_pre : List ℕ
control_alterable_or_pre = 2 ∷ 5 ∷ 6 ∷ 7 ∷ 8 ∷ 4 ∷ []

-- how many stand in a list before c
abbrev pub before : ℕ → List ℕ → ℕ
before c [] = 0
before c (x ∷ xs) = if x == c then 0 else 1 + before c xs

-- the number of a mode, where numbers are listed in the order of a class
abbrev pub listed : List ℕ → List ℕ → Mode → ℕ
listed modes numbers m = slice_index numbers (before (code m) modes)

-- one number for byte and word, and one for long
abbrev pub sized : Size → ℕ → ℕ → ℕ
sized S.Byte short long = short
sized S.Word short long = short
sized S.Long short long = long

-- the clocks of a mode
abbrev pub ea : Size → Mode → ℕ
ea z m =
    sized z
    (listed all_modes (0 ∷ 0 ∷ 4 ∷ 4 ∷ 6 ∷ 8 ∷ 10 ∷ 8 ∷ 12 ∷ 8 ∷ 10 ∷ 4 ∷ []) m)
    (listed all_modes (0 ∷ 0 ∷ 8 ∷ 8 ∷ 10 ∷ 12 ∷ 14 ∷ 12 ∷ 16 ∷ 12 ∷ 14 ∷ 8 ∷ []) m)

-- the clocks of a mode as the destination of MOVE
abbrev pub move_dest : Size → Mode → ℕ
move_dest z m =
    sized z
    (listed data_alterable (0 ∷ 4 ∷ 4 ∷ 4 ∷ 8 ∷ 10 ∷ 8 ∷ 12 ∷ []) m)
    (listed data_alterable (0 ∷ 8 ∷ 8 ∷ 8 ∷ 12 ∷ 14 ∷ 12 ∷ 16 ∷ []) m)
