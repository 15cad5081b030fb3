-- The fields of an opcode by their letters. A row gives f, which gives the number under the letter with a code.
use Rattle.std.specs.Prelude.{ℕ, ◌==◌, ◌/◌, ◌%◌, if◌then◌else◌}
use Rattle.m68k_opcodes.specs.declared.operand.Size.{Size}
use Rattle.m68k_opcodes.specs.declared.operand.Size.TheVariants as S
use Rattle.m68k_opcodes.specs.declared.operand.Mode.{Mode}
use Rattle.m68k_opcodes.specs.Text.{letter_s, letter_z, letter_e, letter_M, letter_R}
use Rattle.m68k_opcodes.specs.Modes.{code_at, mode_with}

abbrev pub a : (ℕ → ℕ) → ℕ
a f = f 97

abbrev pub c : (ℕ → ℕ) → ℕ
c f = f 99

abbrev pub d : (ℕ → ℕ) → ℕ
d f = f 100

abbrev pub i : (ℕ → ℕ) → ℕ
i f = f 105

abbrev pub m : (ℕ → ℕ) → ℕ
m f = f 109

abbrev pub o : (ℕ → ℕ) → ℕ
o f = f 111

abbrev pub q : (ℕ → ℕ) → ℕ
q f = f 113

abbrev pub r : (ℕ → ℕ) → ℕ
r f = f 114

abbrev pub t : (ℕ → ℕ) → ℕ
t f = f 116

abbrev pub v : (ℕ → ℕ) → ℕ
v f = f 118

abbrev pub x : (ℕ → ℕ) → ℕ
x f = f 120

abbrev pub y : (ℕ → ℕ) → ℕ
y f = f 121

-- the register under RRR
abbrev pub rr : (ℕ → ℕ) → ℕ
rr f = f letter_R

-- a size under ss: 00 byte, 01 word, 10 long
abbrev pub ss : (ℕ → ℕ) → Size
ss f = if f letter_s == 0 then S.Byte else (if f letter_s == 1 then S.Word else S.Long)

-- a size under s: 0 word, 1 long
abbrev pub s : (ℕ → ℕ) → Size
s f = if f letter_s == 0 then S.Word else S.Long

-- a size under zz: 01 byte, 11 word, 10 long
abbrev pub zz : (ℕ → ℕ) → Size
zz f = if f letter_z == 1 then S.Byte else (if f letter_z == 3 then S.Word else S.Long)

-- a size under the last digit of zz: 1 word, 0 long
abbrev pub z : (ℕ → ℕ) → Size
z f = if f letter_z == 1 then S.Word else S.Long

-- the mode under eeeeee: three bits of mode and three of register
abbrev pub e : (ℕ → ℕ) → Mode
e f = mode_with (code_at (f letter_e / 8) (f letter_e % 8)) (f letter_e % 8)

-- the mode under RRRMMM: three bits of register and three of mode
abbrev pub dest : (ℕ → ℕ) → Mode
dest f = mode_with (code_at (f letter_M) (f letter_R)) (f letter_R)
