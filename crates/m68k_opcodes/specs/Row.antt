-- What a row of the table of instructions says, and which opcodes it takes.
use Rattle.std.specs.Prelude.{ℕ, Bool, true, List, [], ◌∷◌, ◌++◌, ◌==◌, ◌/◌, ◌%◌, ◌&&◌, ◌||◌, not, if◌then◌else◌, nat_lt}
use Rattle.m68k_opcodes.specs.declared.instr.Instr.{Instr}
use Rattle.m68k_opcodes.specs.declared.instr.Instr.TheVariants as I
use Rattle.m68k_opcodes.specs.Text.{fits, field, places, letter_s, letter_z, letter_e, letter_M, letter_R}
use Rattle.m68k_opcodes.specs.Modes.{code_at, among, data_alterable}
use Rattle.m68k_opcodes.specs.Clocks.{Clocks, Exception}

pub record Row : Type 0 where
  pub text : List ℕ
  -- the codes of the modes that eeeeee may name
  pub modes : List ℕ
  -- the instruction, from the numbers under the letters
  pub makes : (ℕ → ℕ) → Instr
  -- its clocks, from the same
  pub takes : (ℕ → ℕ) → Clocks

abbrev pub row : List ℕ → List ℕ → ((ℕ → ℕ) → Instr) → ((ℕ → ℕ) → Clocks) → Row
row text modes makes takes = record { text = text; modes = modes; makes = makes; takes = takes }

-- a size: ss is 00, 01 or 10, and zz is not 00
abbrev pub size_fits : List ℕ → ℕ → Bool
size_fits text opcode =
    (if places letter_s text == 2 then nat_lt (field letter_s text opcode) 3 else true)
    && (if places letter_z text == 2 then not (field letter_z text opcode == 0) else true)

-- the operand is a byte: ss is 00, or zz is 01
abbrev pub is_byte : List ℕ → ℕ → Bool
is_byte text opcode =
    ((places letter_s text == 2) && (field letter_s text opcode == 0))
    || ((places letter_z text == 2) && (field letter_z text opcode == 1))

-- the mode under eeeeee is of the class; a byte operand is never An
abbrev pub mode_fits : Row → ℕ → Bool
mode_fits r opcode =
    if places letter_e r.text == 0 then true
    else (let e = field letter_e r.text opcode in
    let mode = code_at (e / 8) (e % 8) in
    among mode r.modes && not ((mode == 1) && is_byte r.text opcode))

-- the destination under RRRMMM can be written as data
abbrev pub dest_fits : List ℕ → ℕ → Bool
dest_fits text opcode =
    if places letter_M text == 0 then true
    else among (code_at (field letter_M text opcode) (field letter_R text opcode)) data_alterable

abbrev pub in_row : Row → ℕ → Bool
in_row r opcode =
    fits r.text opcode && size_fits r.text opcode && mode_fits r opcode && dest_fits r.text opcode

-- the row of what has no row
abbrev pub no_row : Row
no_row = row [] [] (λ f. I.Illegal) (λ f. Exception)

-- the rows of several lists, one list after another
abbrev pub joined : List (List Row) → List Row
joined [] = []
joined (rs ∷ lists) = rs ++ joined lists

-- the rows of a list that take an opcode
abbrev pub taking : List Row → ℕ → List Row
taking [] opcode = []
taking (r ∷ rs) opcode = if in_row r opcode then r ∷ taking rs opcode else taking rs opcode

-- the first of the rows that take an opcode
abbrev pub first : List Row → Row
first [] = no_row
first (r ∷ rs) = r

abbrev pub made : Row → ℕ → Instr
made r opcode = r.makes (λ c. field c r.text opcode)

abbrev pub taken : Row → ℕ → Clocks
taken r opcode = r.takes (λ c. field c r.text opcode)
