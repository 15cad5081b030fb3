-- The numbers of clocks of a row of the instruction table.
use Rattle.std.specs.Prelude.{ℕ, List, [], ◌∷◌, ◌==◌, ◌+◌, ◌*◌, if◌then◌else◌, slice_index}
use Rattle.m68k_opcodes.specs.declared.operand.Size.{Size}
use Rattle.m68k_opcodes.specs.declared.operand.Mode.{Mode}
use Rattle.m68k_opcodes.specs.Modes.{code, ea, sized, among}

pub data Clocks : Type 0 where
  -- a number
  Always : ℕ → Clocks
  -- a number, and what each unit of a count adds to it
  Counted : ℕ → ℕ → Clocks
  -- a number for each outcome
  Outcomes : List ℕ → Clocks
  -- no number: the instruction is an exception
  Exception : Clocks

-- the number, with `extra` as the count or the place of the outcome; 0 where there is none
abbrev pub number : Clocks → ℕ → ℕ
number (Always t) extra = t
number (Counted t each) extra = t + each * extra
number (Outcomes ts) extra = slice_index ts extra
number Exception extra = 0

-- a number for Dn, and one for the other modes
abbrev pub in_dn : Mode → ℕ → ℕ → ℕ
in_dn m there elsewhere = if code m == 0 then there else elsewhere

-- an operation with the result in a register: a number for byte and word, and for long 6, but 8 from a register or #;
-- and the clocks of the mode
abbrev pub to_register : ℕ → Size → Mode → ℕ
to_register short z m = sized z short (if among (code m) (0 ∷ 1 ∷ 11 ∷ []) then 8 else 6) + ea z m
