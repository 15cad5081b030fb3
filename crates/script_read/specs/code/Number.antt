-- A number as it is printed.
use Rattle.std.specs.Prelude.{ℕ, List, ◌∷◌, decimal}
use Rattle.ocs_io.specs.Numbers.{hex_text}
use Rattle.script_read.specs.declared.printer.Number.{Number}
use Rattle.script_read.specs.declared.printer.Number.TheVariants.{Decimal, Register, Word, Code}

abbrev pub number_text : Number → List ℕ
number_text (Decimal n) = decimal n
number_text (Register reg) = hex_text 3 reg.offset
number_text (Word word) = hex_text 4 word
number_text (Code code) = hex_text 2 code

-- a space before it
abbrev pub number_part : Number → List ℕ
number_part number = 32 ∷ number_text number
