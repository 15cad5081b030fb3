-- What the lines of the trace begin and end with.
use Rattle.std.specs.Prelude.{ℕ, ◌+◌, ◌/◌, ◌%◌, List, [], ◌∷◌, ◌++◌, decimal, codes}
use Rattle.serial_model.specs.declared.trace.Source.{Source}
use Rattle.serial_model.specs.TraceText.{offset_text, word_text, letter_of}

-- a frame and a line of the beam, each with a space behind it
abbrev pub start_text : ℕ → ℕ → List ℕ
start_text frame v = decimal frame ++ codes " " ++ decimal v ++ codes " "

-- the text that is kept, empty where none is, and the frame and the line of the beam that it is for
pub record LineStartValue : Type 0 where
  pub frame : ℕ
  pub v : ℕ
  pub text : List ℕ

-- the last three decimal digits of a number, as characters
abbrev pub three_digits : ℕ → List ℕ
three_digits n = (48 + n / 100 % 10) ∷ (48 + n / 10 % 10) ∷ (48 + n % 10) ∷ []

-- what stands behind the clock: the letter of a write or of a read, the register, the word and who wrote or read it
abbrev pub access_text : ℕ → ℕ → ℕ → Source → List ℕ
access_text kind offset word by =
    codes " " ++ kind ∷ codes " " ++ offset_text offset ++ codes " " ++ word_text word ++ codes " " ++ letter_of by ++ codes "\n"
