-- The colours that the inks and the line give a position of the playfields.
use Rattle.std.specs.Prelude.{ℕ, zero, suc, ◌+◌, ◌*◌, List, [], ◌∷◌}
use Rattle.priority_ham.specs.PixelColour.{modified}
use Rattle.plane_rows.specs.declared.line.Line.{Line}
use Rattle.painter.specs.Inks.{InkRegisters, ink, ink_number}
use Rattle.plane_rows.specs.Line.{row_bits}
use Rattle.serial_model.specs.Picture.{colour_bytes}

-- the number of the ink that the bits at a position name
abbrev pub number_at : InkRegisters → Line → ℕ → ℕ
number_at inks line x = ink_number inks.con0 inks.con2 (row_bits line x)

-- its colour, where no colour is held
unfoldable pub ink_at : InkRegisters → Line → ℕ → ℕ
ink_at inks line x = ink inks.palette (number_at inks line x)

-- what its bits make of the held colour
unfoldable pub modified_at : InkRegisters → Line → ℕ → ℕ → ℕ
modified_at inks line x held = modified (number_at inks line x) held inks.palette

-- the colour that is held behind n positions from position x on, where this was held before them
unfoldable pub modified_along : InkRegisters → Line → ℕ → ℕ → ℕ → ℕ
modified_along inks line x colour zero = colour
modified_along inks line x colour (suc n) = modified_at inks line (x + n) (modified_along inks line x colour n)

-- the four pixels from position x on
abbrev pub modified_pixels : InkRegisters → Line → ℕ → ℕ → List (List ℕ)
modified_pixels inks line x colour =
    colour_bytes (modified_along inks line x colour 1) ∷ colour_bytes (modified_along inks line x colour 2)
    ∷ colour_bytes (modified_along inks line x colour 3) ∷ colour_bytes (modified_along inks line x colour 4) ∷ []

-- the four pixels of clock k behind position x
abbrev pub all_modified : InkRegisters → Line → ℕ → ℕ → ℕ → List (List ℕ)
all_modified inks line x colour k = modified_pixels inks line (x + 4 * k) (modified_along inks line x colour (4 * k))
