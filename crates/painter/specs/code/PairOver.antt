-- One pair of sprites over pixels of the playfields where no colour is held, and each two positions of a column show the same.
use Rattle.std.specs.Prelude.{ℕ, ◌+◌, ◌*◌, ◌==◌, ◌||◌, List, [], ◌∷◌, slice_index, if◌then◌else◌}
use Rattle.priority_ham.specs.PixelColour.{hides}
use Rattle.serial_model.specs.Picture.{colour_bytes}
use Rattle.sprite_rows.specs.PairFront.{colour_of_byte}
use Rattle.plane_rows.specs.declared.line.Line.{Line}
use Rattle.painter.specs.Inks.{InkRegisters, counted_bits}
use Rattle.plane_rows.specs.Line.{row_bits}
use Rattle.painter.specs.code.Pixels.{ink_at}

-- the colour of a pixel, by the playfields' colour there and the byte of the pair
unfoldable pub colour_in_front : ℕ → ℕ → ℕ → ℕ → ℕ → ℕ → ℕ → List ℕ → ℕ
colour_in_front con0 con2 bits ink pair byte attached palette =
    if (byte == 0) || hides con0 con2 bits pair then ink else slice_index palette (colour_of_byte pair byte attached)

-- the same at a position
unfoldable pub colour_over : InkRegisters → Line → ℕ → ℕ → ℕ → ℕ → ℕ
colour_over inks line pair attached byte x =
    colour_in_front inks.con0 inks.con2 (counted_bits inks.con0 (row_bits line x)) (ink_at inks line x) pair byte attached inks.palette

-- the four pixels of two columns, by the bytes of the pair
abbrev pub pixels_over : InkRegisters → Line → List ℕ → ℕ → ℕ → ℕ → List (List ℕ)
pixels_over inks line row pair attached column =
    let first = colour_bytes (colour_over inks line pair attached (slice_index row column) (2 * column)) in
    let second = colour_bytes (colour_over inks line pair attached (slice_index row (column + 1)) (2 * (column + 1))) in
    first ∷ first ∷ second ∷ second ∷ []
