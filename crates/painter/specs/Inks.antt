-- Inks: the colours that the bits of the planes name.
use Rattle.std.specs.Prelude.{◌≡◌, ℕ, ◌-◌, ◌/◌, ◌%◌, ◌^◌, ◌<◌, ◌==◌, ◌&&◌, Bool, not, nat_lt, if◌then◌else◌, List, [], ◌∷◌, ◌++◌, slice_index, slice_index_or, replicate}
use Rattle.serial_model.specs.Picture.{colour_bytes}
use Rattle.priority_ham.specs.PlaneCount.{planes_of, is_hires, is_hold_and_modify, is_dual_playfield}
use Rattle.priority_ham.specs.PixelColour.{red, green, blue, colour_of, dual_number, playfield_value, priority_code}

-- the registers that give a pixel of the playfields its colour
pub record InkRegisters : Type 0 where
  pub palette : List ℕ
  pub con0 : ℕ
  pub con2 : ℕ

abbrev pub black : InkRegisters
black = record { palette = replicate 32 0; con0 = 0; con2 = 0 }

-- a colour with each component halved
abbrev pub halved : ℕ → ℕ
halved colour = colour_of (red colour / 2) (green colour / 2) (blue colour / 2)

-- 64 inks: the 32 colours, and the same halved
abbrev pub ink : List ℕ → ℕ → ℕ
ink palette n = if nat_lt n 32 then slice_index palette n else halved (slice_index palette (n - 32))

-- of the bits of six planes those of as many as BPLCON0 says
abbrev pub counted_bits : ℕ → ℕ → ℕ
counted_bits con0 bits = bits % 2 ^ planes_of con0

-- the ink that they name
abbrev pub ink_number : ℕ → ℕ → ℕ → ℕ
ink_number con0 con2 bits =
    if is_dual_playfield con0 then dual_number con2 (counted_bits con0 bits) else counted_bits con0 bits

-- the first pair of sprites that the playfields hide, 4 where they hide none of the four
abbrev pub first_hidden : ℕ → ℕ → ℕ → ℕ
first_hidden con0 con2 bits =
    if playfield_value con0 con2 (counted_bits con0 bits) == 0 then 4 else priority_code con0 con2 (counted_bits con0 bits)

-- whether a pixel may hold the colour of the pixel before
abbrev pub is_held : ℕ → Bool
is_held con0 = is_hold_and_modify con0 && not (is_dual_playfield con0) && not (is_hires con0)

-- the bytes of four pixels that show COLOR00
abbrev pub backdrop : List ℕ → List (List ℕ)
backdrop palette = replicate 4 (colour_bytes (slice_index palette 0))

-- the bytes of two pixels of a colour, and two more
abbrev pub two_pixels : List ℕ → List ℕ
two_pixels bytes = bytes ++ bytes ++ 0 ∷ 0 ∷ []

-- the tables say what the registers do
pub record HasTables (palette : List ℕ) (con0 con2 : ℕ) (doubled : List (List ℕ)) (names hidden : List ℕ) : Type 0 where
  pub twos : (n : ℕ) → n < 64 → slice_index_or doubled n [] ≡ two_pixels (colour_bytes (ink palette n))
  pub numbers : (bits : ℕ) → bits < 64 → slice_index names bits ≡ ink_number con0 con2 bits
  pub pairs : (bits : ℕ) → bits < 64 → slice_index hidden bits ≡ first_hidden con0 con2 bits
