-- What a range of picture steps shows, and what a band does.
use Rattle.std.specs.Prelude.{◌≡◌, ℕ, zero, suc, ◌+◌, ◌-◌, ◌*◌, List, [], ◌++◌, map, bit_or, bit_xor}
use Rattle.serial_model.specs.declared.picture.Denise.{Denise}
use Rattle.serial_bands.specs.Run.{RunValue, beam_at}
use Rattle.serial_bands.specs.Clock.{bytes_at, clx_at, closing_at}
use Rattle.serial_bands.specs.Bands.{IsBand, AreBands}
use Rattle.serial_model.specs.StandsFor.{StandsFor}

-- the pixel bytes of so many picture steps from a clock on
unfoldable pub bytes_from : RunValue → ℕ → ℕ → List ℕ
bytes_from run c zero = []
bytes_from run c (suc n) = bytes_from run c n ++ bytes_at run (c + n)

-- their collision bits, ored
unfoldable pub clx_from : RunValue → ℕ → ℕ → ℕ
clx_from run c zero = 0
clx_from run c (suc n) = bit_or (clx_from run c n) (clx_at run (c + n))

-- the bytes of so many bands, one after another, and their collision bits, ored
abbrev pub bytes_of_bands : (run : RunValue) (n count from to : ℕ) → AreBands run n count from to → List ℕ
bytes_of_bands run n zero from to bands = []
bytes_of_bands run n (suc count) from to bands =
    bytes_from run from (bands.0 - from) ++ bytes_of_bands run (n + 1) count bands.0 to bands.2

abbrev pub clx_of_bands : (run : RunValue) (n count from to : ℕ) → AreBands run n count from to → ℕ
clx_of_bands run n zero from to bands = 0
clx_of_bands run n (suc count) from to bands =
    bit_or (clx_from run from (bands.0 - from)) (clx_of_bands run (n + 1) count bands.0 to bands.2)

-- bytes under a tint, which is a byte
abbrev pub tinted_bytes : ℕ → List ℕ → List ℕ
tinted_bytes tint bytes = map (λ byte. bit_xor byte tint) bytes

-- What was drawn of a band is right under a tint: the bytes of its visible pixels, each under the tint, its collision bits, and
-- a picture state that stands for the closing one of its last clock, in which a write of that clock's access is left out.
pub record IsRightUnder (tint : ℕ) (run : RunValue) (n from to : ℕ) (pixels : List ℕ) (clx : ℕ) (closing : Denise) : Type 0 where
  pub band : IsBand run n from to
  pub bytes : pixels ≡ tinted_bytes tint (bytes_from run from (to - from))
  pub bits : clx ≡ clx_from run from (to - from)
  pub stands : StandsFor (4 * (beam_at run (to - 1)).h + 4) closing (closing_at run (to - 1))

-- and right under the tint 0, it is right
abbrev pub IsRightDrawn : RunValue → ℕ → ℕ → ℕ → List ℕ → ℕ → Denise → Type 0
IsRightDrawn = IsRightUnder 0
