-- The sprite that is in front at a position, from the values of the eight sprites.
use Rattle.std.specs.Prelude.{ℕ, ◌+◌, ◌*◌, ◌/◌, ◌%◌, ◌^◌, ◌==◌, List, Option, None, Some, if◌then◌else◌, slice_index}
use Rattle.std.specs.Option.{option_or}
use Rattle.sprites.specs.declared.pixel.SpritePixel.{SpritePixel}

-- a pixel of a pair with a value, of which 0 is transparent, and its colour from the first one of the value's colours
abbrev pub pixel_of : ℕ → ℕ → ℕ → Option SpritePixel
pixel_of pair first value = if value == 0 then None else Some (record { pair = pair; colour = first + value })

-- A pair's pixel. An attached pair has one value, 4 times the odd sprite's and the even one's, of the colours 16 to 31;
-- else each sprite has four colours of its pair, and the even one is in front.
abbrev pub pair_pixel : List ℕ → ℕ → ℕ → Option SpritePixel
pair_pixel values attached pair =
    let even = slice_index values (2 * pair) in
    let odd = slice_index values (2 * pair + 1) in
    if attached / 2 ^ pair % 2 == 1
    then pixel_of pair 16 (4 * odd + even)
    else option_or (pixel_of pair (16 + 4 * pair) even) (pixel_of pair (16 + 4 * pair) odd)

-- the pixel of the first pair that shows, since lower-numbered sprites are in front
unfoldable pub front_pixel : List ℕ → ℕ → Option SpritePixel
front_pixel values attached =
    option_or (pair_pixel values attached 0)
    (option_or (pair_pixel values attached 1)
    (option_or (pair_pixel values attached 2) (pair_pixel values attached 3)))
