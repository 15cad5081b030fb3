-- The sprite in front, from the bytes of the four pairs: 4 times the odd sprite's value and the even one's.
use Rattle.std.specs.Prelude.{ℕ, ◌+◌, ◌*◌, ◌/◌, ◌%◌, ◌^◌, ◌==◌, Option, None, Some, if◌then◌else◌}
use Rattle.std.specs.Option.{option_or}
use Rattle.sprites.specs.declared.pixel.SpritePixel.{SpritePixel}

-- the number of the colour that a byte names, which is not 0
abbrev pub colour_of_byte : ℕ → ℕ → ℕ → ℕ
colour_of_byte pair byte attached =
    if attached / 2 ^ pair % 2 == 1 then 16 + byte
    else 16 + 4 * pair + (if byte % 4 == 0 then byte / 4 else byte % 4)

-- the pixel of a pair
abbrev pub pixel_of_byte : ℕ → ℕ → ℕ → Option SpritePixel
pixel_of_byte pair byte attached =
    if byte == 0 then None else Some (record { pair = pair; colour = colour_of_byte pair byte attached })

-- the pixel of the first pair that shows
abbrev pub front_of_bytes : ℕ → ℕ → ℕ → ℕ → ℕ → Option SpritePixel
front_of_bytes a b c d attached =
    option_or (pixel_of_byte 0 a attached)
    (option_or (pixel_of_byte 1 b attached)
    (option_or (pixel_of_byte 2 c attached) (pixel_of_byte 3 d attached)))
