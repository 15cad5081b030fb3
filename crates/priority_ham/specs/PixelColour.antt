-- The colour of a pixel inside the display window.
--
-- Plane p of `bits` is bit p - 1. A colour has four bits each of red, green and blue, red the highest.
use Rattle.std.specs.Prelude.{ℕ, ◌+◌, ◌-◌, ◌*◌, ◌/◌, ◌%◌, ◌^◌, ◌==◌, ◌&&◌, Bool, not, List, Option, None, Some, min, nat_le, if◌then◌else◌, slice_index}
use Rattle.sprites.specs.declared.pixel.SpritePixel.{SpritePixel}
use Rattle.priority_ham.specs.PlaneCount.{is_set, is_hires, is_hold_and_modify, is_dual_playfield, planes_of}

abbrev pub red : ℕ → ℕ
red colour = colour / 256 % 16

abbrev pub green : ℕ → ℕ
green colour = colour / 16 % 16

abbrev pub blue : ℕ → ℕ
blue colour = colour % 16

abbrev pub colour_of : ℕ → ℕ → ℕ → ℕ
colour_of r g b = 256 * r + 16 * g + b

-- which way the planes name a colour
pub data Mode : Type 0 where
  DualPlayfield : Mode
  HoldAndModify : Mode
  ExtraHalfBrite : Mode
  Plain : Mode

abbrev pub mode_of : ℕ → Mode
mode_of con0 =
    if is_dual_playfield con0 then DualPlayfield
    else if is_hires con0 then Plain
    else if is_hold_and_modify con0 then HoldAndModify
    else if planes_of con0 == 6 then ExtraHalfBrite
    else Plain

-- the bit of a plane
abbrev pub plane : ℕ → ℕ → ℕ
plane p bits = bits / 2 ^ (p - 1) % 2

-- with two playfields: the value of playfield 1, of planes 1, 3 and 5, and that of playfield 2, of planes 2, 4 and 6
abbrev pub value_of_one : ℕ → ℕ
value_of_one bits = plane 1 bits + 2 * plane 3 bits + 4 * plane 5 bits

abbrev pub value_of_two : ℕ → ℕ
value_of_two bits = plane 2 bits + 2 * plane 4 bits + 4 * plane 6 bits

-- The front playfield is chosen where its value is not 0, and else the other. Playfield 2 is in front where PF2PRI is
-- set, bit 6 of BPLCON2.
abbrev pub is_two_chosen : ℕ → ℕ → Bool
is_two_chosen con2 bits = if is_set 6 con2 then not (value_of_two bits == 0) else (value_of_one bits == 0)

-- the value of the chosen playfield's pixel; a single playfield has its whole value
abbrev pub playfield_value : ℕ → ℕ → ℕ → ℕ
playfield_value con0 con2 bits =
    if is_dual_playfield con0
    then (if is_two_chosen con2 bits then value_of_two bits else value_of_one bits)
    else bits

-- The chosen playfield's priority code: PF1P, bits 2 to 0 of BPLCON2, or PF2P, bits 5 to 3, which a single playfield
-- has. 5 to 7 count as 4.
abbrev pub priority_code : ℕ → ℕ → ℕ → ℕ
priority_code con0 con2 bits =
    if is_dual_playfield con0 && not (is_two_chosen con2 bits) then min (con2 % 8) 4 else min (con2 / 8 % 8) 4

-- whether the playfields hide a pixel of a pair of sprites
abbrev pub hides : ℕ → ℕ → ℕ → ℕ → Bool
hides con0 con2 bits pair = not (playfield_value con0 con2 bits == 0) && nat_le (priority_code con0 con2 bits) pair

-- the number of the colour that two playfields name: 0 where both values are 0, else 1 to 7 or 9 to 15
abbrev pub dual_number : ℕ → ℕ → ℕ
dual_number con2 bits =
    if is_two_chosen con2 bits
    then (if value_of_two bits == 0 then 0 else 8 + value_of_two bits)
    else value_of_one bits

-- Hold and modify: planes 6 and 5 say what planes 1 to 4 are, the number of a colour or the new blue, red or green of
-- the held colour.
abbrev pub modified : ℕ → ℕ → List ℕ → ℕ
modified bits held palette =
    let low = bits % 16 in
    let control = bits / 16 % 4 in
    if control == 0 then slice_index palette low
    else if control == 1 then colour_of (red held) (green held) low
    else if control == 2 then colour_of low (green held) (blue held)
    else colour_of (red held) low (blue held)

-- extra half-brite: with plane 6 set each component of the colour that planes 1 to 5 name is halved
abbrev pub half_brite : ℕ → List ℕ → ℕ
half_brite bits palette =
    let named = slice_index palette (bits % 32) in
    if plane 6 bits == 1 then colour_of (red named / 2) (green named / 2) (blue named / 2) else named

-- the playfields' colour
abbrev pub colour_in : Mode → ℕ → ℕ → ℕ → List ℕ → ℕ
colour_in DualPlayfield con2 bits held palette = slice_index palette (dual_number con2 bits)
colour_in HoldAndModify con2 bits held palette = modified bits held palette
colour_in ExtraHalfBrite con2 bits held palette = half_brite bits palette
colour_in Plain con2 bits held palette = slice_index palette bits

unfoldable pub playfield_colour : ℕ → ℕ → ℕ → ℕ → List ℕ → ℕ
playfield_colour con0 con2 bits held palette = colour_in (mode_of con0) con2 bits held palette

-- the colour that is shown: the sprite's where there is one that the playfields do not hide, else the playfields'
unfoldable pub shown_colour : ℕ → ℕ → ℕ → Option SpritePixel → ℕ → List ℕ → ℕ
shown_colour con0 con2 bits None held palette = playfield_colour con0 con2 bits held palette
shown_colour con0 con2 bits (Some sprite) held palette =
    if hides con0 con2 bits sprite.pair
    then playfield_colour con0 con2 bits held palette
    else slice_index palette sprite.colour
