-- The held colour as bytes.
use Rattle.std.specs.Prelude.{◌≡◌, ℕ, ◌+◌, ◌*◌, ◌/◌, ◌%◌, ◌==◌, Bool, if◌then◌else◌, List, [], ◌∷◌}
use Rattle.priority_ham.specs.PixelColour.{red, green, blue}
use Rattle.serial_model.specs.Picture.{colour_bytes}
use Rattle.painter.specs.declared.held.Held.{Held}

abbrev pub held_bytes : Held → List ℕ
held_bytes held = held.red ∷ held.green ∷ held.blue ∷ []

-- it is this colour
pub record IsHeld (held : Held) (colour : ℕ) : Type 0 where
  pub bytes : held_bytes held ≡ colour_bytes colour

-- the word whose bytes are two pixels with these components, and two more
abbrev pub word_by : ℕ → ℕ → ℕ → ℕ
word_by r g b = (r + g * 256 + b * 65536) * 17 * 16777217

abbrev pub colour_word : ℕ → ℕ
colour_word colour = word_by (red colour) (green colour) (blue colour)

-- the bytes of two pixels that stay where planes 6 and 5 name a colour, or else the new blue or red, or green
abbrev pub kept_by : Bool → Bool → Bool → ℕ
kept_by colour new_blue new_red =
    if colour then 0 else if new_blue then 0xffff00ffff else if new_red then 0xffff00ffff00 else 0xff00ffff00ff

abbrev pub kept_bytes : ℕ → ℕ
kept_bytes bits = kept_by (bits / 16 % 4 == 0) (bits / 16 % 4 == 1) (bits / 16 % 4 == 2)

-- and the component that planes 1 to 4 put into the others
abbrev pub new_by : Bool → Bool → Bool → ℕ → ℕ
new_by colour new_blue new_red component =
    if colour then 0 else if new_blue then word_by 0 0 component else if new_red then word_by component 0 0 else word_by 0 component 0

abbrev pub new_bytes : ℕ → ℕ
new_bytes bits = new_by (bits / 16 % 4 == 0) (bits / 16 % 4 == 1) (bits / 16 % 4 == 2) (bits % 16)
