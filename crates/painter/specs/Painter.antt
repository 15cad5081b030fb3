-- What paints, against the picture state.
use Rattle.std.specs.Prelude.{◌≡◌, ℕ, ◌+◌, ◌*◌, ◌%◌, ◌==◌, ◌&&◌, ◌||◌, not, Bool, nat_le, List, [], ◌∷◌}
use Rattle.serial_model.specs.declared.picture.Denise.{Denise}
use Rattle.serial_model.specs.Picture.{pixel_colour, colour_bytes, held_after}
use Rattle.painter.specs.declared.painter.Painter.{Painter}
use Rattle.collisions.specs.Collision.{playfield_matches}
use Rattle.serial_model.specs.Window.{is_inside}
use Rattle.plane_rows.specs.Line.{IsLineOf}
use Rattle.painter.specs.code.SpriteState.{is_known_idle}

-- it stands for a picture state with the same registers, loads that show the same, the same words that run,
-- and the same held colour
pub record IsPainterOf (now : Painter) (p : Denise) : Type 0 where
  pub palette : p.palette ≡ now.inks.palette
  pub con0 : p.con0 ≡ now.inks.con0
  pub con1 : p.con1 ≡ now.con1
  pub con2 : p.con2 ≡ now.inks.con2
  pub diwstrt : p.diwstrt ≡ now.window.diwstrt
  pub diwstop : p.diwstop ≡ now.window.diwstop
  pub clxcon : p.clxcon ≡ now.clxcon
  pub latches : p.latches ≡ now.latches
  pub pos : p.pos ≡ now.sprites.pos
  pub ctl : p.ctl ≡ now.sprites.ctl
  pub words_a : p.words_a ≡ now.sprites.words_a
  pub words_b : p.words_b ≡ now.sprites.words_b
  pub armed : p.armed ≡ now.sprites.armed
  pub runs : p.runs ≡ now.sprites.runs
  pub line : IsLineOf now.line p.loads
  pub held : now.held ≡ colour_bytes p.held.0

-- the colours of the two pixels of a low-resolution column
unfoldable pub first_colour : ℕ → ℕ → Denise → ℕ
first_colour v column p = pixel_colour v (2 * column) p.held.0 p

unfoldable pub second_colour : ℕ → ℕ → Denise → ℕ
second_colour v column p = pixel_colour v (2 * column + 1) (first_colour v column p) p

-- a picture state with another held colour
abbrev pub with_held : ℕ → Denise → Denise
with_held colour p = record p { held = record { 0 = colour } }

-- the bytes of the four pixels of a clock
abbrev pub clock_bytes : ℕ → ℕ → Denise → List (List ℕ)
clock_bytes v h p =
    colour_bytes (held_after v h 1 p) ∷ colour_bytes (held_after v h 2 p)
    ∷ colour_bytes (held_after v h 3 p) ∷ colour_bytes (held_after v h 4 p) ∷ []

-- Whether it is known of a clock where no plane shows a bit that the playfields' collision is gathered already: bit 0 of
-- CLXDAT is set, or such playfields do not meet, or it is outside the display window.
abbrev pub is_known_gathered : ℕ → ℕ → ℕ → Painter → Bool
is_known_gathered v h clx now =
    (clx % 2 == 1) || not (playfield_matches now.clxcon 0 1 && playfield_matches now.clxcon 0 2)
    || not (is_inside v (2 * h) now.window.diwstrt now.window.diwstop || is_inside v (2 * h + 1) now.window.diwstrt now.window.diwstop)

-- whether it is known that the planes show COLOR00 alone, behind the last load, and that their collision is gathered
abbrev pub is_known_blank : ℕ → ℕ → ℕ → Painter → Bool
is_known_blank v h clx now =
    nat_le now.line.odd.end (4 * h) && nat_le now.line.even.end (4 * h) && is_known_gathered v h clx now

-- the same, with no sprite near
abbrev pub is_known_backdrop : ℕ → ℕ → ℕ → Painter → Bool
is_known_backdrop v h clx now = is_known_blank v h clx now && is_known_idle h now.sprites
