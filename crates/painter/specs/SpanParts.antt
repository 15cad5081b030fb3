-- What the painter's own functions leave of a span of clocks, by the number of a clock in it.
use Rattle.std.specs.Prelude.{◌≡◌, true, ◌<◌, ℕ, zero, suc, ◌+◌, ◌*◌, List, [], ◌∷◌, ◌++◌, bit_or, flat_map, slice_index_or}
use Rattle.serial_model.specs.declared.picture.Denise.{Denise}
use Rattle.serial_model.specs.Picture.{colour_bytes}
use Rattle.plane_rows.specs.declared.line.Line.{Line}
use Rattle.painter.specs.declared.painter.Painter.{Painter}
use Rattle.painter.specs.Inks.{InkRegisters, backdrop}
use Rattle.painter.specs.code.Overlay.{quiet_collisions}
use Rattle.painter.specs.Painter.{IsPainterOf, clock_bytes}
use Rattle.painter.specs.code.Pixels.{ink_at, modified_along, all_modified}
use Rattle.serial_model.specs.Window.{is_inside}
use Rattle.painter.specs.code.Starts.{IsIdle}

-- the bytes of n clocks, of which each has four pixels
unfoldable pub bytes_of_clocks : (ℕ → List (List ℕ)) → ℕ → List ℕ
bytes_of_clocks shown zero = []
bytes_of_clocks shown (suc n) = bytes_of_clocks shown n ++ flat_map (λ x. x) (shown n)

-- the collision bits of n clocks
unfoldable pub gathered : (ℕ → ℕ) → ℕ → ℕ
gathered met zero = 0
gathered met (suc n) = bit_or (gathered met n) (met n)

-- the held bytes after n clocks, whose pixels are made of the held bytes before them
unfoldable pub held_to : (ℕ → List ℕ → List (List ℕ)) → List ℕ → ℕ → List ℕ
held_to shown held zero = held
held_to shown held (suc n) = slice_index_or (shown n (held_to shown held n)) 3 []

-- the pixels of clock n
abbrev pub pixels_to : (ℕ → List ℕ → List (List ℕ)) → List ℕ → ℕ → List (List ℕ)
pixels_to shown held n = shown n (held_to shown held n)

-- n clocks from clock h of line v on with no sprite near, and the four pixels that each shows of whatever colour is held before it
pub record AreClocks (v h n : ℕ) (now : Painter) (shown : ℕ → List ℕ → List (List ℕ)) : Type 0 where
  pub idle : (k : ℕ) → k < n → IsIdle (h + k) now.sprites
  pub pixels : (k : ℕ) (held : List ℕ) (q : Denise) → k < n → IsPainterOf (record now { held = held }) q →
      shown k held ≡ clock_bytes v (h + k) q

-- the four pixels from a high-resolution position on, where no colour is held
abbrev pub ink_pixels : InkRegisters → Line → ℕ → List (List ℕ)
ink_pixels inks line x =
    colour_bytes (ink_at inks line x) ∷ colour_bytes (ink_at inks line (x + 1))
    ∷ colour_bytes (ink_at inks line (x + 2)) ∷ colour_bytes (ink_at inks line (x + 3)) ∷ []

-- clocks that all show COLOR00
abbrev pub all_backdrop : Painter → ℕ → List ℕ → List (List ℕ)
all_backdrop now k held = backdrop now.inks.palette

-- clocks inside the display window from clock h on, where no colour is held
abbrev pub all_inks : Painter → ℕ → ℕ → List ℕ → List (List ℕ)
all_inks now h k held = ink_pixels now.inks now.line (4 * h + 4 * k)

-- what the playfields gather at n clocks
abbrev pub quiet_gathered : ℕ → ℕ → ℕ → Denise → ℕ
quiet_gathered v h n p = gathered (λ k. quiet_collisions v (h + k) p) n

-- n clocks from clock h of line v on whose columns are all inside the display window, with no sprite near
pub record AreInside (v h n : ℕ) (now : Painter) : Type 0 where
  pub idle : (k : ℕ) → k < n → IsIdle (h + k) now.sprites
  pub first : (k : ℕ) → k < n → is_inside v (2 * (h + k)) now.window.diwstrt now.window.diwstop ≡ true
  pub second : (k : ℕ) → k < n → is_inside v (2 * (h + k) + 1) now.window.diwstrt now.window.diwstop ≡ true

-- n clocks of hold and modify from clock h on are put behind the bytes from before, where a colour was held before them
pub record AreModified (h n colour : ℕ) (now new : Painter) (before after : List ℕ) : Type 0 where
  pub painted : new ≡ record now { held = colour_bytes (modified_along now.inks now.line (4 * h) colour (4 * n)) }
  pub bytes : after ≡ before ++ bytes_of_clocks (all_modified now.inks now.line (4 * h) colour) n
