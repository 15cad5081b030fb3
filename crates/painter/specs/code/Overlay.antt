-- Sprites over the playfields' pixels.
use Rattle.std.specs.Prelude.{ℕ, ◌+◌, ◌*◌, ◌/◌, List, [], ◌∷◌, bit_or, replicate, slice_index, slice_index_or, slice_set, Option, Some, None, if◌then◌else◌}
use Rattle.sprites.specs.declared.pixel.SpritePixel.{SpritePixel}
use Rattle.sprites.specs.declared.runs.Start.{Start}
use Rattle.sprites.specs.SpriteFront.{front_pixel}
use Rattle.planes.specs.PlaneBit.{all_bits}
use Rattle.priority_ham.specs.PlaneCount.{planes_of}
use Rattle.priority_ham.specs.PixelColour.{hides}
use Rattle.collisions.specs.Collision.{collision_bits}
use Rattle.serial_model.specs.declared.picture.Denise.{Denise}
use Rattle.serial_model.specs.Picture.{colour_bytes, attached_pairs, sprite_values, values_after, collisions_at}
use Rattle.serial_model.specs.Window.{is_inside}

-- a picture state where other words run
abbrev pub with_runs : List (Option Start) → Denise → Denise
with_runs runs p = record p { runs = runs }

-- the bits that the planes show at a position
abbrev pub shown_bits : ℕ → Denise → ℕ
shown_bits x p = all_bits x (planes_of p.con0) p.loads

-- the bytes of a pixel inside the display window, of which these are the playfields' bytes, with the sprite in front
unfoldable pub with_front : ℕ → ℕ → ℕ → Option SpritePixel → List ℕ → List ℕ → List ℕ
with_front con0 con2 bits None bytes palette = bytes
with_front con0 con2 bits (Some sprite) bytes palette =
    if hides con0 con2 bits sprite.pair then bytes else colour_bytes (slice_index palette sprite.colour)

-- the same, where the sprites have these values
abbrev pub with_front_at : ℕ → List ℕ → List ℕ → Denise → List ℕ
with_front_at x values bytes p =
    with_front p.con0 p.con2 (shown_bits x p) (front_pixel values (attached_pairs p)) bytes p.palette

-- inside the window or not
unfoldable pub shown_over : ℕ → ℕ → List ℕ → List ℕ → Denise → List ℕ
shown_over v x values bytes p = if is_inside v (x / 2) p.diwstrt p.diwstop then with_front_at x values bytes p else bytes

-- two pixels of which these functions make others, from one place on
abbrev pub two_changed : ℕ → List (List ℕ) → (List ℕ → List ℕ) → (List ℕ → List ℕ) → List (List ℕ)
two_changed at into first second =
    slice_set (slice_set into at (first (slice_index_or into at []))) (at + 1) (second (slice_index_or into (at + 1) []))

-- the two pixels of a column inside the window, and what collides there
abbrev pub covered_column : ℕ → ℕ → List (List ℕ) → Denise → List (List ℕ)
covered_column column at into p =
    let values = sprite_values column p.runs in
    two_changed at into (λ bytes. with_front_at (2 * column) values bytes p) (λ bytes. with_front_at (2 * column + 1) values bytes p)

abbrev pub covered_collisions : ℕ → Denise → ℕ
covered_collisions column p =
    let values = sprite_values column p.runs in
    bit_or (collision_bits p.clxcon (shown_bits (2 * column) p) values) (collision_bits p.clxcon (shown_bits (2 * column + 1) p) values)

-- the two pixels of a column, inside the window or not
abbrev pub column_over : ℕ → ℕ → ℕ → List (List ℕ) → Denise → List (List ℕ)
column_over v column at into p =
    let values = sprite_values column p.runs in
    two_changed at into (λ bytes. shown_over v (2 * column) values bytes p) (λ bytes. shown_over v (2 * column + 1) values bytes p)

abbrev pub column_collisions : ℕ → ℕ → Denise → ℕ
column_collisions v column p =
    let values = sprite_values column p.runs in
    bit_or (collisions_at v (2 * column) values p) (collisions_at v (2 * column + 1) values p)

-- pixel n of a clock
abbrev pub clock_pixel : ℕ → ℕ → ℕ → List (List ℕ) → Denise → List ℕ
clock_pixel v h n into p = shown_over v (4 * h + n) (values_after h n p) (slice_index_or into n []) p

-- the four pixels of a clock
abbrev pub clock_over : ℕ → ℕ → List (List ℕ) → Denise → List (List ℕ)
clock_over v h into p = clock_pixel v h 0 into p ∷ clock_pixel v h 1 into p ∷ clock_pixel v h 2 into p ∷ clock_pixel v h 3 into p ∷ []

-- what collides in a column where no sprite shows, and at a clock
abbrev pub quiet_in_column : ℕ → ℕ → Denise → ℕ
quiet_in_column v column p =
    bit_or (collisions_at v (2 * column) (replicate 8 0) p) (collisions_at v (2 * column + 1) (replicate 8 0) p)

abbrev pub quiet_collisions : ℕ → ℕ → Denise → ℕ
quiet_collisions v h p = bit_or (quiet_in_column v (2 * h) p) (quiet_in_column v (2 * h + 1) p)
