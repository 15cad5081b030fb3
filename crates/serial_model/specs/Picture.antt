-- The picture state, what changes it, and what it shows.
use Rattle.std.specs.Prelude.{ℕ, zero, suc, ◌+◌, ◌-◌, ◌*◌, ◌/◌, ◌%◌, ◌^◌, Bool, ◌&&◌, ◌==◌, nat_le, if◌then◌else◌, List, [], ◌∷◌}
use Rattle.std.specs.Prelude.{◌++◌, slice_index, slice_index_or, slice_set, replicate, map, bit_and, bit_or, Option, Some, None}
use Rattle.ocs_base.specs.declared.beam.Beam.{Beam}
use Rattle.ocs_base.specs.declared.beam.Colour.{Colour}
use Rattle.ocs_base.specs.Systems.{is_visible}
use Rattle.ocs_base.specs.declared.system.System.{System}
use Rattle.planes.specs.PlaneBit.{load_of, all_bits}
use Rattle.collisions.specs.Collision.{collision_bits}
use Rattle.priority_ham.specs.PixelColour.{playfield_colour, shown_colour}
use Rattle.priority_ham.specs.PlaneCount.{is_hires, planes_of}
use Rattle.sprites.specs.SpriteFront.{front_pixel}
use Rattle.sprites.specs.SpriteValue.{sprite_value, kept_start}
use Rattle.sprites.specs.declared.runs.Start.{Start}
use Rattle.serial_model.specs.declared.picture.Denise.{Denise}
use Rattle.serial_model.specs.declared.picture.Touch.{Touch}
use Rattle.serial_model.specs.declared.picture.Touch.TheVariants.{Set, Plane, Sprite}
use Rattle.serial_model.specs.Beam.{is_line_start}
use Rattle.serial_model.specs.Window.{is_inside}

-- the picture state at reset: every register is 0, and so every colour black
unfoldable pub reset_picture : Denise
reset_picture = record {
  palette = replicate 32 0;
  con0 = 0;
  con1 = 0;
  con2 = 0;
  diwstrt = 0;
  diwstop = 0;
  clxcon = 0;
  latches = replicate 6 0;
  loads = [];
  runs = replicate 8 None;
  pos = replicate 8 0;
  ctl = replicate 8 0;
  words_a = replicate 8 0;
  words_b = replicate 8 0;
  armed = 0;
  held = record { 0 = 0 };
}

-- the latches of planes 2 to 6, the sprites' registers, and the colours
abbrev pub is_latch : ℕ → Bool
is_latch offset = nat_le 0x112 offset && nat_le offset 0x11a

abbrev pub is_sprite : ℕ → Bool
is_sprite offset = nat_le 0x140 offset && nat_le offset 0x17e

abbrev pub is_colour : ℕ → Bool
is_colour offset = nat_le 0x180 offset && nat_le offset 0x1be

-- a write of BPL1DAT at clock h of the line makes a load of the six latches, by BPLCON1 and HIRES as they are then
abbrev pub add_load : ℕ → Denise → Denise
add_load h p = record p { loads = p.loads ++ load_of h p.latches p.con1 (is_hires p.con0) ∷ [] }

-- sprite n is armed, or not
abbrev pub arm_sprite : ℕ → Denise → Denise
arm_sprite n p = record p { armed = bit_or p.armed (2 ^ n) }

abbrev pub disarm_sprite : ℕ → Denise → Denise
disarm_sprite n p = record p { armed = bit_and p.armed (255 - 2 ^ n) }

-- a write to the register of sprite n at 0, 2, 4 or 6: POS, CTL, DATA or DATB. One of CTL disarms it and one of DATA arms it
abbrev pub set_sprite : ℕ → ℕ → ℕ → Denise → Denise
set_sprite n which word p =
    if which == 0 then record p { pos = slice_set p.pos n word }
    else if which == 2 then disarm_sprite n (record p { ctl = slice_set p.ctl n word })
    else if which == 4 then arm_sprite n (record p { words_a = slice_set p.words_a n word })
    else record p { words_b = slice_set p.words_b n word }

-- a write at clock h of the line to one of Denise's registers; a colour keeps bits 11 to 0
unfoldable pub set_picture : ℕ → ℕ → ℕ → Denise → Denise
set_picture h offset word p =
    if offset == 0x08e then record p { diwstrt = word }
    else if offset == 0x090 then record p { diwstop = word }
    else if offset == 0x098 then record p { clxcon = word }
    else if offset == 0x100 then record p { con0 = word }
    else if offset == 0x102 then record p { con1 = word }
    else if offset == 0x104 then record p { con2 = word }
    else if offset == 0x110 then add_load h (record p { latches = slice_set p.latches 0 word })
    else if is_latch offset then record p { latches = slice_set p.latches ((offset - 0x110) / 2) word }
    else if is_sprite offset then set_sprite ((offset - 0x140) / 8) ((offset - 0x140) % 8) word p
    else if is_colour offset then record p { palette = slice_set p.palette ((offset - 0x180) / 2) (word % 0x1000) }
    else p

-- the register of a plane's latch: BPL1DAT to BPL6DAT
abbrev pub plane_latch : ℕ → ℕ
plane_latch plane = 0x10e + 2 * plane

-- SPRxDATA or, second, SPRxDATB of a sprite
abbrev pub sprite_data : ℕ → Bool → ℕ
sprite_data sprite second = 0x144 + 8 * sprite + (if second then 2 else 0)

-- a touch at clock h of the line, by what the words of memory are then: a word that fills a plane's latch or a sprite's
-- data register does what a write of it to that register does
abbrev pub touch_picture : ℕ → (ℕ → ℕ) → Touch → Denise → Denise
touch_picture h word_at (Set reg word) p = set_picture h reg.offset word p
touch_picture h word_at (Plane plane at) p = set_picture h (plane_latch plane) (word_at at.value) p
touch_picture h word_at (Sprite sprite second at) p = set_picture h (sprite_data sprite second) (word_at at.value) p

abbrev pub touch_if_any : ℕ → (ℕ → ℕ) → Option Touch → Denise → Denise
touch_if_any h word_at None p = p
touch_if_any h word_at (Some touch) p = touch_picture h word_at touch p

-- touches in their order
unfoldable pub touch_in_order : ℕ → (ℕ → ℕ) → List Touch → Denise → Denise
touch_in_order h word_at [] p = p
touch_in_order h word_at (touch ∷ touches) p = touch_in_order h word_at touches (touch_picture h word_at touch p)

-- at a line's start loads and running words are forgotten, and the held colour becomes COLOR00
unfoldable pub clear_line : Beam → Denise → Denise
clear_line b p =
    if is_line_start b
    then record p { loads = []; runs = replicate 8 None; held = record { 0 = slice_index p.palette 0 } }
    else p

-- the bytes of a colour: red, green and blue, a component c being the byte 17c (profile)
abbrev pub colour_bytes : ℕ → List ℕ
colour_bytes colour = 17 * (colour / 256 % 16) ∷ 17 * (colour / 16 % 16) ∷ 17 * (colour % 16) ∷ []

-- The playfields' colour of a pixel, at a high-resolution position of line v, where the pixel before left the held colour:
-- inside the window the colour of the bits that the planes show, outside it COLOR00.
unfoldable pub pixel_colour : ℕ → ℕ → ℕ → Denise → ℕ
pixel_colour v position held p =
    if is_inside v (position / 2) p.diwstrt p.diwstop
    then playfield_colour p.con0 p.con2 (all_bits position (planes_of p.con0) p.loads) held p.palette
    else slice_index p.palette 0

-- the held colour after the first n of the four pixels of clock h: that of a pixel is the held colour of the next
unfoldable pub held_after : ℕ → ℕ → ℕ → Denise → ℕ
held_after v h zero p = p.held.0
held_after v h (suc n) p = pixel_colour v (4 * h + n) (held_after v h n p) p

-- HSTART of a sprite, in low-resolution pixels: bits 7 to 0 of SPRxPOS, with SH0, bit 0 of SPRxCTL
abbrev pub sprite_column : ℕ → Denise → ℕ
sprite_column sprite p = 2 * (slice_index p.pos sprite % 256) + slice_index p.ctl sprite % 2

abbrev pub is_armed : ℕ → Denise → Bool
is_armed sprite p = p.armed / 2 ^ sprite % 2 == 1

-- what runs of a sprite from low-resolution position x on: its two words begin there where it is armed and its HSTART is
-- that position itself (profile)
abbrev pub run_at : ℕ → Denise → List (Option Start) → ℕ → Option Start
run_at x p runs sprite =
    if is_armed sprite p && (sprite_column sprite p == x)
    then Some (record { x = x; word_a = slice_index p.words_a sprite; word_b = slice_index p.words_b sprite })
    else slice_index_or runs sprite None

abbrev pub all_sprites : List ℕ
all_sprites = 0 ∷ 1 ∷ 2 ∷ 3 ∷ 4 ∷ 5 ∷ 6 ∷ 7 ∷ []

abbrev pub runs_at : ℕ → Denise → List (Option Start) → List (Option Start)
runs_at x p runs = map (run_at x p runs) all_sprites

-- what runs after the first n of the two low-resolution positions of clock h
unfoldable pub runs_after : ℕ → ℕ → Denise → List (Option Start)
runs_after h zero p = p.runs
runs_after h (suc n) p = runs_at (2 * h + n) p (runs_after h n p)

-- the values of the eight sprites at a position, where these words run
abbrev pub sprite_values : ℕ → List (Option Start) → List ℕ
sprite_values x runs = map (λ sprite. sprite_value x (kept_start runs sprite)) all_sprites

-- pair k is attached where ATT, bit 7 of SPRxCTL, of its odd sprite is set: bit k
abbrev pub is_attached : ℕ → Denise → ℕ
is_attached pair p = slice_index p.ctl (2 * pair + 1) / 128 % 2

abbrev pub attached_pairs : Denise → ℕ
attached_pairs p = is_attached 0 p + 2 * is_attached 1 p + 4 * is_attached 2 p + 8 * is_attached 3 p

-- what is shown of a pixel, where the sprites have these values: inside the window the sprite in front, where the playfields
-- do not hide it, and else the playfields' colour; outside it COLOR00
unfoldable pub shown_at : ℕ → ℕ → List ℕ → ℕ → Denise → ℕ
shown_at v position values held p =
    if is_inside v (position / 2) p.diwstrt p.diwstop
    then shown_colour p.con0 p.con2 (all_bits position (planes_of p.con0) p.loads) (front_pixel values (attached_pairs p)) held p.palette
    else slice_index p.palette 0

-- the collision bits of a pixel: nothing collides outside the window
unfoldable pub collisions_at : ℕ → ℕ → List ℕ → Denise → ℕ
collisions_at v position values p =
    if is_inside v (position / 2) p.diwstrt p.diwstop
    then collision_bits p.clxcon (all_bits position (planes_of p.con0) p.loads) values
    else 0

-- the sprites' values at pixel n of the four of clock h
abbrev pub values_after : ℕ → ℕ → Denise → List ℕ
values_after h n p = sprite_values (2 * h + n / 2) (runs_after h (n / 2 + 1) p)

-- the bytes of pixel n of clock h, and its collision bits
abbrev pub pixel_bytes : ℕ → ℕ → ℕ → Denise → List ℕ
pixel_bytes v h n p = colour_bytes (shown_at v (4 * h + n) (values_after h n p) (held_after v h n p) p)

abbrev pub pixel_collisions : ℕ → ℕ → ℕ → Denise → ℕ
pixel_collisions v h n p = collisions_at v (4 * h + n) (values_after h n p) p

-- the bytes of the four pixels of a visible clock
abbrev pub pixels : System → ℕ → ℕ → Denise → List ℕ
pixels system v h p =
    if is_visible system v h
    then pixel_bytes v h 0 p ++ (pixel_bytes v h 1 p ++ (pixel_bytes v h 2 p ++ pixel_bytes v h 3 p))
    else []

-- the collision bits of the four pixels, visible or not
abbrev pub clock_collisions : ℕ → ℕ → Denise → ℕ
clock_collisions v h p =
    bit_or (bit_or (pixel_collisions v h 0 p) (pixel_collisions v h 1 p))
    (bit_or (pixel_collisions v h 2 p) (pixel_collisions v h 3 p))

-- what a clock's picture step gives: the held colour and the running words after it, the bytes of its visible pixels, and the
-- collision bits of its pixels
pub record PictureStep : Type 0 where
  pub held : Colour
  pub runs : List (Option Start)
  pub bytes : List ℕ
  pub clx : ℕ

-- the picture step of a line's clock
unfoldable pub step_of : System → ℕ → ℕ → Denise → PictureStep
step_of system v h p = record {
  held = record { 0 = held_after v h 4 p };
  runs = runs_after h 2 p;
  bytes = pixels system v h p;
  clx = clock_collisions v h p;
}

-- the picture state after it
abbrev pub after_step : PictureStep → Denise → Denise
after_step step p = record p { held = step.held; runs = step.runs }
