-- Sprites over the playfields' pixels, and what collides, by column and by clock.
use Rattle.std.proofs.Common.{◌≡◌, ℕ, zero, suc, ◌+◌, ◌*◌, ◌/◌, ◌%◌, ◌^◌, ◌≤◌, ◌<◌, ◌==◌, ◌&&◌, Bool, true, false, List, [], ◌∷◌, ◌++◌, length}
use Rattle.std.proofs.Common.{slice_index, slice_index_or, slice_set, flat_map, replicate, bit_or, Option, Some, None, refl, sym, ◌∙◌, ap, arith}
use Rattle.std.specs.Bool.{if◌then◌else◌}
use Rattle.std.specs.Option.{option_or}
use Rattle.std.proofs.Math.ListN.{set}
use Rattle.std.proofs.lemmas.List.{set-get_or, get_or-set_other}
use Rattle.std.proofs.lemmas.Nat.{or_lt}
use Rattle.ocs_base.specs.declared.system.System.{System}
use Rattle.sprites.specs.declared.pixel.SpritePixel.{SpritePixel}
use Rattle.sprites.specs.declared.runs.Start.{Start}
use Rattle.sprites.specs.SpriteFront.{front_pixel, pixel_of}
use Rattle.priority_ham.specs.PixelColour.{hides, playfield_colour, shown_colour}
use Rattle.collisions.specs.Collision.{collision_bits, playfield_matches}
use Rattle.collisions.proofs.Quiet.{quiet_bits}
use Rattle.serial_model.specs.declared.picture.Denise.{Denise}
use Rattle.ocs_base.specs.Systems.{is_visible}
use Rattle.serial_model.specs.Picture.{colour_bytes, pixel_colour, held_after, runs_at, runs_after, sprite_values, attached_pairs}
use Rattle.serial_model.specs.Picture.{shown_at, collisions_at, values_after, pixel_bytes, pixels, clock_collisions, step_of, after_step}
use Rattle.serial_model.specs.Window.{is_inside}
use Rattle.painter.specs.declared.painter.Painter.{Painter}
use Rattle.painter.specs.code.SpriteState.{SpriteRegisters, runs_in, words_begun, attached_in}
use Rattle.painter.specs.code.Starts.{IsIdle}
use Rattle.painter.specs.code.Overlay.{with_runs, shown_bits, with_front, with_front_at, shown_over, two_changed, covered_column}
use Rattle.painter.specs.code.Overlay.{covered_collisions, column_over, column_collisions, clock_over, quiet_in_column, quiet_collisions}
use Rattle.painter.specs.Painter.{IsPainterOf, with_held, clock_bytes}
use Rattle.painter.specs.Inks.{backdrop, counted_bits}
use Rattle.plane_rows.specs.Line.{row_bits}
use Rattle.priority_ham.specs.PlaneCount.{planes_of}
use Rattle.std.proofs.Math.Nat.{zero-mod}
use Rattle.painter.proofs.Showing.{with_held_stands, backdrop_stands, row_counted}
use Rattle.painter.proofs.Ors.{or_assoc, or_none, or_lowest}

-- a sprite that the playfields hide, or not
pub hidden_is : (con0 con2 bits : ℕ) (sprite : SpritePixel) (bytes palette : List ℕ) → hides con0 con2 bits sprite.pair ≡ true →
    with_front con0 con2 bits (Some sprite) bytes palette ≡ bytes
unfolding with_front
hidden_is con0 con2 bits sprite bytes palette is =
    ap (λ (b : Bool). if b then bytes else colour_bytes (slice_index palette sprite.colour)) is

pub shown_is : (con0 con2 bits : ℕ) (sprite : SpritePixel) (bytes palette : List ℕ) → hides con0 con2 bits sprite.pair ≡ false →
    with_front con0 con2 bits (Some sprite) bytes palette ≡ colour_bytes (slice_index palette sprite.colour)
unfolding with_front
shown_is con0 con2 bits sprite bytes palette is =
    ap (λ (b : Bool). if b then bytes else colour_bytes (slice_index palette sprite.colour)) is

-- two places, one after the other
pub changed_both : (at : ℕ) (into left right : List (List ℕ)) (first second : List ℕ → List ℕ) →
    left ≡ slice_set into at (first (slice_index_or into at [])) →
    right ≡ slice_set left (at + 1) (second (slice_index_or left (at + 1) [])) → right ≡ two_changed at into first second
changed_both at into left right first second one two =
    two
    ∙ ap (λ (l : List (List ℕ)). slice_set l (at + 1) (second (slice_index_or l (at + 1) []))) one
    ∙ ap (λ (bytes : List ℕ). slice_set (slice_set into at (first (slice_index_or into at []))) (at + 1) (second bytes))
    (get_or-set_other into at (at + 1) (first (slice_index_or into at [])) [] (λ e. omega (arith, e)))

pub changed_none : (at : ℕ) (into : List (List ℕ)) (first second : List ℕ → List ℕ) →
    first (slice_index_or into at []) ≡ slice_index_or into at [] → second (slice_index_or into (at + 1) []) ≡ slice_index_or into (at + 1) [] →
    into ≡ two_changed at into first second
changed_none at into first second one two =
    sym (ap (λ (bytes : List ℕ). slice_set (slice_set into at bytes) (at + 1) (second (slice_index_or into (at + 1) []))) (one)
    ∙ ap (λ (l : List (List ℕ)). slice_set l (at + 1) (second (slice_index_or into (at + 1) []))) (set-get_or into at [])
    ∙ ap (slice_set into (at + 1)) two
    ∙ set-get_or into (at + 1) [])

pub four_changed : (into : List (List ℕ)) (a b c d : List ℕ → List ℕ) → length into ≡ 4 →
    two_changed 2 (two_changed 0 into a b) c d
    ≡ a (slice_index_or into 0 []) ∷ b (slice_index_or into 1 []) ∷ c (slice_index_or into 2 []) ∷ d (slice_index_or into 3 []) ∷ []
four_changed (w ∷ x ∷ y ∷ z ∷ []) a b c d is = refl
four_changed [] a b c d is = cc
four_changed (w ∷ []) a b c d is = absurd (omega (arith, is))
four_changed (w ∷ x ∷ []) a b c d is = absurd (omega (arith, is))
four_changed (w ∷ x ∷ y ∷ []) a b c d is = absurd (omega (arith, is))
four_changed (w ∷ x ∷ y ∷ z ∷ more ∷ rest) a b c d is = absurd (omega (arith, is))

four_same : (into : List (List ℕ)) → length into ≡ 4 →
    into ≡ slice_index_or into 0 [] ∷ slice_index_or into 1 [] ∷ slice_index_or into 2 [] ∷ slice_index_or into 3 [] ∷ []
four_same (w ∷ x ∷ y ∷ z ∷ []) is = refl
four_same [] is = cc
four_same (w ∷ []) is = absurd (omega (arith, is))
four_same (w ∷ x ∷ []) is = absurd (omega (arith, is))
four_same (w ∷ x ∷ y ∷ []) is = absurd (omega (arith, is))
four_same (w ∷ x ∷ y ∷ z ∷ more ∷ rest) is = absurd (omega (arith, is))

-- inside the display window or not
over_by : (v x column : ℕ) (values bytes : List ℕ) (p : Denise) (b : Bool) → x / 2 ≡ column → is_inside v column p.diwstrt p.diwstop ≡ b →
    shown_over v x values bytes p ≡ (if b then with_front_at x values bytes p else bytes)
unfolding shown_over
over_by v x column values bytes p b at is =
    ap (λ (t : Bool). if t then with_front_at x values bytes p else bytes) (ap (λ (n : ℕ). is_inside v n p.diwstrt p.diwstop) at ∙ is)

bits_by : (v x column : ℕ) (values : List ℕ) (p : Denise) (b : Bool) → x / 2 ≡ column → is_inside v column p.diwstrt p.diwstop ≡ b →
    collisions_at v x values p ≡ (if b then collision_bits p.clxcon (shown_bits x p) values else 0)
unfolding collisions_at
bits_by v x column values p b at is =
    ap (λ (t : Bool). if t then collision_bits p.clxcon (shown_bits x p) values else 0) (ap (λ (n : ℕ). is_inside v n p.diwstrt p.diwstop) at ∙ is)

pub column_inside : (v column at : ℕ) (into : List (List ℕ)) (p : Denise) → is_inside v column p.diwstrt p.diwstop ≡ true →
    covered_column column at into p ≡ column_over v column at into p
column_inside v column at into p is =
    let values = sprite_values column p.runs in
    rw (
      over_by v (2 * column) column values (slice_index_or into at []) p true (omega arith) is,
      over_by v (2 * column + 1) column values (slice_index_or into (at + 1) []) p true (omega arith) is,
    ) refl

pub column_outside : (v column at : ℕ) (into : List (List ℕ)) (p : Denise) → is_inside v column p.diwstrt p.diwstop ≡ false →
    into ≡ column_over v column at into p
column_outside v column at into p is =
    let values = sprite_values column p.runs in
    changed_none at into (λ bytes. shown_over v (2 * column) values bytes p) (λ bytes. shown_over v (2 * column + 1) values bytes p)
    (over_by v (2 * column) column values (slice_index_or into at []) p false (omega arith) is)
    (over_by v (2 * column + 1) column values (slice_index_or into (at + 1) []) p false (omega arith) is)

pub bits_inside : (v column : ℕ) (p : Denise) → is_inside v column p.diwstrt p.diwstop ≡ true →
    covered_collisions column p ≡ column_collisions v column p
bits_inside v column p is =
    let values = sprite_values column p.runs in
    rw (bits_by v (2 * column) column values p true (omega arith) is, bits_by v (2 * column + 1) column values p true (omega arith) is) refl

pub bits_outside : (v column : ℕ) (values : List ℕ) (p : Denise) → is_inside v column p.diwstrt p.diwstop ≡ false →
    bit_or (collisions_at v (2 * column) values p) (collisions_at v (2 * column + 1) values p) ≡ 0
bits_outside v column values p is =
    rw (bits_by v (2 * column) column values p false (omega arith) is, bits_by v (2 * column + 1) column values p false (omega arith) is) refl

pub clock_outside : (v h : ℕ) (p : Denise) → is_inside v (2 * h) p.diwstrt p.diwstop ≡ false → is_inside v (2 * h + 1) p.diwstrt p.diwstop ≡ false →
    quiet_collisions v h p ≡ 0
clock_outside v h p first second =
    rw (bits_outside v (2 * h) (replicate 8 0) p first, bits_outside v (2 * h + 1) (replicate 8 0) p second) refl

pub same_bits : (clx bits : ℕ) → bits ≡ 0 → clx ≡ bit_or clx bits
same_bits clx bits is = rw is (sym (or_none clx))

-- the playfields alone
pub meets : ℕ → Denise → Bool
meets x p = playfield_matches p.clxcon (shown_bits x p) 1 && playfield_matches p.clxcon (shown_bits x p) 2

pub quiet_inside : (v column : ℕ) (p : Denise) → is_inside v column p.diwstrt p.diwstop ≡ true →
    quiet_in_column v column p ≡ bit_or (if meets (2 * column) p then 1 else 0) (if meets (2 * column + 1) p then 1 else 0)
unfolding meets
quiet_inside v column p is =
    rw (
      bits_by v (2 * column) column (replicate 8 0) p true (omega arith) is,
      bits_by v (2 * column + 1) column (replicate 8 0) p true (omega arith) is,
      quiet_bits p.clxcon (shown_bits (2 * column) p),
      quiet_bits p.clxcon (shown_bits (2 * column + 1) p),
    ) refl

pub first_meets : (v column : ℕ) (p : Denise) → is_inside v column p.diwstrt p.diwstop ≡ true → meets (2 * column) p ≡ true →
    quiet_in_column v column p ≡ 1
first_meets v column p is met = quiet_inside v column p is ∙ (rw met (either (meets (2 * column + 1) p)))
  where
    either : (b : Bool) → bit_or 1 (if b then 1 else 0) ≡ 1
    either true = refl
    either false = refl

pub second_meets : (v column : ℕ) (p : Denise) → is_inside v column p.diwstrt p.diwstop ≡ true → meets (2 * column + 1) p ≡ true →
    quiet_in_column v column p ≡ 1
second_meets v column p is met = quiet_inside v column p is ∙ (rw met (either (meets (2 * column) p)))
  where
    either : (b : Bool) → bit_or (if b then 1 else 0) 1 ≡ 1
    either true = refl
    either false = refl

pub none_meets : (v column : ℕ) (p : Denise) → is_inside v column p.diwstrt p.diwstop ≡ true → meets (2 * column) p ≡ false →
    meets (2 * column + 1) p ≡ false → quiet_in_column v column p ≡ 0
none_meets v column p is one two = quiet_inside v column p is ∙ (rw (one, two) refl)

quiet_few : (v x : ℕ) (p : Denise) → collisions_at v x (replicate 8 0) p < 2 ^ 1
quiet_few v x p = rw (
  bits_by v x (x / 2) (replicate 8 0) p (is_inside v (x / 2) p.diwstrt p.diwstop) refl refl,
  quiet_bits p.clxcon (shown_bits x p),
) (few (is_inside v (x / 2) p.diwstrt p.diwstop)
    (playfield_matches p.clxcon (shown_bits x p) 1 && playfield_matches p.clxcon (shown_bits x p) 2))
  where
    few : (b c : Bool) → (if b then (if c then 1 else 0) else 0) < 2 ^ 1
    few true true = omega arith
    few true false = omega arith
    few false c = omega arith

lowest_kept : (clx bits : ℕ) → clx % 2 ≡ 1 → bits < 2 → clx ≡ bit_or clx bits
lowest_kept clx zero is few = sym (or_none clx)
lowest_kept clx (suc zero) is few = sym (or_lowest clx is)
lowest_kept clx (suc (suc n)) is few = absurd (omega (arith, few))

pub quiet_kept : (v h clx : ℕ) (p : Denise) → clx % 2 ≡ 1 → clx ≡ bit_or clx (quiet_collisions v h p)
quiet_kept v h clx p is =
    lowest_kept clx (quiet_collisions v h p) is
    (or_lt 1 _ _ (or_lt 1 _ _ (quiet_few v (2 * (2 * h)) p) (quiet_few v (2 * (2 * h) + 1) p))
    (or_lt 1 _ _ (quiet_few v (2 * (2 * h + 1)) p) (quiet_few v (2 * (2 * h + 1) + 1) p)))

-- the window and the planes of a painter are those of the picture state
pub inside_same : (v column : ℕ) (now : Painter) (p : Denise) → IsPainterOf now p →
    is_inside v column p.diwstrt p.diwstop ≡ is_inside v column now.window.diwstrt now.window.diwstop
inside_same v column now p stands = rw (stands.diwstrt, stands.diwstop) refl

pub meets_same : (x bits : ℕ) (met : Bool) (now : Painter) (p : Denise) → IsPainterOf now p → bits ≡ shown_bits x p →
    met ≡ (playfield_matches now.clxcon bits 1 && playfield_matches now.clxcon bits 2) → meets x p ≡ met
unfolding meets
meets_same x bits met now p stands same is = sym (is ∙ (rw (same, ← stands.clxcon) refl))

-- the playfields of a clock where no plane shows a bit, and such do not meet
no_bits : (x : ℕ) (now : Painter) (p : Denise) → IsPainterOf now p → x < 1024 → row_bits now.line x ≡ 0 → 0 ≡ shown_bits x p
no_bits x now p stands within none =
    sym (zero-mod (2 ^ planes_of p.con0)) ∙ ap (counted_bits p.con0) (sym none) ∙ row_counted now.line p.loads x p.con0 stands.line within

none_by : (v column : ℕ) (p : Denise) (b : Bool) → is_inside v column p.diwstrt p.diwstop ≡ b → meets (2 * column) p ≡ false →
    meets (2 * column + 1) p ≡ false → quiet_in_column v column p ≡ 0
none_by v column p true is one two = none_meets v column p is one two
none_by v column p false is one two = bits_outside v column (replicate 8 0) p is

pub none_gather : (v h : ℕ) (now : Painter) (p : Denise) → IsPainterOf now p → h ≤ 227 → ((x : ℕ) → 4 * h ≤ x → row_bits now.line x ≡ 0) →
    (playfield_matches now.clxcon 0 1 && playfield_matches now.clxcon 0 2) ≡ false → quiet_collisions v h p ≡ 0
none_gather v h now p stands room blank apart =
    let unmet : (x : ℕ) → 4 * h ≤ x → x < 1024 → meets x p ≡ false =
    λ x from within. meets_same x 0 false now p stands (no_bits x now p stands within (blank x from)) (sym apart) in
    rw (
      none_by v (2 * h) p (is_inside v (2 * h) p.diwstrt p.diwstop) refl
          (unmet (2 * (2 * h)) (omega arith) (omega arith)) (unmet (2 * (2 * h) + 1) (omega arith) (omega arith)),
      none_by v (2 * h + 1) p (is_inside v (2 * h + 1) p.diwstrt p.diwstop) refl
          (unmet (2 * (2 * h + 1)) (omega arith) (omega arith)) (unmet (2 * (2 * h + 1) + 1) (omega arith) (omega arith)),
    ) refl

pub attached_same : (now : Painter) (p : Denise) → IsPainterOf now p → attached_in now.sprites ≡ attached_pairs p
attached_same now p stands = rw (stands.ctl) refl

-- the sprite in front over the two pixels of a column, and none
-- the bits of the line's rows, of as many planes as BPLCON0 says
pub counted_same : (x bits : ℕ) (now : Painter) (p : Denise) → IsPainterOf now p → x < 1024 → bits ≡ row_bits now.line x →
    counted_bits now.inks.con0 bits ≡ shown_bits x p
counted_same x bits now p stands within is =
    ap (λ (n : ℕ). counted_bits n bits) (sym stands.con0)
    ∙ ap (counted_bits p.con0) is
    ∙ row_counted now.line p.loads x p.con0 stands.line within

pub covered_some : (column at first second : ℕ) (now : Painter) (p : Denise) (sprite : SpritePixel) (into left right : List (List ℕ)) →
    IsPainterOf now p → first ≡ shown_bits (2 * column) p → second ≡ shown_bits (2 * column + 1) p →
    front_pixel (sprite_values column p.runs) (attached_pairs p) ≡ Some sprite →
    left ≡ slice_set into at (with_front now.inks.con0 now.inks.con2 first (Some sprite) (slice_index_or into at []) now.inks.palette) →
    right ≡ slice_set left (at + 1) (with_front now.inks.con0 now.inks.con2 second (Some sprite) (slice_index_or left (at + 1) []) now.inks.palette) →
    right ≡ covered_column column at into p
covered_some column at first second now p sprite into left right stands one two seen early late =
    changed_both at into left right
    (λ bytes. with_front now.inks.con0 now.inks.con2 first (Some sprite) bytes now.inks.palette)
    (λ bytes. with_front now.inks.con0 now.inks.con2 second (Some sprite) bytes now.inks.palette) early late
    ∙ (rw (seen, one, two, stands.con0, stands.con2, stands.palette) refl)

pub covered_none : (column at : ℕ) (p : Denise) (into : List (List ℕ)) →
    front_pixel (sprite_values column p.runs) (attached_pairs p) ≡ None → into ≡ covered_column column at into p
unfolding with_front
covered_none column at p into seen =
    changed_none at into (λ bytes. bytes) (λ bytes. bytes) refl refl ∙ (rw seen refl)

-- a painter where words have begun to run
pub runs_same : (column : ℕ) (now : Painter) (p : Denise) → IsPainterOf now p → runs_at column p p.runs ≡ runs_in column now.sprites
runs_same column now p stands = rw (stands.armed, stands.pos, stands.ctl, stands.words_a, stands.words_b, stands.runs) refl

pub begun_stands : (column : ℕ) (now : Painter) (p : Denise) (s : SpriteRegisters) → IsPainterOf now p →
    s ≡ words_begun column now.sprites →
    IsPainterOf (record now { sprites = s }) (with_runs (runs_at column p p.runs) p)
begun_stands column now p s stands is = record {
  palette = stands.palette;
  con0 = stands.con0;
  con1 = stands.con1;
  con2 = stands.con2;
  diwstrt = stands.diwstrt;
  diwstop = stands.diwstop;
  clxcon = stands.clxcon;
  latches = stands.latches;
  pos = stands.pos ∙ sym (ap (λ (t : SpriteRegisters). t.pos) is);
  ctl = stands.ctl ∙ sym (ap (λ (t : SpriteRegisters). t.ctl) is);
  words_a = stands.words_a ∙ sym (ap (λ (t : SpriteRegisters). t.words_a) is);
  words_b = stands.words_b ∙ sym (ap (λ (t : SpriteRegisters). t.words_b) is);
  armed = stands.armed ∙ sym (ap (λ (t : SpriteRegisters). t.armed) is);
  runs = runs_same column now p stands ∙ sym (ap (λ (t : SpriteRegisters). t.runs) is);
  line = stands.line;
  held = stands.held;
}

-- a painter stands for a picture state where the same words run
pub same_runs_stand : (now : Painter) (p : Denise) (runs : List (Option Start)) → IsPainterOf now p → runs ≡ now.sprites.runs →
    IsPainterOf now (with_runs runs p)
same_runs_stand now p runs stands is = record {
  palette = stands.palette;
  con0 = stands.con0;
  con1 = stands.con1;
  con2 = stands.con2;
  diwstrt = stands.diwstrt;
  diwstop = stands.diwstop;
  clxcon = stands.clxcon;
  latches = stands.latches;
  pos = stands.pos;
  ctl = stands.ctl;
  words_a = stands.words_a;
  words_b = stands.words_b;
  armed = stands.armed;
  runs = is;
  line = stands.line;
  held = stands.held;
}

-- what runs after the columns of a clock
abbrev pub after_first : ℕ → Denise → Denise
after_first h p = with_runs (runs_at (2 * h) p p.runs) p

abbrev pub after_second : ℕ → Denise → Denise
after_second h p = with_runs (runs_at (2 * h + 1) (after_first h p) (runs_at (2 * h) p p.runs)) (after_first h p)

pub record HasRuns (h : ℕ) (p : Denise) : Type 0 where
  pub one : runs_at (2 * h) p p.runs ≡ runs_after h 1 p
  pub both : runs_at (2 * h + 1) (after_first h p) (runs_at (2 * h) p p.runs) ≡ runs_after h 2 p

pub runs_of : (h : ℕ) (p : Denise) → HasRuns h p
unfolding runs_after
runs_of h p =
    let first : 2 * h ≡ 2 * h + 0 = omega arith in
    record {
      one = ap (λ (n : ℕ). runs_at n p p.runs) first;
      both = ap (λ (n : ℕ). runs_at (2 * h + 1) p (runs_at n p p.runs)) first;
    }

-- the four pixels of a clock are those of its columns
pixel_same : (v x y c d : ℕ) (runs others : List (Option Start)) (bytes : List ℕ) (p : Denise) → x ≡ y → c ≡ d → runs ≡ others →
    shown_over v x (sprite_values c runs) bytes (with_runs runs p) ≡ shown_over v y (sprite_values d others) bytes p
unfolding shown_over
pixel_same v x y c d runs others bytes p at column same = rw (at, column, same) refl

bits_same : (v x y c d : ℕ) (runs others : List (Option Start)) (p : Denise) → x ≡ y → c ≡ d → runs ≡ others →
    collisions_at v x (sprite_values c runs) (with_runs runs p) ≡ collisions_at v y (sprite_values d others) p
unfolding collisions_at
bits_same v x y c d runs others p at column same = rw (at, column, same) refl

pub clock_changed : (v h : ℕ) (p : Denise) (into left right : List (List ℕ)) → length into ≡ 4 →
    left ≡ column_over v (2 * h) 0 into (after_first h p) → right ≡ column_over v (2 * h + 1) 2 left (after_second h p) →
    right ≡ clock_over v h into p
clock_changed v h p into left right long first second =
    let is : HasRuns h p = runs_of h p in
    let one = sprite_values (2 * h) (after_first h p).runs in
    let two = sprite_values (2 * h + 1) (after_second h p).runs in
    second
    ∙ ap (λ (l : List (List ℕ)). column_over v (2 * h + 1) 2 l (after_second h p)) first
    ∙ four_changed into
    (λ bytes. shown_over v (2 * (2 * h)) one bytes (after_first h p))
    (λ bytes. shown_over v (2 * (2 * h) + 1) one bytes (after_first h p))
    (λ bytes. shown_over v (2 * (2 * h + 1)) two bytes (after_second h p))
    (λ bytes. shown_over v (2 * (2 * h + 1) + 1) two bytes (after_second h p)) long
    ∙ (rw (
      pixel_same v (2 * (2 * h)) (4 * h + 0) (2 * h) (2 * h + 0) _ _ (slice_index_or into 0 []) p (omega arith) (omega arith) is.one,
      pixel_same v (2 * (2 * h) + 1) (4 * h + 1) (2 * h) (2 * h + 0) _ _ (slice_index_or into 1 []) p (omega arith) (omega arith) is.one,
      pixel_same v (2 * (2 * h + 1)) (4 * h + 2) (2 * h + 1) (2 * h + 1) _ _ (slice_index_or into 2 []) p (omega arith) refl is.both,
      pixel_same v (2 * (2 * h + 1) + 1) (4 * h + 3) (2 * h + 1) (2 * h + 1) _ _ (slice_index_or into 3 []) p (omega arith) refl is.both,
    ) refl)

pub clock_gathered : (v h : ℕ) (p : Denise) (clx first second : ℕ) →
    first ≡ bit_or clx (column_collisions v (2 * h) (after_first h p)) →
    second ≡ bit_or first (column_collisions v (2 * h + 1) (after_second h p)) → second ≡ bit_or clx (clock_collisions v h p)
clock_gathered v h p clx first second one two =
    let is : HasRuns h p = runs_of h p in
    two
    ∙ ap (λ (n : ℕ). bit_or n (column_collisions v (2 * h + 1) (after_second h p))) one
    ∙ or_assoc clx (column_collisions v (2 * h) (after_first h p)) (column_collisions v (2 * h + 1) (after_second h p))
    ∙ (rw (
      bits_same v (2 * (2 * h)) (4 * h + 0) (2 * h) (2 * h + 0) _ _ p (omega arith) (omega arith) is.one,
      bits_same v (2 * (2 * h) + 1) (4 * h + 1) (2 * h) (2 * h + 0) _ _ p (omega arith) (omega arith) is.one,
      bits_same v (2 * (2 * h + 1)) (4 * h + 2) (2 * h + 1) (2 * h + 1) _ _ p (omega arith) refl is.both,
      bits_same v (2 * (2 * h + 1) + 1) (4 * h + 3) (2 * h + 1) (2 * h + 1) _ _ p (omega arith) refl is.both,
    ) refl)

-- an idle clock: the same words run, and no sprite shows
pub record IsStill (h : ℕ) (p : Denise) (runs : List (Option Start)) : Type 0 where
  pub one : runs_after h 1 p ≡ runs
  pub both : runs_after h 2 p ≡ runs
  pub first : sprite_values (2 * h + 0) (runs_after h 1 p) ≡ replicate 8 0
  pub second : sprite_values (2 * h + 1) (runs_after h 2 p) ≡ replicate 8 0

pub still : (h : ℕ) (now : Painter) (p : Denise) → IsPainterOf now p → IsIdle h now.sprites → IsStill h p now.sprites.runs
unfolding runs_after
still h now p stands idle =
    let zeroth : 2 * h + 0 ≡ 2 * h = omega arith in
    let one : runs_at (2 * h + 0) p p.runs ≡ now.sprites.runs =
    ap (λ (n : ℕ). runs_at n p p.runs) zeroth ∙ runs_same (2 * h) now p stands ∙ idle.first in
    let both : runs_at (2 * h + 1) p (runs_at (2 * h + 0) p p.runs) ≡ now.sprites.runs =
    ap (runs_at (2 * h + 1) p) (one ∙ sym stands.runs) ∙ runs_same (2 * h + 1) now p stands ∙ idle.second in
    record {
      one = one;
      both = both;
      first = ap (sprite_values (2 * h + 0)) one ∙ idle.values (2 * h + 0) (omega arith);
      second = ap (sprite_values (2 * h + 1)) both ∙ idle.values (2 * h + 1) (omega arith);
    }

pair_of_none : ℕ → Bool → Option SpritePixel
pair_of_none n b = if b then pixel_of n 16 (4 * 0 + 0) else option_or (pixel_of n (16 + 4 * n) 0) (pixel_of n (16 + 4 * n) 0)

no_pair : (n : ℕ) (b : Bool) → pair_of_none n b ≡ None
unfolding pair_of_none
no_pair n true = refl
no_pair n false = refl

none_of_four : (a b c d : Bool) →
    option_or (pair_of_none 0 a) (option_or (pair_of_none 1 b) (option_or (pair_of_none 2 c) (pair_of_none 3 d))) ≡ None
none_of_four a b c d = rw (no_pair 0 a, no_pair 1 b, no_pair 2 c, no_pair 3 d) refl

none_in_front : (attached : ℕ) → front_pixel (replicate 8 0) attached ≡ None
unfolding front_pixel pair_of_none
none_in_front attached =
    none_of_four (attached / 2 ^ 0 % 2 == 1) (attached / 2 ^ 1 % 2 == 1) (attached / 2 ^ 2 % 2 == 1) (attached / 2 ^ 3 % 2 == 1)

still_pixel : (v x : ℕ) (values bytes : List ℕ) (p : Denise) → values ≡ replicate 8 0 → bytes ≡ shown_over v x values bytes p
unfolding shown_over with_front
still_pixel v x values bytes p none =
    sym (ap (λ (l : List ℕ). shown_over v x l bytes p) none
    ∙ ap (λ (o : Option SpritePixel). if is_inside v (x / 2) p.diwstrt p.diwstop then with_front p.con0 p.con2 (shown_bits x p) o bytes p.palette else bytes)
    (none_in_front (attached_pairs p))
    ∙ either (is_inside v (x / 2) p.diwstrt p.diwstop))
  where
    either : (b : Bool) → (if b then bytes else bytes) ≡ bytes
    either true = refl
    either false = refl

pub still_pixels : (v h : ℕ) (p : Denise) (runs : List (Option Start)) (into : List (List ℕ)) → IsStill h p runs → length into ≡ 4 →
    into ≡ clock_over v h into p
still_pixels v h p runs into is long =
    four_same into long
    ∙ (rw (
      ← still_pixel v (4 * h + 0) (sprite_values (2 * h + 0) (runs_after h 1 p)) (slice_index_or into 0 []) p is.first,
      ← still_pixel v (4 * h + 1) (sprite_values (2 * h + 0) (runs_after h 1 p)) (slice_index_or into 1 []) p is.first,
      ← still_pixel v (4 * h + 2) (sprite_values (2 * h + 1) (runs_after h 2 p)) (slice_index_or into 2 []) p is.second,
      ← still_pixel v (4 * h + 3) (sprite_values (2 * h + 1) (runs_after h 2 p)) (slice_index_or into 3 []) p is.second,
    ) refl)

pub still_collisions : (v h : ℕ) (p : Denise) (runs : List (Option Start)) → IsStill h p runs → quiet_collisions v h p ≡ clock_collisions v h p
still_collisions v h p runs is =
    let a : 2 * (2 * h) ≡ 4 * h + 0 = omega arith in
    let b : 4 * h + 0 + 1 ≡ 4 * h + 1 = omega arith in
    let c : 2 * (2 * h + 1) ≡ 4 * h + 2 = omega arith in
    let d : 4 * h + 2 + 1 ≡ 4 * h + 3 = omega arith in
    rw (is.first, is.second, a, b, c, d) refl

-- the bytes of what is shown are those of the playfields with the sprite over them
front_over : (con0 con2 bits : ℕ) (front : Option SpritePixel) (held : ℕ) (palette : List ℕ) →
    with_front con0 con2 bits front (colour_bytes (playfield_colour con0 con2 bits held palette)) palette
    ≡ colour_bytes (shown_colour con0 con2 bits front held palette)
unfolding with_front shown_colour
front_over con0 con2 bits None held palette = refl
front_over con0 con2 bits (Some sprite) held palette = either (hides con0 con2 bits sprite.pair)
  where
    either : (b : Bool) →
        (if b then colour_bytes (playfield_colour con0 con2 bits held palette) else colour_bytes (slice_index palette sprite.colour))
        ≡ colour_bytes (if b then playfield_colour con0 con2 bits held palette else slice_index palette sprite.colour)
    either true = refl
    either false = refl

over_shown : (v x : ℕ) (values : List ℕ) (held : ℕ) (p : Denise) →
    shown_over v x values (colour_bytes (pixel_colour v x held p)) p ≡ colour_bytes (shown_at v x values held p)
unfolding shown_over pixel_colour shown_at
over_shown v x values held p = either (is_inside v (x / 2) p.diwstrt p.diwstop)
  where
    either : (b : Bool) →
        (if b then with_front p.con0 p.con2 (shown_bits x p) (front_pixel values (attached_pairs p))
        (colour_bytes (if b then playfield_colour p.con0 p.con2 (shown_bits x p) held p.palette else slice_index p.palette 0)) p.palette
        else colour_bytes (if b then playfield_colour p.con0 p.con2 (shown_bits x p) held p.palette else slice_index p.palette 0))
        ≡ colour_bytes (if b then shown_colour p.con0 p.con2 (shown_bits x p) (front_pixel values (attached_pairs p)) held p.palette
        else slice_index p.palette 0)
    either true = front_over p.con0 p.con2 (shown_bits x p) (front_pixel values (attached_pairs p)) held p.palette
    either false = refl

pixel_is : (v h n : ℕ) (values : List ℕ) (p : Denise) →
    shown_over v (4 * h + n) values (colour_bytes (held_after v h (suc n) p)) p ≡ colour_bytes (shown_at v (4 * h + n) values (held_after v h n p) p)
unfolding held_after
pixel_is v h n values p = over_shown v (4 * h + n) values (held_after v h n p) p

abbrev pub pixel_list : ℕ → ℕ → Denise → List (List ℕ)
pixel_list v h p = pixel_bytes v h 0 p ∷ pixel_bytes v h 1 p ∷ pixel_bytes v h 2 p ∷ pixel_bytes v h 3 p ∷ []

all_over : (v h : ℕ) (p : Denise) → clock_over v h (clock_bytes v h p) p ≡ pixel_list v h p
all_over v h p =
    rw (
      pixel_is v h 0 (values_after h 0 p) p,
      pixel_is v h 1 (values_after h 1 p) p,
      pixel_is v h 2 (values_after h 2 p) p,
      pixel_is v h 3 (values_after h 3 p) p,
    ) refl

held_apart : (v h held : ℕ) (into : List (List ℕ)) (p : Denise) → clock_over v h into (with_held held p) ≡ clock_over v h into p
unfolding shown_over runs_after
held_apart v h held into p = refl

pub bits_apart : (v h held : ℕ) (p : Denise) → clock_collisions v h (with_held held p) ≡ clock_collisions v h p
unfolding collisions_at runs_after
bits_apart v h held p = refl

visible_list : (system : System) (v h : ℕ) (p : Denise) → is_visible system v h ≡ true
    → flat_map (λ (x : List ℕ). x) (pixel_list v h p) ≡ pixels system v h p
visible_list system v h p is =
    sym (ap (λ (b : Bool). if b then pixel_bytes v h 0 p ++ (pixel_bytes v h 1 p ++ (pixel_bytes v h 2 p ++ pixel_bytes v h 3 p)) else []) is)

pub clock_shown : (system : System) (v h held : ℕ) (p : Denise) (into playfields : List (List ℕ)) → is_visible system v h ≡ true →
    playfields ≡ clock_bytes v h p → into ≡ clock_over v h playfields (with_held held p) →
    flat_map (λ (x : List ℕ). x) into ≡ pixels system v h p
clock_shown system v h held p into playfields visible below over =
    ap (λ (l : List (List ℕ)). flat_map (λ (x : List ℕ). x) l)
    (over ∙ held_apart v h held playfields p ∙ ap (λ (l : List (List ℕ)). clock_over v h l p) below ∙ all_over v h p)
    ∙ visible_list system v h p visible

pub clock_stands : (system : System) (v h : ℕ) (now : Painter) (p : Denise) →
    IsPainterOf now (with_runs (runs_after h 2 (with_held (held_after v h 4 p) p)) (with_held (held_after v h 4 p) p)) →
    IsPainterOf now (after_step (step_of system v h p) p)
unfolding step_of runs_after
clock_stands system v h now p stands = stands

-- a clock that shows the border's colour alone, with no sprite near
pub still_held : (v h held : ℕ) (now : Painter) (p : Denise) → IsPainterOf now p → IsIdle h now.sprites → IsStill h (with_held held p) now.sprites.runs
still_held v h held now p stands idle =
    still h (record now { held = colour_bytes held }) (with_held held p) (with_held_stands now p (colour_bytes held) held stands refl) idle

pub backdrop_shown : (system : System) (v h : ℕ) (now : Painter) (p : Denise) (into : List (List ℕ)) → IsPainterOf now p → IsIdle h now.sprites →
    backdrop now.inks.palette ≡ clock_bytes v h p → is_visible system v h ≡ true → into ≡ backdrop now.inks.palette →
    flat_map (λ (x : List ℕ). x) into ≡ pixels system v h p
backdrop_shown system v h now p into stands idle below visible is =
    let held : ℕ = held_after v h 4 p in
    let four : length into ≡ 4 = ap length (is ∙ below) in
    clock_shown system v h (held_after v h 4 p) p into into visible (is ∙ below)
    (still_pixels v h (with_held held p) now.sprites.runs into (still_held v h held now p stands idle) four)

pub backdrop_stands_after : (system : System) (v h : ℕ) (now next : Painter) (p : Denise) → IsPainterOf now p → IsIdle h now.sprites →
    backdrop now.inks.palette ≡ clock_bytes v h p → next ≡ record now { held = colour_bytes (slice_index now.inks.palette 0) } →
    IsPainterOf next (after_step (step_of system v h p) p)
backdrop_stands_after system v h now next p stands idle below is =
    let held : ℕ = held_after v h 4 p in
    let runs : now.sprites.runs ≡ next.sprites.runs = sym (ap (λ (painter : Painter). painter.sprites.runs) is) in
    clock_stands system v h next p
    (same_runs_stand next (with_held held p) (runs_after h 2 (with_held held p)) (backdrop_stands v h now next p stands below is)
    ((still_held v h held now p stands idle).both ∙ runs))

pub backdrop_gathers : (v h : ℕ) (now : Painter) (p : Denise) → IsPainterOf now p → IsIdle h now.sprites →
    quiet_collisions v h p ≡ clock_collisions v h p
backdrop_gathers v h now p stands idle = still_collisions v h p now.sprites.runs (still h now p stands idle)
