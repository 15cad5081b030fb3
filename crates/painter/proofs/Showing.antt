-- Pixels of the definitions against the rows and the inks.
use Rattle.std.proofs.Common.{◌≡◌, ℕ, zero, suc, ◌+◌, ◌*◌, ◌/◌, ◌%◌, ◌^◌, ◌≤◌, ◌<◌, Bool, true, false, nat_le, List, []}
use Rattle.std.proofs.Common.{◌∷◌, length, get_or, slice_index, slice_set, replicate, refl, sym, ◌∙◌, ap, subst, arith}
use Rattle.std.specs.Bool.{if◌then◌else◌}
use Rattle.std.proofs.Math.Nat.{zero-mod}
use Rattle.std.proofs.Math.ListN.{set, length-set}
use Rattle.std.proofs.lemmas.List.{get_or-set_same}
use Rattle.serial_model.specs.declared.picture.Denise.{Denise}
use Rattle.serial_model.specs.Picture.{colour_bytes, pixel_colour, held_after}
use Rattle.serial_model.specs.Window.{is_inside}
use Rattle.planes.specs.declared.load.Load.{Load}
use Rattle.planes.specs.PlaneBit.{plane_bit, all_bits}
use Rattle.planes.proofs.Searching.{plane_bit-lt}
use Rattle.priority_ham.specs.PlaneCount.{planes_of, is_set, is_dual_playfield}
use Rattle.priority_ham.specs.PixelColour.{modified, dual_number, playfield_colour}
use Rattle.priority_ham.proofs.Within.{at_most_six}
use Rattle.plane_rows.specs.declared.line.Line.{Line}
use Rattle.plane_rows.specs.Line.{IsLineOf, Shows, three_planes, row_bits}
use Rattle.painter.specs.Inks.{InkRegisters, ink, ink_number, counted_bits, is_held, backdrop}
use Rattle.painter.specs.code.Pixels.{ink_at, modified_at}
use Rattle.painter.specs.declared.painter.Painter.{Painter}
use Rattle.painter.specs.Painter.{IsPainterOf, first_colour, second_colour, with_held, clock_bytes}
use Rattle.painter.proofs.Colours.{ink_colour, held_colour}

-- the bits of the lowest planes
lowest : (a b c d e f count : ℕ) → a < 2 → b < 2 → c < 2 → d < 2 → e < 2 → f < 2 → count ≤ 6 →
    ((a + 4 * c + 16 * e) + 2 * (b + 4 * d + 16 * f)) % 2 ^ count
    ≡ (if nat_le 1 count then a else 0) + 2 * (if nat_le 2 count then b else 0) + 4 * (if nat_le 3 count then c else 0)
    + 8 * (if nat_le 4 count then d else 0) + 16 * (if nat_le 5 count then e else 0) + 32 * (if nat_le 6 count then f else 0)
lowest a b c d e f zero ha hb hc hd he hf h = omega arith
lowest a b c d e f (suc zero) ha hb hc hd he hf h = omega arith
lowest a b c d e f (suc (suc zero)) ha hb hc hd he hf h = omega arith
lowest a b c d e f (suc (suc (suc zero))) ha hb hc hd he hf h = omega arith
lowest a b c d e f (suc (suc (suc (suc zero)))) ha hb hc hd he hf h = omega arith
lowest a b c d e f (suc (suc (suc (suc (suc zero))))) ha hb hc hd he hf h = omega arith
lowest a b c d e f (suc (suc (suc (suc (suc (suc zero)))))) ha hb hc hd he hf h = omega arith
lowest a b c d e f (suc (suc (suc (suc (suc (suc (suc n))))))) ha hb hc hd he hf h = absurd (omega arith)

-- the rows give the bits of as many planes as BPLCON0 says
pub row_counted : (line : Line) (loads : List Load) (x con0 : ℕ) → IsLineOf line loads → x < 1024 →
    counted_bits con0 (row_bits line x) ≡ all_bits x (planes_of con0) loads
unfolding Shows three_planes all_bits
row_counted line loads x con0 is h =
    ap (λ (n : ℕ). (n + 2 * slice_index line.even.shown x) % 2 ^ planes_of con0) (is.odd x h)
    ∙ ap (λ (n : ℕ). (plane_bit 1 x loads + 4 * plane_bit 3 x loads + 16 * plane_bit 5 x loads + 2 * n) % 2 ^ planes_of con0) (is.even x h)
    ∙ lowest (plane_bit 1 x loads) (plane_bit 2 x loads) (plane_bit 3 x loads) (plane_bit 4 x loads) (plane_bit 5 x loads) (plane_bit 6 x loads)
    (planes_of con0) (plane_bit-lt 1 x loads) (plane_bit-lt 2 x loads) (plane_bit-lt 3 x loads) (plane_bit-lt 4 x loads)
    (plane_bit-lt 5 x loads) (plane_bit-lt 6 x loads) (at_most_six con0)

-- a pixel of a column outside the display window, and inside it
pixel_by : (v x held column : ℕ) (p : Denise) (b : Bool) → x / 2 ≡ column → is_inside v column p.diwstrt p.diwstop ≡ b →
    pixel_colour v x held p
    ≡ (if b then playfield_colour p.con0 p.con2 (all_bits x (planes_of p.con0) p.loads) held p.palette else slice_index p.palette 0)
unfolding pixel_colour
pixel_by v x held column p b at is =
    ap (λ (t : Bool). if t then playfield_colour p.con0 p.con2 (all_bits x (planes_of p.con0) p.loads) held p.palette else slice_index p.palette 0)
    (ap (λ (n : ℕ). is_inside v n p.diwstrt p.diwstop) at ∙ is)

pub border_pixel : (v x held column : ℕ) (p : Denise) → x / 2 ≡ column → is_inside v column p.diwstrt p.diwstop ≡ false →
    slice_index p.palette 0 ≡ pixel_colour v x held p
border_pixel v x held column p at is = sym (pixel_by v x held column p false at is)

pub ink_pixel : (v x held column : ℕ) (p : Denise) (line : Line) → x / 2 ≡ column → x < 1024 → is_inside v column p.diwstrt p.diwstop ≡ true →
    IsLineOf line p.loads → is_held p.con0 ≡ false →
    ink p.palette (ink_number p.con0 p.con2 (row_bits line x)) ≡ pixel_colour v x held p
ink_pixel v x held column p line at within is stands plain =
    ink_colour p.con0 p.con2 (row_bits line x) held p.palette plain
    ∙ ap (λ (n : ℕ). playfield_colour p.con0 p.con2 n held p.palette) (row_counted line p.loads x p.con0 stands within)
    ∙ sym (pixel_by v x held column p true at is)

pub held_pixel : (v x held column : ℕ) (p : Denise) (line : Line) → x / 2 ≡ column → x < 1024 → is_inside v column p.diwstrt p.diwstop ≡ true →
    IsLineOf line p.loads → is_held p.con0 ≡ true →
    modified (ink_number p.con0 p.con2 (row_bits line x)) held p.palette ≡ pixel_colour v x held p
held_pixel v x held column p line at within is stands holds =
    held_colour p.con0 p.con2 (row_bits line x) held p.palette holds
    ∙ ap (λ (n : ℕ). playfield_colour p.con0 p.con2 n held p.palette) (row_counted line p.loads x p.con0 stands within)
    ∙ sym (pixel_by v x held column p true at is)

-- the two pixels of a column
pub border_column : (v column : ℕ) (now : Painter) (p : Denise) → IsPainterOf now p → is_inside v column now.window.diwstrt now.window.diwstop ≡ false →
    (slice_index now.inks.palette 0 ≡ first_colour v column p) × (slice_index now.inks.palette 0 ≡ second_colour v column p)
unfolding first_colour second_colour
border_column v column now p stands is =
    let outside : is_inside v column p.diwstrt p.diwstop ≡ false = rw (stands.diwstrt, stands.diwstop) is in
    rw (← stands.palette) (
      border_pixel v (2 * column) p.held.0 column p (omega arith) outside,
      border_pixel v (2 * column + 1) (first_colour v column p) column p (omega arith) outside,
    )

pub ink_column : (v column : ℕ) (now : Painter) (p : Denise) → IsPainterOf now p → column ≤ 455 →
    is_inside v column now.window.diwstrt now.window.diwstop ≡ true → is_held now.inks.con0 ≡ false →
    (ink_at now.inks now.line (2 * column) ≡ first_colour v column p) × (ink_at now.inks now.line (2 * column + 1) ≡ second_colour v column p)
unfolding first_colour second_colour ink_at
ink_column v column now p stands room is free =
    let inside : is_inside v column p.diwstrt p.diwstop ≡ true = rw (stands.diwstrt, stands.diwstop) is in
    let plain : is_held p.con0 ≡ false = ap is_held stands.con0 ∙ free in
    rw (← stands.palette, ← stands.con0, ← stands.con2) (
      ink_pixel v (2 * column) p.held.0 column p now.line (omega arith) (omega arith) inside stands.line plain,
      ink_pixel v (2 * column + 1) (first_colour v column p) column p now.line (omega arith) (omega arith) inside stands.line plain,
    )

pub held_column : (v column : ℕ) (now : Painter) (p : Denise) → IsPainterOf now p → column ≤ 455 →
    is_inside v column now.window.diwstrt now.window.diwstop ≡ true → is_held now.inks.con0 ≡ true →
    (modified_at now.inks now.line (2 * column) p.held.0 ≡ first_colour v column p)
    × (modified_at now.inks now.line (2 * column + 1) (first_colour v column p) ≡ second_colour v column p)
unfolding first_colour second_colour modified_at
held_column v column now p stands room is holds =
    let inside : is_inside v column p.diwstrt p.diwstop ≡ true = rw (stands.diwstrt, stands.diwstop) is in
    let held : is_held p.con0 ≡ true = ap is_held stands.con0 ∙ holds in
    rw (← stands.palette, ← stands.con0, ← stands.con2) (
      held_pixel v (2 * column) p.held.0 column p now.line (omega arith) (omega arith) inside stands.line held,
      held_pixel v (2 * column + 1) (first_colour v column p) column p now.line (omega arith) (omega arith) inside stands.line held,
    )

-- the four pixels of a clock are those of two columns
pub record HasColumns (v h : ℕ) (p : Denise) : Type 0 where
  pub first : first_colour v (2 * h) p ≡ held_after v h 1 p
  pub second : second_colour v (2 * h) p ≡ held_after v h 2 p
  pub third : first_colour v (2 * h + 1) (with_held (second_colour v (2 * h) p) p) ≡ held_after v h 3 p
  pub fourth : second_colour v (2 * h + 1) (with_held (second_colour v (2 * h) p) p) ≡ held_after v h 4 p

pub columns_of : (v h : ℕ) (p : Denise) → HasColumns v h p
unfolding first_colour second_colour pixel_colour held_after
columns_of v h p =
    let zeroth : 2 * (2 * h) ≡ 4 * h + 0 = omega arith in
    let next : 4 * h + 0 + 1 ≡ 4 * h + 1 = omega arith in
    let then_ : 2 * (2 * h + 1) ≡ 4 * h + 2 = omega arith in
    let last : 4 * h + 2 + 1 ≡ 4 * h + 3 = omega arith in
    record {
      first = rw zeroth;
      second = rw (zeroth, next);
      third = rw (zeroth, next, then_);
      fourth = rw (zeroth, next, then_, last);
    }

-- what is written into four places
pub four_written : (into : List (List ℕ)) (a b c d : List ℕ) → length into ≡ 4 →
    slice_set (slice_set (slice_set (slice_set into 0 a) (0 + 1) b) 2 c) (2 + 1) d ≡ a ∷ b ∷ c ∷ d ∷ []
four_written (w ∷ x ∷ y ∷ z ∷ []) a b c d is = refl
four_written [] a b c d is = cc
four_written (w ∷ []) a b c d is = absurd (omega arith)
four_written (w ∷ x ∷ []) a b c d is = absurd (omega arith)
four_written (w ∷ x ∷ y ∷ []) a b c d is = absurd (omega arith)
four_written (w ∷ x ∷ y ∷ z ∷ more ∷ rest) a b c d is = absurd (omega arith)

pub two_written : (into : List (List ℕ)) (at a b c d : ℕ) → a ≡ c → b ≡ d →
    slice_set (slice_set into at (colour_bytes a)) (at + 1) (colour_bytes b) ≡ slice_set (slice_set into at (colour_bytes c)) (at + 1) (colour_bytes d)
two_written into at a b c d left right = rw (left, right)

pub clock_written : (v h : ℕ) (p : Denise) (into left right : List (List ℕ)) → length into ≡ 4 →
    left ≡ slice_set (slice_set into 0 (colour_bytes (first_colour v (2 * h) p))) (0 + 1) (colour_bytes (second_colour v (2 * h) p)) →
    right ≡ slice_set (slice_set left 2 (colour_bytes (first_colour v (2 * h + 1) (with_held (second_colour v (2 * h) p) p))))
    (2 + 1) (colour_bytes (second_colour v (2 * h + 1) (with_held (second_colour v (2 * h) p) p))) →
    right ≡ clock_bytes v h p
clock_written v h p into left right long first second =
    let is : HasColumns v h p = columns_of v h p in
    let next : Denise = with_held (second_colour v (2 * h) p) p in
    second
    ∙ two_written left 2 _ _ _ _ is.third is.fourth
    ∙ ap (λ (l : List (List ℕ)). slice_set (slice_set l 2 (colour_bytes (held_after v h 3 p))) (2 + 1) (colour_bytes (held_after v h 4 p)))
    (first ∙ two_written into 0 _ _ _ _ is.first is.second)
    ∙ four_written into _ _ _ _ long

-- what the bits make of a held colour that is known by another name
pub next_modified : (inks : InkRegisters) (line : Line) (x first held second : ℕ) → first ≡ held → modified_at inks line x held ≡ second →
    modified_at inks line x first ≡ second
next_modified inks line x first held second same is = ap (modified_at inks line x) same ∙ is

-- a painter that holds another colour stands for the picture state that does
pub with_held_stands : (now : Painter) (p : Denise) (bytes : List ℕ) (colour : ℕ) → IsPainterOf now p → bytes ≡ colour_bytes colour →
    IsPainterOf (record now { held = bytes }) (with_held colour p)
with_held_stands now p bytes colour stands is = record {
  palette = stands.palette;
  con0 = stands.con0;
  con1 = stands.con1;
  con2 = stands.con2;
  diwstrt = stands.diwstrt;
  diwstop = stands.diwstop;
  clxcon = stands.clxcon;
  latches = stands.latches;
  pos = stands.pos;
  ctl = stands.ctl;
  words_a = stands.words_a;
  words_b = stands.words_b;
  armed = stands.armed;
  runs = stands.runs;
  line = stands.line;
  held = is;
}

-- the last of two places that are written
pub last_written : (into : List (List ℕ)) (at : ℕ) (a b d : List ℕ) → length into ≡ 4 → at ≤ 2 →
    get_or (slice_set (slice_set into at a) (at + 1) b) (at + 1) d ≡ b
last_written into at a b d long le =
    let same : length (set into at a) ≡ 4 = length-set into at a ∙ long in
    get_or-set_same (set into at a) (at + 1) b d (omega arith)

-- the four pixels of a clock whose two columns are both inside the display window
pub ink_clock : (v h : ℕ) (now : Painter) (p : Denise) → IsPainterOf now p → h ≤ 227 →
    is_inside v (2 * h) now.window.diwstrt now.window.diwstop ≡ true → is_inside v (2 * h + 1) now.window.diwstrt now.window.diwstop ≡ true →
    is_held now.inks.con0 ≡ false → (into left right : List (List ℕ)) → length into ≡ 4 →
    left ≡ slice_set (slice_set into 0 (colour_bytes (ink_at now.inks now.line (2 * (2 * h)))))
    (0 + 1) (colour_bytes (ink_at now.inks now.line (2 * (2 * h) + 1))) →
    right ≡ slice_set (slice_set left 2 (colour_bytes (ink_at now.inks now.line (2 * (2 * h + 1)))))
    (2 + 1) (colour_bytes (ink_at now.inks now.line (2 * (2 * h + 1) + 1))) →
    right ≡ clock_bytes v h p
ink_clock v h now p stands room inside after free into left right long first second =
    let colour : ℕ = second_colour v (2 * h) p in
    let later : IsPainterOf (record now { held = colour_bytes (second_colour v (2 * h) p) }) (with_held (second_colour v (2 * h) p) p) =
    with_held_stands now p (colour_bytes colour) colour stands refl in
    let one = ink_column v (2 * h) now p stands (omega arith) inside free in
    let two = ink_column v (2 * h + 1) (record now { held = colour_bytes (second_colour v (2 * h) p) }) (with_held (second_colour v (2 * h) p) p)
    later (omega arith) after free in
    clock_written v h p into left right long
    (first ∙ two_written into 0 _ _ _ _ one.0 one.1) (second ∙ two_written left 2 _ _ _ _ two.0 two.1)

pub held_clock : (v h : ℕ) (now : Painter) (p : Denise) → IsPainterOf now p → h ≤ 227 →
    is_inside v (2 * h) now.window.diwstrt now.window.diwstop ≡ true → is_inside v (2 * h + 1) now.window.diwstrt now.window.diwstop ≡ true →
    is_held now.inks.con0 ≡ true → (into left right : List (List ℕ)) → length into ≡ 4 →
    left ≡ slice_set (slice_set into 0 (colour_bytes (modified_at now.inks now.line (2 * (2 * h)) p.held.0)))
    (0 + 1) (colour_bytes (modified_at now.inks now.line (2 * (2 * h) + 1) (modified_at now.inks now.line (2 * (2 * h)) p.held.0))) →
    ((colour : ℕ) → modified_at now.inks now.line (2 * (2 * h) + 1) (modified_at now.inks now.line (2 * (2 * h)) p.held.0) ≡ colour →
    right ≡ slice_set (slice_set left 2 (colour_bytes (modified_at now.inks now.line (2 * (2 * h + 1)) colour)))
    (2 + 1) (colour_bytes (modified_at now.inks now.line (2 * (2 * h + 1) + 1) (modified_at now.inks now.line (2 * (2 * h + 1)) colour)))) →
    right ≡ clock_bytes v h p
held_clock v h now p stands room inside after holds into left right long first second =
    let colour : ℕ = second_colour v (2 * h) p in
    let later : IsPainterOf (record now { held = colour_bytes (second_colour v (2 * h) p) }) (with_held (second_colour v (2 * h) p) p) =
    with_held_stands now p (colour_bytes colour) colour stands refl in
    let one = held_column v (2 * h) now p stands (omega arith) inside holds in
    let two = held_column v (2 * h + 1) (record now { held = colour_bytes (second_colour v (2 * h) p) }) (with_held (second_colour v (2 * h) p) p)
    later (omega arith) after holds in
    let same = next_modified now.inks now.line (2 * (2 * h) + 1) _ _ _ one.0 one.1 in
    clock_written v h p into left right long
    (first ∙ two_written into 0 _ _ _ _ one.0 same)
    (second colour same ∙ two_written left 2 _ _ _ _ two.0 (next_modified now.inks now.line (2 * (2 * h + 1) + 1) _ _ _ two.0 two.1))

-- the ink of no plane's bit is COLOR00
dual_zero : (con2 : ℕ) → dual_number con2 0 ≡ 0
dual_zero con2 = either (is_set 6 con2)
  where
    either : (front : Bool) → (if (if front then false else true) then zero else zero) ≡ zero
    either true = refl
    either false = refl

number_zero : (con0 con2 : ℕ) → ink_number con0 con2 0 ≡ 0
number_zero con0 con2 =
    ap (λ (n : ℕ). if is_dual_playfield con0 then dual_number con2 n else n) (zero-mod (2 ^ planes_of con0)) ∙ either (is_dual_playfield con0)
  where
    either : (dual : Bool) → (if dual then dual_number con2 0 else 0) ≡ 0
    either true = dual_zero con2
    either false = refl

-- a column inside the display window where no plane shows a bit
blank_by : (v column : ℕ) (now : Painter) (p : Denise) → IsPainterOf now p → column ≤ 455 →
    is_inside v column now.window.diwstrt now.window.diwstop ≡ true → row_bits now.line (2 * column) ≡ 0 → row_bits now.line (2 * column + 1) ≡ 0 →
    (b : Bool) → is_held now.inks.con0 ≡ b →
    (slice_index now.inks.palette 0 ≡ first_colour v column p) × (slice_index now.inks.palette 0 ≡ second_colour v column p)
unfolding ink_at modified_at
blank_by v column now p stands room is first second false free =
    let both = ink_column v column now p stands room is free in
    let palette = now.inks.palette in
    let zeroth = number_zero now.inks.con0 now.inks.con2 in
    let ink_of = λ (bits : ℕ). ink now.inks.palette (ink_number now.inks.con0 now.inks.con2 bits) in
    let none : slice_index now.inks.palette 0 ≡ ink now.inks.palette (ink_number now.inks.con0 now.inks.con2 0) = ap (ink palette) (sym zeroth) in
    (none ∙ ap ink_of (sym first) ∙ both.0, none ∙ ap ink_of (sym second) ∙ both.1)
blank_by v column now p stands room is first second true holds =
    let both = held_column v column now p stands room is holds in
    let palette = now.inks.palette in
    let zeroth = number_zero now.inks.con0 now.inks.con2 in
    let colour = λ (held bits : ℕ). modified (ink_number now.inks.con0 now.inks.con2 bits) held now.inks.palette in
    let none : (held : ℕ) → slice_index now.inks.palette 0 ≡ modified (ink_number now.inks.con0 now.inks.con2 0) held now.inks.palette =
    λ (held : ℕ). ap (λ (n : ℕ). modified n held palette) (sym zeroth) in (
      none p.held.0 ∙ ap (colour p.held.0) (sym first) ∙ both.0,
      none (first_colour v column p) ∙ ap (colour (first_colour v column p)) (sym second) ∙ both.1,
    )

blank_column : (v column : ℕ) (now : Painter) (p : Denise) → IsPainterOf now p → column ≤ 455 →
    is_inside v column now.window.diwstrt now.window.diwstop ≡ true → row_bits now.line (2 * column) ≡ 0 → row_bits now.line (2 * column + 1) ≡ 0 →
    (slice_index now.inks.palette 0 ≡ first_colour v column p) × (slice_index now.inks.palette 0 ≡ second_colour v column p)
blank_column v column now p stands room is first second =
    blank_by v column now p stands room is first second (is_held now.inks.con0) refl

-- a clock whose two columns show COLOR00 alone: both are outside the display window, or both inside it with no plane's bit
backdrop_by : (v h colour : ℕ) (p : Denise) → colour ≡ first_colour v (2 * h) p → colour ≡ second_colour v (2 * h) p →
    colour ≡ first_colour v (2 * h + 1) (with_held (second_colour v (2 * h) p) p) →
    colour ≡ second_colour v (2 * h + 1) (with_held (second_colour v (2 * h) p) p) → replicate 4 (colour_bytes colour) ≡ clock_bytes v h p
backdrop_by v h colour p a b c d =
    let is : HasColumns v h p = columns_of v h p in
    four_alike colour _ _ _ _ (a ∙ is.first) (b ∙ is.second) (c ∙ is.third) (d ∙ is.fourth)
  where
    four_alike : (n a b c d : ℕ) → n ≡ a → n ≡ b → n ≡ c → n ≡ d →
        replicate 4 (colour_bytes n) ≡ colour_bytes a ∷ colour_bytes b ∷ colour_bytes c ∷ colour_bytes d ∷ []
    four_alike n a b c d one two three four = rw (← one, ← two, ← three, ← four) refl

pub border_clock : (v h : ℕ) (now : Painter) (p : Denise) → IsPainterOf now p →
    is_inside v (2 * h) now.window.diwstrt now.window.diwstop ≡ false → is_inside v (2 * h + 1) now.window.diwstrt now.window.diwstop ≡ false →
    backdrop now.inks.palette ≡ clock_bytes v h p
border_clock v h now p stands outside after =
    let colour : ℕ = second_colour v (2 * h) p in
    let later : IsPainterOf (record now { held = colour_bytes (second_colour v (2 * h) p) }) (with_held (second_colour v (2 * h) p) p) =
    with_held_stands now p (colour_bytes colour) colour stands refl in
    let one = border_column v (2 * h) now p stands outside in
    let two = border_column v (2 * h + 1) (record now { held = colour_bytes (second_colour v (2 * h) p) }) (with_held (second_colour v (2 * h) p) p)
    later after in
    backdrop_by v h (slice_index now.inks.palette 0) p one.0 one.1 two.0 two.1

-- any column
any_by : (v column : ℕ) (now : Painter) (p : Denise) → IsPainterOf now p → column ≤ 455 → row_bits now.line (2 * column) ≡ 0 →
    row_bits now.line (2 * column + 1) ≡ 0 → (b : Bool) → is_inside v column now.window.diwstrt now.window.diwstop ≡ b →
    (slice_index now.inks.palette 0 ≡ first_colour v column p) × (slice_index now.inks.palette 0 ≡ second_colour v column p)
any_by v column now p stands room first second true is = blank_column v column now p stands room is first second
any_by v column now p stands room first second false is = border_column v column now p stands is

-- no plane shows a bit
pub unset_clock : (v h : ℕ) (now : Painter) (p : Denise) → IsPainterOf now p → h ≤ 227 → ((x : ℕ) → 4 * h ≤ x → row_bits now.line x ≡ 0) →
    backdrop now.inks.palette ≡ clock_bytes v h p
unset_clock v h now p stands room blank =
    let colour : ℕ = second_colour v (2 * h) p in
    let later : IsPainterOf (record now { held = colour_bytes (second_colour v (2 * h) p) }) (with_held (second_colour v (2 * h) p) p) =
    with_held_stands now p (colour_bytes colour) colour stands refl in
    let one = any_by v (2 * h) now p stands (omega arith) (blank (2 * (2 * h)) (omega arith)) (blank (2 * (2 * h) + 1) (omega arith))
    (is_inside v (2 * h) now.window.diwstrt now.window.diwstop) refl in
    let two = any_by v (2 * h + 1) (record now { held = colour_bytes (second_colour v (2 * h) p) }) (with_held (second_colour v (2 * h) p) p)
    later (omega arith) (blank (2 * (2 * h + 1)) (omega arith)) (blank (2 * (2 * h + 1) + 1) (omega arith))
    (is_inside v (2 * h + 1) now.window.diwstrt now.window.diwstop) refl in
    backdrop_by v h (slice_index now.inks.palette 0) p one.0 one.1 two.0 two.1

-- what such a clock leaves
pub backdrop_stands : (v h : ℕ) (now next : Painter) (p : Denise) → IsPainterOf now p → backdrop now.inks.palette ≡ clock_bytes v h p →
    next ≡ record now { held = colour_bytes (slice_index now.inks.palette 0) } → IsPainterOf next (with_held (held_after v h 4 p) p)
backdrop_stands v h now next p stands same is =
    subst (λ (painter : Painter). IsPainterOf painter (with_held (held_after v h 4 p) p)) (sym is)
    (with_held_stands now p (colour_bytes (slice_index now.inks.palette 0)) (held_after v h 4 p) stands
    (ap (λ (l : List (List ℕ)). get_or l 3 []) same))
