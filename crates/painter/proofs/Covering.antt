-- Sprites over the pixels of clocks inside the display window.
use Rattle.std.proofs.Common.{◌≡◌, ℕ, ◌+◌, ◌*◌, ◌<◌, true, List, Option, length, bit_or, bit_and, refl, sym, ◌∙◌, ap, subst, arith}
use Rattle.sprites.specs.SpriteFront.{front_pixel}
use Rattle.sprites.specs.declared.runs.Start.{Start}
use Rattle.collisions.specs.Collision.{collision_bits}
use Rattle.serial_model.specs.declared.picture.Denise.{Denise}
use Rattle.serial_model.specs.Picture.{runs_at, runs_after, sprite_values, attached_pairs, clock_collisions}
use Rattle.serial_model.specs.Window.{is_inside}
use Rattle.painter.specs.declared.painter.Painter.{Painter}
use Rattle.painter.specs.code.Overlay.{with_runs, shown_bits, covered_column, covered_collisions, clock_over}
use Rattle.painter.specs.Painter.{IsPainterOf}
use Rattle.painter.specs.code.Starts.{IsSteady, IsAlone}
use Rattle.painter.proofs.Overlays.{after_first, after_second, same_runs_stand, runs_same, runs_of, inside_same, attached_same}
use Rattle.painter.proofs.Overlays.{clock_changed, clock_gathered, column_inside, bits_inside}
use Rattle.painter.proofs.Ors.{or_reached, or_both}
use Rattle.painter.proofs.Pairs.{later_pairs}
use Rattle.sprite_rows.specs.LineValues.{pair_byte}
use Rattle.sprite_rows.specs.PairFront.{pixel_of_byte}
use Rattle.sprite_rows.proofs.Standing.{front_alone}
use Rattle.plane_rows.specs.Line.{ArePaired}
use Rattle.painter.specs.code.SpriteState.{attached_in}
use Rattle.painter.specs.code.Steady.{IsSteadyFrom}
use Rattle.painter.specs.declared.show_covered.Steady.{Steady}

-- what collides at the two pixels of a column
pub column_collides : (column first second : ℕ) (now : Painter) (p : Denise) → IsPainterOf now p → first ≡ shown_bits (2 * column) p →
    second ≡ shown_bits (2 * column + 1) p →
    bit_or (collision_bits now.clxcon first (sprite_values column now.sprites.runs)) (collision_bits now.clxcon second (sprite_values column now.sprites.runs))
    ≡ covered_collisions column p
column_collides column first second now p stands one two = rw (one, two, ← stands.clxcon, ← stands.runs) refl

-- where all is gathered that may collide
pub column_reached : (column clx reach : ℕ) (now : Painter) (p : Denise) → IsPainterOf now p →
    ((con bits : ℕ) → bit_or reach (collision_bits con bits (sprite_values column now.sprites.runs)) ≡ reach) →
    bit_and clx reach ≡ reach → clx ≡ bit_or clx (covered_collisions column p)
column_reached column clx reach now p stands within held =
    let all : (con bits : ℕ) → bit_or reach (collision_bits con bits (sprite_values column p.runs)) ≡ reach =
    λ con bits. ap (λ (runs : List (Option Start)). bit_or reach (collision_bits con bits (sprite_values column runs))) stands.runs ∙ within con bits in
    or_reached clx reach (covered_collisions column p) held
    (or_both reach _ _ (all p.clxcon (shown_bits (2 * column) p)) (all p.clxcon (shown_bits (2 * column + 1) p)))

-- a clock at which no words begin
pub steady_first : (h : ℕ) (now : Painter) (p : Denise) → IsPainterOf now p → IsSteady h now.sprites → IsPainterOf now (after_first h p)
steady_first h now p stands is = same_runs_stand now p (runs_at (2 * h) p p.runs) stands (runs_same (2 * h) now p stands ∙ is.first)

pub steady_second : (h : ℕ) (now : Painter) (p : Denise) → IsPainterOf now p → IsSteady h now.sprites → IsPainterOf now (after_second h p)
steady_second h now p stands is =
    let one : IsPainterOf now (after_first h p) = steady_first h now p stands is in
    same_runs_stand now (after_first h p) (runs_at (2 * h + 1) (after_first h p) (runs_at (2 * h) p p.runs)) one
    (runs_same (2 * h + 1) now (after_first h p) one ∙ is.second)

pub steady_runs : (h : ℕ) (now : Painter) (p : Denise) → IsPainterOf now p → IsSteady h now.sprites → IsPainterOf now (with_runs (runs_after h 2 p) p)
steady_runs h now p stands is =
    subst (λ (runs : List (Option Start)). IsPainterOf now (with_runs runs p)) (runs_of h p).both (steady_second h now p stands is)

-- its two columns inside the window
pub steady_pixels : (v h : ℕ) (now : Painter) (p : Denise) (into left right : List (List ℕ)) → IsPainterOf now p → length into ≡ 4 →
    is_inside v (2 * h) now.window.diwstrt now.window.diwstop ≡ true → is_inside v (2 * h + 1) now.window.diwstrt now.window.diwstop ≡ true →
    left ≡ covered_column (2 * h) 0 into (after_first h p) → right ≡ covered_column (2 * h + 1) 2 left (after_second h p) →
    right ≡ clock_over v h into p
steady_pixels v h now p into left right stands four first second one two =
    clock_changed v h p into left right four
    (one ∙ column_inside v (2 * h) 0 into (after_first h p) (inside_same v (2 * h) now p stands ∙ first))
    (two ∙ column_inside v (2 * h + 1) 2 left (after_second h p) (inside_same v (2 * h + 1) now p stands ∙ second))

pub steady_bits : (v h old between new : ℕ) (now : Painter) (p : Denise) → IsPainterOf now p →
    is_inside v (2 * h) now.window.diwstrt now.window.diwstop ≡ true → is_inside v (2 * h + 1) now.window.diwstrt now.window.diwstop ≡ true →
    between ≡ bit_or old (covered_collisions (2 * h) (after_first h p)) → new ≡ bit_or between (covered_collisions (2 * h + 1) (after_second h p)) →
    new ≡ bit_or old (clock_collisions v h p)
steady_bits v h old between new now p stands first second one two =
    clock_gathered v h p old between new
    (one ∙ ap (bit_or old) (bits_inside v (2 * h) (after_first h p) (inside_same v (2 * h) now p stands ∙ first)))
    (two ∙ ap (bit_or between) (bits_inside v (2 * h + 1) (after_second h p) (inside_same v (2 * h + 1) now p stands ∙ second)))

-- what holds of the clocks from one on holds of those from a later one on, and stays where sprites and planes do
pub steady_further : (h k : ℕ) (steady : Steady) (old new : Painter) → new.sprites ≡ old.sprites → new.line ≡ old.line → IsSteadyFrom h steady old
    → IsSteadyFrom (h + k) steady new
steady_further h k steady old new sprites line holds = record {
  attached = holds.attached ∙ ap (λ s. attached_in s) (sym sprites);
  reach = λ x con bits le few.
      ap (λ s. bit_or steady.reach (collision_bits con bits (sprite_values x s.runs))) sprites ∙ holds.reach x con bits (omega (arith, le)) few;
  alone = λ one.
      let before : IsAlone (2 * h) steady.lone old.sprites.runs = holds.alone one in
      record { none = λ q x few other le room. ap (λ s. pair_byte x s.runs q) sprites ∙ before.none q x few other (omega (arith, le)) room };
  pairs = λ paired.
      let place : 4 * h + 4 * k ≡ 4 * (h + k) = omega arith in
      subst (λ (x : ℕ). ArePaired new.line x) place
      (subst (λ l. ArePaired l (4 * h + 4 * k)) (sym line) (later_pairs old.line (4 * h) k (holds.pairs paired)));
}

-- it leaves the words that run as they are
pub steady_same : (h : ℕ) (old new : Painter) → new.sprites ≡ old.sprites → IsSteady h old.sprites → IsSteady h new.sprites
steady_same h old new same is = subst (λ s. IsSteady h s) (sym same) is

-- the pixel in front is that of the one pair
pub front_of_pair : (column pair attached byte : ℕ) (now : Painter) (p : Denise) → IsPainterOf now p → column < 512 → pair < 4 →
    IsAlone column pair now.sprites.runs → attached ≡ attached_in now.sprites → byte ≡ pair_byte column now.sprites.runs pair →
    front_pixel (sprite_values column p.runs) (attached_pairs p) ≡ pixel_of_byte pair byte attached
front_of_pair column pair attached byte now p stands room few alone same is =
    sym (ap (λ (runs : List (Option Start)). front_pixel (sprite_values column runs) attached) (sym stands.runs)
    ∙ ap (front_pixel (sprite_values column p.runs)) (same ∙ attached_same now p stands))
    ∙ front_alone column now.sprites.runs pair attached (omega (arith, few)) (λ q lt other. alone.none q column lt other (omega arith) room)
    ∙ ap (λ (n : ℕ). pixel_of_byte pair n attached) (sym is)
