-- Clocks of hold and modify, one behind the other.
use Rattle.std.proofs.Common.{◌≡◌, ℕ, zero, suc, ◌+◌, ◌*◌, ◌/◌, ◌≤◌, ◌<◌, true, List, [], ◌∷◌, ◌++◌, length, slice_set, flat_map}
use Rattle.std.proofs.Common.{refl, sym, ◌∙◌, ap, subst, arith, add_assoc, add-zero, bit_or}
use Rattle.ocs_base.specs.declared.system.System.{System}
use Rattle.ocs_base.specs.Systems.{is_visible}
use Rattle.serial_model.specs.declared.picture.Denise.{Denise}
use Rattle.serial_model.specs.Picture.{step_of, held_after, pixel_colour, colour_bytes}
use Rattle.serial_model.specs.Spans.{after_shows, shown_bytes}
use Rattle.serial_model.specs.Window.{is_inside}
use Rattle.plane_rows.specs.declared.line.Line.{Line}
use Rattle.painter.specs.declared.painter.Painter.{Painter}
use Rattle.painter.specs.Painter.{IsPainterOf, clock_bytes}
use Rattle.painter.specs.Inks.{InkRegisters, is_held, ink_number}
use Rattle.plane_rows.specs.Line.{row_bits, ArePaired}
use Rattle.painter.specs.code.Pixels.{modified_at, modified_along, modified_pixels, all_modified}
use Rattle.painter.specs.Span.{IsSpan}
use Rattle.painter.specs.SpanParts.{bytes_of_clocks, quiet_gathered, AreInside, AreModified}
use Rattle.priority_ham.specs.PixelColour.{modified}
use Rattle.painter.proofs.Showing.{held_pixel, four_written, with_held_stands}
use Rattle.painter.proofs.Clocks.{quiet_shown, quiet_stands, gathered_of}
use Rattle.painter.proofs.Colours.{modified_again}
use Rattle.painter.proofs.Pairs.{first_pair, second_pair}

-- so many positions, and so many more
pub along_more : (inks : InkRegisters) (line : Line) (x colour m n : ℕ) →
    modified_along inks line x colour (m + n) ≡ modified_along inks line (x + m) (modified_along inks line x colour m) n
unfolding modified_along
along_more inks line x colour m zero = ap (modified_along inks line x colour) (add-zero m)
along_more inks line x colour m (suc n) =
    let next : m + suc n ≡ suc (m + n) = omega arith in
    ap (modified_along inks line x colour) next
    ∙ ap (λ (k : ℕ). modified_at inks line k (modified_along inks line x colour (m + n))) (sym (add_assoc x m n))
    ∙ ap (modified_at inks line (x + m + n)) (along_more inks line x colour m n)

-- inside a clock
half_place : (h n : ℕ) → n < 2 → (4 * h + n) / 2 ≡ 2 * h
half_place h n lt = omega (arith, lt)

later_place : (h n : ℕ) → 2 ≤ n → n < 4 → (4 * h + n) / 2 ≡ 2 * h + 1
later_place h n le lt = omega (arith, le, lt)

one_along : (v h n column : ℕ) (now : Painter) (p : Denise) → IsPainterOf now p → h ≤ 227 → n < 4 → (4 * h + n) / 2 ≡ column →
    is_inside v column now.window.diwstrt now.window.diwstop ≡ true → is_held now.inks.con0 ≡ true → (held : ℕ) →
    pixel_colour v (4 * h + n) held p ≡ modified_at now.inks now.line (4 * h + n) held
unfolding modified_at
one_along v h n column now p stands room few place inside holds held =
    let within : is_inside v column p.diwstrt p.diwstop ≡ true = rw (stands.diwstrt, stands.diwstop) inside in
    let is : is_held p.con0 ≡ true = ap is_held stands.con0 ∙ holds in
    sym (held_pixel v (4 * h + n) held column p now.line place (omega (arith, room, few)) within stands.line is)
    ∙ ap (λ (palette : List ℕ). modified (ink_number p.con0 p.con2 (row_bits now.line (4 * h + n))) held palette) stands.palette
    ∙ ap (λ (con0 : ℕ). modified (ink_number con0 p.con2 (row_bits now.line (4 * h + n))) held now.inks.palette) stands.con0
    ∙ ap (λ (con2 : ℕ). modified (ink_number now.inks.con0 con2 (row_bits now.line (4 * h + n))) held now.inks.palette) stands.con2

-- the colours that a clock holds, one behind the other
pub record IsAlong (v h : ℕ) (now : Painter) (p : Denise) : Type 0 where
  pub one : held_after v h 1 p ≡ modified_along now.inks now.line (4 * h) p.held.0 1
  pub two : held_after v h 2 p ≡ modified_along now.inks now.line (4 * h) p.held.0 2
  pub three : held_after v h 3 p ≡ modified_along now.inks now.line (4 * h) p.held.0 3
  pub four : held_after v h 4 p ≡ modified_along now.inks now.line (4 * h) p.held.0 4

next_along : (v h n column before : ℕ) (now : Painter) (p : Denise) → IsPainterOf now p → h ≤ 227 → n < 4 → (4 * h + n) / 2 ≡ column →
    is_inside v column now.window.diwstrt now.window.diwstop ≡ true → is_held now.inks.con0 ≡ true → held_after v h n p ≡ before →
    held_after v h (suc n) p ≡ modified_at now.inks now.line (4 * h + n) before
unfolding held_after
next_along v h n column before now p stands room few place inside holds is =
    ap (λ (held : ℕ). pixel_colour v (4 * h + n) held p) is ∙ one_along v h n column now p stands room few place inside holds before

none_held : (v h : ℕ) (p : Denise) → held_after v h 0 p ≡ p.held.0
unfolding held_after
none_held v h p = refl

pub clock_along : (v h : ℕ) (now : Painter) (p : Denise) → IsPainterOf now p → h ≤ 227 →
    is_inside v (2 * h) now.window.diwstrt now.window.diwstop ≡ true → is_inside v (2 * h + 1) now.window.diwstrt now.window.diwstop ≡ true →
    is_held now.inks.con0 ≡ true → IsAlong v h now p
unfolding modified_along
clock_along v h now p stands room first second holds =
    let one : held_after v h 1 p ≡ modified_along now.inks now.line (4 * h) p.held.0 1 =
    next_along v h 0 (2 * h) p.held.0 now p stands room (omega arith) (half_place h 0 (omega arith)) first holds (none_held v h p) in
    let two : held_after v h 2 p ≡ modified_along now.inks now.line (4 * h) p.held.0 2 =
    next_along v h 1 (2 * h) _ now p stands room (omega arith) (half_place h 1 (omega arith)) first holds one in
    let three : held_after v h 3 p ≡ modified_along now.inks now.line (4 * h) p.held.0 3 =
    next_along v h 2 (2 * h + 1) _ now p stands room (omega arith) (later_place h 2 (omega arith) (omega arith)) second holds two in
    record {
      one = one;
      two = two;
      three = three;
      four = next_along v h 3 (2 * h + 1) _ now p stands room (omega arith) (later_place h 3 (omega arith) (omega arith)) second holds three;
    }

four_same : (a b c d e f g i : ℕ) → a ≡ e → b ≡ f → c ≡ g → d ≡ i →
    colour_bytes a ∷ colour_bytes b ∷ colour_bytes c ∷ colour_bytes d ∷ []
    ≡ colour_bytes e ∷ colour_bytes f ∷ colour_bytes g ∷ colour_bytes i ∷ []
four_same a b c d e f g i one two three four = rw (one, two, three, four) refl

modified_bytes : (v h colour : ℕ) (now : Painter) (p : Denise) → IsPainterOf now p → h ≤ 227 →
    is_inside v (2 * h) now.window.diwstrt now.window.diwstop ≡ true → is_inside v (2 * h + 1) now.window.diwstrt now.window.diwstop ≡ true →
    is_held now.inks.con0 ≡ true → p.held.0 ≡ colour → modified_pixels now.inks now.line (4 * h) colour ≡ clock_bytes v h p
modified_bytes v h colour now p stands room first second holds is =
    let along : IsAlong v h now p = clock_along v h now p stands room first second holds in
    ap (modified_pixels now.inks now.line (4 * h)) (sym is)
    ∙ four_same _ _ _ _ _ _ _ _ (sym along.one) (sym along.two) (sym along.three) (sym along.four)

-- the first k clocks: what they leave, and their bytes
pub record AreAlong (system : System) (v h k colour : ℕ) (now : Painter) (p : Denise) : Type 0 where
  pub held : (after_shows system v h k p).held.0 ≡ modified_along now.inks now.line (4 * h) colour (4 * k)
  pub painted : IsPainterOf (record now { held = colour_bytes (modified_along now.inks now.line (4 * h) colour (4 * k)) }) (after_shows system v h k p)
  pub bytes : ((j : ℕ) → j < k → is_visible system v (h + j) ≡ true) →
      bytes_of_clocks (all_modified now.inks now.line (4 * h) colour) k ≡ shown_bytes system v h k p

place_of : (h k : ℕ) → 4 * (h + k) ≡ 4 * h + 4 * k
place_of h k = omega arith

next_four : (k : ℕ) → 4 * k + 4 ≡ 4 * suc k
next_four k = omega arith

pub clocks_along : (system : System) (v h n : ℕ) (now : Painter) (p : Denise) → AreInside v h n now → h + n ≤ 228 →
    is_held now.inks.con0 ≡ true → IsPainterOf now p → (k : ℕ) → k ≤ n → AreAlong system v h k p.held.0 now p
unfolding modified_along after_shows bytes_of_clocks shown_bytes step_of
clocks_along system v h n now p are room holds stands zero le = record {
  held = refl;
  painted = with_held_stands now p (colour_bytes p.held.0) p.held.0 stands refl;
  bytes = λ seen. refl;
}
clocks_along system v h n now p are room holds stands (suc k) le =
    let so_far : AreAlong system v h k p.held.0 now p = clocks_along system v h n now p are room holds stands k (omega arith) in
    let colour : ℕ = modified_along now.inks now.line (4 * h) p.held.0 (4 * k) in
    let held : Painter = record now { held = colour_bytes (modified_along now.inks now.line (4 * h) p.held.0 (4 * k)) } in
    let q : Denise = after_shows system v h k p in
    let first = are.first k (omega arith) in
    let second = are.second k (omega arith) in
    let shown : all_modified now.inks now.line (4 * h) p.held.0 k ≡ clock_bytes v (h + k) (after_shows system v h k p) =
    ap (λ (x : ℕ). modified_pixels now.inks now.line x (modified_along now.inks now.line (4 * h) p.held.0 (4 * k))) (sym (place_of h k))
    ∙ modified_bytes v (h + k) colour held q so_far.painted (omega (arith, room, le)) first second holds so_far.held in
    let more : modified_along now.inks now.line (4 * h + 4 * k) (modified_along now.inks now.line (4 * h) p.held.0 (4 * k)) 4
    ≡ modified_along now.inks now.line (4 * h) p.held.0 (4 * suc k) =
    sym (along_more now.inks now.line (4 * h) p.held.0 (4 * k) 4)
    ∙ ap (modified_along now.inks now.line (4 * h) p.held.0) (next_four k) in
    record {
      held = (clock_along v (h + k) held q so_far.painted (omega (arith, room, le)) first second holds).four
          ∙ ap (λ (c : ℕ). modified_along now.inks now.line (4 * (h + k)) c 4) so_far.held
          ∙ ap (λ (x : ℕ). modified_along now.inks now.line x (modified_along now.inks now.line (4 * h) p.held.0 (4 * k)) 4) (place_of h k)
          ∙ more;
      painted = subst (λ (c : ℕ). IsPainterOf (record now { held = colour_bytes c }) (after_shows system v h (suc k) p)) more
          (quiet_stands system v (h + k) held q (all_modified now.inks now.line (4 * h) p.held.0 k) so_far.painted (are.idle k (omega arith)) shown);
      bytes = λ seen.
          ap (λ (l : List ℕ). l ++ flat_map (λ (x : List ℕ). x) (all_modified now.inks now.line (4 * h) p.held.0 k))
          (so_far.bytes (λ j lt. seen j (omega (arith, lt))))
          ∙ ap (λ (l : List ℕ). shown_bytes system v h k p ++ l)
          (quiet_shown system v (h + k) held q (all_modified now.inks now.line (4 * h) p.held.0 k) so_far.painted (are.idle k (omega arith)) shown
          (seen k (omega arith)));
    }

pub modified_span : (system : System) (v h n : ℕ) (now new : Painter) (p : Denise) (before after : List ℕ) (old clx : ℕ) →
    AreInside v h n now → h + n ≤ 228 → is_held now.inks.con0 ≡ true → ((k : ℕ) → k < n → is_visible system v (h + k) ≡ true) →
    IsPainterOf now p → AreModified h n p.held.0 now new before after → clx ≡ bit_or old (quiet_gathered v h n p) →
    IsSpan system v h n p new before after old clx
modified_span system v h n now new p before after old clx are room holds seen stands is bits =
    let along = clocks_along system v h n now p are room holds stands in
    record {
      painted = subst (λ (painter : Painter). IsPainterOf painter (after_shows system v h n p)) (sym is.painted) (along n (omega arith)).painted;
      bytes = is.bytes ∙ ap (λ (l : List ℕ). before ++ l) ((along n (omega arith)).bytes seen);
      bits = bits ∙ ap (bit_or old)
          (gathered_of system v h n now (λ (k : ℕ). colour_bytes (modified_along now.inks now.line (4 * h) p.held.0 (4 * k))) p
          are.idle (λ k le. (along k le).painted) n (omega arith));
    }

-- what the code leaves of four positions
pub four_modified : (inks : InkRegisters) (line : Line) (x colour : ℕ) (into left right : List (List ℕ)) → length into ≡ 4 →
    left ≡ slice_set (slice_set into 0 (colour_bytes (modified_along inks line x colour 1))) (0 + 1) (colour_bytes (modified_along inks line x colour 2)) →
    right ≡ slice_set (slice_set left 2 (colour_bytes (modified_along inks line x colour 3))) (2 + 1) (colour_bytes (modified_along inks line x colour 4)) →
    right ≡ modified_pixels inks line x colour
four_modified inks line x colour into left right long first second =
    second
    ∙ ap (λ (l : List (List ℕ)). slice_set (slice_set l 2 (colour_bytes (modified_along inks line x colour 3)))
    (2 + 1) (colour_bytes (modified_along inks line x colour 4))) first
    ∙ four_written into _ _ _ _ long

-- clock by clock
pub none_along : (inks : InkRegisters) (line : Line) (x colour : ℕ) → colour ≡ modified_along inks line x colour (4 * 0)
unfolding modified_along
none_along inks line x colour = refl

pub clock_more : (inks : InkRegisters) (line : Line) (x colour k : ℕ) →
    modified_along inks line (x + 4 * k) (modified_along inks line x colour (4 * k)) 4 ≡ modified_along inks line x colour (4 * (k + 1))
clock_more inks line x colour k =
    let next : 4 * k + 4 ≡ 4 * (k + 1) = omega arith in
    sym (along_more inks line x colour (4 * k) 4) ∙ ap (modified_along inks line x colour) next

-- what the code makes of them, two by two
pub one_modified : (inks : InkRegisters) (line : Line) (x colour : ℕ) → modified_at inks line x colour ≡ modified_along inks line x colour 1
unfolding modified_along
one_modified inks line x colour = ap (λ (k : ℕ). modified_at inks line k colour) (sym (add-zero x))

pub two_modified : (inks : InkRegisters) (line : Line) (x colour : ℕ) →
    modified_at inks line (x + 1) (modified_at inks line x colour) ≡ modified_along inks line x colour 2
unfolding modified_along
two_modified inks line x colour = ap (modified_at inks line (x + 1)) (one_modified inks line x colour)

pub three_modified : (inks : InkRegisters) (line : Line) (x colour : ℕ) →
    modified_at inks line (x + 2) (modified_along inks line x colour 2) ≡ modified_along inks line x colour 3
unfolding modified_along
three_modified inks line x colour = refl

pub last_modified : (inks : InkRegisters) (line : Line) (x colour : ℕ) →
    modified_at inks line (x + 2 + 1) (modified_at inks line (x + 2) (modified_along inks line x colour 2)) ≡ modified_along inks line x colour 4
unfolding modified_along
last_modified inks line x colour =
    let place : x + 2 + 1 ≡ x + 3 = omega arith in
    ap (λ (k : ℕ). modified_at inks line k (modified_at inks line (x + 2) (modified_along inks line x colour 2))) place

-- where two positions have the same bits, the second makes nothing new
pub pair_along : (inks : InkRegisters) (line : Line) (x colour : ℕ) → row_bits line x ≡ row_bits line (x + 1) →
    modified_at inks line (x + 1) (modified_at inks line x colour) ≡ modified_at inks line x colour
unfolding modified_at
pair_along inks line x colour pair =
    ap (λ (bits : ℕ). modified (ink_number inks.con0 inks.con2 bits)
    (modified (ink_number inks.con0 inks.con2 (row_bits line x)) colour inks.palette) inks.palette) (sym pair)
    ∙ modified_again (ink_number inks.con0 inks.con2 (row_bits line x)) colour inks.palette

-- and so a clock shows two colours, each two times
pub paired_along : (inks : InkRegisters) (line : Line) (x colour first second : ℕ) → ArePaired line x →
    first ≡ modified_at inks line x colour → second ≡ modified_at inks line (x + 2) first → second ≡ modified_along inks line x colour 4
paired_along inks line x colour first second pairs one two =
    let both : first ≡ modified_along inks line x colour 2 =
    one ∙ sym (pair_along inks line x colour (first_pair line x pairs)) ∙ two_modified inks line x colour in
    let third : second ≡ modified_at inks line (x + 2) (modified_along inks line x colour 2) = two ∙ ap (modified_at inks line (x + 2)) both in
    third
    ∙ sym (pair_along inks line (x + 2) (modified_along inks line x colour 2) (second_pair line x pairs))
    ∙ last_modified inks line x colour

pub paired_modified : (inks : InkRegisters) (line : Line) (x colour first second : ℕ) → ArePaired line x →
    first ≡ modified_at inks line x colour → second ≡ modified_at inks line (x + 2) first →
    colour_bytes first ∷ colour_bytes first ∷ colour_bytes second ∷ colour_bytes second ∷ [] ≡ modified_pixels inks line x colour
paired_modified inks line x colour first second pairs one two =
    let both : first ≡ modified_along inks line x colour 2 =
    one ∙ sym (pair_along inks line x colour (first_pair line x pairs)) ∙ two_modified inks line x colour in
    let third : second ≡ modified_along inks line x colour 3 =
    two ∙ ap (modified_at inks line (x + 2)) both ∙ three_modified inks line x colour in
    four_same _ _ _ _ _ _ _ _ (one ∙ one_modified inks line x colour) both third (paired_along inks line x colour first second pairs one two)

-- the bytes of one clock
pub one_clock : (inks : InkRegisters) (line : Line) (x colour : ℕ) →
    bytes_of_clocks (all_modified inks line x colour) 1 ≡ flat_map (λ (l : List ℕ). l) (modified_pixels inks line x colour)
unfolding bytes_of_clocks modified_along
one_clock inks line x colour =
    ap (λ (k : ℕ). flat_map (λ (l : List ℕ). l) (modified_pixels inks line k colour)) (add-zero x)
