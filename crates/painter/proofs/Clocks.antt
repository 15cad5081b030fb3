-- Clocks with no sprite near, one behind the other, against the picture steps.
use Rattle.std.proofs.Common.{◌≡◌, ℕ, zero, suc, ◌+◌, ◌-◌, ◌*◌, ◌≤◌, ◌<◌, Bool, true, false, List, [], ◌∷◌, ◌++◌, length, get_or, slice_index, replicate}
use Rattle.std.proofs.Common.{take, flat_map, bit_or, refl, sym, ◌∙◌, ap, subst, arith, append_assoc}
use Rattle.std.specs.Bool.{if◌then◌else◌}
use Rattle.std.proofs.lemmas.List.{append-nil}
use Rattle.ocs_base.specs.declared.system.System.{System}
use Rattle.ocs_base.specs.Systems.{is_visible}
use Rattle.serial_model.specs.declared.picture.Denise.{Denise}
use Rattle.serial_model.specs.Picture.{step_of, after_step, pixels, held_after, runs_after, collisions_at, colour_bytes}
use Rattle.serial_model.specs.Spans.{after_shows, shown_bytes, shown_clx}
use Rattle.painter.specs.declared.painter.Painter.{Painter}
use Rattle.painter.specs.Painter.{IsPainterOf, with_held, clock_bytes}
use Rattle.painter.specs.code.Overlay.{quiet_collisions}
use Rattle.painter.specs.code.Starts.{IsIdle}
use Rattle.painter.specs.Span.{visible_clocks, IsSpan}
use Rattle.painter.specs.SpanParts.{bytes_of_clocks, gathered, held_to, pixels_to, AreClocks, AreInside, all_backdrop, all_inks, ink_pixels, quiet_gathered}
use Rattle.painter.specs.code.Pixels.{ink_at}
use Rattle.painter.specs.Inks.{is_held}
use Rattle.serial_model.specs.Window.{is_inside}
use Rattle.painter.proofs.Showing.{with_held_stands, four_written, ink_clock}
use Rattle.painter.proofs.Overlays.{still_held, still_pixels, clock_shown, clock_stands, same_runs_stand, backdrop_gathers}
use Rattle.painter.specs.Inks.{backdrop}
use Rattle.painter.proofs.Ors.{or_assoc, or_none}
use Rattle.painter.proofs.Spans.{hidden_bytes}

-- one clock: its bytes, and what it leaves
pub quiet_shown : (system : System) (v h : ℕ) (now : Painter) (p : Denise) (into : List (List ℕ)) → IsPainterOf now p → IsIdle h now.sprites →
    into ≡ clock_bytes v h p → is_visible system v h ≡ true → flat_map (λ (x : List ℕ). x) into ≡ pixels system v h p
quiet_shown system v h now p into stands idle is visible =
    let four : length into ≡ 4 = ap length is in
    clock_shown system v h (held_after v h 4 p) p into into visible is
    (still_pixels v h (with_held (held_after v h 4 p) p) now.sprites.runs into (still_held v h (held_after v h 4 p) now p stands idle) four)

pub quiet_stands : (system : System) (v h : ℕ) (now : Painter) (p : Denise) (into : List (List ℕ)) → IsPainterOf now p → IsIdle h now.sprites →
    into ≡ clock_bytes v h p → IsPainterOf (record now { held = get_or into 3 [] }) (after_step (step_of system v h p) p)
quiet_stands system v h now p into stands idle is =
    clock_stands system v h (record now { held = get_or into 3 [] }) p
    (same_runs_stand (record now { held = get_or into 3 [] }) (with_held (held_after v h 4 p) p)
    (runs_after h 2 (with_held (held_after v h 4 p) p))
    (with_held_stands now p (get_or into 3 []) (held_after v h 4 p) stands (ap (λ (l : List (List ℕ)). get_or l 3 []) is))
    (still_held v h (held_after v h 4 p) now p stands idle).both)

-- what the playfields gather does not hang on the picture steps before
one_stays : (system : System) (v h at : ℕ) (p : Denise) → quiet_collisions v at (after_step (step_of system v h p) p) ≡ quiet_collisions v at p
unfolding collisions_at
one_stays system v h at p = refl

quiet_stays : (system : System) (v h at n : ℕ) (p : Denise) → quiet_collisions v at (after_shows system v h n p) ≡ quiet_collisions v at p
unfolding after_shows
quiet_stays system v h at zero p = refl
quiet_stays system v h at (suc n) p = one_stays system v (h + n) at (after_shows system v h n p) ∙ quiet_stays system v h at n p

-- the first k clocks
pub clocks_stand : (system : System) (v h n : ℕ) (now : Painter) (shown : ℕ → List ℕ → List (List ℕ)) (p : Denise) →
    AreClocks v h n now shown → IsPainterOf now p → (k : ℕ) → k ≤ n →
    IsPainterOf (record now { held = held_to shown now.held k }) (after_shows system v h k p)
unfolding held_to after_shows
clocks_stand system v h n now shown p are stands zero le = stands
clocks_stand system v h n now shown p are stands (suc k) le =
    let before : IsPainterOf (record now { held = held_to shown now.held k }) (after_shows system v h k p) =
    clocks_stand system v h n now shown p are stands k (omega arith) in
    quiet_stands system v (h + k) (record now { held = held_to shown now.held k }) (after_shows system v h k p)
    (shown k (held_to shown now.held k)) before (are.idle k (omega arith))
    (are.pixels k (held_to shown now.held k) (after_shows system v h k p) (omega arith) before)

clocks_shown : (system : System) (v h n : ℕ) (now : Painter) (shown : ℕ → List ℕ → List (List ℕ)) (p : Denise) →
    AreClocks v h n now shown → ((k : ℕ) → k < n → is_visible system v (h + k) ≡ true) → IsPainterOf now p → (k : ℕ) → k ≤ n →
    bytes_of_clocks (pixels_to shown now.held) k ≡ shown_bytes system v h k p
unfolding bytes_of_clocks shown_bytes step_of
clocks_shown system v h n now shown p are seen stands zero le = refl
clocks_shown system v h n now shown p are seen stands (suc k) le =
    let before : IsPainterOf (record now { held = held_to shown now.held k }) (after_shows system v h k p) =
    clocks_stand system v h n now shown p are stands k (omega arith) in
    ap (λ (l : List ℕ). l ++ flat_map (λ (x : List ℕ). x) (pixels_to shown now.held k))
    (clocks_shown system v h n now shown p are seen stands k (omega arith))
    ∙ ap (λ (l : List ℕ). shown_bytes system v h k p ++ l)
    (quiet_shown system v (h + k) (record now { held = held_to shown now.held k }) (after_shows system v h k p)
    (shown k (held_to shown now.held k)) before (are.idle k (omega arith))
    (are.pixels k (held_to shown now.held k) (after_shows system v h k p) (omega arith) before) (seen k (omega arith)))

clocks_hidden : (system : System) (v h n : ℕ) (p : Denise) → ((k : ℕ) → k < n → is_visible system v (h + k) ≡ false) → (k : ℕ) → k ≤ n →
    [] ≡ shown_bytes system v h k p
unfolding shown_bytes step_of
clocks_hidden system v h n p hidden zero le = refl
clocks_hidden system v h n p hidden (suc k) le =
    clocks_hidden system v h n p hidden k (omega arith)
    ∙ hidden_bytes system v (h + k) (after_shows system v h k p) (shown_bytes system v h k p) (hidden k (omega arith))

pub gathered_of : (system : System) (v h n : ℕ) (now : Painter) (held : ℕ → List ℕ) (p : Denise) →
    ((k : ℕ) → k < n → IsIdle (h + k) now.sprites) →
    ((k : ℕ) → k ≤ n → IsPainterOf (record now { held = held k }) (after_shows system v h k p)) →
    (k : ℕ) → k ≤ n → quiet_gathered v h k p ≡ shown_clx system v h k p
unfolding gathered shown_clx step_of
gathered_of system v h n now held p idle stands zero le = refl
gathered_of system v h n now held p idle stands (suc k) le =
    let before : IsPainterOf (record now { held = held k }) (after_shows system v h k p) = stands k (omega arith) in
    ap (λ (b : ℕ). bit_or b (quiet_collisions v (h + k) p)) (gathered_of system v h n now held p idle stands k (omega arith))
    ∙ ap (bit_or (shown_clx system v h k p))
    (sym (quiet_stays system v h (h + k) k p)
    ∙ backdrop_gathers v (h + k) (record now { held = held k }) (after_shows system v h k p) before (idle k (omega arith)))

clocks_gathered : (system : System) (v h n : ℕ) (now : Painter) (shown : ℕ → List ℕ → List (List ℕ)) (p : Denise) →
    AreClocks v h n now shown → IsPainterOf now p → (k : ℕ) → k ≤ n → quiet_gathered v h k p ≡ shown_clx system v h k p
clocks_gathered system v h n now shown p are stands =
    gathered_of system v h n now (held_to shown now.held) p are.idle (clocks_stand system v h n now shown p are stands)

-- the whole span, where all its clocks are visible, and where none is
pub clocks_span : (system : System) (v h n : ℕ) (now new : Painter) (shown : ℕ → List ℕ → List (List ℕ)) (p : Denise)
    (before after : List ℕ) (old clx : ℕ) →
    AreClocks v h n now shown → ((k : ℕ) → k < n → is_visible system v (h + k) ≡ true) → IsPainterOf now p →
    new ≡ record now { held = held_to shown now.held n } → after ≡ before ++ bytes_of_clocks (pixels_to shown now.held) n →
    clx ≡ bit_or old (quiet_gathered v h n p) →
    IsSpan system v h n p new before after old clx
clocks_span system v h n now new shown p before after old clx are seen stands is bytes bits = record {
  painted = subst (λ (painter : Painter). IsPainterOf painter (after_shows system v h n p)) (sym is)
      (clocks_stand system v h n now shown p are stands n (omega arith));
  bytes = bytes ∙ ap (λ (l : List ℕ). before ++ l) (clocks_shown system v h n now shown p are seen stands n (omega arith));
  bits = bits ∙ ap (bit_or old) (clocks_gathered system v h n now shown p are stands n (omega arith));
}

pub hidden_span : (system : System) (v h n : ℕ) (now new : Painter) (shown : ℕ → List ℕ → List (List ℕ)) (p : Denise)
    (before : List ℕ) (old clx : ℕ) →
    AreClocks v h n now shown → ((k : ℕ) → k < n → is_visible system v (h + k) ≡ false) → IsPainterOf now p →
    new ≡ record now { held = held_to shown now.held n } → clx ≡ bit_or old (quiet_gathered v h n p) → IsSpan system v h n p new before before old clx
hidden_span system v h n now new shown p before old clx are seen stands is bits = record {
  painted = subst (λ (painter : Painter). IsPainterOf painter (after_shows system v h n p)) (sym is)
      (clocks_stand system v h n now shown p are stands n (omega arith));
  bytes = sym (append-nil before) ∙ ap (λ (l : List ℕ). before ++ l) (clocks_hidden system v h n p seen n (omega arith));
  bits = bits ∙ ap (bit_or old) (clocks_gathered system v h n now shown p are stands n (omega arith));
}

-- bits that are gathered already at each clock
pub gathered_already : (met : ℕ → ℕ) (clx n : ℕ) → ((k : ℕ) → k < n → clx ≡ bit_or clx (met k)) → (k : ℕ) → k ≤ n → clx ≡ bit_or clx (gathered met k)
unfolding gathered
gathered_already met clx n each zero le = sym (or_none clx)
gathered_already met clx n each (suc k) le =
    each k (omega arith)
    ∙ ap (λ (b : ℕ). bit_or b (met k)) (gathered_already met clx n each k (omega arith))
    ∙ or_assoc clx (gathered met k) (met k)

-- the same four pixels at each clock
held_of_all : (pixels : List (List ℕ)) (held : List ℕ) (n : ℕ) → 1 ≤ n → held_to (λ (k : ℕ) (held : List ℕ). pixels) held n ≡ get_or pixels 3 []
unfolding held_to
held_of_all pixels held zero some = absurd (omega arith)
held_of_all pixels held (suc n) some = refl

pub backdrop_span : (system : System) (v h n : ℕ) (visible : Bool) (now new : Painter) (p : Denise) (before after : List ℕ) (clx : ℕ) →
    AreClocks v h n now (all_backdrop now) → ((k : ℕ) → k < n → is_visible system v (h + k) ≡ visible) → IsPainterOf now p → 1 ≤ n →
    new ≡ record now { held = colour_bytes (slice_index now.inks.palette 0) } →
    (visible ≡ true → after ≡ before ++ bytes_of_clocks (λ (k : ℕ). backdrop now.inks.palette) n) → (visible ≡ false → after ≡ before) →
    clx ≡ bit_or clx (quiet_gathered v h n p) → IsSpan system v h n p new before after clx clx
backdrop_span system v h n true now new p before after clx are seen stands some is shown hidden bits =
    clocks_span system v h n now new (all_backdrop now) p before after clx clx are seen stands
    (is ∙ ap (λ (l : List ℕ). record now { held = l }) (sym (held_of_all (backdrop now.inks.palette) now.held n some)))
    (shown refl) bits
backdrop_span system v h n false now new p before after clx are seen stands some is shown hidden bits =
    subst (λ (l : List ℕ). IsSpan system v h n p new before l clx clx) (sym (hidden refl))
    (hidden_span system v h n now new (all_backdrop now) p before clx clx are seen stands
    (is ∙ ap (λ (l : List ℕ). record now { held = l }) (sym (held_of_all (backdrop now.inks.palette) now.held n some))) bits)

-- clocks that are all visible, or none
pub all_visible : (system : System) (v h n : ℕ) (b : Bool) → ((k : ℕ) → k < n → is_visible system v (h + k) ≡ b) →
    (k : ℕ) → k ≤ n → visible_clocks system v h k ≡ (if b then k else 0)
unfolding visible_clocks
all_visible system v h n b all zero le = either b
  where
    either : (b : Bool) → zero ≡ (if b then zero else 0)
    either true = refl
    either false = refl
all_visible system v h n b all (suc k) le =
    ap (λ (t : Bool). visible_clocks system v h k + (if t then 1 else 0)) (all k (omega arith))
    ∙ ap (λ (m : ℕ). m + (if b then 1 else 0)) (all_visible system v h n b all k (omega arith))
    ∙ either b
  where
    either : (b : Bool) → (if b then k else 0) + (if b then 1 else 0) ≡ (if b then suc k else 0)
    either true = omega arith
    either false = refl

-- bytes of clocks that are put one behind the other
pub none_put : (at : ℕ) (shown : ℕ → List (List ℕ)) (room : List ℕ) → take (at + 12 * 0) room ≡ take at room ++ bytes_of_clocks shown 0
unfolding bytes_of_clocks
none_put at shown room =
    let none : at + 12 * 0 ≡ at = omega arith in
    ap (λ (n : ℕ). take n room) none ∙ sym (append-nil (take at room))

pub one_put : (at n place : ℕ) (shown : ℕ → List (List ℕ)) (first now new : List ℕ) (pixels : List (List ℕ)) → place ≡ at + 12 * n →
    take place now ≡ first ++ bytes_of_clocks shown n → take (place + 12) new ≡ take place now ++ flat_map (λ (x : List ℕ). x) pixels →
    pixels ≡ shown n → take (at + 12 * (n + 1)) new ≡ first ++ bytes_of_clocks shown (n + 1)
unfolding bytes_of_clocks
one_put at n place shown first now new pixels is before put same =
    let next : n + 1 ≡ suc n = omega arith in
    let there : at + 12 * (n + 1) ≡ place + 12 = omega arith in
    ap (λ (k : ℕ). take k new) there
    ∙ put
    ∙ ap (λ (l : List ℕ). l ++ flat_map (λ (x : List ℕ). x) pixels) before
    ∙ ap (λ (l : List (List ℕ)). first ++ bytes_of_clocks shown n ++ flat_map (λ (x : List ℕ). x) l) same
    ∙ append_assoc first (bytes_of_clocks shown n) (flat_map (λ (x : List ℕ). x) (shown n))
    ∙ ap (λ (k : ℕ). first ++ bytes_of_clocks shown k) (sym next)

-- four clocks of the same pixels are put one behind the other
pub four_put_alike : (at : ℕ) (pixels : List (List ℕ)) (room one two three four : List ℕ) →
    take (at + 12) one ≡ take at room ++ flat_map (λ (x : List ℕ). x) pixels →
    take (at + 12 + 12) two ≡ take (at + 12) one ++ flat_map (λ (x : List ℕ). x) pixels →
    take (at + 24 + 12) three ≡ take (at + 24) two ++ flat_map (λ (x : List ℕ). x) pixels →
    take (at + 36 + 12) four ≡ take (at + 36) three ++ flat_map (λ (x : List ℕ). x) pixels →
    take (at + 48) four ≡ take at room ++ bytes_of_clocks (λ (k : ℕ). pixels) 4
four_put_alike at pixels room one two three four put_one put_two put_three put_four =
    let shown : ℕ → List (List ℕ) = λ (k : ℕ). pixels in
    let first : List ℕ = take at room in
    let none : at ≡ at + 12 * 0 = omega arith in
    let after_one : take (at + 12) one ≡ first ++ bytes_of_clocks shown 1 =
    one_put at 0 at shown first room one pixels none (ap (λ (k : ℕ). take k room) none ∙ none_put at shown room) put_one refl in
    let after_two : take (at + 24) two ≡ first ++ bytes_of_clocks shown 2 =
    one_put at 1 (at + 12) shown first one two pixels (omega arith) after_one put_two refl in
    let after_three : take (at + 36) three ≡ first ++ bytes_of_clocks shown 3 =
    one_put at 2 (at + 24) shown first two three pixels (omega arith) after_two put_three refl in
    one_put at 3 (at + 36) shown first three four pixels (omega arith) after_three put_four refl

-- clocks inside the display window where no colour is held
four_alike : (f : ℕ → List ℕ) (a b c d e g h i : ℕ) → a ≡ e → b ≡ g → c ≡ h → d ≡ i →
    f a ∷ f b ∷ f c ∷ f d ∷ [] ≡ f e ∷ f g ∷ f h ∷ f i ∷ []
four_alike f a b c d e g h i one two three four = rw (one, two, three, four) refl

pub inks_shown : (v h x : ℕ) (now : Painter) (p : Denise) → IsPainterOf now p → h ≤ 227 → x ≡ 4 * h →
    is_inside v (2 * h) now.window.diwstrt now.window.diwstop ≡ true → is_inside v (2 * h + 1) now.window.diwstrt now.window.diwstop ≡ true →
    is_held now.inks.con0 ≡ false → ink_pixels now.inks now.line x ≡ clock_bytes v h p
inks_shown v h x now p stands room at inside after free =
    let f : ℕ → List ℕ = λ (n : ℕ). colour_bytes (ink_at now.inks now.line n) in
    four_alike f x (x + 1) (x + 2) (x + 3) (2 * (2 * h)) (2 * (2 * h) + 1) (2 * (2 * h + 1)) (2 * (2 * h + 1) + 1)
    (omega arith) (omega arith) (omega arith) (omega arith)
    ∙ sym (four_written (replicate 4 []) (f (2 * (2 * h))) (f (2 * (2 * h) + 1)) (f (2 * (2 * h + 1))) (f (2 * (2 * h + 1) + 1)) refl)
    ∙ ink_clock v h now p stands room inside after free (replicate 4 []) _ _ refl refl refl

pub held_of_inks : (now : Painter) (h n : ℕ) (held : List ℕ) → 1 ≤ n →
    held_to (all_inks now h) held n ≡ colour_bytes (ink_at now.inks now.line (4 * h + 4 * (n - 1) + 3))
unfolding held_to
held_of_inks now h zero held some = absurd (omega arith)
held_of_inks now h (suc n) held some =
    let before : n ≡ suc n - 1 = omega arith in
    ap (λ (k : ℕ). colour_bytes (ink_at now.inks now.line (4 * h + 4 * k + 3))) before

pub inks_span : (system : System) (v h n : ℕ) (now new : Painter) (p : Denise) (before after : List ℕ) (old clx : ℕ) →
    AreClocks v h n now (all_inks now h) → ((k : ℕ) → k < n → is_visible system v (h + k) ≡ true) → IsPainterOf now p → 1 ≤ n →
    new ≡ record now { held = colour_bytes (ink_at now.inks now.line (4 * h + 4 * (n - 1) + 3)) } →
    after ≡ before ++ bytes_of_clocks (λ (k : ℕ). all_inks now h k []) n →
    clx ≡ bit_or old (quiet_gathered v h n p) → IsSpan system v h n p new before after old clx
inks_span system v h n now new p before after old clx are seen stands some is shown bits =
    clocks_span system v h n now new (all_inks now h) p before after old clx are seen stands
    (is ∙ ap (λ (l : List ℕ). record now { held = l }) (sym (held_of_inks now h n now.held some))) shown bits

-- what is gathered clock by clock
pub none_gathered : (met : ℕ → ℕ) (clx : ℕ) → clx ≡ bit_or clx (gathered met 0)
unfolding gathered
none_gathered met clx = sym (or_none clx)

pub one_gathered : (met : ℕ → ℕ) (old now new n : ℕ) → now ≡ bit_or old (gathered met n) → new ≡ bit_or now (met n) →
    new ≡ bit_or old (gathered met (n + 1))
unfolding gathered
one_gathered met old now new n is step =
    let next : n + 1 ≡ suc n = omega arith in
    step
    ∙ ap (λ (b : ℕ). bit_or b (met n)) is
    ∙ or_assoc old (gathered met n) (met n)
    ∙ ap (λ (k : ℕ). bit_or old (gathered met k)) (sym next)

pub inside_inks : (v h n : ℕ) (now : Painter) → AreInside v h n now → h + n ≤ 228 → is_held now.inks.con0 ≡ false → AreClocks v h n now (all_inks now h)
inside_inks v h n now are room free = record {
  idle = are.idle;
  pixels = λ k held q lt stands.
      inks_shown v (h + k) (4 * h + 4 * k) (record now { held = held }) q stands (omega (arith, room, lt)) (omega arith)
      (are.first k lt) (are.second k lt) free;
}
