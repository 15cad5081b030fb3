-- One pair of sprites over pixels of the playfields where no colour is held.
use Rattle.std.proofs.Common.{◌≡◌, ℕ, zero, suc, ◌+◌, ◌-◌, ◌*◌, ◌≤◌, ◌<◌, ◌==◌, ◌||◌, Bool, true, false, nat_eq, List, [], ◌∷◌, ◌++◌}
use Rattle.std.proofs.Common.{slice_index, get_or, flat_map, bit_or, bit_and, refl, sym, ◌∙◌, ap, subst, arith, append_assoc}
use Rattle.std.specs.Bool.{if◌then◌else◌}
use Rattle.std.proofs.lemmas.List.{append-nil}
use Rattle.ocs_base.specs.declared.system.System.{System}
use Rattle.ocs_base.specs.Systems.{is_visible}
use Rattle.sprites.specs.SpriteFront.{front_pixel}
use Rattle.priority_ham.specs.PixelColour.{hides}
use Rattle.sprite_rows.specs.LineValues.{pair_byte}
use Rattle.sprite_rows.specs.PairFront.{colour_of_byte, pixel_of_byte}
use Rattle.serial_model.specs.declared.picture.Denise.{Denise}
use Rattle.serial_model.specs.Picture.{colour_bytes, attached_pairs, sprite_values, held_after, step_of, clock_collisions}
use Rattle.serial_model.specs.Spans.{after_shows}
use Rattle.serial_model.specs.Window.{is_inside}
use Rattle.painter.specs.declared.painter.Painter.{Painter}
use Rattle.painter.specs.declared.show_covered.Steady.{Steady}
use Rattle.painter.specs.Inks.{InkRegisters, ink, ink_number, counted_bits, is_held}
use Rattle.plane_rows.specs.Line.{row_bits}
use Rattle.painter.specs.code.Overlay.{with_front, with_front_at, covered_column, clock_over, shown_bits}
use Rattle.painter.specs.Painter.{IsPainterOf, with_held, clock_bytes}
use Rattle.painter.specs.code.PairOver.{colour_in_front, colour_over, pixels_over}
use Rattle.painter.specs.code.Pixels.{ink_at}
use Rattle.painter.specs.Span.{IsSpan}
use Rattle.painter.specs.SpanParts.{bytes_of_clocks, held_to, all_inks, ink_pixels}
use Rattle.painter.specs.code.Starts.{IsSteady}
use Rattle.painter.specs.code.Steady.{IsSteadyFrom}
use Rattle.plane_rows.specs.declared.line.Line.{Line}
use Rattle.painter.proofs.Clocks.{inks_shown, held_of_inks}
use Rattle.painter.proofs.Colours.{ink_low}
use Rattle.painter.proofs.Covering.{front_of_pair, steady_runs, steady_further, steady_first, steady_second, steady_pixels, steady_bits, column_reached}
use Rattle.painter.proofs.Overlays.{after_first, after_second, clock_shown, clock_stands, bits_apart, counted_same, four_changed}
use Rattle.painter.proofs.Pairs.{column_pair}
use Rattle.painter.proofs.Showing.{with_held_stands}
use Rattle.painter.proofs.Spans.{no_span, one_span, joined_at}

-- a pixel, by whether the pair shows and whether the playfields hide it
front_by : (con0 con2 bits colour pair byte attached : ℕ) (palette : List ℕ) (none hidden : Bool) → nat_eq byte 0 ≡ none →
    hides con0 con2 bits pair ≡ hidden →
    with_front con0 con2 bits (pixel_of_byte pair byte attached) (colour_bytes colour) palette
    ≡ colour_bytes (colour_in_front con0 con2 bits colour pair byte attached palette)
unfolding with_front colour_in_front
front_by con0 con2 bits colour pair byte attached palette true hidden is under = rw is refl
front_by con0 con2 bits colour pair byte attached palette false true is under = rw (is, under) refl
front_by con0 con2 bits colour pair byte attached palette false false is under = rw (is, under) refl

-- the same of a picture state
pub pixel_over : (x column pair byte attached : ℕ) (bytes : List ℕ) (now : Painter) (q : Denise) → IsPainterOf now q → x < 1024 →
    front_pixel (sprite_values column q.runs) (attached_pairs q) ≡ pixel_of_byte pair byte attached →
    bytes ≡ colour_bytes (ink_at now.inks now.line x) →
    with_front_at x (sprite_values column q.runs) bytes q ≡ colour_bytes (colour_over now.inks now.line pair attached byte x)
unfolding colour_over
pixel_over x column pair byte attached bytes now q stands within seen is =
    let inks : InkRegisters = now.inks in
    let bits : ℕ = counted_bits now.inks.con0 (row_bits now.line x) in
    let same : shown_bits x q ≡ counted_bits now.inks.con0 (row_bits now.line x) = sym (counted_same x (row_bits now.line x) now q stands within refl) in
    ap (λ o. with_front q.con0 q.con2 (shown_bits x q) o bytes q.palette) seen
    ∙ ap (λ (l : List ℕ). with_front q.con0 q.con2 (shown_bits x q) (pixel_of_byte pair byte attached) l q.palette) is
    ∙ front_by q.con0 q.con2 (shown_bits x q) (ink_at now.inks now.line x) pair byte attached q.palette (nat_eq byte 0)
    (hides q.con0 q.con2 (shown_bits x q) pair) refl refl
    ∙ ap (λ (n : ℕ). colour_bytes (colour_in_front q.con0 q.con2 n (ink_at now.inks now.line x) pair byte attached q.palette)) same
    ∙ ap (λ (n : ℕ). colour_bytes (colour_in_front n q.con2 bits (ink_at now.inks now.line x) pair byte attached q.palette)) stands.con0
    ∙ ap (λ (n : ℕ). colour_bytes (colour_in_front inks.con0 n bits (ink_at now.inks now.line x) pair byte attached q.palette)) stands.con2
    ∙ ap (λ (l : List ℕ). colour_bytes (colour_in_front inks.con0 inks.con2 bits (ink_at now.inks now.line x) pair byte attached l)) stands.palette

-- positions whose bits are the same have the same colour
bits_alike : (inks : InkRegisters) (line : Line) (pair attached byte x y : ℕ) → row_bits line x ≡ row_bits line y →
    colour_over inks line pair attached byte x ≡ colour_over inks line pair attached byte y
unfolding colour_over ink_at
bits_alike inks line pair attached byte x y same =
    ap (λ (n : ℕ). colour_in_front inks.con0 inks.con2 (counted_bits inks.con0 n) (ink inks.palette (ink_number inks.con0 inks.con2 n))
    pair byte attached inks.palette) same

-- a row of bytes that is a pair's from a column on
pub record IsPairRow (from pair : ℕ) (row : List ℕ) (now : Painter) : Type 0 where
  pub bytes : (x : ℕ) → from ≤ x → x ≤ 455 → slice_index row x ≡ pair_byte x now.sprites.runs pair

-- the two pixels of a column
abbrev column_over : Painter → List ℕ → ℕ → ℕ → ℕ → List ℕ
column_over now row pair attached column = colour_bytes (colour_over now.inks now.line pair attached (slice_index row column) (2 * column))

first_over : (h column : ℕ) (steady : Steady) (row bytes : List ℕ) (now : Painter) (q : Denise) → IsPainterOf now q → 2 * h ≤ column → column ≤ 455 →
    IsSteadyFrom h steady now → steady.lone ≤ 3 → IsPairRow (2 * h) steady.lone row now → bytes ≡ colour_bytes (ink_at now.inks now.line (2 * column)) →
    with_front_at (2 * column) (sprite_values column q.runs) bytes q ≡ column_over now row steady.lone steady.attached column
first_over h column steady row bytes now q stands le room holds one are is =
    pixel_over (2 * column) column steady.lone (slice_index row column) steady.attached bytes now q stands (omega (arith, room))
    (front_of_pair column steady.lone steady.attached (slice_index row column) now q stands (omega (arith, room)) (omega (arith, one))
    (record { none = λ p x few other from far. (holds.alone one).none p x few other (omega (arith, le, from)) far })
    holds.attached (are.bytes column le room)) is

second_over : (h column : ℕ) (steady : Steady) (row bytes : List ℕ) (now : Painter) (q : Denise) → IsPainterOf now q → 2 * h ≤ column → column ≤ 455 →
    IsSteadyFrom h steady now → steady.lone ≤ 3 → steady.paired ≡ true → IsPairRow (2 * h) steady.lone row now →
    bytes ≡ colour_bytes (ink_at now.inks now.line (2 * column + 1)) →
    with_front_at (2 * column + 1) (sprite_values column q.runs) bytes q ≡ column_over now row steady.lone steady.attached column
second_over h column steady row bytes now q stands le room holds one paired are is =
    pixel_over (2 * column + 1) column steady.lone (slice_index row column) steady.attached bytes now q stands (omega (arith, room))
    (front_of_pair column steady.lone steady.attached (slice_index row column) now q stands (omega (arith, room)) (omega (arith, one))
    (record { none = λ p x few other from far. (holds.alone one).none p x few other (omega (arith, le, from)) far })
    holds.attached (are.bytes column le room)) is
    ∙ ap colour_bytes (bits_alike now.inks now.line steady.lone steady.attached (slice_index row column) (2 * column + 1) (2 * column)
    (sym (column_pair now.line h column (holds.pairs paired) le)))

four_of : (a b c d e f g i : List ℕ) → a ≡ e → b ≡ f → c ≡ g → d ≡ i → a ∷ b ∷ c ∷ d ∷ [] ≡ e ∷ f ∷ g ∷ i ∷ []
four_of a b c d e f g i one two three four = rw (one, two, three, four) refl

-- the four pixels of a clock: those of two columns, over the playfields' pixels
pub clock_of_pair : (h : ℕ) (steady : Steady) (row : List ℕ) (now : Painter) (one two : Denise) → IsPainterOf now one → IsPainterOf now two → h ≤ 227 →
    IsSteadyFrom h steady now → steady.lone ≤ 3 → steady.paired ≡ true → IsPairRow (2 * h) steady.lone row now →
    covered_column (2 * h + 1) 2 (covered_column (2 * h) 0 (ink_pixels now.inks now.line (4 * h)) one) two
    ≡ pixels_over now.inks now.line row steady.lone steady.attached (2 * h)
clock_of_pair h steady row now one two first second room holds alone paired are =
    let colour : ℕ → List ℕ = λ (n : ℕ). colour_bytes (ink_at now.inks now.line n) in
    let zeroth : 4 * h ≡ 2 * (2 * h) = omega arith in
    let next : 4 * h + 1 ≡ 2 * (2 * h) + 1 = omega arith in
    let third : 4 * h + 2 ≡ 2 * (2 * h + 1) = omega arith in
    let last : 4 * h + 3 ≡ 2 * (2 * h + 1) + 1 = omega arith in
    four_changed (ink_pixels now.inks now.line (4 * h))
    (λ bytes. with_front_at (2 * (2 * h)) (sprite_values (2 * h) one.runs) bytes one)
    (λ bytes. with_front_at (2 * (2 * h) + 1) (sprite_values (2 * h) one.runs) bytes one)
    (λ bytes. with_front_at (2 * (2 * h + 1)) (sprite_values (2 * h + 1) two.runs) bytes two)
    (λ bytes. with_front_at (2 * (2 * h + 1) + 1) (sprite_values (2 * h + 1) two.runs) bytes two) refl
    ∙ four_of _ _ _ _ _ _ _ _
    (first_over h (2 * h) steady row (colour (4 * h)) now one first (omega arith) (omega (arith, room)) holds alone are (ap colour zeroth))
    (second_over h (2 * h) steady row (colour (4 * h + 1)) now one first (omega arith) (omega (arith, room)) holds alone paired are (ap colour next))
    (first_over h (2 * h + 1) steady row (colour (4 * h + 2)) now two second (omega arith) (omega (arith, room)) holds alone are (ap colour third))
    (second_over h (2 * h + 1) steady row (colour (4 * h + 3)) now two second (omega arith) (omega (arith, room)) holds alone paired are (ap colour last))

-- what is known of so many clocks
pub record ArePairClocks (system : System) (v h n : ℕ) (steady : Steady) (row : List ℕ) (now : Painter) : Type 0 where
  pub place : h + n ≤ 228
  pub first : (k : ℕ) → k < n → is_inside v (2 * (h + k)) now.window.diwstrt now.window.diwstop ≡ true
  pub second : (k : ℕ) → k < n → is_inside v (2 * (h + k) + 1) now.window.diwstrt now.window.diwstop ≡ true
  pub seen : (k : ℕ) → k < n → is_visible system v (h + k) ≡ true
  pub begins : (k : ℕ) → k < n → IsSteady (h + k) now.sprites
  pub holds : IsSteadyFrom h steady now
  pub alone : steady.lone ≤ 3
  pub paired : steady.paired ≡ true
  pub free : is_held now.inks.con0 ≡ false
  pub bytes : IsPairRow (2 * h) steady.lone row now

-- one of them
pub one_of_pair : (system : System) (v h : ℕ) (steady : Steady) (row before : List ℕ) (clx : ℕ) (now : Painter) (p : Denise) → IsPainterOf now p →
    h ≤ 227 → is_inside v (2 * h) now.window.diwstrt now.window.diwstop ≡ true → is_inside v (2 * h + 1) now.window.diwstrt now.window.diwstop ≡ true →
    is_visible system v h ≡ true → IsSteady h now.sprites → IsSteadyFrom h steady now → steady.lone ≤ 3 → steady.paired ≡ true →
    is_held now.inks.con0 ≡ false → IsPairRow (2 * h) steady.lone row now → bit_and clx steady.reach ≡ steady.reach →
    IsSpan system v h 1 p (record now { held = colour_bytes (ink_at now.inks now.line (4 * h + 3)) }) before
    (before ++ flat_map (λ (x : List ℕ). x) (pixels_over now.inks now.line row steady.lone steady.attached (2 * h))) clx clx
unfolding step_of
one_of_pair system v h steady row before clx now p stands room first second seen is holds alone paired free are reached =
    let new : Painter = record now { held = colour_bytes (ink_at now.inks now.line (4 * h + 3)) } in
    let pixels : ink_pixels now.inks now.line (4 * h) ≡ clock_bytes v h p = inks_shown v h (4 * h) now p stands room refl first second free in
    let next : Denise = with_held (held_after v h 4 p) p in
    let held : IsPainterOf (record now { held = colour_bytes (ink_at now.inks now.line (4 * h + 3)) }) (with_held (held_after v h 4 p) p) =
    with_held_stands now p (colour_bytes (ink_at now.inks now.line (4 * h + 3))) (held_after v h 4 p) stands
    (ap (λ (l : List (List ℕ)). get_or l 3 []) pixels) in
    let one : IsPainterOf (record now { held = colour_bytes (ink_at now.inks now.line (4 * h + 3)) }) (after_first h (with_held (held_after v h 4 p) p)) =
    steady_first h new next held is in
    let two : IsPainterOf (record now { held = colour_bytes (ink_at now.inks now.line (4 * h + 3)) }) (after_second h (with_held (held_after v h 4 p) p)) =
    steady_second h new next held is in
    let there : IsSteadyFrom h steady (record now { held = colour_bytes (ink_at now.inks now.line (4 * h + 3)) }) = record {
      attached = holds.attached;
      reach = holds.reach;
      alone = holds.alone;
      pairs = holds.pairs;
    } in
    let shown : List (List ℕ) = ink_pixels now.inks now.line (4 * h) in
    let left : List (List ℕ) = covered_column (2 * h) 0 shown (after_first h next) in
    let right : List (List ℕ) = covered_column (2 * h + 1) 2 left (after_second h next) in
    let over : pixels_over now.inks now.line row steady.lone steady.attached (2 * h)
    ≡ clock_over v h (ink_pixels now.inks now.line (4 * h)) (with_held (held_after v h 4 p) p) =
    sym (clock_of_pair h steady row new (after_first h next) (after_second h next) one two room there alone paired (record { bytes = are.bytes }))
    ∙ steady_pixels v h new next shown left right held refl first second refl refl in
    let bits : clx ≡ bit_or clx (clock_collisions v h (with_held (held_after v h 4 p) p)) =
    steady_bits v h clx clx clx new next held first second
    (column_reached (2 * h) clx steady.reach new (after_first h next) one
    (λ con bits. holds.reach (2 * h) con bits (omega arith) (omega (arith, room))) reached)
    (column_reached (2 * h + 1) clx steady.reach new (after_second h next) two
    (λ con bits. holds.reach (2 * h + 1) con bits (omega arith) (omega (arith, room))) reached) in
    one_span system v h p new before (before ++ flat_map (λ (x : List ℕ). x) (pixels_over now.inks now.line row steady.lone steady.attached (2 * h))) clx clx
    (clock_stands system v h new p (steady_runs h new next held is))
    (ap (λ (l : List ℕ). before ++ l)
    (clock_shown system v h (held_after v h 4 p) p (pixels_over now.inks now.line row steady.lone steady.attached (2 * h)) shown seen pixels over))
    (bits ∙ ap (bit_or clx) (bits_apart v h (held_after v h 4 p) p))

-- the first k of them
abbrev all_over : Painter → List ℕ → Steady → ℕ → ℕ → List (List ℕ)
all_over now row steady h k = pixels_over now.inks now.line row steady.lone steady.attached (2 * h + 2 * k)

clocks_of_pair : (system : System) (v h n : ℕ) (steady : Steady) (row before : List ℕ) (clx : ℕ) (now : Painter) (p : Denise) → IsPainterOf now p →
    ArePairClocks system v h n steady row now → bit_and clx steady.reach ≡ steady.reach → (k : ℕ) → k ≤ n →
    IsSpan system v h k p (record now { held = held_to (all_inks now h) now.held k }) before
    (before ++ bytes_of_clocks (all_over now row steady h) k) clx clx
unfolding bytes_of_clocks held_to
clocks_of_pair system v h n steady row before clx now p stands are reached zero le =
    subst (λ (l : List ℕ). IsSpan system v h 0 p now before l clx clx) (sym (append-nil before)) (no_span system v h p now before clx stands)
clocks_of_pair system v h n steady row before clx now p stands are reached (suc k) le =
    let so_far : Painter = record now { held = held_to (all_inks now h) now.held k } in
    let done = clocks_of_pair system v h n steady row before clx now p stands are reached k (omega arith) in
    let next : k + 1 ≡ suc k = omega arith in
    let column : 2 * (h + k) ≡ 2 * h + 2 * k = omega arith in
    let last : 4 * (h + k) + 3 ≡ 4 * h + 4 * k + 3 = omega arith in
    let further = steady_further h k steady now so_far refl refl are.holds in
    let put : List ℕ = before ++ bytes_of_clocks (all_over now row steady h) k in
    let one = one_of_pair system v (h + k) steady row put clx so_far (after_shows system v h k p) done.painted (omega (arith, are.place, le))
    (are.first k (omega arith)) (are.second k (omega arith)) (are.seen k (omega arith)) (are.begins k (omega arith)) further are.alone are.paired
    are.free (record { bytes = λ x from room. are.bytes.bytes x (omega (arith, from)) room }) reached in
    let joined_one = joined_at system v h k 1 p so_far (record now { held = colour_bytes (ink_at now.inks now.line (4 * (h + k) + 3)) }) before put
    (put ++ flat_map (λ (x : List ℕ). x) (pixels_over now.inks now.line row steady.lone steady.attached (2 * (h + k)))) clx clx clx done one in
    subst (λ (m : ℕ). IsSpan system v h m p (record now { held = held_to (all_inks now h) now.held (suc k) }) before
    (before ++ bytes_of_clocks (all_over now row steady h) (suc k)) clx clx) next
    (subst (λ (l : List ℕ). IsSpan system v h (k + 1) p (record now { held = held_to (all_inks now h) now.held (suc k) }) before l clx clx)
    (append_assoc before (bytes_of_clocks (all_over now row steady h) k) (flat_map (λ (x : List ℕ). x) (all_over now row steady h k)))
    (subst (λ (m : ℕ). IsSpan system v h (k + 1) p (record now { held = colour_bytes (ink_at now.inks now.line m) }) before
    (put ++ flat_map (λ (x : List ℕ). x) (all_over now row steady h k)) clx clx) last
    (subst (λ (m : ℕ). IsSpan system v h (k + 1) p (record now { held = colour_bytes (ink_at now.inks now.line (4 * (h + k) + 3)) }) before
    (put ++ flat_map (λ (x : List ℕ). x) (pixels_over now.inks now.line row steady.lone steady.attached m)) clx clx) column joined_one)))

pub span_of_pair : (system : System) (v h n : ℕ) (steady : Steady) (row before after : List ℕ) (clx : ℕ) (now : Painter) (p : Denise) → IsPainterOf now p →
    ArePairClocks system v h n steady row now → bit_and clx steady.reach ≡ steady.reach → 1 ≤ n →
    after ≡ before ++ bytes_of_clocks (λ (k : ℕ). pixels_over now.inks now.line row steady.lone steady.attached (2 * h + 2 * k)) n →
    IsSpan system v h n p (record now { held = colour_bytes (ink_at now.inks now.line (4 * h + 4 * (n - 1) + 3)) }) before after clx clx
span_of_pair system v h n steady row before after clx now p stands are reached some is =
    subst (λ (l : List ℕ). IsSpan system v h n p (record now { held = colour_bytes (ink_at now.inks now.line (4 * h + 4 * (n - 1) + 3)) }) before l clx clx)
    (sym is)
    (subst (λ (l : List ℕ). IsSpan system v h n p (record now { held = l }) before (before ++ bytes_of_clocks (all_over now row steady h) n) clx clx)
    (held_of_inks now h n now.held some)
    (clocks_of_pair system v h n steady row before clx now p stands are reached n (omega arith)))

-- the ink of a pixel: that of the playfields where the pair shows nothing, or they hide it, and else that of the pair
pub none_over : (inks : InkRegisters) (line : Line) (pair attached byte x bits number : ℕ) → byte ≡ 0 → bits ≡ row_bits line x →
    number ≡ ink_number inks.con0 inks.con2 bits → ink inks.palette number ≡ colour_over inks line pair attached byte x
unfolding colour_over colour_in_front ink_at
none_over inks line pair attached byte x bits number none at named = rw (named, at, none) refl

pub hidden_over : (inks : InkRegisters) (line : Line) (pair attached byte x bits number : ℕ) →
    hides inks.con0 inks.con2 (counted_bits inks.con0 bits) pair ≡ true → bits ≡ row_bits line x →
    number ≡ ink_number inks.con0 inks.con2 bits → ink inks.palette number ≡ colour_over inks line pair attached byte x
unfolding colour_over colour_in_front ink_at
hidden_over inks line pair attached byte x bits number under at named =
    let hidden : hides inks.con0 inks.con2 (counted_bits inks.con0 (row_bits line x)) pair ≡ true =
    ap (λ (n : ℕ). hides inks.con0 inks.con2 (counted_bits inks.con0 n) pair) (sym at) ∙ under in
    ap (λ (n : ℕ). ink inks.palette n) (named ∙ ap (ink_number inks.con0 inks.con2) at)
    ∙ sym (ap (λ (b : Bool). if (byte == 0) || b then ink inks.palette (ink_number inks.con0 inks.con2 (row_bits line x))
    else slice_index inks.palette (colour_of_byte pair byte attached)) hidden ∙ either (byte == 0))
  where
    either : (b : Bool) → (if b || true then ink inks.palette (ink_number inks.con0 inks.con2 (row_bits line x))
        else slice_index inks.palette (colour_of_byte pair byte attached)) ≡ ink inks.palette (ink_number inks.con0 inks.con2 (row_bits line x))
    either true = refl
    either false = refl

pub in_front : (inks : InkRegisters) (line : Line) (pair attached byte x bits number : ℕ) → nat_eq byte 0 ≡ false →
    hides inks.con0 inks.con2 (counted_bits inks.con0 bits) pair ≡ false →
    bits ≡ row_bits line x → number ≡ colour_of_byte pair byte attached → number ≤ 31 → ink inks.palette number ≡ colour_over inks line pair attached byte x
unfolding colour_over colour_in_front
in_front inks line pair attached byte x bits number some under at named few =
    let shown : hides inks.con0 inks.con2 (counted_bits inks.con0 (row_bits line x)) pair ≡ false =
    ap (λ (n : ℕ). hides inks.con0 inks.con2 (counted_bits inks.con0 n) pair) (sym at) ∙ under in
    ink_low inks.palette number (omega (arith, few)) ∙ ap (slice_index inks.palette) named
    ∙ sym (ap (λ (b : Bool). if (byte == 0) || b then ink_at inks line x else slice_index inks.palette (colour_of_byte pair byte attached)) shown
    ∙ ap (λ (b : Bool). if b || false then ink_at inks line x else slice_index inks.palette (colour_of_byte pair byte attached)) some)
