-- Kept picture states.
use Rattle.std.proofs.Common.{◌≡◌, ◌<◌, ◌≤◌, ℕ, zero, suc, ◌+◌, ◌-◌, ◌*◌, ◌/◌, ◌%◌, Bool, true, false, ◌==◌, if◌then◌else◌, List, [], ◌∷◌}
use Rattle.std.proofs.Common.{◌++◌, Option, Some, None, refl, ap, ◌∙◌, sym, subst, arith, replicate, slice_index, slice_set, bit_or}
use Rattle.ocs_base.specs.declared.system.System.{System}
use Rattle.planes.specs.PlaneBit.{ShowsSame, all_bits, load_of}
use Rattle.planes.specs.declared.load.Load.{Load}
use Rattle.planes.proofs.Standing.{ShowsSame-refl, ShowsSame-trans, ShowsSame-later, ShowsSame-more, all_bits-same}
use Rattle.priority_ham.specs.PlaneCount.{is_hires, planes_of}
use Rattle.serial_model.specs.declared.picture.Denise.{Denise}
use Rattle.serial_model.specs.declared.picture.Touch.{Touch}
use Rattle.serial_model.specs.declared.picture.Touch.TheVariants.{Set, Plane, Sprite}
use Rattle.ocs_base.specs.Systems.{is_visible}
use Rattle.serial_model.specs.Beam.{is_line_start}
use Rattle.serial_model.specs.Picture.{clear_line, set_picture, set_sprite, is_latch, is_sprite, is_colour, plane_latch, sprite_data}
use Rattle.serial_model.specs.Picture.{touch_picture, touch_in_order, pixel_colour, held_after, runs_after, runs_at, shown_at}
use Rattle.serial_model.specs.Picture.{collisions_at, values_after, pixel_bytes, pixel_collisions, pixels, clock_collisions}
use Rattle.serial_model.specs.Picture.{PictureStep, step_of, after_step, sprite_values, attached_pairs, colour_bytes}
use Rattle.serial_model.specs.Window.{is_inside}
use Rattle.sprites.specs.declared.runs.Start.{Start}
use Rattle.sprites.specs.SpriteFront.{front_pixel}
use Rattle.collisions.specs.Collision.{collision_bits}
use Rattle.priority_ham.specs.PixelColour.{playfield_colour, shown_colour}
use Rattle.serial_model.specs.StandsFor.{StandsFor, with_loads}
use Rattle.serial_model.specs.StandsLaws.{StandsForItself, StandsLater, StandsOn, StandsWritten, StandsTouched}
use Rattle.serial_model.specs.StandsLaws.{StandsTouchedInOrder, StandsCleared, StandsShown, StandsAfter}

pub stands_for_itself : StandsForItself
stands_for_itself from p = record { loads = ShowsSame-refl from p.loads; rest = refl }

pub stands_later : StandsLater
stands_later from to kept p order stands = record { loads = ShowsSame-later from to kept.loads p.loads order stands.loads; rest = stands.rest }

pub stands_on : StandsOn
stands_on from kept middle p first second = record {
  loads = ShowsSame-trans from kept.loads middle.loads p.loads first.loads second.loads;
  rest = first.rest ∙ second.rest;
}

-- the one is the other with its own loads
same_but_loads : (from : ℕ) (kept p : Denise) → StandsFor from kept p → kept ≡ with_loads kept.loads p
same_but_loads from kept p stands = ap (λ q. with_loads kept.loads q) stands.rest

-- each branch of a write keeps it
if_both : {A : Type 0} (P : A → A → Type 0) (b : Bool) (x y u v : A) → P x u → P y v → P (if b then x else y) (if b then u else v)
if_both P true x y u v first second = first
if_both P false x y u v first second = second

written : (from h offset word : ℕ) (loads : List Load) (p : Denise) → ShowsSame from loads p.loads
    → StandsFor from (set_picture h offset word (with_loads loads p)) (set_picture h offset word p)
unfolding set_picture
written from h offset word loads p same =
    let P : Denise → Denise → Type 0 = StandsFor from in
    let n : ℕ = (offset - 0x140) / 8 in
    let which : ℕ = (offset - 0x140) % 8 in
    let latched : Denise = record p { latches = slice_set p.latches 0 word } in
    let sprite : P (set_sprite n which word (with_loads loads p)) (set_sprite n which word p) =
    if_both P (which == 0) _ _ _ _ (record { loads = same; rest = refl })
    (if_both P (which == 2) _ _ _ _ (record { loads = same; rest = refl })
    (if_both P (which == 4) _ _ _ _ (record { loads = same; rest = refl }) (record { loads = same; rest = refl }))) in
    if_both P (offset == 0x08e) _ _ _ _ (record { loads = same; rest = refl })
    (if_both P (offset == 0x090) _ _ _ _ (record { loads = same; rest = refl })
    (if_both P (offset == 0x098) _ _ _ _ (record { loads = same; rest = refl })
    (if_both P (offset == 0x100) _ _ _ _ (record { loads = same; rest = refl })
    (if_both P (offset == 0x102) _ _ _ _ (record { loads = same; rest = refl })
    (if_both P (offset == 0x104) _ _ _ _ (record { loads = same; rest = refl })
    (if_both P (offset == 0x110) _ _ _ _
    (record {
      loads = ShowsSame-more from loads p.loads (load_of h latched.latches p.con1 (is_hires p.con0)) same;
      rest = refl;
    })
    (if_both P (is_latch offset) _ _ _ _ (record { loads = same; rest = refl })
    (if_both P (is_sprite offset) _ _ _ _ sprite
    (if_both P (is_colour offset) _ _ _ _ (record { loads = same; rest = refl }) (record { loads = same; rest = refl }))))))))))

pub stands_written : StandsWritten
stands_written from h offset word kept p stands =
    subst (λ q. StandsFor from (set_picture h offset word q) (set_picture h offset word p)) (sym (same_but_loads from kept p stands))
    (written from h offset word kept.loads p stands.loads)

touched : (from h : ℕ) (words : ℕ → ℕ) (touch : Touch) (kept p : Denise) → StandsFor from kept p
    → StandsFor from (touch_picture h words touch kept) (touch_picture h words touch p)
touched from h words (Set reg word) kept p stands = stands_written from h reg.offset word kept p stands
touched from h words (Plane plane at) kept p stands = stands_written from h (plane_latch plane) (words at.value) kept p stands
touched from h words (Sprite sprite second at) kept p stands =
    stands_written from h (sprite_data sprite second) (words at.value) kept p stands

pub stands_touched : StandsTouched
stands_touched from h words None kept p stands = stands
stands_touched from h words (Some touch) kept p stands = touched from h words touch kept p stands

pub stands_touched_in_order : StandsTouchedInOrder
unfolding touch_in_order
stands_touched_in_order from h words [] kept p stands = stands
stands_touched_in_order from h words (touch ∷ touches) kept p stands =
    stands_touched_in_order from h words touches (touch_picture h words touch kept) (touch_picture h words touch p)
    (touched from h words touch kept p stands)

-- the clearing
emptied : (from to : ℕ) (kept p : Denise) → StandsFor from kept p
    → StandsFor to (record kept { loads = []; runs = replicate 8 None; held = record { 0 = slice_index kept.palette 0 } })
    (record p { loads = []; runs = replicate 8 None; held = record { 0 = slice_index p.palette 0 } })
emptied from to kept p stands = record {
  loads = ShowsSame-refl to [];
  rest = ap (λ (q : Denise). record q { loads = []; runs = replicate 8 None; held = record { 0 = slice_index q.palette 0 } }) stands.rest;
}

cleared_by : (start : Bool) (from to : ℕ) (kept p : Denise) → StandsFor from kept p → (start ≡ false → from ≤ to)
    → StandsFor to
    (if start then record kept { loads = []; runs = replicate 8 None; held = record { 0 = slice_index kept.palette 0 } } else kept)
    (if start then record p { loads = []; runs = replicate 8 None; held = record { 0 = slice_index p.palette 0 } } else p)
cleared_by true from to kept p stands order = emptied from to kept p stands
cleared_by false from to kept p stands order = stands_later from to kept p (order refl) stands

pub stands_cleared : StandsCleared
unfolding clear_line
stands_cleared from b kept p stands order = cleared_by (is_line_start b) from (4 * b.h) kept p stands order

-- the picture step, of a picture state with other loads that show the same
colour_same : (v x held : ℕ) (loads : List Load) (p : Denise)
    → all_bits x (planes_of p.con0) loads ≡ all_bits x (planes_of p.con0) p.loads
    → pixel_colour v x held (with_loads loads p) ≡ pixel_colour v x held p
unfolding pixel_colour
colour_same v x held loads p same =
    ap (λ bits. if is_inside v (x / 2) p.diwstrt p.diwstop
    then playfield_colour p.con0 p.con2 bits held p.palette
    else slice_index p.palette 0) same

shown_same : (v x : ℕ) (values : List ℕ) (held : ℕ) (loads : List Load) (p : Denise)
    → all_bits x (planes_of p.con0) loads ≡ all_bits x (planes_of p.con0) p.loads
    → shown_at v x values held (with_loads loads p) ≡ shown_at v x values held p
unfolding shown_at
shown_same v x values held loads p same =
    ap (λ bits. if is_inside v (x / 2) p.diwstrt p.diwstop
    then shown_colour p.con0 p.con2 bits (front_pixel values (attached_pairs p)) held p.palette
    else slice_index p.palette 0) same

collided_same : (v x : ℕ) (values : List ℕ) (loads : List Load) (p : Denise)
    → all_bits x (planes_of p.con0) loads ≡ all_bits x (planes_of p.con0) p.loads
    → collisions_at v x values (with_loads loads p) ≡ collisions_at v x values p
unfolding collisions_at
collided_same v x values loads p same =
    ap (λ bits. if is_inside v (x / 2) p.diwstrt p.diwstop then collision_bits p.clxcon bits values else 0) same

-- other loads show the same at the four positions of a clock
abbrev pub SameHere : ℕ → List Load → Denise → Type 0
SameHere h loads p = (n : ℕ) → n < 4 → all_bits (4 * h + n) (planes_of p.con0) loads ≡ all_bits (4 * h + n) (planes_of p.con0) p.loads

here_same : (h : ℕ) (loads : List Load) (p : Denise) → ShowsSame (4 * h) loads p.loads → SameHere h loads p
here_same h loads p same n few = all_bits-same (4 * h) (4 * h + n) (planes_of p.con0) loads p.loads same (omega arith)

held_same : (v h n : ℕ) (loads : List Load) (p : Denise) → SameHere h loads p → n ≤ 4
    → held_after v h n (with_loads loads p) ≡ held_after v h n p
unfolding held_after
held_same v h zero loads p same few = refl
held_same v h (suc n) loads p same few =
    ap (λ held. pixel_colour v (4 * h + n) held (with_loads loads p)) (held_same v h n loads p same (omega arith))
    ∙ colour_same v (4 * h + n) (held_after v h n p) loads p (same n (omega arith))

runs_same : (h n : ℕ) (loads : List Load) (p : Denise) → runs_after h n (with_loads loads p) ≡ runs_after h n p
unfolding runs_after
runs_same h zero loads p = refl
runs_same h (suc n) loads p = ap (λ runs. runs_at (2 * h + n) p runs) (runs_same h n loads p)

values_same : (h n : ℕ) (loads : List Load) (p : Denise) → values_after h n (with_loads loads p) ≡ values_after h n p
values_same h n loads p = ap (λ runs. sprite_values (2 * h + n / 2) runs) (runs_same h (n / 2 + 1) loads p)

bytes_same : (v h n : ℕ) (loads : List Load) (p : Denise) → SameHere h loads p → n < 4
    → pixel_bytes v h n (with_loads loads p) ≡ pixel_bytes v h n p
bytes_same v h n loads p same few =
    let q : Denise = with_loads loads p in
    ap (λ values. colour_bytes (shown_at v (4 * h + n) values (held_after v h n q) q)) (values_same h n loads p)
    ∙ ap (λ held. colour_bytes (shown_at v (4 * h + n) (values_after h n p) held q)) (held_same v h n loads p same (omega arith))
    ∙ ap (λ colour. colour_bytes colour)
    (shown_same v (4 * h + n) (values_after h n p) (held_after v h n p) loads p (same n few))

collisions_same : (v h n : ℕ) (loads : List Load) (p : Denise) → SameHere h loads p → n < 4
    → pixel_collisions v h n (with_loads loads p) ≡ pixel_collisions v h n p
collisions_same v h n loads p same few =
    ap (λ values. collisions_at v (4 * h + n) values (with_loads loads p)) (values_same h n loads p)
    ∙ collided_same v (4 * h + n) (values_after h n p) loads p (same n few)

four_same : {A B : Type 0} (f : A → A → A → A → B) (a b c d e g h i : A) → a ≡ e → b ≡ g → c ≡ h → d ≡ i → f a b c d ≡ f e g h i
four_same f a b c d e g h i first second third last =
    ap (λ x. f x b c d) first ∙ ap (λ x. f e x c d) second ∙ ap (λ x. f e g x d) third ∙ ap (λ x. f e g h x) last

pixels_same : (system : System) (v h : ℕ) (loads : List Load) (p : Denise) → SameHere h loads p
    → pixels system v h (with_loads loads p) ≡ pixels system v h p
pixels_same system v h loads p same =
    four_same (λ a b c d. if is_visible system v h then a ++ (b ++ (c ++ d)) else []) _ _ _ _ _ _ _ _
    (bytes_same v h 0 loads p same (omega arith)) (bytes_same v h 1 loads p same (omega arith))
    (bytes_same v h 2 loads p same (omega arith)) (bytes_same v h 3 loads p same (omega arith))

clx_same : (v h : ℕ) (loads : List Load) (p : Denise) → SameHere h loads p
    → clock_collisions v h (with_loads loads p) ≡ clock_collisions v h p
clx_same v h loads p same =
    four_same (λ a b c d. bit_or (bit_or a b) (bit_or c d)) _ _ _ _ _ _ _ _
    (collisions_same v h 0 loads p same (omega arith)) (collisions_same v h 1 loads p same (omega arith))
    (collisions_same v h 2 loads p same (omega arith)) (collisions_same v h 3 loads p same (omega arith))

abbrev step_by : ℕ → List (Option Start) → List ℕ → ℕ → PictureStep
step_by held runs bytes clx = record { held = record { 0 = held }; runs = runs; bytes = bytes; clx = clx }

-- the step of a clock reads the loads by what they show at its positions alone
pub step_same : (system : System) (v h : ℕ) (loads : List Load) (p : Denise) → SameHere h loads p
    → step_of system v h (with_loads loads p) ≡ step_of system v h p
unfolding step_of
step_same system v h loads p same =
    let q : Denise = with_loads loads p in
    ap (λ held. step_by held (runs_after h 2 q) (pixels system v h q) (clock_collisions v h q)) (held_same v h 4 loads p same (omega arith))
    ∙ ap (λ runs. step_by (held_after v h 4 p) runs (pixels system v h q) (clock_collisions v h q)) (runs_same h 2 loads p)
    ∙ ap (λ bytes. step_by (held_after v h 4 p) (runs_after h 2 p) bytes (clock_collisions v h q)) (pixels_same system v h loads p same)
    ∙ ap (λ clx. step_by (held_after v h 4 p) (runs_after h 2 p) (pixels system v h p) clx) (clx_same v h loads p same)

pub stands_shown : StandsShown
stands_shown system v h kept p stands =
    ap (λ q. step_of system v h q) (same_but_loads (4 * h) kept p stands)
    ∙ step_same system v h kept.loads p (here_same h kept.loads p stands.loads)

positions : (h : ℕ) → 4 * h ≤ 4 * h + 4
positions h = omega arith

pub stands_after : StandsAfter
stands_after system v h kept p stands =
    let step : PictureStep = step_of system v h p in
    let shown : StandsFor (4 * h + 4) (after_step step kept) (after_step step p) = record {
      loads = ShowsSame-later (4 * h) (4 * h + 4) kept.loads p.loads (positions h) stands.loads;
      rest = ap (λ q. after_step step q) stands.rest;
    } in
    subst (λ s. StandsFor (4 * h + 4) (after_step s kept) (after_step step p)) (sym (stands_shown system v h kept p stands)) shown
