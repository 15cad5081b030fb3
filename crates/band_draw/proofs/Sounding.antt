-- Each picture state of a run is sound, and so is one that stands for it.
use Rattle.std.proofs.Common.{◌≤◌, ◌<◌, ℕ, zero, suc, ◌+◌, ◌-◌, ◌*◌, ◌/◌, ◌%◌, Bool, true, false, ◌==◌, List, [], ◌∷◌, length}
use Rattle.std.proofs.Common.{Option, Some, None, refl, sym, ap, ◌∙◌, subst, arith, slice_index, slice_set, replicate}
use Rattle.std.specs.Bool.{if◌then◌else◌}
use Rattle.std.specs.List.{All}
use Rattle.std.proofs.lemmas.List.Elements.{All-set}
use Rattle.std.proofs.lemmas.List.{get_or-replicate, length-replicate}
use Rattle.ocs_base.specs.declared.beam.Beam.{Beam}
use Rattle.ocs_base.specs.declared.system.System.{System}
use Rattle.priority_ham.specs.PixelColour.{Mode, DualPlayfield, HoldAndModify, ExtraHalfBrite, Plain}
use Rattle.priority_ham.specs.PixelColour.{colour_in, mode_of, playfield_colour, colour_of, dual_number, plane}
use Rattle.serial_model.specs.Beam.{is_line_start}
use Rattle.serial_model.specs.Window.{is_inside}
use Rattle.serial_model.specs.declared.picture.Denise.{Denise}
use Rattle.serial_model.specs.declared.picture.Touch.{Touch}
use Rattle.serial_model.specs.declared.picture.Touch.TheVariants.{Set, Plane, Sprite}
use Rattle.serial_model.specs.Made.{word_of}
use Rattle.serial_model.specs.Picture.{reset_picture, set_picture, set_sprite, is_latch, is_sprite, is_colour, plane_latch, sprite_data}
use Rattle.serial_model.specs.Picture.{touch_if_any, touch_in_order, clear_line, pixel_colour, held_after, runs_after, step_of, after_step}
use Rattle.serial_model.specs.Serial.{state_over}
use Rattle.serial_model.specs.State.{reset}
use Rattle.serial_bands.specs.Run.{RunValue, beam_at, run_memory}
use Rattle.serial_bands.specs.Clock.{opening_at, displayed_at, closing_at, picture_at, sets_at, bus_touch_at, write_alone, fetch_alone}
use Rattle.serial_model.specs.StandsFor.{StandsFor}
use Rattle.serial_bands.proofs.NextClock.{next_opening, displayed_is_step, closing_has_fetch}
use Rattle.band_draw.specs.code.Sound.{IsSound}

sound_if : (b : Bool) (p q : Denise) → IsSound p → IsSound q → IsSound (if b then p else q)
sound_if true p q one two = one
sound_if false p q one two = two

small_word : (word : ℕ) → word % 4096 ≤ 4095
small_word word = omega arith

abbrev Small : ℕ → Type 0
Small word = word ≤ 4095

-- a write
pub sound_written : (h offset word : ℕ) (p : Denise) → IsSound p → IsSound (set_picture h offset word p)
unfolding set_picture
sound_written h offset word p is =
    let n : ℕ = (offset - 0x140) / 8 in
    let which : ℕ = (offset - 0x140) % 8 in
    let sprite : IsSound (set_sprite n which word p) =
    sound_if (which == 0) _ _ (record { palette = is.palette; held = is.held; eight = is.eight })
    (sound_if (which == 2) _ _ (record { palette = is.palette; held = is.held; eight = is.eight })
    (sound_if (which == 4) _ _ (record { palette = is.palette; held = is.held; eight = is.eight })
    (record { palette = is.palette; held = is.held; eight = is.eight }))) in
    let colour : IsSound (record p { palette = slice_set p.palette ((offset - 0x180) / 2) (word % 4096) }) = record {
      palette = All-set Small p.palette ((offset - 0x180) / 2) (word % 4096) (small_word word) is.palette;
      held = is.held;
      eight = is.eight;
    } in
    sound_if (offset == 0x08e) _ _ (record { palette = is.palette; held = is.held; eight = is.eight })
    (sound_if (offset == 0x090) _ _ (record { palette = is.palette; held = is.held; eight = is.eight })
    (sound_if (offset == 0x098) _ _ (record { palette = is.palette; held = is.held; eight = is.eight })
    (sound_if (offset == 0x100) _ _ (record { palette = is.palette; held = is.held; eight = is.eight })
    (sound_if (offset == 0x102) _ _ (record { palette = is.palette; held = is.held; eight = is.eight })
    (sound_if (offset == 0x104) _ _ (record { palette = is.palette; held = is.held; eight = is.eight })
    (sound_if (offset == 0x110) _ _ (record { palette = is.palette; held = is.held; eight = is.eight })
    (sound_if (is_latch offset) _ _ (record { palette = is.palette; held = is.held; eight = is.eight })
    (sound_if (is_sprite offset) _ _ sprite (sound_if (is_colour offset) _ _ colour is)))))))))

pub sound_touched : (h : ℕ) (words : ℕ → ℕ) (touch : Option Touch) (p : Denise) → IsSound p → IsSound (touch_if_any h words touch p)
sound_touched h words None p is = is
sound_touched h words (Some (Set reg word)) p is = sound_written h reg.offset word p is
sound_touched h words (Some (Plane plane at)) p is = sound_written h (plane_latch plane) (words at.value) p is
sound_touched h words (Some (Sprite sprite second at)) p is = sound_written h (sprite_data sprite second) (words at.value) p is

pub sound_in_order : (h : ℕ) (words : ℕ → ℕ) (touches : List Touch) (p : Denise) → IsSound p → IsSound (touch_in_order h words touches p)
unfolding touch_in_order
sound_in_order h words [] p is = is
sound_in_order h words (touch ∷ touches) p is = sound_in_order h words touches _ (sound_touched h words (Some touch) p is)

-- colours of a palette, and those made of them
small_at : (xs : List ℕ) (n : ℕ) → All Small xs → slice_index xs n ≤ 4095
small_at [] n all = omega arith
small_at (x ∷ xs) zero all = all 0 0 (omega arith)
small_at (x ∷ xs) (suc n) all = small_at xs n (λ k d within. all (suc k) d (omega (arith, within)))

small_if : (b : Bool) (x y : ℕ) → x ≤ 4095 → y ≤ 4095 → (if b then x else y) ≤ 4095
small_if true x y one two = one
small_if false x y one two = two

small_of : (r g b : ℕ) → r ≤ 15 → g ≤ 15 → b ≤ 15 → colour_of r g b ≤ 4095
small_of r g b one two three = omega arith

small_part : (x : ℕ) → x % 16 ≤ 15
small_part x = omega arith

small_half : (x : ℕ) → x % 16 / 2 ≤ 15
small_half x = omega arith

small_in : (m : Mode) (con2 bits held : ℕ) (palette : List ℕ) → All Small palette → colour_in m con2 bits held palette ≤ 4095
small_in DualPlayfield con2 bits held palette all = small_at palette (dual_number con2 bits) all
small_in HoldAndModify con2 bits held palette all =
    small_if (bits / 16 % 4 == 0) _ _ (small_at palette (bits % 16) all)
    (small_if (bits / 16 % 4 == 1) _ _ (small_of _ _ _ (small_part (held / 256)) (small_part (held / 16)) (small_part bits))
    (small_if (bits / 16 % 4 == 2) _ _ (small_of _ _ _ (small_part bits) (small_part (held / 16)) (small_part held))
    (small_of _ _ _ (small_part (held / 256)) (small_part bits) (small_part held))))
small_in ExtraHalfBrite con2 bits held palette all =
    let named : ℕ = slice_index palette (bits % 32) in
    small_if (plane 6 bits == 1) _ _ (small_of _ _ _ (small_half (named / 256)) (small_half (named / 16)) (small_half named))
    (small_at palette (bits % 32) all)
small_in Plain con2 bits held palette all = small_at palette bits all

pub small_pixel : (v x held : ℕ) (p : Denise) → All Small p.palette → pixel_colour v x held p ≤ 4095
unfolding pixel_colour playfield_colour
small_pixel v x held p all =
    small_if (is_inside v (x / 2) p.diwstrt p.diwstop) _ _ (small_in (mode_of p.con0) p.con2 _ held p.palette all) (small_at p.palette 0 all)

-- the picture step and the clearing
pub sound_after : (system : System) (v h : ℕ) (p : Denise) → IsSound p → IsSound (after_step (step_of system v h p) p)
unfolding step_of held_after runs_after
sound_after system v h p is = record {
  palette = is.palette;
  held = small_pixel v (4 * h + 3) (held_after v h 3 p) p is.palette;
  eight = refl;
}

pub sound_cleared : (b : Beam) (p : Denise) → IsSound p → IsSound (clear_line b p)
unfolding clear_line
sound_cleared b p is =
    sound_if (is_line_start b) _ _ (record { palette = is.palette; held = small_at p.palette 0 is.palette; eight = refl }) is

none_large : All Small (replicate 32 0)
none_large k d within =
    subst (λ word. word ≤ 4095) (sym (get_or-replicate 32 k 0 d (subst (λ n. k < n) (length-replicate {A = ℕ} 32 0) within))) (omega arith)

pub sound_reset : IsSound reset_picture
unfolding reset_picture
sound_reset = record { palette = none_large; held = omega arith; eight = refl }

-- the openings of a run
pub sound_opening : (run : RunValue) (c : ℕ) → IsSound (opening_at run c)
unfolding opening_at state_over reset
sound_opening run zero = sound_cleared (beam_at run zero) reset_picture sound_reset
sound_opening run (suc c) =
    let h : ℕ = (beam_at run c).h in
    let words : ℕ → ℕ = word_of (run_memory run c) in
    let picture : IsSound (picture_at run c) = sound_in_order h words (sets_at run c) (opening_at run c) (sound_opening run c) in
    let displayed : IsSound (displayed_at run c) =
    subst IsSound (sym (displayed_is_step run c)) (sound_after run.script.system (beam_at run c).v h (picture_at run c) picture) in
    let closing : IsSound (closing_at run c) =
    subst IsSound (sym (closing_has_fetch run c)) (sound_touched h words (fetch_alone (bus_touch_at run c)) (displayed_at run c) displayed) in
    subst IsSound (sym (next_opening run c))
    (sound_cleared (beam_at run (suc c)) _ (sound_touched h words (write_alone (bus_touch_at run c)) (closing_at run c) closing))

-- what stands for a sound one
pub sound_kept : (from : ℕ) (kept p : Denise) → StandsFor from kept p → IsSound p → IsSound kept
sound_kept from kept p stands is = record {
  palette = subst (λ l. All Small l) (sym (ap (λ (q : Denise). q.palette) stands.rest)) is.palette;
  held = subst (λ k. k ≤ 4095) (sym (ap (λ (q : Denise). q.held.0) stands.rest)) is.held;
  eight = ap (λ (q : Denise). length q.runs) stands.rest ∙ is.eight;
}
