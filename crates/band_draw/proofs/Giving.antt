-- What the picture step of a clock gives, and touches by address.
use Rattle.std.proofs.Common.{◌≡◌, ℕ, ◌+◌, ◌*◌, Bool, true, false, List, [], ◌∷◌, ◌++◌, length, take, Some, None, refl, ap, ◌∙◌, subst, bit_or}
use Rattle.std.specs.Bool.{if◌then◌else◌}
use Rattle.ocs_base.specs.declared.addr.Addr.{Addr}
use Rattle.ocs_base.specs.Systems.{is_visible}
use Rattle.ocs_base.specs.declared.system.System.{System}
use Rattle.serial_model.specs.declared.picture.Denise.{Denise}
use Rattle.serial_model.specs.Picture.{pixels, step_of, after_step}
use Rattle.serial_bands.specs.declared.event.Event.{Event}
use Rattle.serial_bands.specs.declared.event.Event.TheVariants as E
use Rattle.serial_bands.specs.DrawnTo.{touch_by_address}
use Rattle.serial_bands.specs.EventReading.{touch_of_event, bus_touch_of}
use Rattle.serial_bands.specs.RightJob.{bus_events}
use Rattle.band_draw.specs.declared.band_painter.BandPainter.{BandPainter}
use Rattle.band_draw.specs.BandPainter.{IsBandPainterOf, Paints}
use Rattle.band_draw.specs.code.Touched.{touched_by_events}
use Rattle.band_draw.specs.Given.{IsGiven}

-- the bytes of a clock that is visible, and of one that is not
shown_bytes : (system : System) (v h : ℕ) (p : Denise) → pixels system v h p ≡ (step_of system v h p).bytes
unfolding step_of
shown_bytes system v h p = refl

where_hidden : (b : Bool) (l : List ℕ) → b ≡ false → [] ≡ (if b then l else [])
where_hidden true l is = cc
where_hidden false l is = refl

hidden_bytes : (system : System) (v h : ℕ) (p : Denise) → is_visible system v h ≡ false → [] ≡ (step_of system v h p).bytes
unfolding step_of
hidden_bytes system v h p is = where_hidden (is_visible system v h) _ is

nothing_more : (l : List ℕ) → l ≡ l ++ []
nothing_more [] = refl
nothing_more (x ∷ l) = ap (λ k. x ∷ k) (nothing_more l)

pub given_visible : (system : System) (v h : ℕ) (p : Denise) (new : BandPainter) (before after bytes : List ℕ) (gathered clx : ℕ)
    → IsBandPainterOf (4 * h + 4) new (after_step (step_of system v h p) p) → clx ≡ bit_or gathered (step_of system v h p).clx
    → bytes ≡ pixels system v h p → after ≡ before ++ bytes → IsGiven system v h p new before after gathered clx
given_visible system v h p new before after bytes gathered clx painted bits shown put = record {
  painted = painted;
  bytes = put ∙ ap (λ l. before ++ l) (shown ∙ shown_bytes system v h p);
  bits = bits;
}

pub given_hidden : (system : System) (v h : ℕ) (p : Denise) (new : BandPainter) (before : List ℕ) (gathered clx : ℕ)
    → IsBandPainterOf (4 * h + 4) new (after_step (step_of system v h p) p) → clx ≡ bit_or gathered (step_of system v h p).clx
    → is_visible system v h ≡ false → IsGiven system v h p new before before gathered clx
given_hidden system v h p new before gathered clx painted bits hidden = record {
  painted = painted;
  bytes = nothing_more before ∙ ap (λ l. before ++ l) (hidden_bytes system v h p hidden);
  bits = bits;
}

-- the touch of an access is that of the first event that is left, where it is any
bus_if : (c : ℕ) (h : ℕ) (word_found : Addr → ℕ) (b : Bool) (e : Event) (rest : List Event) (p : Denise)
    → touched_by_events h word_found (take (length (bus_events c (if b then Some (touch_of_event e) else None))) (e ∷ rest)) p
    ≡ touch_by_address h word_found (if b then Some (touch_of_event e) else None) p
bus_if c h word_found true e rest p = refl
bus_if c h word_found false e rest p = refl

pub bus_touched : (c coming h : ℕ) (word_found : Addr → ℕ) (rest : List Event) (p : Denise)
    → touched_by_events h word_found (take (length (bus_events c (bus_touch_of c coming rest))) rest) p
    ≡ touch_by_address h word_found (bus_touch_of c coming rest) p
bus_touched c coming h word_found [] p = refl
bus_touched c coming h word_found (E.Set at reg word ∷ rest) p = bus_if c h word_found _ (E.Set at reg word) rest p
bus_touched c coming h word_found (E.Plane at plane addr ∷ rest) p = bus_if c h word_found _ (E.Plane at plane addr) rest p
bus_touched c coming h word_found (E.Sprite at sprite second addr ∷ rest) p = bus_if c h word_found _ (E.Sprite at sprite second addr) rest p

pub bus_kept : (c coming h count : ℕ) (word_found : Addr → ℕ) (rest part : List Event) (old new : BandPainter)
    → count ≡ length (bus_events c (bus_touch_of c coming rest)) → part ≡ take count rest
    → Paints (4 * h) (touched_by_events h word_found part) old new
    → Paints (4 * h) (touch_by_address h word_found (bus_touch_of c coming rest)) old new
bus_kept c coming h count word_found rest part old new is cut keeps from p later stands =
    subst (λ q. IsBandPainterOf from new q)
    (ap (λ l. touched_by_events h word_found l p) (cut ∙ ap (λ k. take k rest) is) ∙ bus_touched c coming h word_found rest p)
    (keeps from p later stands)
