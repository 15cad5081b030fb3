-- Shadows of picture states.
use Rattle.std.proofs.Common.{◌≡◌, ◌≤◌, ℕ, zero, suc, ◌-◌, ◌/◌, ◌%◌, ◌^◌, Bool, true, false, ◌==◌, if◌then◌else◌, List, [], ◌∷◌, map}
use Rattle.std.proofs.Common.{Option, Some, None, refl, ap, ◌∙◌, sym, subst, arith, replicate, slice_index, slice_set, bit_and, bit_or}
use Rattle.std.proofs.lemmas.List.{map-set}
use Rattle.ocs_base.specs.declared.addr.Addr.{Addr}
use Rattle.serial_model.specs.declared.picture.Denise.{Denise}
use Rattle.serial_model.specs.declared.picture.Touch.{Touch}
use Rattle.serial_model.specs.declared.picture.Touch.TheVariants as T
use Rattle.serial_model.specs.Beam.{is_line_start}
use Rattle.serial_model.specs.Made.{word_of}
use Rattle.serial_model.specs.Picture.{reset_picture, set_picture, set_sprite, plane_latch, sprite_data}
use Rattle.serial_model.specs.Picture.{is_latch, is_sprite, is_colour, touch_if_any, touch_in_order, clear_line}
use Rattle.serial_bands.specs.declared.shadow.Filling.{Filling}
use Rattle.serial_bands.specs.declared.shadow.Filling.TheVariants.{Word, Fetched}
use Rattle.serial_bands.specs.declared.shadow.Shadow.{Shadow}
use Rattle.serial_model.specs.Serial.{state_over}
use Rattle.serial_model.specs.State.{reset}
use Rattle.serial_bands.specs.Run.{RunValue, state_of, beam_at, run_memory}
use Rattle.serial_bands.specs.Clock.{opening_at, closing_at, displayed_at, picture_at, sets_at, bus_touch_at, due_at, write_alone}
use Rattle.serial_bands.specs.ClockLaws.{step_at}
use Rattle.serial_bands.specs.RightJob.{clock_of, HasMemory}
use Rattle.serial_bands.specs.Shadows.{filling_word, controls_of, shadow_controls, IsShadowOf, set_shadow_sprite, set_shadow, fetch_shadow_sprite}
use Rattle.serial_bands.specs.Shadows.{touch_shadow_if_any, touch_shadow_in_order, ShadowTouched, ShadowShown, ShadowCleared, NextShadow, found_filling}
use Rattle.serial_bands.specs.Shadows.{IsOfRange, AreOfRange, ShadowFound, line_opening, LineOpens, shadow_of, ShadowOfPicture, ShadowOfKept, FirstShadow}
use Rattle.serial_bands.specs.Fetches.{ShadowSets, ShadowAccess}
use Rattle.serial_bands.proofs.NextClock.{next_opening, displayed_is_step, closing_has_fetch, touched_twice}
use Rattle.serial_bands.proofs.Reading.{AreSets, are_sets}

if_both : {A B : Type 0} (P : A → B → Type 0) (b : Bool) (x y : A) (u v : B) → P x u → P y v → P (if b then x else y) (if b then u else v)
if_both P true x y u v first second = first
if_both P false x y u v first second = second

-- one word of a list
one_set : (run : RunValue) (fillings : List Filling) (words : List ℕ) (i : ℕ) (filling : Filling) (word : ℕ)
    → map (filling_word run) fillings ≡ words → filling_word run filling ≡ word
    → map (filling_word run) (slice_set fillings i filling) ≡ slice_set words i word
one_set run fillings words i filling word same is =
    map-set (filling_word run) fillings i filling
    ∙ ap (λ l. slice_set l i (filling_word run filling)) same
    ∙ ap (λ w. slice_set words i w) is

written_sprite : (run : RunValue) (n which word : ℕ) (s : Shadow) (p : Denise) → IsShadowOf run s p
    → IsShadowOf run (set_shadow_sprite n which word s) (set_sprite n which word p)
written_sprite run n which word s p is =
    let P : Shadow → Denise → Type 0 = IsShadowOf run in
    if_both P (which == 0) _ _ _ _
    (record {
      latches = is.latches;
      words_a = is.words_a;
      words_b = is.words_b;
      rest = ap (λ (q : Denise). record q { pos = slice_set q.pos n word }) is.rest;
    })
    (if_both P (which == 2) _ _ _ _
    (record {
      latches = is.latches;
      words_a = is.words_a;
      words_b = is.words_b;
      rest = ap (λ (q : Denise). record q { ctl = slice_set q.ctl n word; armed = bit_and q.armed (255 - 2 ^ n) }) is.rest;
    })
    (if_both P (which == 4) _ _ _ _
    (record {
      latches = is.latches;
      words_a = one_set run s.words_a p.words_a n (Word word) word is.words_a refl;
      words_b = is.words_b;
      rest = ap (λ (q : Denise). record q { armed = bit_or q.armed (2 ^ n) }) is.rest;
    })
    (record {
      latches = is.latches;
      words_a = is.words_a;
      words_b = one_set run s.words_b p.words_b n (Word word) word is.words_b refl;
      rest = is.rest;
    })))

-- controls alone
controlled : (run : RunValue) (s t : Shadow) (p q : Denise) → IsShadowOf run s p
    → s.latches ≡ t.latches → s.words_a ≡ t.words_a → s.words_b ≡ t.words_b
    → p.latches ≡ q.latches → p.words_a ≡ q.words_a → p.words_b ≡ q.words_b
    → shadow_controls t ≡ controls_of q → IsShadowOf run t q
controlled run s t p q is la aa ba lb ab bb rest = record {
  latches = ap (λ l. map (filling_word run) l) (sym la) ∙ is.latches ∙ lb;
  words_a = ap (λ l. map (filling_word run) l) (sym aa) ∙ is.words_a ∙ ab;
  words_b = ap (λ l. map (filling_word run) l) (sym ba) ∙ is.words_b ∙ bb;
  rest = rest;
}

written : (run : RunValue) (h offset word : ℕ) (s : Shadow) (p : Denise) → IsShadowOf run s p
    → IsShadowOf run (set_shadow offset word s) (set_picture h offset word p)
unfolding set_shadow set_picture
written run h offset word s p is =
    let P : Shadow → Denise → Type 0 = IsShadowOf run in
    let i : ℕ = (offset - 0x110) / 2 in
    let colour : ℕ = (offset - 0x180) / 2 in
    if_both P (offset == 0x08e) _ _ _ _
    (controlled run s _ p _ is refl refl refl refl refl refl (ap (λ (q : Denise). record q { diwstrt = word }) is.rest))
    (if_both P (offset == 0x090) _ _ _ _
    (controlled run s _ p _ is refl refl refl refl refl refl (ap (λ (q : Denise). record q { diwstop = word }) is.rest))
    (if_both P (offset == 0x098) _ _ _ _
    (controlled run s _ p _ is refl refl refl refl refl refl (ap (λ (q : Denise). record q { clxcon = word }) is.rest))
    (if_both P (offset == 0x100) _ _ _ _
    (controlled run s _ p _ is refl refl refl refl refl refl (ap (λ (q : Denise). record q { con0 = word }) is.rest))
    (if_both P (offset == 0x102) _ _ _ _
    (controlled run s _ p _ is refl refl refl refl refl refl (ap (λ (q : Denise). record q { con1 = word }) is.rest))
    (if_both P (offset == 0x104) _ _ _ _
    (controlled run s _ p _ is refl refl refl refl refl refl (ap (λ (q : Denise). record q { con2 = word }) is.rest))
    (if_both P (offset == 0x110) _ _ _ _
    (record {
      latches = one_set run s.latches p.latches 0 (Word word) word is.latches refl;
      words_a = is.words_a;
      words_b = is.words_b;
      rest = is.rest;
    })
    (if_both P (is_latch offset) _ _ _ _
    (record {
      latches = one_set run s.latches p.latches i (Word word) word is.latches refl;
      words_a = is.words_a;
      words_b = is.words_b;
      rest = is.rest;
    })
    (if_both P (is_sprite offset) _ _ _ _
    (written_sprite run ((offset - 0x140) / 8) ((offset - 0x140) % 8) word s p is)
    (if_both P (is_colour offset) _ _ _ _
    (controlled run s _ p _ is refl refl refl refl refl refl
    (ap (λ (q : Denise). record q { palette = slice_set q.palette colour (word % 4096) }) is.rest))
    is)))))))))

-- fetches: the registers of six planes and of eight sprites
filled_latch : (run : RunValue) (s : Shadow) (p q : Denise) (i word : ℕ) (filling : Filling) → IsShadowOf run s p
    → filling_word run filling ≡ word → q.latches ≡ slice_set p.latches i word → q.words_a ≡ p.words_a → q.words_b ≡ p.words_b
    → controls_of q ≡ controls_of p → IsShadowOf run (record s { latches = slice_set s.latches i filling }) q
filled_latch run s p q i word filling shadow is latches words_a words_b rest = record {
  latches = one_set run s.latches p.latches i filling word shadow.latches is ∙ sym latches;
  words_a = shadow.words_a ∙ sym words_a;
  words_b = shadow.words_b ∙ sym words_b;
  rest = shadow.rest ∙ sym rest;
}

latched : (run : RunValue) (h plane word : ℕ) (filling : Filling) (s : Shadow) (p : Denise) → 1 ≤ plane → plane ≤ 6
    → filling_word run filling ≡ word → IsShadowOf run s p
    → IsShadowOf run (record s { latches = slice_set s.latches (plane - 1) filling }) (set_picture h (plane_latch plane) word p)
unfolding set_picture
latched run h zero word filling s p low high is shadow = absurd (omega (arith, low))
latched run h (suc zero) word filling s p low high is shadow = filled_latch run s p _ 0 word filling shadow is refl refl refl refl
latched run h (suc (suc zero)) word filling s p low high is shadow = filled_latch run s p _ 1 word filling shadow is refl refl refl refl
latched run h (suc (suc (suc zero))) word filling s p low high is shadow = filled_latch run s p _ 2 word filling shadow is refl refl refl refl
latched run h (suc (suc (suc (suc zero)))) word filling s p low high is shadow = filled_latch run s p _ 3 word filling shadow is refl refl refl refl
latched run h (suc (suc (suc (suc (suc zero))))) word filling s p low high is shadow = filled_latch run s p _ 4 word filling shadow is refl refl refl refl
latched run h (suc (suc (suc (suc (suc (suc zero)))))) word filling s p low high is shadow = filled_latch run s p _ 5 word filling shadow is refl refl refl refl
latched run h (suc (suc (suc (suc (suc (suc (suc n))))))) word filling s p low high is shadow = absurd (omega (arith, high))

first_filled : (run : RunValue) (n word : ℕ) (filling : Filling) (s : Shadow) (p : Denise) → filling_word run filling ≡ word → IsShadowOf run s p
    → IsShadowOf run (fetch_shadow_sprite n false filling s) (record p { words_a = slice_set p.words_a n word; armed = bit_or p.armed (2 ^ n) })
first_filled run n word filling s p is shadow = record {
  latches = shadow.latches;
  words_a = one_set run s.words_a p.words_a n filling word shadow.words_a is;
  words_b = shadow.words_b;
  rest = ap (λ (q : Denise). record q { armed = bit_or q.armed (2 ^ n) }) shadow.rest;
}

second_filled : (run : RunValue) (n word : ℕ) (filling : Filling) (s : Shadow) (p : Denise) → filling_word run filling ≡ word → IsShadowOf run s p
    → IsShadowOf run (fetch_shadow_sprite n true filling s) (record p { words_b = slice_set p.words_b n word })
second_filled run n word filling s p is shadow = record {
  latches = shadow.latches;
  words_a = shadow.words_a;
  words_b = one_set run s.words_b p.words_b n filling word shadow.words_b is;
  rest = shadow.rest;
}

sprite_filled : (run : RunValue) (h sprite word : ℕ) (second : Bool) (filling : Filling) (s : Shadow) (p : Denise) → sprite ≤ 7
    → filling_word run filling ≡ word → IsShadowOf run s p
    → IsShadowOf run (fetch_shadow_sprite sprite second filling s) (set_picture h (sprite_data sprite second) word p)
unfolding set_picture
sprite_filled run h zero word false filling s p high is shadow = first_filled run 0 word filling s p is shadow
sprite_filled run h (suc zero) word false filling s p high is shadow = first_filled run 1 word filling s p is shadow
sprite_filled run h (suc (suc zero)) word false filling s p high is shadow = first_filled run 2 word filling s p is shadow
sprite_filled run h (suc (suc (suc zero))) word false filling s p high is shadow = first_filled run 3 word filling s p is shadow
sprite_filled run h (suc (suc (suc (suc zero)))) word false filling s p high is shadow = first_filled run 4 word filling s p is shadow
sprite_filled run h (suc (suc (suc (suc (suc zero))))) word false filling s p high is shadow = first_filled run 5 word filling s p is shadow
sprite_filled run h (suc (suc (suc (suc (suc (suc zero)))))) word false filling s p high is shadow = first_filled run 6 word filling s p is shadow
sprite_filled run h (suc (suc (suc (suc (suc (suc (suc zero))))))) word false filling s p high is shadow = first_filled run 7 word filling s p is shadow
sprite_filled run h zero word true filling s p high is shadow = second_filled run 0 word filling s p is shadow
sprite_filled run h (suc zero) word true filling s p high is shadow = second_filled run 1 word filling s p is shadow
sprite_filled run h (suc (suc zero)) word true filling s p high is shadow = second_filled run 2 word filling s p is shadow
sprite_filled run h (suc (suc (suc zero))) word true filling s p high is shadow = second_filled run 3 word filling s p is shadow
sprite_filled run h (suc (suc (suc (suc zero)))) word true filling s p high is shadow = second_filled run 4 word filling s p is shadow
sprite_filled run h (suc (suc (suc (suc (suc zero))))) word true filling s p high is shadow = second_filled run 5 word filling s p is shadow
sprite_filled run h (suc (suc (suc (suc (suc (suc zero)))))) word true filling s p high is shadow = second_filled run 6 word filling s p is shadow
sprite_filled run h (suc (suc (suc (suc (suc (suc (suc zero))))))) word true filling s p high is shadow = second_filled run 7 word filling s p is shadow
sprite_filled run h (suc (suc (suc (suc (suc (suc (suc (suc n)))))))) word second filling s p high is shadow = absurd (omega (arith, high))

pub shadow_touched : ShadowTouched
shadow_touched run c h None s p range is = is
shadow_touched run c h (Some (T.Set reg word)) s p range is = written run h reg.offset word s p is
shadow_touched run c h (Some (T.Plane plane at)) s p range is =
    latched run h plane (word_of (run_memory run c) at.value) (Fetched (clock_of c) at) s p range.0 range.1 refl is
shadow_touched run c h (Some (T.Sprite sprite second at)) s p range is =
    sprite_filled run h sprite (word_of (run_memory run c) at.value) second (Fetched (clock_of c) at) s p range refl is

in_order : (run : RunValue) (c h : ℕ) (touches : List Touch) (s : Shadow) (p : Denise) → AreSets touches → IsShadowOf run s p
    → IsShadowOf run (touch_shadow_in_order c touches s) (touch_in_order h (word_of (run_memory run c)) touches p)
unfolding touch_shadow_in_order touch_in_order
in_order run c h [] s p sets is = is
in_order run c h (T.Set reg word ∷ touches) s p sets is =
    in_order run c h touches (set_shadow reg.offset word s) (set_picture h reg.offset word p) sets.1 (written run h reg.offset word s p is)
in_order run c h (T.Plane plane at ∷ touches) s p sets is = absurd sets.0
in_order run c h (T.Sprite sprite second at ∷ touches) s p sets is = absurd sets.0

pub shadow_shown : ShadowShown
shadow_shown run step s p is = record { latches = is.latches; words_a = is.words_a; words_b = is.words_b; rest = is.rest }

cleared : (run : RunValue) (start : Bool) (s : Shadow) (p : Denise) → IsShadowOf run s p
    → IsShadowOf run s
    (if start then record p { loads = []; runs = replicate 8 None; held = record { 0 = slice_index p.palette 0 } } else p)
cleared run true s p is = record { latches = is.latches; words_a = is.words_a; words_b = is.words_b; rest = is.rest }
cleared run false s p is = is

pub shadow_cleared : ShadowCleared
unfolding clear_line
shadow_cleared run b s p is = cleared run (is_line_start b) s p is

-- a clock in two steps
pub shadow_sets : ShadowSets
shadow_sets run c s is = in_order run c (beam_at run c).h (sets_at run c) s (opening_at run c) (are_sets (due_at run c)) is

pub shadow_access : ShadowAccess
shadow_access run c s range pictured =
    let h : ℕ = (beam_at run c).h in
    let words : ℕ → ℕ = word_of (run_memory run c) in
    let touch : Option Touch = bus_touch_at run c in
    let displayed : IsShadowOf run s (displayed_at run c) =
    subst (λ p. IsShadowOf run s p) (sym (displayed_is_step run c)) (shadow_shown run (step_at run c) s (picture_at run c) pictured) in
    let closed : touch_if_any h words (write_alone touch) (closing_at run c) ≡ touch_if_any h words touch (displayed_at run c) =
    ap (λ p. touch_if_any h words (write_alone touch) p) (closing_has_fetch run c) ∙ sym (touched_twice h words touch (displayed_at run c)) in
    let left : IsShadowOf run (touch_shadow_if_any c touch s) (touch_if_any h words (write_alone touch) (closing_at run c)) =
    subst (λ p. IsShadowOf run (touch_shadow_if_any c touch s) p) (sym closed) (shadow_touched run c h touch s (displayed_at run c) range displayed) in
    subst (λ p. IsShadowOf run (touch_shadow_if_any c touch s) p) (sym (next_opening run c))
    (shadow_cleared run (beam_at run (suc c)) (touch_shadow_if_any c touch s) (touch_if_any h words (write_alone touch) (closing_at run c)) left)

pub next_shadow : NextShadow
next_shadow run c s range is = shadow_access run c (touch_shadow_in_order c (sets_at run c) s) range (shadow_sets run c s is)

-- what is found
one_found : (run : RunValue) (from to : ℕ) (word_found : ℕ → Addr → ℕ) (filling : Filling) → HasMemory run from to word_found
    → IsOfRange from to filling → filling_word run (found_filling word_found filling) ≡ filling_word run filling
one_found run from to word_found (Word word) has range = refl
one_found run from to word_found (Fetched at addr) has range = has at.0 addr range.0 range.1

all_found : (run : RunValue) (from to : ℕ) (word_found : ℕ → Addr → ℕ) (fillings : List Filling) → HasMemory run from to word_found
    → AreOfRange from to fillings
    → map (filling_word run) (map (found_filling word_found) fillings) ≡ map (filling_word run) fillings
all_found run from to word_found [] has range = refl
all_found run from to word_found (filling ∷ fillings) has range =
    ap (λ w. w ∷ map (filling_word run) (map (found_filling word_found) fillings)) (one_found run from to word_found filling has range.0)
    ∙ ap (λ l. filling_word run filling ∷ l) (all_found run from to word_found fillings has range.1)

pub shadow_found : ShadowFound
shadow_found run from to word_found s p has latches words_a words_b is = record {
  latches = all_found run from to word_found s.latches has latches ∙ is.latches;
  words_a = all_found run from to word_found s.words_a has words_a ∙ is.words_a;
  words_b = all_found run from to word_found s.words_b has words_b ∙ is.words_b;
  rest = is.rest;
}

-- a line's opening
abbrev built : Denise → List ℕ → List ℕ → List ℕ → Denise
built q latches words_a words_b =
    record q { latches = latches; runs = replicate 8 None; words_a = words_a; words_b = words_b; held = record { 0 = slice_index q.palette 0 } }

opened : (run : RunValue) (start : Bool) (s : Shadow) (p : Denise) → start ≡ true
    → IsShadowOf run s (if start then record p { loads = []; runs = replicate 8 None; held = record { 0 = slice_index p.palette 0 } } else p)
    → (if start then record p { loads = []; runs = replicate 8 None; held = record { 0 = slice_index p.palette 0 } } else p)
    ≡ line_opening run s
opened run true s p here is =
    ap (λ q. built q p.latches p.words_a p.words_b) (sym is.rest)
    ∙ ap (λ l. built (shadow_controls s) l p.words_a p.words_b) (sym is.latches)
    ∙ ap (λ l. built (shadow_controls s) (map (filling_word run) s.latches) l p.words_b) (sym is.words_a)
    ∙ ap (λ l. built (shadow_controls s) (map (filling_word run) s.latches) (map (filling_word run) s.words_a) l) (sym is.words_b)
opened run false s p here is = ap (λ b. if b then line_opening run s else p) here

pub line_opens : LineOpens
unfolding opening_at clear_line
line_opens run c s start is = opened run (is_line_start (beam_at run c)) s (state_of run c).picture start is

-- words at hand
words_again : (run : RunValue) (words : List ℕ) → map (filling_word run) (map (λ word. Word word) words) ≡ words
words_again run [] = refl
words_again run (word ∷ words) = ap (λ l. word ∷ l) (words_again run words)

pub shadow_of_picture : ShadowOfPicture
shadow_of_picture run p = record {
  latches = words_again run p.latches;
  words_a = words_again run p.words_a;
  words_b = words_again run p.words_b;
  rest = refl;
}

pub shadow_of_kept : ShadowOfKept
shadow_of_kept run from s kept p stands is = record {
  latches = is.latches ∙ ap (λ (q : Denise). q.latches) stands.rest;
  words_a = is.words_a ∙ ap (λ (q : Denise). q.words_a) stands.rest;
  words_b = is.words_b ∙ ap (λ (q : Denise). q.words_b) stands.rest;
  rest = is.rest ∙ ap (λ q. controls_of q) stands.rest;
}

pub first_shadow : FirstShadow
unfolding opening_at state_over reset
first_shadow run =
    shadow_cleared run (beam_at run 0) (shadow_of reset_picture) reset_picture (shadow_of_picture run reset_picture)
