-- The shadow of a picture state, from which a line's opening is made with the memory of the clocks of its fetches.
use Rattle.std.specs.Prelude.{◌≡◌, ◌≤◌, ℕ, suc, ◌-◌, ◌/◌, ◌%◌, ◌^◌, ◌==◌, Bool, true, false, if◌then◌else◌, List}
use Rattle.std.specs.Prelude.{[], ◌∷◌, map, bit_and, bit_or, slice_index, slice_set, replicate, Option, Some, None}
use Rattle.ocs_base.specs.declared.addr.Addr.{Addr}
use Rattle.ocs_base.specs.declared.beam.Beam.{Beam}
use Rattle.serial_model.specs.declared.picture.Denise.{Denise}
use Rattle.serial_model.specs.declared.picture.Touch.{Touch}
use Rattle.serial_model.specs.declared.picture.Touch.TheVariants as T
use Rattle.serial_model.specs.Beam.{is_line_start}
use Rattle.serial_model.specs.Made.{word_of}
use Rattle.serial_model.specs.Picture.{is_latch, is_sprite, is_colour, touch_if_any, clear_line, PictureStep, after_step, reset_picture}
use Rattle.serial_bands.specs.declared.shadow.Filling.{Filling}
use Rattle.serial_bands.specs.declared.shadow.Filling.TheVariants.{Word, Fetched}
use Rattle.serial_bands.specs.declared.shadow.Shadow.{Shadow}
use Rattle.serial_bands.specs.Run.{RunValue, beam_at, run_memory}
use Rattle.serial_bands.specs.Clock.{opening_at, sets_at, bus_touch_at}
use Rattle.serial_model.specs.StandsFor.{StandsFor}
use Rattle.serial_bands.specs.RightJob.{clock_of, HasMemory}

-- the word of a filling in a run
abbrev pub filling_word : RunValue → Filling → ℕ
filling_word run (Word word) = word
filling_word run (Fetched at addr) = word_of (run_memory run at.0) addr.value

-- what is left of both beside the words and what a line alone has
abbrev pub controls_of : Denise → Denise
controls_of p = record p { latches = []; loads = []; runs = []; words_a = []; words_b = []; held = record { 0 = 0 } }

abbrev pub shadow_controls : Shadow → Denise
shadow_controls s = record {
  palette = s.palette;
  con0 = s.con0;
  con1 = s.con1;
  con2 = s.con2;
  diwstrt = s.diwstrt;
  diwstop = s.diwstop;
  clxcon = s.clxcon;
  latches = [];
  loads = [];
  runs = [];
  pos = s.pos;
  ctl = s.ctl;
  words_a = [];
  words_b = [];
  armed = s.armed;
  held = record { 0 = 0 };
}

-- a shadow is that of a picture state of a run
pub record IsShadowOf (run : RunValue) (s : Shadow) (p : Denise) : Type 0 where
  pub latches : map (filling_word run) s.latches ≡ p.latches
  pub words_a : map (filling_word run) s.words_a ≡ p.words_a
  pub words_b : map (filling_word run) s.words_b ≡ p.words_b
  pub rest : shadow_controls s ≡ controls_of p

-- a write of a register, done to a shadow
abbrev pub set_shadow_sprite : ℕ → ℕ → ℕ → Shadow → Shadow
set_shadow_sprite n which word s =
    if which == 0 then record s { pos = slice_set s.pos n word }
    else if which == 2 then record s { ctl = slice_set s.ctl n word; armed = bit_and s.armed (255 - 2 ^ n) }
    else if which == 4 then record s { words_a = slice_set s.words_a n (Word word); armed = bit_or s.armed (2 ^ n) }
    else record s { words_b = slice_set s.words_b n (Word word) }

unfoldable pub set_shadow : ℕ → ℕ → Shadow → Shadow
set_shadow offset word s =
    if offset == 0x08e then record s { diwstrt = word }
    else if offset == 0x090 then record s { diwstop = word }
    else if offset == 0x098 then record s { clxcon = word }
    else if offset == 0x100 then record s { con0 = word }
    else if offset == 0x102 then record s { con1 = word }
    else if offset == 0x104 then record s { con2 = word }
    else if offset == 0x110 then record s { latches = slice_set s.latches 0 (Word word) }
    else if is_latch offset then record s { latches = slice_set s.latches ((offset - 0x110) / 2) (Word word) }
    else if is_sprite offset then set_shadow_sprite ((offset - 0x140) / 8) ((offset - 0x140) % 8) word s
    else if is_colour offset then record s { palette = slice_set s.palette ((offset - 0x180) / 2) (word % 4096) }
    else s

-- a fetch, of which the place of the word is kept
abbrev pub fetch_shadow_sprite : ℕ → Bool → Filling → Shadow → Shadow
fetch_shadow_sprite sprite false filling s =
    record s { words_a = slice_set s.words_a sprite filling; armed = bit_or s.armed (2 ^ sprite) }
fetch_shadow_sprite sprite true filling s = record s { words_b = slice_set s.words_b sprite filling }

-- a touch at a clock
abbrev pub touch_shadow : ℕ → Touch → Shadow → Shadow
touch_shadow c (T.Set reg word) s = set_shadow reg.offset word s
touch_shadow c (T.Plane plane at) s = record s { latches = slice_set s.latches (plane - 1) (Fetched (clock_of c) at) }
touch_shadow c (T.Sprite sprite second at) s = fetch_shadow_sprite sprite second (Fetched (clock_of c) at) s

abbrev pub touch_shadow_if_any : ℕ → Option Touch → Shadow → Shadow
touch_shadow_if_any c None s = s
touch_shadow_if_any c (Some touch) s = touch_shadow c touch s

unfoldable pub touch_shadow_in_order : ℕ → List Touch → Shadow → Shadow
touch_shadow_in_order c [] s = s
touch_shadow_in_order c (touch ∷ touches) s = touch_shadow_in_order c touches (touch_shadow c touch s)

-- planes are numbered from 1 and sprites from 0
abbrev pub IsInRange : Option Touch → Type 0
IsInRange None = Unit {0}
IsInRange (Some (T.Set reg word)) = Unit {0}
IsInRange (Some (T.Plane plane at)) = (1 ≤ plane) × (plane ≤ 6)
IsInRange (Some (T.Sprite sprite second at)) = sprite ≤ 7

-- the shadow of a picture state whose words are at hand
abbrev pub shadow_of : Denise → Shadow
shadow_of p = record {
  palette = p.palette;
  con0 = p.con0;
  con1 = p.con1;
  con2 = p.con2;
  diwstrt = p.diwstrt;
  diwstop = p.diwstop;
  clxcon = p.clxcon;
  latches = map (λ word. Word word) p.latches;
  pos = p.pos;
  ctl = p.ctl;
  words_a = map (λ word. Word word) p.words_a;
  words_b = map (λ word. Word word) p.words_b;
  armed = p.armed;
}

-- it is one, also where a kept picture state is taken for the one that it stands for, and a run begins with that of the reset
abbrev pub ShadowOfPicture : Type 0
ShadowOfPicture = (run : RunValue) (p : Denise) → IsShadowOf run (shadow_of p) p

abbrev pub ShadowOfKept : Type 0
ShadowOfKept = (run : RunValue) (from : ℕ) (s : Shadow) (kept p : Denise) → StandsFor from kept p → IsShadowOf run s kept → IsShadowOf run s p

abbrev pub FirstShadow : Type 0
FirstShadow = (run : RunValue) → IsShadowOf run (shadow_of reset_picture) (opening_at run 0)

-- it stays the shadow: through a touch, the picture step, and the first step of a clock
abbrev pub ShadowTouched : Type 0
ShadowTouched = (run : RunValue) (c h : ℕ) (touch : Option Touch) (s : Shadow) (p : Denise) → IsInRange touch → IsShadowOf run s p →
    IsShadowOf run (touch_shadow_if_any c touch s) (touch_if_any h (word_of (run_memory run c)) touch p)

abbrev pub ShadowShown : Type 0
ShadowShown = (run : RunValue) (step : PictureStep) (s : Shadow) (p : Denise) → IsShadowOf run s p → IsShadowOf run s (after_step step p)

abbrev pub ShadowCleared : Type 0
ShadowCleared = (run : RunValue) (b : Beam) (s : Shadow) (p : Denise) → IsShadowOf run s p → IsShadowOf run s (clear_line b p)

-- so from opening to opening
abbrev pub NextShadow : Type 0
NextShadow = (run : RunValue) (c : ℕ) (s : Shadow) → IsInRange (bus_touch_at run c) → IsShadowOf run s (opening_at run c) →
    IsShadowOf run (touch_shadow_if_any c (bus_touch_at run c) (touch_shadow_in_order c (sets_at run c) s)) (opening_at run (suc c))

-- a filling with its word found, where it is a fetch
abbrev pub found_filling : (ℕ → Addr → ℕ) → Filling → Filling
found_filling word_found (Word word) = Word word
found_filling word_found (Fetched at addr) = Word (word_found at.0 addr)

abbrev pub found_shadow : (ℕ → Addr → ℕ) → Shadow → Shadow
found_shadow word_found s = record s {
  latches = map (found_filling word_found) s.latches;
  words_a = map (found_filling word_found) s.words_a;
  words_b = map (found_filling word_found) s.words_b;
}

-- each fetch is of a clock of a range
abbrev pub IsOfRange : ℕ → ℕ → Filling → Type 0
IsOfRange from to (Word word) = Unit {0}
IsOfRange from to (Fetched at addr) = (from ≤ at.0) × (at.0 ≤ to)

abbrev pub AreOfRange : ℕ → ℕ → List Filling → Type 0
AreOfRange from to [] = Unit {0}
AreOfRange from to (filling ∷ fillings) = IsOfRange from to filling × AreOfRange from to fillings

-- a shadow whose fetches are found in a band's memory has the words alone, and is a shadow still
abbrev pub ShadowFound : Type 0
ShadowFound = (run : RunValue) (from to : ℕ) (word_found : ℕ → Addr → ℕ) (s : Shadow) (p : Denise) → HasMemory run from to word_found →
    AreOfRange from to s.latches → AreOfRange from to s.words_a → AreOfRange from to s.words_b → IsShadowOf run s p →
    IsShadowOf run (found_shadow word_found s) p

-- and the opening of a line is made of a shadow
abbrev pub line_opening : RunValue → Shadow → Denise
line_opening run s = record (shadow_controls s) {
  latches = map (filling_word run) s.latches;
  runs = replicate 8 None;
  words_a = map (filling_word run) s.words_a;
  words_b = map (filling_word run) s.words_b;
  held = record { 0 = slice_index s.palette 0 };
}

abbrev pub LineOpens : Type 0
LineOpens = (run : RunValue) (c : ℕ) (s : Shadow) → is_line_start (beam_at run c) ≡ true → IsShadowOf run s (opening_at run c) →
    opening_at run c ≡ line_opening run s
