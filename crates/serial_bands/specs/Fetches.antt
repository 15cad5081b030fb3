-- Which words of a shadow are fetches that were not looked up: the events that left them, their number, and their clocks.
use Rattle.std.specs.Prelude.{◌≡◌, ◌≤◌, ℕ, suc, ◌+◌, Bool, true, false, List, [], ◌++◌, length, count_by, slice_index_or, Option}
use Rattle.ocs_base.specs.declared.addr.Addr.{Addr}
use Rattle.serial_model.specs.declared.picture.Denise.{Denise}
use Rattle.serial_model.specs.declared.picture.Touch.{Touch}
use Rattle.serial_model.specs.Picture.{plane_latch, sprite_data}
use Rattle.serial_bands.specs.declared.event.Event.{Event}
use Rattle.serial_bands.specs.declared.shadow.Filling.{Filling}
use Rattle.serial_bands.specs.declared.shadow.Filling.TheVariants.{Word, Fetched}
use Rattle.serial_bands.specs.declared.shadow.Shadow.{Shadow}
use Rattle.serial_bands.specs.Run.{RunValue}
use Rattle.serial_bands.specs.Clock.{opening_at, picture_at, sets_at, bus_touch_at, fetch_alone, write_alone}
use Rattle.serial_bands.specs.RightJob.{script_events, bus_events, HasMemory}
use Rattle.serial_bands.specs.BusReads.{is_fetched, fetched_count}
use Rattle.serial_bands.specs.Shadows.{IsShadowOf, IsInRange, AreOfRange, shadow_of, found_shadow, touch_shadow_if_any, touch_shadow_in_order}

-- whether a filling is a fetch, and how many of a shadow are
abbrev pub is_fetched_filling : Filling → Bool
is_fetched_filling (Word word) = false
is_fetched_filling (Fetched at addr) = true

abbrev pub fetches_in : Shadow → ℕ
fetches_in s = count_by is_fetched_filling (s.latches ++ (s.words_a ++ s.words_b))

-- whether the one at an index is, which none is behind the end
abbrev pub fills_fetch : ℕ → List Filling → Bool
fills_fetch i fillings = is_fetched_filling (slice_index_or fillings i (Word 0))

-- each filling of a shadow that is a fetch is of a register that a fetch filled last among these events
pub record IsLeftBy (events : List Event) (s : Shadow) : Type 0 where
  pub planes : length s.latches ≡ 6
  pub first : length s.words_a ≡ 8
  pub second : length s.words_b ≡ 8
  pub latches : (i : ℕ) → fills_fetch i s.latches ≡ true → is_fetched (plane_latch (i + 1)) false events ≡ true
  pub words_a : (i : ℕ) → fills_fetch i s.words_a ≡ true → is_fetched (sprite_data i false) false events ≡ true
  pub words_b : (i : ℕ) → fills_fetch i s.words_b ≡ true → is_fetched (sprite_data i true) false events ≡ true

-- words that are at hand or found are left by no events
abbrev pub LeftOfPicture : Type 0
LeftOfPicture = (p : Denise) → length p.latches ≡ 6 → length p.words_a ≡ 8 → length p.words_b ≡ 8 → IsLeftBy [] (shadow_of p)

abbrev pub LeftOfFound : Type 0
LeftOfFound = (word_found : ℕ → Addr → ℕ) (events : List Event) (s : Shadow) → IsLeftBy events s →
    IsLeftBy [] (found_shadow word_found s)

-- the script's events of a clock leave what its touches do to a shadow, and those of its access
abbrev pub LeftBySets : Type 0
LeftBySets = (run : RunValue) (c : ℕ) (events : List Event) (s : Shadow) → IsLeftBy events s →
    IsLeftBy (events ++ script_events run c) (touch_shadow_in_order c (sets_at run c) s)

abbrev pub LeftByTouch : Type 0
LeftByTouch = (c : ℕ) (touch : Option Touch) (events : List Event) (s : Shadow) → IsInRange touch → IsLeftBy events s →
    IsLeftBy (events ++ bus_events c touch) (touch_shadow_if_any c touch s)

-- an access's events are its fetch and then its write, with which no more registers were filled by a fetch last
abbrev pub TouchInTwo : Type 0
TouchInTwo = (c : ℕ) (touch : Option Touch) →
    bus_events c touch ≡ bus_events c (fetch_alone touch) ++ bus_events c (write_alone touch)

abbrev pub FewerWithWrite : Type 0
FewerWithWrite = (c : ℕ) (touch : Option Touch) (events : List Event) →
    fetched_count (events ++ bus_events c (write_alone touch)) ≤ fetched_count events

-- so the fetches of a shadow are no more than the registers that a fetch filled last
abbrev pub FetchesAreLatched : Type 0
FetchesAreLatched = (events : List Event) (s : Shadow) → IsLeftBy events s → fetches_in s ≤ fetched_count events

-- each fetch of a shadow is of a clock of a range
pub record IsInRangeOf (from to : ℕ) (s : Shadow) : Type 0 where
  pub latches : AreOfRange from to s.latches
  pub words_a : AreOfRange from to s.words_a
  pub words_b : AreOfRange from to s.words_b

-- where none is a fetch, of each range
abbrev pub RangeOfPicture : Type 0
RangeOfPicture = (from to : ℕ) (p : Denise) → IsInRangeOf from to (shadow_of p)

abbrev pub RangeOfFound : Type 0
RangeOfFound = (from to : ℕ) (word_found : ℕ → Addr → ℕ) (s : Shadow) → IsInRangeOf from to (found_shadow word_found s)

-- and a clock's touches keep it, of the range up to the next clock
abbrev pub RangeOfSets : Type 0
RangeOfSets = (run : RunValue) (from c : ℕ) (s : Shadow) → IsInRangeOf from c s →
    IsInRangeOf from (c + 1) (touch_shadow_in_order c (sets_at run c) s)

abbrev pub RangeOfTouch : Type 0
RangeOfTouch = (from c : ℕ) (touch : Option Touch) (s : Shadow) → from ≤ c → IsInRangeOf from (c + 1) s →
    IsInRangeOf from (c + 1) (touch_shadow_if_any c touch s)

-- a shadow whose fetches are found in a band's memory is a shadow still
abbrev pub ShadowFoundIn : Type 0
ShadowFoundIn = (run : RunValue) (from to : ℕ) (word_found : ℕ → Addr → ℕ) (s : Shadow) (p : Denise) → HasMemory run from to word_found →
    IsInRangeOf from to s → IsShadowOf run s p → IsShadowOf run (found_shadow word_found s) p

-- a clock's two steps from opening to opening: the script's touches, and the access's with all that comes between
abbrev pub ShadowSets : Type 0
ShadowSets = (run : RunValue) (c : ℕ) (s : Shadow) → IsShadowOf run s (opening_at run c) →
    IsShadowOf run (touch_shadow_in_order c (sets_at run c) s) (picture_at run c)

abbrev pub ShadowAccess : Type 0
ShadowAccess = (run : RunValue) (c : ℕ) (s : Shadow) → IsInRange (bus_touch_at run c) → IsShadowOf run s (picture_at run c) →
    IsShadowOf run (touch_shadow_if_any c (bus_touch_at run c) s) (opening_at run (suc c))
