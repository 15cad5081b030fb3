-- The sprites' registers and the words that run, as a working state.
use Rattle.std.specs.Prelude.{◌≡◌, ◌≤◌, ◌<◌, ℕ, zero, suc, ◌+◌, ◌*◌, ◌/◌, ◌%◌, ◌^◌, ◌==◌, ◌&&◌, ◌||◌, not, Bool, nat_le, max, List}
use Rattle.std.specs.Prelude.{length, replicate, map, slice_index, slice_index_or, slice_set, Option, Some, None, if◌then◌else◌}
use Rattle.std.specs.List.{list_any}
use Rattle.sprites.specs.declared.runs.Start.{Start}
use Rattle.sprites.specs.SpriteValue.{sprite_value, kept_start}
use Rattle.sprite_rows.specs.declared.rows.SpriteRows.{SpriteRows}
use Rattle.sprite_rows.specs.LineValues.{StartsBy, IsRowsOf}
use Rattle.serial_model.specs.Picture.{all_sprites}

pub record SpriteRegisters : Type 0 where
  pub pos : List ℕ
  pub ctl : List ℕ
  pub words_a : List ℕ
  pub words_b : List ℕ
  pub armed : ℕ
  pub runs : List (Option Start)
  -- the place behind the last that words which have begun on the line may show
  pub quiet_from : ℕ

abbrev pub no_sprites : SpriteRegisters
no_sprites = record {
  pos = replicate 8 0;
  ctl = replicate 8 0;
  words_a = replicate 8 0;
  words_b = replicate 8 0;
  armed = 0;
  runs = replicate 8 None;
  quiet_from = 0;
}

-- eight sprites, of whose words none shows a bit from a position on, which says nothing if it is past all columns
pub record IsQuiet (from : ℕ) (runs : List (Option Start)) : Type 0 where
  pub eight : length runs ≡ 8
  pub quiet : from < 512 → (x sprite : ℕ) → from ≤ x → sprite_value x (kept_start runs sprite) ≡ 0

-- their pixels laid over rows, which are exact from a position on, and nothing known if it is 512
pub record IsLaidOut (quiet_from exact_from : ℕ) (rows : SpriteRows) (runs : List (Option Start)) : Type 0 where
  pub still : IsQuiet quiet_from runs
  pub within : exact_from ≤ 512
  pub begun : exact_from < 512 → StartsBy exact_from runs
  pub laid : IsRowsOf exact_from rows runs

-- whether a sprite's words begin at low-resolution position x: it is armed, and the position is its HSTART
abbrev pub begins_at : ℕ → SpriteRegisters → ℕ → Bool
begins_at x s sprite =
    (s.armed / 2 ^ sprite % 2 == 1) && (2 * (slice_index s.pos sprite % 256) + slice_index s.ctl sprite % 2 == x)

-- what runs of a sprite from there on, where this ran before
abbrev pub run_or : ℕ → SpriteRegisters → ℕ → Option Start → Option Start
run_or x s sprite before =
    if begins_at x s sprite
    then Some (record { x = x; word_a = slice_index s.words_a sprite; word_b = slice_index s.words_b sprite })
    else before

abbrev pub run_in : ℕ → SpriteRegisters → ℕ → Option Start
run_in x s sprite = run_or x s sprite (slice_index_or s.runs sprite None)

abbrev pub runs_in : ℕ → SpriteRegisters → List (Option Start)
runs_in x s = map (run_in x s) all_sprites

-- the same for the first so many sprites
unfoldable pub first_runs : ℕ → SpriteRegisters → ℕ → List (Option Start)
first_runs x s zero = s.runs
first_runs x s (suc n) = slice_set (first_runs x s n) n (run_in x s n)

-- where the words end that may show, after those of one sprite or of the first so many begin at low-resolution position x
abbrev pub quiet_or : ℕ → SpriteRegisters → ℕ → ℕ → ℕ
quiet_or x s sprite before = if begins_at x s sprite then max before (x + 16) else before

unfoldable pub first_quiet : ℕ → SpriteRegisters → ℕ → ℕ
first_quiet x s zero = s.quiet_from
first_quiet x s (suc n) = quiet_or x s n (first_quiet x s n)

-- the registers after the words begin of the first so many sprites whose HSTART is a low-resolution position
abbrev pub first_begun : ℕ → SpriteRegisters → ℕ → SpriteRegisters
first_begun x s n = record s { runs = first_runs x s n; quiet_from = first_quiet x s n }

abbrev pub words_begun : ℕ → SpriteRegisters → SpriteRegisters
words_begun x s = record s { runs = runs_in x s; quiet_from = first_quiet x s 8 }

-- whether a sprite, armed or not, has its HSTART at a clock
abbrev pub has_start : ℕ → SpriteRegisters → Bool
has_start h s = list_any (λ sprite. slice_index s.pos sprite % 256 == h) all_sprites

-- the same at a low-resolution position
abbrev pub has_start_at : ℕ → SpriteRegisters → Bool
has_start_at x s = list_any (λ sprite. 2 * (slice_index s.pos sprite % 256) + slice_index s.ctl sprite % 2 == x) all_sprites

-- HSTART of a sprite, armed or not, and those of all eight
abbrev pub start_of : SpriteRegisters → ℕ → ℕ
start_of s sprite = 2 * (slice_index s.pos sprite % 256) + slice_index s.ctl sprite % 2

abbrev pub starts_in : SpriteRegisters → List ℕ
starts_in s = map (start_of s) all_sprites

-- whether it is known at a clock that nothing begins there, and nothing shows from it on
abbrev pub is_known_idle : ℕ → SpriteRegisters → Bool
is_known_idle h s = nat_le s.quiet_from (2 * h) && ((s.armed == 0) || not (has_start h s))

-- the attached pairs
abbrev pub attached_in : SpriteRegisters → ℕ
attached_in s =
    slice_index s.ctl 1 / 128 % 2 + 2 * (slice_index s.ctl 3 / 128 % 2)
    + 4 * (slice_index s.ctl 5 / 128 % 2) + 8 * (slice_index s.ctl 7 / 128 % 2)
