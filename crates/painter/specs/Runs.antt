-- What runs of the sprites over many clocks of a line, between which their registers stay as they are: words begin at most once.
--
-- Positions are counted in low-resolution pixels from the begin of the line, two a colour clock.
use Rattle.std.specs.Prelude.{◌≡◌, ℕ, ◌+◌, ◌*◌, ◌&&◌, nat_le, nat_lt, if◌then◌else◌, List, length, map, slice_index, slice_index_or, Option, Some, None}
use Rattle.ocs_base.specs.declared.system.System.{System}
use Rattle.sprites.specs.declared.runs.Start.{Start}
use Rattle.serial_model.specs.declared.picture.Denise.{Denise}
use Rattle.serial_model.specs.Picture.{all_sprites, is_armed, sprite_column, runs_after}
use Rattle.serial_model.specs.Spans.{after_shows}

-- what runs of a sprite after so many positions from one on: its words begin there where it is armed and its HSTART is one of
-- these positions, and else what ran before goes on
abbrev pub begun_of : ℕ → ℕ → Denise → ℕ → Option Start
begun_of x n p sprite =
    let column = sprite_column sprite p in
    if is_armed sprite p && (nat_le x column && nat_lt column (x + n))
    then Some (record { x = column; word_a = slice_index p.words_a sprite; word_b = slice_index p.words_b sprite })
    else slice_index_or p.runs sprite None

-- the same of all eight
abbrev pub begun_in : ℕ → ℕ → Denise → List (Option Start)
begun_in x n p = map (begun_of x n p) all_sprites

-- so many picture steps change the held colour and the words that run alone, and these as the positions of their clocks do
abbrev pub RunsOfSpan : Type 0
RunsOfSpan = (system : System) (v h n : ℕ) (p : Denise) → length p.runs ≡ 8 →
    after_shows system v h n p
    ≡ record p { held = (after_shows system v h n p).held; runs = begun_in (2 * h) (2 * n) p }

-- and at each position of the clock behind them it is so too
abbrev pub RunsInSpan : Type 0
RunsInSpan = (system : System) (v h n position : ℕ) (p : Denise) → length p.runs ≡ 8 →
    runs_after (h + n) position (after_shows system v h n p) ≡ begun_in (2 * h) (2 * n + position) p
