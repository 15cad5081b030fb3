-- What runs of the sprites on a line: of each the words of the last position at which they began.
--
-- Positions are counted in low-resolution pixels from the begin of the line, two a colour clock.
use Rattle.std.specs.Prelude.{◌≡◌, ◌≤◌, ◌<◌, ℕ, ◌+◌, ◌*◌, ◌/◌, Bool, true, false, ◌&&◌, ◌==◌, Option, Some, None, replicate, slice_index, slice_index_or}
use Rattle.sprites.specs.declared.runs.Start.{Start}
use Rattle.serial_model.specs.declared.picture.Denise.{Denise}
use Rattle.serial_model.specs.Picture.{is_armed, sprite_column, runs_after}

-- The picture states of a line as its clocks show them: nothing runs at its start, and from clock to clock what runs is what
-- the picture step leaves.
pub record IsLine (line : ℕ → Denise) : Type 0 where
  pub start : (line 0).runs ≡ replicate 8 None
  pub next : (h : ℕ) → (line (h + 1)).runs ≡ runs_after h 2 (line h)

-- whether a sprite's words begin at a position: it is armed there, and its HSTART is that position
abbrev pub begins_at : (ℕ → Denise) → ℕ → ℕ → Bool
begins_at line sprite x = is_armed sprite (line (x / 2)) && (sprite_column sprite (line (x / 2)) == x)

-- the words that a sprite has at a position
abbrev pub words_at : (ℕ → Denise) → ℕ → ℕ → Start
words_at line sprite x = record {
  x = x;
  word_a = slice_index (line (x / 2)).words_a sprite;
  word_b = slice_index (line (x / 2)).words_b sprite;
}

-- of the first n positions of the line the greatest at which a sprite's words begin
pub record IsGreatestBegin (line : ℕ → Denise) (sprite n : ℕ) (start : Start) : Type 0 where
  pub within : start.x < n
  pub begins : begins_at line sprite start.x ≡ true
  pub words : start ≡ words_at line sprite start.x
  pub greatest : (x : ℕ) → start.x < x → x < n → begins_at line sprite x ≡ false

-- what runs of a sprite after the first n positions: what began last, and nothing where nothing began
pub record IsLastBegin (line : ℕ → Denise) (sprite n : ℕ) (runs : Option Start) : Type 0 where
  pub nothing : runs ≡ None → (x : ℕ) → x < n → begins_at line sprite x ≡ false
  pub begun : (start : Start) → runs ≡ Some start → IsGreatestBegin line sprite n start

-- the law, after no position of a clock, after its first, and after both
abbrev pub LastBeginRuns : Type 0
LastBeginRuns = (line : ℕ → Denise) → IsLine line → (h n sprite : ℕ) → n ≤ 2 → sprite < 8 →
    IsLastBegin line sprite (2 * h + n) (slice_index_or (runs_after h n (line h)) sprite None)
