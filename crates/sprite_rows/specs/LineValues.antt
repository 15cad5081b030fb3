-- The rows of a line's sprite pixels, against the last start of each sprite on that line.
use Rattle.std.specs.Prelude.{◌≡◌, ◌≤◌, ◌<◌, ℕ, ◌+◌, ◌*◌, List, [], ◌∷◌, Option, Some, None, length, map, slice_index_or}
use Rattle.sprites.specs.declared.runs.Start.{Start}
use Rattle.sprites.specs.SpriteValue.{sprite_value, kept_start}
use Rattle.sprite_rows.specs.declared.rows.SpriteRows.{SpriteRows}
use Rattle.sprite_rows.specs.Laid.{byte_of}

-- the value of a sprite at a position
abbrev pub value_at : ℕ → List (Option Start) → ℕ → ℕ
value_at x runs sprite = sprite_value x (kept_start runs sprite)

-- the values of the eight sprites
abbrev pub values_at : ℕ → List (Option Start) → List ℕ
values_at x runs = map (value_at x runs) (0 ∷ 1 ∷ 2 ∷ 3 ∷ 4 ∷ 5 ∷ 6 ∷ 7 ∷ [])

-- eight sprites, of which this one has no last start after a position
pub record SpriteStartsBy (sprite x : ℕ) (runs : List (Option Start)) : Type 0 where
  pub eight : length runs ≡ 8
  pub started : (start : Start) → slice_index_or runs sprite None ≡ Some start → start.x ≤ x

-- eight sprites, of which none has its last start after a position
pub record StartsBy (x : ℕ) (runs : List (Option Start)) : Type 0 where
  pub eight : length runs ≡ 8
  pub started : (sprite : ℕ) (start : Start) → slice_index_or runs sprite None ≡ Some start → start.x ≤ x

-- the byte of a pair: 4 times the odd sprite's value and the even one's
abbrev pub pair_byte : ℕ → List (Option Start) → ℕ → ℕ
pair_byte x runs p = 4 * value_at x runs (2 * p + 1) + value_at x runs (2 * p)

-- From a position on the rows have the bytes of what runs there. What they have before it says nothing.
pub record IsRowsOf (from : ℕ) (rows : SpriteRows) (runs : List (Option Start)) : Type 0 where
  pub bytes : (p x : ℕ) → p < 4 → from ≤ x → x < 512 → byte_of rows.pairs p x ≡ pair_byte x runs p
