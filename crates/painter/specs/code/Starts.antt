-- Clocks at which no sprite's words begin, as the painter's parts say it to one another.
use Rattle.std.specs.Prelude.{◌≡◌, ◌≢◌, ◌≤◌, ◌<◌, ℕ, ◌+◌, ◌*◌, List, Option, replicate}
use Rattle.sprites.specs.declared.runs.Start.{Start}
use Rattle.sprite_rows.specs.LineValues.{pair_byte}
use Rattle.serial_model.specs.Picture.{sprite_values}
use Rattle.painter.specs.code.SpriteState.{SpriteRegisters, runs_in}

-- nothing begins at a clock, and nothing shows from it on
pub record IsIdle (h : ℕ) (s : SpriteRegisters) : Type 0 where
  pub first : runs_in (2 * h) s ≡ s.runs
  pub second : runs_in (2 * h + 1) s ≡ s.runs
  pub values : (x : ℕ) → 2 * h ≤ x → sprite_values x s.runs ≡ replicate 8 0

-- from a position on no pair shows but one
pub record IsAlone (from pair : ℕ) (runs : List (Option Start)) : Type 0 where
  pub none : (q x : ℕ) → q < 4 → q ≢ pair → from ≤ x → x < 512 → pair_byte x runs q ≡ 0

-- nothing begins at a clock: the words that run stay
pub record IsSteady (h : ℕ) (s : SpriteRegisters) : Type 0 where
  pub first : runs_in (2 * h) s ≡ s.runs
  pub second : runs_in (2 * h + 1) s ≡ s.runs
