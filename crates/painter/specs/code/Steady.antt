-- What holds of the clocks of a line from one on, up to those at which words begin.
use Rattle.std.specs.Prelude.{◌≡◌, ◌≤◌, ℕ, ◌*◌, true, bit_or}
use Rattle.collisions.specs.Collision.{collision_bits}
use Rattle.serial_model.specs.Picture.{sprite_values}
use Rattle.painter.specs.declared.painter.Painter.{Painter}
use Rattle.painter.specs.declared.show_covered.Steady.{Steady}
use Rattle.painter.specs.code.SpriteState.{attached_in}
use Rattle.plane_rows.specs.Line.{ArePaired}
use Rattle.painter.specs.code.Starts.{IsAlone}

pub record IsSteadyFrom (h : ℕ) (steady : Steady) (now : Painter) : Type 0 where
  pub attached : steady.attached ≡ attached_in now.sprites
  -- no pixel behind collides more
  pub reach : (x con bits : ℕ) → 2 * h ≤ x → x ≤ 455 → bit_or steady.reach (collision_bits con bits (sprite_values x now.sprites.runs)) ≡ steady.reach
  -- no pair shows but the one
  pub alone : steady.lone ≤ 3 → IsAlone (2 * h) steady.lone now.sprites.runs
  pub pairs : steady.paired ≡ true → ArePaired now.line (4 * h)
