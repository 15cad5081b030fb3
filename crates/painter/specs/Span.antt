-- Spans of clocks of a line: what a painter leaves of many picture steps, one behind the other.
use Rattle.std.specs.Prelude.{◌≡◌, ℕ, zero, suc, ◌+◌, List, ◌++◌, bit_or, if◌then◌else◌}
use Rattle.ocs_base.specs.declared.system.System.{System}
use Rattle.ocs_base.specs.Systems.{is_visible}
use Rattle.serial_model.specs.declared.picture.Denise.{Denise}
use Rattle.serial_model.specs.Spans.{after_shows, shown_bytes, shown_clx}
use Rattle.painter.specs.declared.painter.Painter.{Painter}
use Rattle.painter.specs.Painter.{IsPainterOf}

-- how many of so many clocks of line v from clock h on are visible
unfoldable pub visible_clocks : System → ℕ → ℕ → ℕ → ℕ
visible_clocks system v h zero = 0
visible_clocks system v h (suc n) = visible_clocks system v h n + (if is_visible system v (h + n) then 1 else 0)

-- after n picture steps from clock h of line v on the painter stands for the picture state that they leave; their bytes are put
-- behind those from before, and their collision bits are gathered with the old ones
pub record IsSpan (system : System) (v h n : ℕ) (p : Denise) (new : Painter) (before after : List ℕ) (old clx : ℕ) : Type 0 where
  pub painted : IsPainterOf new (after_shows system v h n p)
  pub bytes : after ≡ before ++ shown_bytes system v h n p
  pub bits : clx ≡ bit_or old (shown_clx system v h n p)
