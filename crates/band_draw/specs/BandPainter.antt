-- What paints a band, against the picture state.
use Rattle.std.specs.Prelude.{◌≡◌, true, ◌≤◌, ℕ, [], None, replicate, if◌then◌else◌}
use Rattle.ocs_base.specs.declared.beam.Beam.{Beam}
use Rattle.planes.specs.PlaneBit.{ShowsSame}
use Rattle.serial_model.specs.Beam.{is_line_start}
use Rattle.serial_model.specs.declared.picture.Denise.{Denise}
use Rattle.painter.specs.Painter.{IsPainterOf}
use Rattle.band_draw.specs.declared.band_painter.BandPainter.{BandPainter}

-- It paints a picture state, and where it keeps loads, they show from a position of the line on what those of that state do.
pub record IsBandPainterOf (from : ℕ) (now : BandPainter) (p : Denise) : Type 0 where
  pub painter : IsPainterOf now.painter p
  pub loads : now.keeps ≡ true → ShowsSame from now.loads p.loads

-- From `least` on, what painted a picture state before paints after it the state that the change makes of that one.
abbrev pub Paints : ℕ → (Denise → Denise) → BandPainter → BandPainter → Type 0
Paints least change old new =
    (from : ℕ) (p : Denise) → least ≤ from → IsBandPainterOf from old p → IsBandPainterOf from new (change p)

-- the picture state of an opening, of which at a line's start no load and no words are left
abbrev pub opened : Beam → Denise → Denise
opened b p = if is_line_start b then record p { loads = []; runs = replicate 8 None } else p
