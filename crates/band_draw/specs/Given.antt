-- What the picture step of a clock gives.
use Rattle.std.specs.Prelude.{◌≡◌, ◌+◌, ◌*◌, ℕ, if◌then◌else◌, List, ◌++◌, bit_or}
use Rattle.ocs_base.specs.Systems.{is_visible}
use Rattle.ocs_base.specs.declared.system.System.{System}
use Rattle.serial_model.specs.declared.picture.Denise.{Denise}
use Rattle.serial_model.specs.Picture.{step_of, after_step}
use Rattle.serial_model.specs.Spans.{after_shows, shown_bytes, shown_clx}
use Rattle.band_draw.specs.declared.band_painter.BandPainter.{BandPainter}
use Rattle.band_draw.specs.BandPainter.{IsBandPainterOf}

-- At clock h of line v the picture step of p was given: what paints goes on from the picture state after it, its bytes are
-- behind those before, and its collision bits are gathered.
pub record IsGiven (system : System) (v h : ℕ) (p : Denise) (new : BandPainter) (before after : List ℕ) (gathered clx : ℕ) : Type 0 where
  pub painted : IsBandPainterOf (4 * h + 4) new (after_step (step_of system v h p) p)
  pub bytes : after ≡ before ++ (step_of system v h p).bytes
  pub bits : clx ≡ bit_or gathered (step_of system v h p).clx

-- the same of so many clocks from clock h on, one behind the other
pub record IsSpanGiven (from : ℕ) (system : System) (v h n : ℕ) (p : Denise) (new : BandPainter) (before after : List ℕ) (gathered clx : ℕ) : Type 0 where
  pub painted : IsBandPainterOf from new (after_shows system v h n p)
  pub bytes : after ≡ before ++ shown_bytes system v h n p
  pub bits : clx ≡ bit_or gathered (shown_clx system v h n p)

-- how many bytes are filled after a clock
abbrev pub filled_after : System → ℕ → ℕ → ℕ → ℕ
filled_after system v h filled = if is_visible system v h then filled + 12 else filled
