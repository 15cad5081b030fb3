-- The last clock before a band begins, and the picture state behind it.
use Rattle.std.specs.Prelude.{◌≡◌, ℕ, ◌+◌, ◌-◌, ◌*◌, false}
use Rattle.serial_model.specs.declared.picture.Denise.{Denise}
use Rattle.serial_model.specs.Beam.{is_line_start}
use Rattle.serial_bands.specs.Run.{RunValue, beam_at}
use Rattle.serial_bands.specs.Clock.{closing_at}
use Rattle.serial_model.specs.StandsFor.{StandsFor}

-- a picture state stands for the closing one of the band that ends at a clock
abbrev pub IsClosing : RunValue → ℕ → Denise → Type 0
IsClosing run to closing = StandsFor (4 * (beam_at run (to - 1)).h + 4) closing (closing_at run (to - 1))

-- The clock of the line before clock `to` is h, where no line starts there. (Where one does, loads are forgotten, and of what a write makes nothing else
-- depends on its clock.)
abbrev pub IsClockBefore : RunValue → ℕ → ℕ → Type 0
IsClockBefore run to h = is_line_start (beam_at run to) ≡ false → h ≡ (beam_at run (to - 1)).h
