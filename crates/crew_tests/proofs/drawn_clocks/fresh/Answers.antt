use Rattle.std.proofs.Common.{length, ap, ◌∙◌}
use Rattle.serial_model.specs.declared.picture.Denise.{Denise}
use Rattle.band_draw.proofs.Sounding.{sound_reset}
use Rattle.crew_tests.proofs.drawn_clocks.fresh.Goals as goal

pub open-requires : goal.open-requires
open-requires c = ap (λ (d : Denise). length d.runs) c.reset.ensures ∙ sound_reset.eight
