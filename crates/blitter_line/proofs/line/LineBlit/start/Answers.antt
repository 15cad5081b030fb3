use Rattle.std.proofs.Common.{refl}
use Rattle.blitter_line.proofs.Walking.{begun}
use Rattle.blitter_line.proofs.line.LineBlit.start.Goals as goal

pub returns : goal.returns
returns c = begun _ c.requires c.first.ensures.value refl refl refl refl
