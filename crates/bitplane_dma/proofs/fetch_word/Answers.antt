use Rattle.serial_model.proofs.FetchLaws.{plane_high}
use Rattle.bitplane_dma.proofs.fetch_word.Goals as goal

pub pointer-at-requires : goal.pointer-at-requires
pointer-at-requires c = plane_high _ c.args.plane c.masked-high.ensures.offset c.requires.plane.0 c.requires.plane.1

pub set_pointer-requires : goal.set_pointer-requires
set_pointer-requires c = plane_high _ c.args.plane c.masked-high.ensures.offset c.requires.plane.0 c.requires.plane.1
