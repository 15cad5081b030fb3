use Rattle.serial_model.proofs.FetchLaws.{sprite_high}
use Rattle.sprite_dma.proofs.fetch.Goals as goal

pub pointer-at-requires : goal.pointer-at-requires
pointer-at-requires c = sprite_high _ c.args.sprite c.masked-high.ensures.offset c.requires

pub set_pointer-requires : goal.set_pointer-requires
set_pointer-requires c = sprite_high _ c.args.sprite c.masked-high.ensures.offset c.requires
