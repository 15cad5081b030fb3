use Rattle.painter.proofs.ComponentTables.{new_of}
use Rattle.painter.proofs.components.new_by_bits.Goals as goal

pub returns : goal.returns
returns c = new_of c.args.bits c.requires
