use Rattle.painter.proofs.ComponentTables.{kept_of}
use Rattle.painter.proofs.components.kept_by_bits.Goals as goal

pub returns : goal.returns
returns c = kept_of c.args.bits c.requires
