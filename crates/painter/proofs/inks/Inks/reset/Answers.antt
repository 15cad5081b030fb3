use Rattle.painter.proofs.Colours.{reset_tables}
use Rattle.painter.proofs.inks.Inks.reset.Goals as goal

pub invariant_of-result : goal.invariant_of-result
invariant_of-result c = reset_tables
