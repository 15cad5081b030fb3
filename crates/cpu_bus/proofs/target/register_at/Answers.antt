use Rattle.std.proofs.Common.{◌∙◌}
use Rattle.cpu_bus.proofs.BusLaws.{register_by}
use Rattle.cpu_bus.proofs.target.register_at.Goals as goal

pub returns : goal.returns
returns c = c.masked.ensures.named ∙ register_by c.args.a
