use Rattle.serial_model.specs.Beam.{later_beam}
use Rattle.copper.proofs.Quiet.{never_by_line}
use Rattle.copper.proofs.is_never_met.Goals as goal

pub returns-then-beam-masked : goal.returns-then-beam-masked
returns-then-beam-masked c is k low =
    never_by_line (later_beam k c.args.beam.now) c.args.busy c.args.first c.args.second low c.if-beam-masked.true
