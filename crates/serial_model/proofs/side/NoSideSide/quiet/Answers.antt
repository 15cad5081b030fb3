use Rattle.serial_model.proofs.SideLaws.{no_side_is_quiet}
use Rattle.serial_model.proofs.side.NoSideSide.quiet.Goals as goal

pub returns-clause-quiet : goal.returns-clause-quiet
returns-clause-quiet c = no_side_is_quiet c.args._beam.now c.args._dmacon c.args.most
