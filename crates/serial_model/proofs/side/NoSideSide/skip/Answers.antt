use Rattle.std.proofs.Common.{sym}
use Rattle.serial_model.proofs.SideLaws.{no_side_stays}
use Rattle.serial_model.proofs.side.NoSideSide.skip.Goals as goal

pub returns : goal.returns
returns c = sym (no_side_stays c.args._clocks c.args._beam.now c.args._dmacon)
