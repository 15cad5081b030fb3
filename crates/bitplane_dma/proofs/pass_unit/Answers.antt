use Rattle.std.proofs.Common.{◌∙◌, sym}
use Rattle.quiet_clocks.proofs.IdleClocks.{unit_stays}
use Rattle.bitplane_dma.proofs.Quiet.{unit_of_one}
use Rattle.bitplane_dma.proofs.pass_unit.Goals as goal

pub returns-then-stays-gt0-clause-unit : goal.returns-then-stays-gt0-clause-unit
returns-then-stays-gt0-clause-unit c =
    sym (unit_stays c.stay-stays.result c.args.beam.now c.args.regs.now c.args.unit.now c.requires.inner c.stay-stays.ensures.none)

pub returns-clause-unit : goal.returns-clause-unit
returns-clause-unit c = c.unit_now.ensures ∙ sym (unit_of_one c.args.beam.now c.args.regs.now c.args.unit.now)
