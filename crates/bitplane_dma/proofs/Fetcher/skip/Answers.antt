use Rattle.std.proofs.Common.{subst, sym}
use Rattle.serial_model.specs.PlaneFetch.{IsLastUnit}
use Rattle.quiet_clocks.proofs.IdleClocks.{unit_can_begin}
use Rattle.bitplane_dma.proofs.Fetcher.skip.Goals as goal

pub invariant_of-self : goal.invariant_of-self
invariant_of-self c =
    subst IsLastUnit (sym c.unit_after-self-inside.ensures)
    (unit_can_begin c.args.clocks c.args.beam.now c.args.regs.now c.self.inside.last c.self.invariant)
