use Rattle.std.proofs.Common.{◌≤◌, arith, subst}
use Rattle.bitplane_dma.specs.Quiet.{FetchesNothing}
use Rattle.chip_set.specs.Chips.{WorkingChips}
use Rattle.chip_set.proofs.chips.Chips.idle_clocks.Goals as goal

pub returns-clause-idle : goal.returns-clause-idle
returns-clause-idle c some =
    let planes : c.rest_clocks.result ≤ c.quiet-planes.result = c.rest_clocks.ensures.most in
    record {
      planes = λ k below. subst (λ (now : WorkingChips). FetchesNothing k c.args.beam.now now.registers now.last) c.self.view_is
          (c.quiet-planes.ensures.quiet k (omega (arith, below, planes)));
      rest = c.rest_clocks.ensures.rest some;
    }
