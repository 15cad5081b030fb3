use Rattle.chip_set.proofs.QuietLaws.{passes_quiet}
use Rattle.chip_set.proofs.chips.Chips.pass_quiet.Goals as goal

pub returns-then-clocks-gt0-clause-quiet : goal.returns-then-clocks-gt0-clause-quiet
returns-then-clocks-gt0-clause-quiet c some chips is =
    passes_quiet c.args.beam.now c.args.t c.idle_clocks-clocks.result c.args.self.now c.skip.new.self chips some
    (c.idle_clocks-clocks.ensures.idle some) c.skip.ensures is
