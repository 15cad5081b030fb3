use Rattle.std.proofs.Common.{subst}
use Rattle.paula_audio.specs.Paula.{PaulaValue, paula_side}
use Rattle.paula_audio.proofs.QuietLaws.{paula_is_quiet, quiet_told}
use Rattle.paula_audio.proofs.paula.Paula.still.Goals as goal
use Rattle.serial_model.specs.Side.{IsQuietSide}

pub returns-clause-quiet : goal.returns-clause-quiet
returns-clause-quiet c =
    let b = c.args.beam.now in
    let dmacon = c.args.dmacon in
    subst (λ (p : PaulaValue). IsQuietSide b dmacon c.quiet.result (paula_side p)) c.self.view_is
    (paula_is_quiet b dmacon c.quiet-first.result c.quiet-second.result c.quiet-third.result c.quiet.result _
    c.quiet.ensures.most c.quiet-third.ensures.most c.quiet-second.ensures.most
    (quiet_told 0 b dmacon c.quiet-first.result c.has_dma.result c.self.inside.zero c.has_dma.ensures c.quiet-first.ensures.quiet)
    (quiet_told 1 b dmacon c.quiet-second.result c.has_dma-2.result c.self.inside.one c.has_dma-2.ensures c.quiet-second.ensures.quiet)
    (quiet_told 2 b dmacon c.quiet-third.result c.has_dma-3.result c.self.inside.two c.has_dma-3.ensures c.quiet-third.ensures.quiet)
    (quiet_told 3 b dmacon c.quiet.result c.has_dma-4.result c.self.inside.three c.has_dma-4.ensures c.quiet.ensures.quiet))
