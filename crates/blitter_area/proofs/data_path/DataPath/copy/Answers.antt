use Rattle.std.proofs.Common.{arith, ◌<◌}
use Rattle.blitter_area.proofs.Copies.{masked_is, joined_is}
use Rattle.blitter_area.proofs.data_path.DataPath.copy.Goals as goal

pub returns-clause-masked : goal.returns-clause-masked
returns-clause-masked c =
    let low : c.args.word < 65536 = omega (arith, c.ranges.word.fits) in
    masked_is c.args.self.now c.args.column c.args.word c.requires low

pub returns-clause-joined : goal.returns-clause-joined
returns-clause-joined c =
    let low : c.args.word < 65536 = omega (arith, c.ranges.word.fits) in
    let before : c.args.before < 65536 = omega (arith, c.ranges.before.fits) in
    joined_is c.args.self.now c.args.before c.args.word c.requires before low
