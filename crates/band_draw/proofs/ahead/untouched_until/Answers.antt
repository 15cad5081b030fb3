use Rattle.std.proofs.Common.{arith}
use Rattle.band_draw.proofs.Fetching.{behind_first}
use Rattle.band_draw.proofs.ahead.untouched_until.Goals as goal

pub returns-clause-behind : goal.returns-clause-behind
returns-clause-behind c some =
    behind_first c.args.events.now c.args.place c.args.end c.args.from c.min.result
    (omega (arith, c.max.ensures, c.min.ensures, c.first_touched.ensures, some)) some
