use Rattle.paula_audio.proofs.QuietLaws.{last_one, last_none}
use Rattle.paula_audio.proofs.paula.last_tick.Goals as goal

pub returns-then-clocks-eq0 : goal.returns-then-clocks-eq0
returns-then-clocks-eq0 c = last_none c.args.clocks c.args.beam.now c.args.h c.if-clocks-eq0.true

pub returns : goal.returns
returns c = last_one c.args.clocks c.args.beam.now c.args.h c.if-clocks-eq0.false
