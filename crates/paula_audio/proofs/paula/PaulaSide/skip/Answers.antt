use Rattle.paula_audio.proofs.QuietLaws.{skipped}
use Rattle.paula_audio.proofs.paula.PaulaSide.skip.Goals as goal

pub returns : goal.returns
returns c = skipped c.args.clocks c.args.beam.now c.args.dmacon c.args.self.now _ c.pass.ensures
