use Rattle.paula_audio.proofs.FitLaws.{reset_fits}
use Rattle.paula_audio.proofs.paula.Paula.reset.Goals as goal

pub returns-clause-fits : goal.returns-clause-fits
returns-clause-fits c =
    reset_fits c.of_bytes.result c.args.chip c.of_bytes.ensures.named c.of_bytes.ensures.bytes
