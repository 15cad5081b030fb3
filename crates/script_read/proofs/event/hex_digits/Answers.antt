use Rattle.script_read.proofs.EventLaws.{hex-fits}
use Rattle.script_read.proofs.event.hex_digits.Goals as goal

pub returns-clause-fits : goal.returns-clause-fits
returns-clause-fits c = hex-fits c.args.text.now c.args.digits c.hex.result c.hex.ensures c.if-text-digits.false
