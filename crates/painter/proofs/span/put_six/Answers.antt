use Rattle.painter.proofs.Wide.{first_six_of}
use Rattle.painter.proofs.span.put_six.Goals as goal

pub returns-clause-bytes : goal.returns-clause-bytes
returns-clause-bytes c = first_six_of c.args.room.now c.args.bytes.now c.args.at c.told-bytes c.requires
