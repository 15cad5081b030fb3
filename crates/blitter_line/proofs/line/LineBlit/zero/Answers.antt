use Rattle.blitter_line.proofs.Walking.{zero_is}
use Rattle.blitter_line.proofs.line.LineBlit.zero.Goals as goal

pub returns : goal.returns
returns c = λ s ws h. zero_is c.args.self.now s ws h
