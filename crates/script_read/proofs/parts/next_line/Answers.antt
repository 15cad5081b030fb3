use Rattle.script_read.proofs.SplitLaws.{next-line}
use Rattle.script_read.proofs.parts.next_line.Goals as goal

pub returns-in-Some : goal.returns-in-Some
returns-in-Some c = next-line c.args.text.now c.in-Some.at c.in-Some.ensures.within c.in-Some.ensures.place
