use Rattle.std.specs.Arc.{arc_value}
use Rattle.crew.specs.Crewed.{AreHired}
use Rattle.crew.proofs.start.hire_into.Given as goal

abbrev pub invariant-loop-made : goal.invariant-loop-made
invariant-loop-made g l = AreHired (arc_value l.board) l.fn.front l.front l.hired.items l._made
