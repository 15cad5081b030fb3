use Rattle.std.proofs.Common.{arith}
use Rattle.painter.proofs.painter.Painter.inside_ahead.Goals as goal

pub returns-then-idle-eq0-clause-inside : goal.returns-then-idle-eq0-clause-inside
returns-then-idle-eq0-clause-inside c = record {
  idle = λ k lt. absurd (omega (arith, lt));
  first = λ k lt. absurd (omega (arith, lt));
  second = λ k lt. absurd (omega (arith, lt));
}

pub returns-clause-inside : goal.returns-clause-inside
returns-clause-inside c = record {
  idle = λ k lt. c.requires.idle k (omega (arith, lt, c.min.ensures, c.clocks_inside-inside.ensures.most));
  first = λ k lt. c.clocks_inside-inside.ensures.first k (omega (arith, lt, c.min.ensures));
  second = λ k lt. c.clocks_inside-inside.ensures.second k (omega (arith, lt, c.min.ensures));
}
