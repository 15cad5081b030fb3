use Rattle.band_board.specs.Answers.{IsFree}
use Rattle.crew_tests.proofs.boards.draw_all.Given as goal

abbrev pub invariant-loop : goal.invariant-loop
invariant-loop l = IsFree l.board l.hand
