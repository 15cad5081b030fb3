use Rattle.clock_loop.proofs.EndLaws.{on_ok}
use Rattle.clock_loop.proofs.clock.end_blit.Goals as goal

pub returns-clause-rest : goal.returns-clause-rest
returns-clause-rest g c = on_ok c.if-is_blitting.result c.in_ok-end_beside.ensures.rest
