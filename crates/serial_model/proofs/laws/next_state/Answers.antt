use Rattle.serial_model.proofs.NextLaws.{memory_next, picture_next, shown_next, clx_next, trace_next, beam_next}
use Rattle.serial_model.proofs.laws.next_state.Goals as goal

pub returns-clause-memory : goal.returns-clause-memory
returns-clause-memory c = memory_next

pub returns-clause-picture : goal.returns-clause-picture
returns-clause-picture c = picture_next

pub returns-clause-shown : goal.returns-clause-shown
returns-clause-shown c = shown_next

pub returns-clause-clx : goal.returns-clause-clx
returns-clause-clx c = clx_next

pub returns-clause-trace : goal.returns-clause-trace
returns-clause-trace c = trace_next

pub returns-clause-beam : goal.returns-clause-beam
returns-clause-beam c = beam_next
