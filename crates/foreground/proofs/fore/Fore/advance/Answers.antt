use Rattle.foreground.proofs.fore.Fore.advance.Goals as goal

pub returns-then-self-clause-clock : goal.returns-then-self-clause-clock
returns-then-self-clause-clock g c = tt

pub returns-then-self-clause-slot : goal.returns-then-self-clause-slot
returns-then-self-clause-slot g c = tt

pub returns-then-self-clause-count : goal.returns-then-self-clause-count
returns-then-self-clause-count g c = tt

pub returns-then-self-clause-fresh : goal.returns-then-self-clause-fresh
returns-then-self-clause-fresh g c = tt

pub returns-then-self-clause-reads : goal.returns-then-self-clause-reads
returns-then-self-clause-reads g c = tt

pub returns-then-is_err-clause-slot : goal.returns-then-is_err-clause-slot
returns-then-is_err-clause-slot g c = c.advance_clock-answer.ensures.slot

pub returns-else-is_err-clause-clock : goal.returns-else-is_err-clause-clock
returns-else-is_err-clause-clock g c = c.advance_clock-answer.ensures.clock

pub returns-else-is_err-clause-slot : goal.returns-else-is_err-clause-slot
returns-else-is_err-clause-slot g c = c.advance_clock-answer.ensures.slot

pub returns-else-is_err-clause-count : goal.returns-else-is_err-clause-count
returns-else-is_err-clause-count g c = c.advance_clock-answer.ensures.count

pub returns-else-is_err-clause-run : goal.returns-else-is_err-clause-run
returns-else-is_err-clause-run g c = c.advance_clock-answer.ensures.run

pub returns-else-is_err-clause-reads : goal.returns-else-is_err-clause-reads
returns-else-is_err-clause-reads g c = c.advance_clock-answer.ensures.reads

pub returns-else-is_err-clause-few : goal.returns-else-is_err-clause-few
returns-else-is_err-clause-few g c = c.advance_clock-answer.ensures.few
