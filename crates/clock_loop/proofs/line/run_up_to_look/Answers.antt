use Rattle.std.proofs.Common.{refl}
use Rattle.clock_loop.proofs.line.run_up_to_look.Goals as goal

pub is_due-requires : goal.is_due-requires
is_due-requires g c = tt

pub returns-then-is_due-clause-run : goal.returns-then-is_due-clause-run
returns-then-is_due-clause-run g c = refl

pub returns-then-is_due-clause-spent : goal.returns-then-is_due-clause-spent
returns-then-is_due-clause-spent g c = tt

pub returns-then-is_due-clause-part : goal.returns-then-is_due-clause-part
returns-then-is_due-clause-part g c = tt

pub returns-then-is_due-clause-few : goal.returns-then-is_due-clause-few
returns-then-is_due-clause-few g c = tt

pub run_one_by_one-requires-clause-fits : goal.run_one_by_one-requires-clause-fits
run_one_by_one-requires-clause-fits g c = c.requires.fits

pub run_one_by_one-requires-clause-fresh : goal.run_one_by_one-requires-clause-fresh
run_one_by_one-requires-clause-fresh g c = c.requires.fresh

pub returns-clause-clocks : goal.returns-clause-clocks
returns-clause-clocks g c = c.run_one_by_one.ensures.clocks

pub returns-clause-on : goal.returns-clause-on
returns-clause-on g c = c.run_one_by_one.ensures.on

pub returns-clause-most : goal.returns-clause-most
returns-clause-most g c = c.run_one_by_one.ensures.most

pub returns-clause-run : goal.returns-clause-run
returns-clause-run g c = c.run_one_by_one.ensures.run

pub returns-clause-fresh : goal.returns-clause-fresh
returns-clause-fresh g c = c.run_one_by_one.ensures.fresh

pub returns-clause-reads : goal.returns-clause-reads
returns-clause-reads g c = c.run_one_by_one.ensures.reads

pub returns-clause-still : goal.returns-clause-still
returns-clause-still g c = c.run_one_by_one.ensures.still

pub returns-clause-spent : goal.returns-clause-spent
returns-clause-spent g c = c.run_one_by_one.ensures.spent

pub returns-clause-part : goal.returns-clause-part
returns-clause-part g c = c.run_one_by_one.ensures.part

pub returns-clause-few : goal.returns-clause-few
returns-clause-few g c = c.run_one_by_one.ensures.few
