use Rattle.clock_loop.proofs.BusLaws.{none_made}
use Rattle.std.proofs.Common.{refl}
use Rattle.clock_loop.proofs.bus.clocks_by_claim.Goals as goal

pub returns-then-clocks-eq0-clause-runs : goal.returns-then-clocks-eq0-clause-runs
returns-then-clocks-eq0-clause-runs g c = none_made _ _ _ _

pub returns-then-clocks-eq0-clause-part : goal.returns-then-clocks-eq0-clause-part
returns-then-clocks-eq0-clause-part g c = tt

pub returns-then-clocks-eq0-clause-run : goal.returns-then-clocks-eq0-clause-run
returns-then-clocks-eq0-clause-run g c = refl

pub returns-then-clocks-eq0-clause-spent : goal.returns-then-clocks-eq0-clause-spent
returns-then-clocks-eq0-clause-spent g c = tt

pub clocks_of_planes-requires-clause-fits : goal.clocks_of_planes-requires-clause-fits
clocks_of_planes-requires-clause-fits g c = c.requires.fits

pub clocks_of_planes-requires-clause-fresh : goal.clocks_of_planes-requires-clause-fresh
clocks_of_planes-requires-clause-fresh g c = c.requires.fresh

pub asks-requires : goal.asks-requires
asks-requires g c = tt

pub clocks_of_blit-requires-clause-fits : goal.clocks_of_blit-requires-clause-fits
clocks_of_blit-requires-clause-fits g c = c.requires.fits

pub clocks_of_blit-requires-clause-fresh : goal.clocks_of_blit-requires-clause-fresh
clocks_of_blit-requires-clause-fresh g c = c.requires.fresh

pub clocks_of_processor-requires-clause-fits : goal.clocks_of_processor-requires-clause-fits
clocks_of_processor-requires-clause-fits g c = c.requires.fits

pub clocks_of_processor-requires-clause-fresh : goal.clocks_of_processor-requires-clause-fresh
clocks_of_processor-requires-clause-fresh g c = c.requires.fresh

pub returns-in-Some-clause-runs : goal.returns-in-Some-clause-runs
returns-in-Some-clause-runs g c = c.clocks_of_planes.ensures.runs

pub returns-in-Some-clause-part : goal.returns-in-Some-clause-part
returns-in-Some-clause-part g c = c.clocks_of_planes.ensures.part

pub returns-in-Some-clause-run : goal.returns-in-Some-clause-run
returns-in-Some-clause-run g c = c.clocks_of_planes.ensures.run

pub returns-in-Some-clause-fresh : goal.returns-in-Some-clause-fresh
returns-in-Some-clause-fresh g c = c.clocks_of_planes.ensures.fresh

pub returns-in-Some-clause-still : goal.returns-in-Some-clause-still
returns-in-Some-clause-still g c = c.clocks_of_planes.ensures.still

pub returns-in-Some-clause-spent : goal.returns-in-Some-clause-spent
returns-in-Some-clause-spent g c = c.clocks_of_planes.ensures.spent

pub returns-in-None-clause-runs : goal.returns-in-None-clause-runs
returns-in-None-clause-runs g c = c.clocks_of_blit.ensures.runs

pub returns-in-None-clause-part : goal.returns-in-None-clause-part
returns-in-None-clause-part g c = c.clocks_of_blit.ensures.part

pub returns-in-None-clause-run : goal.returns-in-None-clause-run
returns-in-None-clause-run g c = c.clocks_of_blit.ensures.run

pub returns-in-None-clause-fresh : goal.returns-in-None-clause-fresh
returns-in-None-clause-fresh g c = c.clocks_of_blit.ensures.fresh

pub returns-in-None-clause-still : goal.returns-in-None-clause-still
returns-in-None-clause-still g c = c.clocks_of_blit.ensures.still

pub returns-in-None-clause-spent : goal.returns-in-None-clause-spent
returns-in-None-clause-spent g c = c.clocks_of_blit.ensures.spent

pub returns-in-None-2-clause-runs : goal.returns-in-None-2-clause-runs
returns-in-None-2-clause-runs g c = c.clocks_of_processor.ensures.runs

pub returns-in-None-2-clause-part : goal.returns-in-None-2-clause-part
returns-in-None-2-clause-part g c = c.clocks_of_processor.ensures.part

pub returns-in-None-2-clause-run : goal.returns-in-None-2-clause-run
returns-in-None-2-clause-run g c = c.clocks_of_processor.ensures.run

pub returns-in-None-2-clause-fresh : goal.returns-in-None-2-clause-fresh
returns-in-None-2-clause-fresh g c = c.clocks_of_processor.ensures.fresh

pub returns-in-None-2-clause-still : goal.returns-in-None-2-clause-still
returns-in-None-2-clause-still g c = c.clocks_of_processor.ensures.still

pub returns-in-None-2-clause-spent : goal.returns-in-None-2-clause-spent
returns-in-None-2-clause-spent g c = c.clocks_of_processor.ensures.spent
