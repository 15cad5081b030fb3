use Rattle.std.proofs.Common.{refl}
use Rattle.slots_run.specs.code.SlotRun.{fore_of, raster_of}
use Rattle.slots_run.proofs.SlotRunLaws.{stands_new}
use Rattle.slots_run.proofs.slot_run.SlotRun.at_reset.Goals as goal

pub returns-clause-stands : goal.returns-clause-stands
returns-clause-stands c = record {
  first = 0;
  stands = stands_new (fore_of c.args.fore).run (fore_of c.args.fore) (raster_of c.in_ok-raster.raster) c.requires c.in_ok-raster.ensures;
  fresh = c.requires.fresh;
}

pub returns-clause-run : goal.returns-clause-run
returns-clause-run c = refl

pub returns-clause-first : goal.returns-clause-first
returns-clause-first c = c.requires.clock
