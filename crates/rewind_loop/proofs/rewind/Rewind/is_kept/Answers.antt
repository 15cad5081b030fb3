-- The best entry for the present clock is the last one.
use Rattle.rewind_loop.specs.Present.{run_in, fore_of, raster_of}
use Rattle.rewind_loop.proofs.PresentLaws.{kept_some, kept_none}
use Rattle.rewind_loop.proofs.rewind.Rewind.is_kept.Goals as goal

pub returns-in-Some : goal.returns-in-Some
returns-in-Some c keep p is =
    let self = c.args.self.now in
    kept_some (run_in self) keep p (fore_of self.fore) (raster_of self.raster) self.ring is c.clocks.result c.clocks-in-Some.result _
    c.clocks.ensures c.clocks-in-Some.ensures c.in-Some.ensures.best

pub returns-in-None : goal.returns-in-None
returns-in-None c keep p is =
    let self = c.args.self.now in
    kept_none (run_in self) keep p (fore_of self.fore) (raster_of self.raster) self.ring is c.clocks.result c.clocks.ensures c.in-None.ensures.best
