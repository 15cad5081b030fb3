-- The foreground is made of the best checkpoint again, or anew.
use Rattle.std.proofs.Common.{sym, ap, ◌∙◌, subst}
use Rattle.serial_model.specs.Side.{no_side}
use Rattle.serial_bands.specs.Run.{run_over}
use Rattle.foreground.specs.Fore.{IsNew}
use Rattle.rewind_loop.specs.Present.{run_of, run_in, fore_of, raster_of}
use Rattle.rewind_loop.specs.code.Steps.{starting_with}
use Rattle.rewind_loop.proofs.BackLaws.{best_kept, back_to_best, back_to_first}
use Rattle.rewind_loop.proofs.rewind.Rewind.load_best.Goals as goal

pub load-requires : goal.load-requires
load-requires c =
    let self = c.args.self.now in
    ap (run_over (λ side. no_side)) c.in_ok-run.ensures
    ∙ sym (best_kept (run_in self) c.requires.at.0 c.requires.at.1 (fore_of self.fore) (raster_of self.raster) self.ring c.requires.at.2 c.args.clock _
    c.in-Some.ensures.best).run_of

pub returns-in_ok-load-in-Some : goal.returns-in_ok-load-in-Some
returns-in_ok-load-in-Some c keep p is raster begun =
    let self = c.args.self.now in
    back_to_best (run_in self) keep p (fore_of self.fore) (raster_of self.raster) self.ring is c.args.clock _ (fore_of c.in_ok-load-in-Some.field-0) raster
    c.requires.above c.in-Some.ensures.best c.in-Some.ensures.last c.in_ok-load-in-Some.ensures.made (begun ∙ ap starting_with c.band.ensures)

pub returns-in_ok-new-in-None : goal.returns-in_ok-new-in-None
returns-in_ok-new-in-None c keep p is raster begun =
    let self = c.args.self.now in
    let fore = fore_of c.in_ok-new-in-None.field-0 in
    back_to_first (run_in self) keep p (fore_of self.fore) (raster_of self.raster) self.ring is c.args.clock fore raster c.requires.above
    c.in-None.ensures.best (subst (λ run. IsNew (run_of run) fore) c.in_ok-run.ensures c.in_ok-new-in-None.ensures) begun
