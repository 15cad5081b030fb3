-- Clocks of a line that the foreground goes on are clocks of the run.
use Rattle.std.proofs.Common.{◌≡◌, ◌≤◌, ◌<◌, min, refl, ap, ◌∙◌, sym, arith, subst}
use Rattle.ocs_base.specs.declared.beam.Beam.{Beam}
use Rattle.serial_bands.specs.Run.{beam_at}
use Rattle.foreground.specs.Fore.{ForeValue}
use Rattle.rewind_loop.specs.Present.{run_in, fore_of, raster_of}
use Rattle.rewind_loop.specs.code.Steps.{line_limit}
use Rattle.rewind_loop.proofs.LineLaws.{none_in_line, later_clock, ran_on, above_here, come_below}
use Rattle.rewind_loop.proofs.rewind.Rewind.go_on.Goals as goal

pub returns-in_err-renew_at_frame-clause-run : goal.returns-in_err-renew_at_frame-clause-run
returns-in_err-renew_at_frame-clause-run c = refl

pub returns-in_err-renew_at_frame-clause-every : goal.returns-in_err-renew_at_frame-clause-every
returns-in_err-renew_at_frame-clause-every c = refl

pub returns-in_err-run_to-clause-run : goal.returns-in_err-run_to-clause-run
returns-in_err-run_to-clause-run c = refl

pub returns-in_err-run_to-clause-every : goal.returns-in_err-run_to-clause-every
returns-in_err-run_to-clause-every c = refl

pub returns-clause-run : goal.returns-clause-run
returns-clause-run c = refl

pub returns-clause-every : goal.returns-clause-every
returns-clause-every c = refl

pub returns-clause-goes : goal.returns-clause-goes
returns-clause-goes c =
    let self = c.args.self.now in
    let old : ForeValue = fore_of self.fore in
    let new : ForeValue = fore_of c.run_to.new.fore in
    let ran = c.in_ok-run_to.ensures in
    let limit : c.min-limit.result ≡ min c.args.clock (line_limit old.machine.t old.machine.beam.h) =
    c.min-limit.ensures ∙ ap (λ n. min c.args.clock n) c.clock_in_line.ensures in
    let low : old.machine.t < c.min-limit.result = above_here old.machine.t old.machine.beam.h c.args.clock _ limit c.requires.before c.ranges.clock.fits in
    let later : old.machine.t < new.machine.t =
    later_clock old new c.requires.at.2.first _ (raster_of self.raster) (raster_of c.run_to.new.raster) _ _ c.requires.at.2.stands
    c.requires.running ran.clocks ran.come low ran.run in
    let below = come_below old new old.machine.beam.h c.args.clock _ ran.come limit low in
    let place : old.machine.beam ≡ beam_at (run_in self) old.machine.t =
    sym c.requires.at.2.stands.at.machine.beam ∙ ap (λ r. beam_at r old.machine.t) c.requires.at.2.run_is in
    record {
      later = later;
      most = below.0;
      none = none_in_line (run_in self) self.every old.machine.t new.machine.t
          (subst (λ (b : Beam). new.machine.t ≤ line_limit old.machine.t b.h) place below.1);
      comes = λ keep p is.
          ran_on (run_in self) keep p old new (raster_of self.raster) (raster_of c.run_to.new.raster) self.ring _ _ is ran.clocks
          (omega (arith, later)) ran.run ran.fresh;
    }
