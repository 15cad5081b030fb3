use Rattle.std.proofs.lemmas.Result.{on_err_weaker}
use Rattle.foreground.specs.Fore.{over}
use Rattle.foreground.proofs.MadeLaws.{on_err, on_ok_two}
use Rattle.clock_loop.proofs.EndLaws.{no_files}
use Rattle.clock_loop.proofs.ClockLaws.{late_view, late_access, asked_with, clock_made, accessed_in_part, ended_in_part}
use Rattle.clock_loop.proofs.bus.access_and_end.Goals as goal

pub access_by-requires-clause-can : goal.access_by-requires-clause-can
access_by-requires-clause-can g c =
    late_access _ c.requires.asked.0 (over g.S.Side.seen c.args.fore.now) (g.Q.Raster.seen c.args.raster.now) no_files
    (late_view _ c.args.fore.now _ c.fore.view_is c.late_ask-ask.ensures) c.requires.asked.1 c.requires.asked.2

pub returns-in_err-access_by-clause-part : goal.returns-in_err-access_by-clause-part
returns-in_err-access_by-clause-part g c =
    let of = over g.S.Side.seen in
    let late = late_view _ c.args.fore.now _ c.fore.view_is c.late_ask-ask.ensures in
    on_err c.from_residual.result (λ old w asked. accessed_in_part _ old (of c.args.fore.now) (of c.access_by.new.self) (g.Q.Raster.seen c.args.raster.now)
    (g.Q.Raster.seen c.args.raster.now) (g.Q.Raster.seen c.access_by.new.raster) c.args.out.now c.access_by.new.out w
    (asked_with _ old (of c.args.fore.now) late asked) c.in_err-access_by.ensures.part c.in_err-access_by.ensures.reads)

pub returns-clause-made : goal.returns-clause-made
returns-clause-made g c =
    let of = over g.S.Side.seen in
    let late = late_view _ c.args.fore.now _ c.fore.view_is c.late_ask-ask.ensures in
    on_ok_two c.end_clock.result (λ end place old w asked. clock_made _ old (of c.args.fore.now) (of c.access_by.new.self) (of c.end_clock.new.self) place.0
    (g.Q.Raster.seen c.args.raster.now) (g.Q.Raster.seen c.args.raster.now) (g.Q.Raster.seen c.access_by.new.raster) c.args.out.now c.access_by.new.out
    c.end_clock.new.out w (asked_with _ old (of c.args.fore.now) late asked) c.in_ok-access_by.ensures.makes c.in_ok-access_by.ensures.kept
    c.in_ok-access_by.ensures.reads end place.1) c.end_clock.ensures.ends c.end_clock.ensures.place

pub returns-clause-part : goal.returns-clause-part
returns-clause-part g c =
    let of = over g.S.Side.seen in
    let late = late_view _ c.args.fore.now _ c.fore.view_is c.late_ask-ask.ensures in
    on_err_weaker c.end_clock.result (λ same old w asked. ended_in_part _ old (of c.args.fore.now) (of c.access_by.new.self) (of c.end_clock.new.self)
    (g.Q.Raster.seen c.args.raster.now) (g.Q.Raster.seen c.args.raster.now) (g.Q.Raster.seen c.access_by.new.raster) c.args.out.now c.access_by.new.out
    c.end_clock.new.out w (asked_with _ old (of c.args.fore.now) late asked) c.in_ok-access_by.ensures.makes c.in_ok-access_by.ensures.kept
    c.in_ok-access_by.ensures.reads c.end_clock.ensures.chip same) c.end_clock.ensures.refused
