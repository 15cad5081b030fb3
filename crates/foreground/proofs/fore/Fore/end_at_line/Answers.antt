-- The band's job is submitted, once its memory is cut and the words of the shadow are looked up.
use Rattle.foreground.specs.Fore.{over}
use Rattle.std.proofs.Common.{ap}
use Rattle.ocs_io.proofs.MapLaws.{on_err}
use Rattle.foreground.specs.code.Cuts.{EndsPart}
use Rattle.foreground.proofs.CutLaws.{line_no_part, line_submit_part, ends_at_line_now, line_rises_now}
use Rattle.foreground.proofs.RefusalLaws.{not_ok}
use Rattle.foreground.proofs.fore.Fore.end_at_line.Goals as goal

pub returns-in_err-job-clause-part : goal.returns-in_err-job-clause-part
returns-in_err-job-clause-part g c =
    let seen = g.Q.Raster.seen in
    on_err c.from_residual.result
    (EndsPart c.args.self.now.machine.t (over g.S.Side.seen c.args.self.now) (seen c.args.raster.now) (seen c.args.raster.now) c.args.out.now c.args.out.now)
    (line_no_part c.args.self.now.machine.t (over g.S.Side.seen c.args.self.now) (seen c.args.raster.now) c.args.out.now)

pub returns-in_err-submit-clause-part : goal.returns-in_err-submit-clause-part
returns-in_err-submit-clause-part g c =
    let seen = g.Q.Raster.seen in
    on_err c.from_residual-in_err-submit.result
    (EndsPart c.args.self.now.machine.t (over g.S.Side.seen c.args.self.now) (seen c.args.raster.now) (seen c.submit.new.raster) c.args.out.now
    c.submit.new.out)
    (line_submit_part c.args.self.now.machine.t (over g.S.Side.seen c.args.self.now) (seen c.args.raster.now) (seen c.submit.new.raster) c.args.out.now
    c.submit.new.out
    c.in_err-submit.ensures.part)

pub returns-clause-ends : goal.returns-clause-ends
returns-clause-ends g c =
    let seen = g.Q.Raster.seen in
    ends_at_line_now _ (over g.S.Side.seen c.args.self.now) g.S.Side.seen c.in_ok-job.job (seen c.args.raster.now) (seen c.submit.new.raster) c.args.out.now
    c.submit.new.out
    c.submit.new.clx _ c.cut_line.new.self c.cut_line.new.chip (ap (over g.S.Side.seen) c.self.view_is) c.in_ok-job.ensures.job c.in_ok-submit.ensures.submitted
    c.in_ok-job.ensures.log c.in_ok-job.ensures.from c.in_ok-job.ensures.number c.in_ok-job.ensures.chip

pub returns-in_err-submit-clause-reads : goal.returns-in_err-submit-clause-reads
returns-in_err-submit-clause-reads g c =
    line_rises_now _ (over g.S.Side.seen c.args.self.now) c.requires.stands.0 (g.Q.Raster.seen c.args.raster.now) c.cut_line.new.chip
    (ap (over g.S.Side.seen) c.self.view_is)
    c.requires.stands.1 c.requires.before c.in_ok-job.ensures.chip

pub returns-clause-reads : goal.returns-clause-reads
returns-clause-reads g c =
    line_rises_now _ (over g.S.Side.seen c.args.self.now) c.requires.stands.0 (g.Q.Raster.seen c.args.raster.now) c.cut_line.new.chip
    (ap (over g.S.Side.seen) c.self.view_is)
    c.requires.stands.1 c.requires.before c.in_ok-job.ensures.chip

pub returns-in_err-job-clause-ends : goal.returns-in_err-job-clause-ends
returns-in_err-job-clause-ends g c = not_ok c.from_residual.result _ c.from_residual.ensures.0

pub returns-in_err-submit-clause-ends : goal.returns-in_err-submit-clause-ends
returns-in_err-submit-clause-ends g c = not_ok c.from_residual-in_err-submit.result _ c.from_residual-in_err-submit.ensures.0

pub returns-clause-part : goal.returns-clause-part
returns-clause-part g c = tt
