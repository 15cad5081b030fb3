-- The band's job is submitted, and then all are gathered.
use Rattle.std.proofs.Common.{subst, ap}
use Rattle.ocs_io.proofs.MapLaws.{on_err}
use Rattle.foreground.specs.Fore.{ForeValue, over}
use Rattle.foreground.specs.code.Cuts.{EndsPartAtRead}
use Rattle.foreground.proofs.CutLaws.{ends_no_part, ends_submit_part, ends_gather_part, ends_all_now}
use Rattle.foreground.proofs.RefusalLaws.{no_value, not_ok}
use Rattle.foreground.proofs.fore.Fore.end_all.Goals as goal

pub returns-in_err-job-clause-part : goal.returns-in_err-job-clause-part
returns-in_err-job-clause-part g c =
    let seen = g.Q.Raster.seen in
    on_err c.from_residual.result
    (EndsPartAtRead c.args.to (over g.S.Side.seen c.args.self.now) (seen c.args.raster.now) (seen c.args.raster.now) c.args.out.now c.args.out.now)
    (ends_no_part c.args.to (over g.S.Side.seen c.args.self.now) (seen c.args.raster.now) c.args.out.now)

pub returns-in_err-submit-clause-part : goal.returns-in_err-submit-clause-part
returns-in_err-submit-clause-part g c =
    let seen = g.Q.Raster.seen in
    on_err c.from_residual-in_err-submit.result
    (EndsPartAtRead c.args.to (over g.S.Side.seen c.args.self.now) (seen c.args.raster.now) (seen c.submit.new.raster) c.args.out.now c.submit.new.out)
    (ends_submit_part c.args.to (over g.S.Side.seen c.args.self.now) (seen c.args.raster.now) (seen c.submit.new.raster) c.args.out.now c.submit.new.out
    c.in_err-submit.ensures.part)

pub returns-in_err-closing-clause-part : goal.returns-in_err-closing-clause-part
returns-in_err-closing-clause-part g c =
    let seen = g.Q.Raster.seen in
    on_err c.from_residual-in_err-closing.result
    (EndsPartAtRead c.args.to (over g.S.Side.seen c.args.self.now) (seen c.args.raster.now) (seen c.gather_all.new.raster) c.args.out.now c.gather_all.new.out)
    (subst (λ (o : ForeValue). EndsPartAtRead c.args.to o (seen c.args.raster.now) (seen c.gather_all.new.raster) c.args.out.now c.gather_all.new.out)
    (ap (over g.S.Side.seen) c.self.view_is)
    (ends_gather_part c.args.to _ g.S.Side.seen c.in_ok-job.job (seen c.args.raster.now) (seen c.submit.new.raster) (seen c.gather_all.new.raster)
    c.args.out.now c.submit.new.out c.gather_all.new.out c.submit.new.clx c.in_ok-job.ensures.job c.in_ok-submit.ensures.submitted
    c.in_err-closing.ensures.part))

pub returns-clause-ends : goal.returns-clause-ends
returns-clause-ends g c =
    let seen = g.Q.Raster.seen in
    ends_all_now c.args.to _ (over g.S.Side.seen c.args.self.now) g.S.Side.seen c.in_ok-job.job (seen c.args.raster.now) (seen c.submit.new.raster)
    (seen c.gather_all.new.raster)
    c.args.out.now c.submit.new.out c.gather_all.new.out c.submit.new.clx c.gather_all.new.clx c.in_ok-closing.closing
    c.close.new.self c.close.new.chip (ap (over g.S.Side.seen) c.self.view_is) c.in_ok-job.ensures.job c.in_ok-submit.ensures.submitted
    c.in_ok-closing.ensures.gathered
    c.in_ok-job.ensures.cut c.in_ok-job.ensures.log c.in_ok-job.ensures.chip

pub returns-in_err-job-clause-ends : goal.returns-in_err-job-clause-ends
returns-in_err-job-clause-ends g c = no_value c.from_residual.result _ c.from_residual.ensures.0

pub returns-in_err-job-clause-none : goal.returns-in_err-job-clause-none
returns-in_err-job-clause-none g c = not_ok c.from_residual.result _ c.from_residual.ensures.0

pub returns-in_err-submit-clause-ends : goal.returns-in_err-submit-clause-ends
returns-in_err-submit-clause-ends g c = no_value c.from_residual-in_err-submit.result _ c.from_residual-in_err-submit.ensures.0

pub returns-in_err-submit-clause-none : goal.returns-in_err-submit-clause-none
returns-in_err-submit-clause-none g c = not_ok c.from_residual-in_err-submit.result _ c.from_residual-in_err-submit.ensures.0

pub returns-in_err-closing-clause-ends : goal.returns-in_err-closing-clause-ends
returns-in_err-closing-clause-ends g c = no_value c.from_residual-in_err-closing.result _ c.from_residual-in_err-closing.ensures.0

pub returns-in_err-closing-clause-none : goal.returns-in_err-closing-clause-none
returns-in_err-closing-clause-none g c = not_ok c.from_residual-in_err-closing.result _ c.from_residual-in_err-closing.ensures.0

pub returns-clause-part : goal.returns-clause-part
returns-clause-part g c = tt
