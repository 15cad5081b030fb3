use Rattle.std.proofs.Common.{◌≡◌, length, refl, sym, ◌∙◌, subst}
use Rattle.std.specs.Arc.{arc_value}
use Rattle.mem_versions.specs.MemView.{word_then}
use Rattle.serial_bands.specs.BandShown.{IsRightUnder}
use Rattle.serial_bands.specs.RightJob.{IsRightJob}
use Rattle.serial_bands.specs.Run.{run_over}
use Rattle.serial_model.specs.declared.picture.Denise.{Denise}
use Rattle.band_draw.specs.code.Progress.{IsSource, IsAt, IsEnded}
use Rattle.band_draw.proofs.Beginning.{job_screen, job_eight, job_source}
use Rattle.band_draw.proofs.band.draw.Goals as goal

pub begin-start-requires-clause-screen : goal.begin-start-requires-clause-screen
begin-start-requires-clause-screen g c =
    let job = c.args.job in
    let run = run_over g.S.Side.seen (arc_value job.run) in
    job_screen run job.number job.from.0 job.to.0 job.beam job.picture job.events (word_then job.view) (length job.room) c.requires.parts

pub begin-start-requires-clause-eight : goal.begin-start-requires-clause-eight
begin-start-requires-clause-eight g c =
    let job = c.args.job in
    let run = run_over g.S.Side.seen (arc_value job.run) in
    subst (λ (d : Denise). length d.runs ≡ 8) (sym c.state.ensures)
    (job_eight run job.number job.from.0 job.to.0 job.beam job.picture job.events (word_then job.view) (length job.room) c.requires.parts)

pub draw_into-end-requires-clause-source : goal.draw_into-end-requires-clause-source
draw_into-end-requires-clause-source g c =
    let job = c.args.job in
    let run = run_over g.S.Side.seen (arc_value job.run) in
    let start = c.begin-start in
    subst (λ r. IsSource (run_over g.S.Side.seen r) start.result.from start.result.to job.view) (sym c.deref-2.ensures)
    (subst (λ k. IsSource run k start.result.to job.view) (sym start.ensures.from)
    (subst (λ k. IsSource run job.from.0 k job.view) (sym start.ensures.to)
    (job_source run job.number job.from.0 job.to.0 job.beam job.picture job.events job.view (length job.room) c.requires.parts
    c.requires.covered)))

pub draw_into-end-requires-clause-at : goal.draw_into-end-requires-clause-at
draw_into-end-requires-clause-at g c =
    let job = c.args.job in
    subst (λ r. IsAt (run_over g.S.Side.seen r) c.list.result.now job.room c.begin-start.result) (c.deref.ensures ∙ sym c.deref-2.ensures)
    (subst (λ l. IsAt (run_over g.S.Side.seen c.deref.result.now) l job.room c.begin-start.result) (sym c.list.ensures)
    (c.begin-start.ensures.at job.number job.events (word_then job.view) job.room
    (subst (λ d. IsRightJob (run_over g.S.Side.seen c.deref.result.now) job.number job.from.0 job.to.0 job.beam d job.events (word_then job.view)
    (length job.room)) (sym c.state.ensures)
    (subst (λ r. IsRightJob (run_over g.S.Side.seen r) job.number job.from.0 job.to.0 job.beam job.picture job.events (word_then job.view) (length job.room))
    (sym c.deref.ensures) c.requires.parts))))

pub returns-clause-right : goal.returns-clause-right
returns-clause-right g c =
    let job = c.args.job in
    let start = c.begin-start in
    let end = c.draw_into-end in
    let shared = run_over g.S.Side.seen c.deref-2.result.now in
    record {
      owner = refl;
      numbered = refl;
      shown =
          subst (λ d. IsRightUnder 0 (run_over g.S.Side.seen (arc_value job.run)) job.number job.from.0 job.to.0 end.new.room end.result.clx d)
          (sym c.set.ensures)
          (subst (λ r. IsEnded (run_over g.S.Side.seen r) job.from.0 job.to.0 end.new.room end.result.closing end.result.clx) c.deref-2.ensures
          (subst (λ k. IsEnded shared k job.to.0 end.new.room end.result.closing end.result.clx) start.ensures.from
          (subst (λ k. IsEnded shared start.result.from k end.new.room end.result.closing end.result.clx) start.ensures.to end.ensures.ended))
          job.number c.requires.parts.band);
    }
