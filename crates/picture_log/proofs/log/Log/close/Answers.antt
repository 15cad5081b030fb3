use Rattle.serial_bands.specs.Run.{run_over}
use Rattle.std.proofs.Common.{◌≡◌, ◌+◌, ◌-◌, ◌≤◌, rules, refl, ap, ◌∙◌, sym, subst, arith}
use Rattle.std.specs.Arc.{arc_value}
use Rattle.ocs_base.specs.Script.{ScriptValue}
use Rattle.picture_log.specs.Log.{IsCut, blank_after, size_to}
use Rattle.picture_log.specs.ShownCount.{shown_before}
use Rattle.picture_log.proofs.Beginning.{ended_job}
use Rattle.picture_log.proofs.Cutting.{log_cuts, number_fits}
use Rattle.picture_log.proofs.ShownLaws.{ended_size}
use Rattle.picture_log.proofs.log.Log.close.Goals as goal

pub overflow_add-next : goal.overflow_add-next
overflow_add-next g c =
    let most : c.args.self.now.band.number + 1 ≤ c.args.to =
    number_fits (run_over g.S.Side.seen (arc_value c.args.run.now)) c.args.to c.args.self.now c.args.chip.now c.requires.ending in
    omega (arith, most, c.ranges.to.fits)

pub returns-clause-job : goal.returns-clause-job
returns-clause-job g c =
    ended_job (run_over g.S.Side.seen (arc_value c.args.run.now)) c.args.to c.args.self.now c.args.chip.now g.S.Side.seen _ c.replace-band.result
    c.requires.ending
    c.replace-band.ensures.value (ap (run_over g.S.Side.seen) c.in_ok-run.ensures) refl refl refl refl refl refl c.in_ok-view.ensures.view
    (let run = run_over g.S.Side.seen (arc_value c.args.run.now) in
    let whole : c.args.shown ≡ shown_before run.script.system c.args.self.now.band.beam + size_to run c.args.self.now.band.from c.args.to =
    ended_size run c.args.to c.args.shown c.args.self.now c.args.chip.now c.requires.ending c.requires.count in
    let system : c.system-system.result ≡ run.script.system =
    c.system-system.ensures ∙ ap (λ (s : ScriptValue). s.system) c.script.ensures.value ∙ ap (λ r. (run_over g.S.Side.seen r).script.system) c.deref.ensures in
    let before : c.shown_before.result ≡ shown_before run.script.system c.args.self.now.band.beam =
    c.shown_before.ensures ∙ ap (λ s. shown_before s c.args.self.now.band.beam) system in
    let rest : c.args.shown - c.shown_before.result ≡ size_to run c.args.self.now.band.from c.args.to = omega (arith, whole, before) in
    c.in_ok-room.ensures.size ∙ rest)

pub overflow_sub-bytes : goal.overflow_sub-bytes
overflow_sub-bytes g c =
    let run = run_over g.S.Side.seen (arc_value c.args.run.now) in
    let whole : c.args.shown ≡ shown_before run.script.system c.args.self.now.band.beam + size_to run c.args.self.now.band.from c.args.to =
    ended_size run c.args.to c.args.shown c.args.self.now c.args.chip.now c.requires.ending c.requires.count in
    let system : c.system-system.result ≡ run.script.system =
    c.system-system.ensures ∙ ap (λ (s : ScriptValue). s.system) c.script.ensures.value ∙ ap (λ r. (run_over g.S.Side.seen r).script.system) c.deref.ensures in
    let before : c.shown_before.result ≡ shown_before run.script.system c.args.self.now.band.beam =
    c.shown_before.ensures ∙ ap (λ s. shown_before s c.args.self.now.band.beam) system in
    omega (arith, whole, before)

pub returns-clause-cut : goal.returns-clause-cut
returns-clause-cut g c =
    let run = run_over g.S.Side.seen (arc_value c.args.run.now) in
    let log = c.args.self.now in
    let next : c.replace-band.new.dest ≡ blank_after c.args.to log.band = search rules in
    subst (λ band. IsCut run c.args.to (record log { band = band }) c.cut_replay.new.self) (sym next)
    (subst (λ chip. IsCut run c.args.to (record log { band = blank_after c.args.to log.band }) chip) (sym c.in_ok-view.ensures.cut)
    (log_cuts run c.args.to log c.args.chip.now c.requires.ending))
