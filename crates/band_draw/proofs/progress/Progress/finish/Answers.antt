use Rattle.std.proofs.Common.{◌≡◌, ◌*◌, take, arith, subst, sym, ap, ◌∙◌}
use Rattle.ocs_base.specs.Script.{ScriptValue}
use Rattle.ocs_base.specs.Systems.{is_visible}
use Rattle.mem_versions.specs.MemView.{word_then}
use Rattle.serial_bands.specs.DrawnTo.{touch_by_address}
use Rattle.serial_bands.specs.EventReading.{bus_touch_of}
use Rattle.serial_bands.specs.Run.{run_over}
use Rattle.band_draw.specs.BandPainter.{Paints}
use Rattle.band_draw.specs.Given.{filled_after}
use Rattle.band_draw.specs.declared.progress.Progress.{Progress}
use Rattle.band_draw.proofs.Turning.{part_there, screen_there, room_there, given_part, IsGivenBy, ended}
use Rattle.band_draw.proofs.Painting.{keeps_last}
use Rattle.band_draw.proofs.progress.Progress.finish.Goals as goal

pub part-due-requires : goal.part-due-requires
part-due-requires g c =
    let run = run_over g.S.Side.seen c.args.run.now in
    part_there run c.args.events.now c.args.self.now c.requires.at.reached

pub touch_all-requires-clause-place : goal.touch_all-requires-clause-place
touch_all-requires-clause-place g c =
    let run = run_over g.S.Side.seen c.args.run.now in
    omega (arith, (screen_there run c.args.events.now c.args.self.now c.requires.at.reached).clock)

pub show_clock-requires-clause-place : goal.show_clock-requires-clause-place
show_clock-requires-clause-place g c =
    let run = run_over g.S.Side.seen c.args.run.now in
    omega (arith, (screen_there run c.args.events.now c.args.self.now c.requires.at.reached).clock)

pub show_clock-requires-clause-room : goal.show_clock-requires-clause-room
show_clock-requires-clause-room g c =
    let run = run_over g.S.Side.seen c.args.run.now in
    let beam = c.args.self.now.beam in
    let system : c.system-system.result ≡ c.args.run.now.script.system =
    c.system-system.ensures ∙ ap (λ (s : ScriptValue). s.system) c.script.ensures.value in
    λ visible. room_there run c.args.events.now c.args.room.now c.args.self.now c.requires.at
    (ap (λ s. is_visible s beam.v beam.h) (sym system) ∙ visible)

pub overflow_add-self : goal.overflow_add-self
overflow_add-self g c =
    let run = run_over g.S.Side.seen c.args.run.now in
    omega (arith, part_there run c.args.events.now c.args.self.now c.requires.at.reached, c.part-due.ensures.few)

pub behind-rest-requires : goal.behind-rest-requires
behind-rest-requires g c =
    let run = run_over g.S.Side.seen c.args.run.now in
    part_there run c.args.events.now c.args.self.now c.requires.at.reached

pub touch_access-requires-clause-place : goal.touch_access-requires-clause-place
touch_access-requires-clause-place g c =
    let run = run_over g.S.Side.seen c.args.run.now in
    omega (arith, (screen_there run c.args.events.now c.args.self.now c.requires.at.reached).clock)

pub close-requires : goal.close-requires
close-requires g c =
    let run = run_over g.S.Side.seen c.args.run.now in
    let p : Progress = c.args.self.now in
    c.touch_access.ensures.keeps ∙ c.show_clock.ensures.keeps ∙ c.touch_all.ensures.keeps
    ∙ keeps_last p.painter.keeps p.to p.clock p.beam.h c.requires.at.kept c.requires.last
    (screen_there run c.args.events.now p c.requires.at.reached).clock

pub returns-clause-ended : goal.returns-clause-ended
returns-clause-ended g c =
    let run = run_over g.S.Side.seen c.args.run.now in
    let p : Progress = c.args.self.now in
    let given = c.show_clock in
    let touched = c.touch_all in
    let access = c.touch_access in
    let system : c.system-system.result ≡ c.args.run.now.script.system =
    c.system-system.ensures ∙ ap (λ (s : ScriptValue). s.system) c.script.ensures.value in
    ended run c.args.events.now c.args.view.now c.args.room.now given.new.room p given.new.painter access.new.painter c.close.result
    given.result given.new.clx 0 c.requires.source c.requires.at c.requires.last
    (subst (λ s. IsGivenBy s p c.args.events.now c.args.view.now (take p.filled c.args.room.now) (take given.result given.new.room)
    given.new.painter given.new.clx) system
    (given_part _ p c.args.events.now c.args.view.now c.part-due.result.now _ _ given.new.painter given.new.clx c.part-due.ensures.part
    (λ q painted. given.ensures.given _ (touched.ensures.paints (4 * p.beam.h) q (omega arith) painted))))
    (given.ensures.filled ∙ ap (λ s. filled_after s p.beam.v p.beam.h p.filled) system) given.ensures.size
    (subst (λ l. Paints (4 * p.beam.h) (touch_by_address p.beam.h (word_then c.args.view.now p.clock) (bus_touch_of p.clock 0 l))
    given.new.painter access.new.painter)
    c.behind-rest.ensures.part
    (subst (λ v. Paints (4 * p.beam.h) (touch_by_address p.beam.h (word_then v p.clock) (bus_touch_of p.clock 0 c.behind-rest.result.now))
    given.new.painter access.new.painter) touched.ensures.view access.ensures.touched))
    c.close.ensures
