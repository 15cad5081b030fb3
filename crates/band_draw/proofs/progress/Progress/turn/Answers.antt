use Rattle.std.proofs.Common.{◌≡◌, ◌*◌, take, arith, subst, sym, ap, ◌∙◌}
use Rattle.ocs_base.specs.Script.{ScriptValue}
use Rattle.ocs_base.specs.Systems.{is_visible}
use Rattle.serial_bands.specs.Run.{run_over}
use Rattle.band_draw.specs.Given.{filled_after}
use Rattle.band_draw.specs.declared.progress.Progress.{Progress}
use Rattle.band_draw.proofs.Turning.{part_there, screen_there, room_there, given_part, IsGivenBy, shown_there, filled_there}
use Rattle.band_draw.proofs.progress.Progress.turn.Goals as goal

pub part-due-requires : goal.part-due-requires
part-due-requires g c =
    let run = run_over g.S.Side.seen c.args.run.now in
    part_there run c.args.events.now c.args.self.now c.requires.at.reached

pub touch_all-requires-clause-place : goal.touch_all-requires-clause-place
touch_all-requires-clause-place g c =
    let run = run_over g.S.Side.seen c.args.run.now in
    omega (arith, (screen_there run c.args.events.now c.args.self.now c.requires.at.reached).clock)

pub show_clock-self-requires-clause-place : goal.show_clock-self-requires-clause-place
show_clock-self-requires-clause-place g c =
    let run = run_over g.S.Side.seen c.args.run.now in
    omega (arith, (screen_there run c.args.events.now c.args.self.now c.requires.at.reached).clock)

pub show_clock-self-requires-clause-room : goal.show_clock-self-requires-clause-room
show_clock-self-requires-clause-room g c =
    let run = run_over g.S.Side.seen c.args.run.now in
    let beam = c.args.self.now.beam in
    let system : c.system.result ≡ c.args.run.now.script.system =
    c.system.ensures ∙ ap (λ (s : ScriptValue). s.system) c.script.ensures.value in
    λ visible. room_there run c.args.events.now c.args.room.now c.args.self.now c.requires.at
    (ap (λ s. is_visible s beam.v beam.h) (sym system) ∙ visible)

pub go_to_next-requires-clause-shown : goal.go_to_next-requires-clause-shown
go_to_next-requires-clause-shown g c =
    let run = run_over g.S.Side.seen c.args.run.now in
    let p : Progress = c.args.self.now in
    let given = c.show_clock-self in
    let touched = c.touch_all in
    let system : c.system.result ≡ c.args.run.now.script.system =
    c.system.ensures ∙ ap (λ (s : ScriptValue). s.system) c.script.ensures.value in
    let made : IsGivenBy c.args.run.now.script.system p c.args.events.now c.args.view.now (take p.filled c.args.room.now)
    (take given.result given.new.room) given.new.painter given.new.clx =
    subst (λ s. IsGivenBy s p c.args.events.now c.args.view.now (take p.filled c.args.room.now) (take given.result given.new.room)
    given.new.painter given.new.clx) system
    (given_part _ p c.args.events.now c.args.view.now c.part-due.result.now _ _ given.new.painter given.new.clx c.part-due.ensures.part
    (λ q painted. given.ensures.given _ (touched.ensures.paints (4 * p.beam.h) q (omega arith) painted))) in
    shown_there run c.args.events.now c.args.view.now c.args.room.now given.new.room p given.new.painter given.result given.new.clx
    c.requires.source c.requires.at made (given.ensures.keeps ∙ touched.ensures.keeps)

pub returns-clause-at : goal.returns-clause-at
returns-clause-at g c =
    let run = run_over g.S.Side.seen c.args.run.now in
    let p : Progress = c.args.self.now in
    let given = c.show_clock-self in
    let touched = c.touch_all in
    let system : c.system.result ≡ c.args.run.now.script.system =
    c.system.ensures ∙ ap (λ (s : ScriptValue). s.system) c.script.ensures.value in
    let made : IsGivenBy c.args.run.now.script.system p c.args.events.now c.args.view.now (take p.filled c.args.room.now)
    (take given.result given.new.room) given.new.painter given.new.clx =
    subst (λ s. IsGivenBy s p c.args.events.now c.args.view.now (take p.filled c.args.room.now) (take given.result given.new.room)
    given.new.painter given.new.clx) system
    (given_part _ p c.args.events.now c.args.view.now c.part-due.result.now _ _ given.new.painter given.new.clx c.part-due.ensures.part
    (λ q painted. given.ensures.given _ (touched.ensures.paints (4 * p.beam.h) q (omega arith) painted))) in
    c.go_to_next.ensures.at given.new.room
    (filled_there run c.args.events.now c.args.view.now c.args.room.now given.new.room p given.new.painter given.result given.new.clx
    c.requires.source c.requires.at c.requires.more made
    (given.ensures.filled ∙ ap (λ s. filled_after s p.beam.v p.beam.h p.filled) system) given.ensures.size)
