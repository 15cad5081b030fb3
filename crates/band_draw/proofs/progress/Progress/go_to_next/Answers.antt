use Rattle.std.proofs.Common.{refl, ◌≡◌, ◌≤◌, ℕ, ◌+◌, ◌*◌, List, length, drop, arith, subst, sym, ap, ◌∙◌}
use Rattle.ocs_base.specs.Script.{ScriptValue}
use Rattle.ocs_base.specs.declared.addr.Addr.{Addr}
use Rattle.ocs_base.specs.declared.script.At.{At}
use Rattle.ocs_base.specs.Systems.{last_clock}
use Rattle.serial_model.specs.Beam.{place_of}
use Rattle.serial_model.specs.Events.{due_events, touches_of}
use Rattle.serial_bands.specs.declared.event.Event.{Event}
use Rattle.serial_bands.specs.ClockLaws.{IsNextInField}
use Rattle.serial_bands.specs.RightJob.{bus_events}
use Rattle.band_draw.specs.code.Due.{IsLeft}
use Rattle.mem_versions.specs.MemView.{word_then}
use Rattle.serial_bands.specs.DrawnTo.{touch_by_address}
use Rattle.serial_bands.specs.EventReading.{bus_touch_of}
use Rattle.serial_bands.specs.Run.{run_over}
use Rattle.band_draw.specs.BandPainter.{Paints}
use Rattle.band_draw.specs.declared.progress.Progress.{Progress}
use Rattle.band_draw.proofs.Turning.{part_there, screen_there, screen_next, left_there, next_within, turned}
use Rattle.band_draw.proofs.Painting.{keeps_next}
use Rattle.band_draw.proofs.progress.Progress.go_to_next.Goals as goal

pub overflow_add-self : goal.overflow_add-self
overflow_add-self g c =
    let run = run_over g.S.Side.seen c.args.run.now in
    omega (arith, part_there run c.args.events.now c.args.self.now c.requires.shown.reached)

pub behind-rest-requires : goal.behind-rest-requires
behind-rest-requires g c =
    let run = run_over g.S.Side.seen c.args.run.now in
    part_there run c.args.events.now c.args.self.now c.requires.shown.reached

pub next_place-requires : goal.next_place-requires
next_place-requires g c =
    let run = run_over g.S.Side.seen c.args.run.now in
    (screen_there run c.args.events.now c.args.self.now c.requires.shown.reached).line

pub due_from-coming-requires-clause-screen : goal.due_from-coming-requires-clause-screen
due_from-coming-requires-clause-screen g c =
    let run = run_over g.S.Side.seen c.args.run.now in
    let system : c.system.result ≡ c.args.run.now.script.system =
    c.system.ensures ∙ ap (λ (s : ScriptValue). s.system) c.script-script.ensures.value in
    let next : IsNextInField c.args.run.now.script.system c.args.self.now.beam c.next_place.new.beam =
    subst (λ s. IsNextInField s c.args.self.now.beam c.next_place.new.beam) system c.next_place.ensures in
    screen_next run c.args.events.now c.args.view.now c.args.self.now c.next_place.new.beam c.requires.source
    c.requires.shown.reached c.requires.more next

pub due_from-coming-requires-clause-left : goal.due_from-coming-requires-clause-left
due_from-coming-requires-clause-left g c =
    let run = run_over g.S.Side.seen c.args.run.now in
    let script : c.events.result.now ≡ c.args.run.now.script.events =
    c.events.ensures ∙ ap (λ (s : ScriptValue). s.events) c.script-script.ensures.value in
    let system : c.system.result ≡ c.args.run.now.script.system =
    c.system.ensures ∙ ap (λ (s : ScriptValue). s.system) c.script-script.ensures.value in
    let next : IsNextInField c.args.run.now.script.system c.args.self.now.beam c.next_place.new.beam =
    subst (λ s. IsNextInField s c.args.self.now.beam c.next_place.new.beam) system c.next_place.ensures in
    subst (λ l. IsLeft (place_of c.next_place.new.beam) l (drop c.args.self.now.due.next l)) (sym script)
    (left_there run c.args.events.now c.args.self.now c.next_place.new.beam c.requires.shown.reached next)

pub overflow_add-self-4 : goal.overflow_add-self-4
overflow_add-self-4 g c =
    let run = run_over g.S.Side.seen c.args.run.now in
    let within : c.touch_access-count.result ≤ length (drop (c.args.self.now.next + c.args.self.now.sets) c.args.events.now) =
    subst (λ (l : List Event). c.touch_access-count.result ≤ length l) c.behind-rest.ensures.part c.touch_access-count.ensures.within in
    omega (
      arith,
      next_within run c.args.events.now c.args.self.now c.touch_access-count.result c.requires.shown.reached within,
      c.behind-rest.ensures.few,
    )

pub touch_access-count-requires-clause-place : goal.touch_access-count-requires-clause-place
touch_access-count-requires-clause-place g c =
    let run = run_over g.S.Side.seen c.args.run.now in
    omega (arith, (screen_there run c.args.events.now c.args.self.now c.requires.shown.reached).clock)

pub returns-clause-at : goal.returns-clause-at
returns-clause-at g c room filled =
    let run = run_over g.S.Side.seen c.args.run.now in
    let p : Progress = c.args.self.now in
    let access = c.touch_access-count in
    let due = c.due_from-coming in
    let rest = c.behind-rest.ensures.part in
    let script : c.events.result.now ≡ c.args.run.now.script.events =
    c.events.ensures ∙ ap (λ (s : ScriptValue). s.events) c.script-script.ensures.value in
    let system : c.system.result ≡ c.args.run.now.script.system =
    c.system.ensures ∙ ap (λ (s : ScriptValue). s.system) c.script-script.ensures.value in
    let next : IsNextInField c.args.run.now.script.system c.args.self.now.beam c.next_place.new.beam =
    subst (λ s. IsNextInField s c.args.self.now.beam c.next_place.new.beam) system c.next_place.ensures in
    let h : ℕ = p.beam.h in
    let words : Addr → ℕ = word_then c.args.view.now p.clock in
    turned run c.args.events.now c.args.view.now room p access.new.painter c.clear_line.new.self
    c.next_place.new.beam due.result.sets due.result.behind.next access.result c.requires.source c.requires.shown c.requires.more
    (record {
      place = next;
      coming = due.ensures.sets ∙ ap (λ l. length (touches_of (due_events c.next_place.new.beam l))) script;
      left = subst (λ l. IsLeft (place_of c.next_place.new.beam + 1) l (drop due.result.behind.next l)) script due.ensures.left;
      bound = subst (λ (l : List At). due.result.behind.next ≤ length l) script due.ensures.within;
      access =
          subst (λ l. Paints (4 * h) (touch_by_address h words (bus_touch_of p.clock due.result.sets l)) p.painter access.new.painter) rest
          access.ensures.touched;
      counted = access.ensures.count ∙ ap (λ l. length (bus_events p.clock (bus_touch_of p.clock due.result.sets l))) rest;
      within = subst (λ (l : List Event). access.result ≤ length l) rest access.ensures.within;
      clean = c.clear_line.ensures.cleared;
      kept =
          keeps_next c.next_place.new.beam _ p.painter.keeps c.clear_line.new.self.keeps p.to p.clock (last_clock c.system.result p.beam.v)
          p.beam.h c.clear_line.ensures.start
          (λ on. c.clear_line.ensures.on on ∙ access.ensures.keeps)
          refl c.next_place.ensures.clock c.requires.shown.kept;
    }) filled
