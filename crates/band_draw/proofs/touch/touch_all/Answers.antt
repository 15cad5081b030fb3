use Rattle.std.proofs.Common.{◌*◌, Some, sym, ◌∙◌, subst}
use Rattle.mem_versions.specs.MemView.{Covers, word_then}
use Rattle.serial_bands.specs.DrawnTo.{touch_by_address}
use Rattle.serial_bands.specs.EventReading.{touch_of_event}
use Rattle.band_draw.specs.BandPainter.{Paints}
use Rattle.band_draw.proofs.Touching.{more_touched, all_touched}
use Rattle.band_draw.proofs.touch.touch_all.Goals as goal

pub touch-requires-clause-covered : goal.touch-requires-clause-covered
touch-requires-clause-covered c = subst (λ v. Covers v c.args.clock.0) (sym c.loop-event.invariant.view) c.requires.covered

pub loop-event-preserved : goal.loop-event-preserved
loop-event-preserved c = record {
  touched =
      more_touched c.args.h (word_then c.args.view.now c.args.clock.0) c.args.events.now c.loop-event.event-index c.event-item.result
      c.args.painter.now c.loop-event.painter c.touch.new.painter c.loop-event-test.true c.event-item.is c.loop-event.invariant.touched
      (subst (λ v. Paints (4 * c.args.h) (touch_by_address c.args.h (word_then v c.args.clock.0) (Some (touch_of_event c.event-item.result)))
      c.loop-event.painter c.touch.new.painter) c.loop-event.invariant.view c.touch.ensures.paints);
  keeps = c.touch.ensures.keeps ∙ c.loop-event.invariant.keeps;
  view = c.touch.ensures.view ∙ c.loop-event.invariant.view;
}

pub returns-clause-paints : goal.returns-clause-paints
returns-clause-paints c =
    all_touched c.args.h (word_then c.args.view.now c.args.clock.0) c.args.events.now c.loop-event.event-index c.args.painter.now
    c.loop-event.painter c.loop-event-test.false c.loop-event.invariant.touched
