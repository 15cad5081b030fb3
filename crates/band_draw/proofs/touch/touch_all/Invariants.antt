-- The events before this one have touched the picture state. The view is the first one.
use Rattle.std.proofs.Common.{◌≡◌}
use Rattle.mem_versions.specs.MemView.{word_then}
use Rattle.band_draw.specs.code.Touched.{HaveTouched}
use Rattle.band_draw.proofs.touch.touch_all.Given as goal

abbrev pub invariant-loop-event : goal.invariant-loop-event
invariant-loop-event l = record {
  touched : HaveTouched l.h (word_then l.initial.view l.clock.0) l.events l.event-index l.initial.painter l.painter;
  keeps : l.painter.keeps ≡ l.initial.painter.keeps;
  view : l.view ≡ l.initial.view;
}
