-- Touches by words that are found by address.
use Rattle.std.specs.Prelude.{◌*◌, ℕ, List, [], ◌∷◌, Some, map, drop}
use Rattle.ocs_base.specs.declared.addr.Addr.{Addr}
use Rattle.serial_model.specs.declared.picture.Denise.{Denise}
use Rattle.serial_model.specs.declared.picture.Touch.{Touch}
use Rattle.serial_bands.specs.declared.event.Event.{Event}
use Rattle.serial_bands.specs.EventReading.{touch_of_event}
use Rattle.serial_bands.specs.DrawnTo.{touch_by_address}
use Rattle.band_draw.specs.declared.band_painter.BandPainter.{BandPainter}
use Rattle.band_draw.specs.BandPainter.{Paints}

-- touches in their order, by words that are found by address
abbrev pub touched_by : ℕ → (Addr → ℕ) → List Touch → Denise → Denise
touched_by h word_found [] p = p
touched_by h word_found (touch ∷ touches) p = touched_by h word_found touches (touch_by_address h word_found (Some touch) p)

-- events touch a picture state
abbrev pub touched_by_events : ℕ → (Addr → ℕ) → List Event → Denise → Denise
touched_by_events h word_found events p = touched_by h word_found (map touch_of_event events) p

-- so far the first i of some events have: what paints the others from here paints all from the start
abbrev pub HaveTouched : ℕ → (Addr → ℕ) → List Event → ℕ → BandPainter → BandPainter → Type 0
HaveTouched h word_found events i start now = (end : BandPainter) →
    Paints (4 * h) (touched_by_events h word_found (drop i events)) now end →
    Paints (4 * h) (touched_by_events h word_found events) start end
