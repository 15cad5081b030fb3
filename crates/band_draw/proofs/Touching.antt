-- Events touch a picture state one after another.
use Rattle.std.proofs.Common.{◌≡◌, ◌≤◌, ◌<◌, ℕ, suc, ◌+◌, ◌*◌, List, ◌∷◌, length, drop, get_or, Some, sym, ap, ◌∙◌, subst, arith}
use Rattle.std.proofs.Math.Seq.{drop-cons}
use Rattle.std.proofs.lemmas.List.{drop_all}
use Rattle.ocs_base.specs.declared.addr.Addr.{Addr}
use Rattle.serial_bands.specs.declared.event.Event.{Event}
use Rattle.serial_bands.specs.DrawnTo.{touch_by_address}
use Rattle.serial_bands.specs.EventReading.{touch_of_event}
use Rattle.band_draw.specs.declared.band_painter.BandPainter.{BandPainter}
use Rattle.band_draw.specs.BandPainter.{IsBandPainterOf, Paints}
use Rattle.band_draw.specs.code.Touched.{touched_by_events, HaveTouched}

one_later : (n : ℕ) → suc n ≡ n + 1
one_later n = omega arith

split_at : (events : List Event) (i : ℕ) (e : Event) → i < length events → e ≡ get_or events i e → drop i events ≡ e ∷ drop (i + 1) events
split_at events i e within is =
    drop-cons events i e within ∙ ap (λ x. x ∷ drop (suc i) events) (sym is) ∙ ap (λ k. e ∷ drop k events) (one_later i)

pub more_touched : (h : ℕ) (word_found : Addr → ℕ) (events : List Event) (i : ℕ) (e : Event) (start now next : BandPainter)
    → i < length events → e ≡ get_or events i e → HaveTouched h word_found events i start now
    → Paints (4 * h) (touch_by_address h word_found (Some (touch_of_event e))) now next
    → HaveTouched h word_found events (i + 1) start next
more_touched h word_found events i e start now next within is before step end more =
    before end (λ from p later stands.
    subst (λ l. IsBandPainterOf from end (touched_by_events h word_found l p)) (sym (split_at events i e within is))
    (more from (touch_by_address h word_found (Some (touch_of_event e)) p) later (step from p later stands)))

pub all_touched : (h : ℕ) (word_found : Addr → ℕ) (events : List Event) (i : ℕ) (start now : BandPainter) → length events ≤ i
    → HaveTouched h word_found events i start now → Paints (4 * h) (touched_by_events h word_found events) start now
all_touched h word_found events i start now past before =
    before now (λ from p later stands.
    subst (λ l. IsBandPainterOf from now (touched_by_events h word_found l p)) (sym (drop_all i events past)) stands)
