-- The first clock of a band, and the room that was lent.
use Rattle.std.proofs.Common.{◌≡◌, ◌≤◌, ℕ, ◌+◌, ◌-◌, ◌*◌, Bool, true, false, List, [], ◌∷◌, ◌++◌, length, take}
use Rattle.std.proofs.Common.{drop, Option, None, replicate, slice_index, refl, sym, ap, ◌∙◌, subst, arith}
use Rattle.std.specs.Bool.{if◌then◌else◌}
use Rattle.planes.specs.PlaneBit.{ShowsSame}
use Rattle.planes.proofs.Standing.{ShowsSame-refl}
use Rattle.sprites.specs.declared.runs.Start.{Start}
use Rattle.ocs_base.specs.Limits.{AreFrom, IsRunnable}
use Rattle.ocs_base.specs.Script.{ScriptValue}
use Rattle.ocs_base.specs.declared.addr.Addr.{Addr}
use Rattle.ocs_base.specs.declared.beam.Beam.{Beam}
use Rattle.ocs_base.specs.declared.script.At.{At}
use Rattle.mem_versions.specs.MemView.{ViewValue, Covers, word_then}
use Rattle.serial_model.specs.Beam.{IsOnScreen, place_of, is_line_start}
use Rattle.serial_model.specs.Picture.{clear_line}
use Rattle.serial_model.specs.Events.{due_events, touches_of}
use Rattle.serial_model.specs.declared.picture.Denise.{Denise}
use Rattle.serial_model.proofs.EndLaws.{on_screen}
use Rattle.serial_bands.specs.declared.event.Event.{Event}
use Rattle.serial_bands.specs.Run.{RunValue, state_of}
use Rattle.serial_bands.specs.Clock.{opening_at}
use Rattle.serial_model.specs.StandsFor.{StandsFor}
use Rattle.serial_bands.specs.BandShown.{bytes_from}
use Rattle.serial_bands.specs.RightJob.{IsRightJob}
use Rattle.serial_bands.specs.DrawnTo.{IsDrawnTo}
use Rattle.serial_bands.proofs.Drawing.{drawing_begins}
use Rattle.band_draw.specs.declared.band_painter.BandPainter.{BandPainter}
use Rattle.band_draw.specs.BandPainter.{IsBandPainterOf, opened}
use Rattle.band_draw.proofs.Sounding.{sound_kept, sound_opening}
use Rattle.band_draw.specs.code.Due.{IsLeft}
use Rattle.band_draw.specs.code.Progress.{IsSource, IsAt}

all_after : (events : List At) → AreFrom 0 events
all_after [] = tt
all_after (e ∷ events) = (omega arith, all_after events)

pub left_all : (script : ScriptValue) → IsRunnable script → IsLeft 0 script.events script.events
left_all script good = record {
  system = script.system;
  frames = script.frames;
  from = all_after script.events;
  order = good.order;
  limits = good.limits;
  same = λ b on later. refl;
}

no_clocks : (c : ℕ) → 0 ≡ c - c
no_clocks c = omega arith

no_bytes : (run : RunValue) (c : ℕ) → 0 ≡ length (bytes_from run c 0)
unfolding bytes_from
no_bytes run c = refl

-- at a line's start no load and no words are left of an opening
opened_by : (b : Beam) (d q : Denise) (at : Bool) → is_line_start b ≡ at → StandsFor (4 * b.h) d (clear_line b q)
    → StandsFor (4 * b.h) (if at then record d { loads = []; runs = replicate 8 None } else d) (clear_line b q)
unfolding clear_line
opened_by b d q false is stands = stands
opened_by b d q true is stands =
    let clean : clear_line b q ≡ record q { loads = []; runs = replicate 8 None; held = record { 0 = slice_index q.palette 0 } } =
    ap (λ (t : Bool). if t then record q { loads = []; runs = replicate 8 None; held = record { 0 = slice_index q.palette 0 } } else q) is in
    record {
      loads = subst (λ (l : Denise). ShowsSame (4 * b.h) [] l.loads) (sym clean) (ShowsSame-refl (4 * b.h) []);
      rest =
          ap (λ (r : List (Option Start)). record d { loads = []; runs = r })
          (sym (ap (λ (p : Denise). p.runs) stands.rest ∙ ap (λ (p : Denise). p.runs) clean))
          ∙ stands.rest;
    }

pub opened_stands : (b : Beam) (d q : Denise) → StandsFor (4 * b.h) d (clear_line b q) → StandsFor (4 * b.h) (opened b d) (clear_line b q)
opened_stands b d q stands = opened_by b d q (is_line_start b) refl stands

opened_drawn : (run : RunValue) (n from to : ℕ) (beam : Beam) (opening : Denise) (events : List Event) (words : ℕ → Addr → ℕ) (room : ℕ)
    → IsRightJob run n from to beam opening events words room → IsDrawnTo run from to from (opened beam opening) events [] 0
unfolding opening_at
opened_drawn run n from to beam opening events words room parts =
    let first = drawing_begins run n from to beam opening events words room parts in
    record {
      least = first.least;
      most = first.most;
      stands =
          subst (λ (b : Beam). StandsFor (4 * b.h) (opened beam opening) (opening_at run from)) parts.place
          (subst (λ (b : Beam). StandsFor (4 * beam.h) (opened beam opening) (clear_line b (state_of run from).picture)) parts.place
          (opened_stands beam opening (state_of run from).picture
          (subst (λ (b : Beam). StandsFor (4 * beam.h) opening (clear_line b (state_of run from).picture)) (sym parts.place) parts.stands)));
      log = first.log;
      shown = first.shown;
      gathered = first.gathered;
    }

-- the opening keeps what runs of eight sprites
pub job_eight : (run : RunValue) (n from to : ℕ) (beam : Beam) (opening : Denise) (events : List Event) (words : ℕ → Addr → ℕ) (room : ℕ)
    → IsRightJob run n from to beam opening events words room → length opening.runs ≡ 8
job_eight run n from to beam opening events words room parts =
    (sound_kept (4 * beam.h) opening (opening_at run from) parts.stands (sound_opening run from)).eight

not_both : {A : Type 0} (b : Bool) → b ≡ true → b ≡ false → A
not_both true one other = cc
not_both false one other = cc

pub begun_at : (run : RunValue) (n from to : ℕ) (beam : Beam) (opening : Denise) (painter : BandPainter) (events : List Event) (words : ℕ → Addr → ℕ)
    (room : List ℕ) (sets due : ℕ) → IsRightJob run n from to beam opening events words (length room)
    → IsBandPainterOf (4 * beam.h) painter (opened beam opening) → painter.keeps ≡ true
    → sets ≡ length (touches_of (due_events beam run.script.events)) → IsLeft (place_of beam + 1) run.script.events (drop due run.script.events)
    → due ≤ length run.script.events
    → IsAt run events room (record {
      from = from;
      to = to;
      clock = from;
      beam = beam;
      painter = painter;
      sets = sets;
      due = record { next = due };
      next = 0;
      filled = 0;
      clx = 0;
    })
begun_at run n from to beam opening painter events words room sets due parts painted keeps counted left within =
    let drawn = opened_drawn run n from to beam opening events words (length room) parts in
    record {
      reached = record {
        picture = opened beam opening;
        stands = drawn.stands;
        least = drawn.least;
        most = drawn.most;
        log = drawn.log;
        place = record {
          frame = ap (λ (b : Beam). b.frame) parts.place;
          line = ap (λ (b : Beam). b.v) parts.place;
          clock = ap (λ (b : Beam). b.h) parts.place;
        };
        sets = counted ∙ ap (λ b. length (touches_of (due_events b run.script.events))) parts.place;
        left = left;
        due = within;
        next = omega arith;
      };
      painted = painted;
      kept = λ none. not_both painter.keeps keeps none;
      filled = record {
        shown = drawn.shown;
        gathered = drawn.gathered;
        count = no_bytes run from ∙ ap (λ k. length (bytes_from run from k)) (no_clocks from);
        size = parts.size;
      };
    }

pub job_screen : (run : RunValue) (n from to : ℕ) (beam : Beam) (opening : Denise) (events : List Event) (words : ℕ → Addr → ℕ) (room : ℕ)
    → IsRightJob run n from to beam opening events words room → IsOnScreen beam
job_screen run n from to beam opening events words room parts = subst IsOnScreen (sym parts.place) (on_screen run.side run.image run.script from)

pub job_source : (run : RunValue) (n from to : ℕ) (beam : Beam) (opening : Denise) (events : List Event) (view : ViewValue) (room : ℕ)
    → IsRightJob run n from to beam opening events (word_then view) room → ((c : ℕ) → from ≤ c → c ≤ to → Covers view c)
    → IsSource run from to view
job_source run n from to beam opening events view room parts covered =
    record { inner = parts.band.inner; covered = covered; memory = parts.memory }

-- a room that was lent has the bytes that are given back
given_front : (bytes rest : List ℕ) → take (length bytes) (bytes ++ rest) ≡ bytes
given_front [] rest = refl
given_front (x ∷ bytes) rest = ap (λ l. x ∷ l) (given_front bytes rest)

pub given_back : (old bytes : List ℕ) → length bytes ≡ length old → take (length old) (bytes ++ drop (length bytes) old) ≡ bytes
given_back old bytes same =
    ap (λ k. take k (bytes ++ drop (length bytes) old)) (sym same) ∙ given_front bytes (drop (length bytes) old)
