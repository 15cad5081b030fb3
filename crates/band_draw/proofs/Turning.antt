-- A clock of a band is drawn: what its steps need, and where they come to.
use Rattle.std.proofs.Common.{◌≡◌, ◌≤◌, ◌<◌, ℕ, zero, suc, ◌+◌, ◌-◌, ◌*◌, Bool, true, false, ◌==◌, List, [], ◌∷◌, ◌++◌, length, take, drop, map}
use Rattle.std.proofs.Common.{Option, Some, None, refl, sym, ap, ◌∙◌, subst, arith, nat_le, replicate, slice_index, length-append, length-drop}
use Rattle.std.specs.Bool.{if◌then◌else◌}
use Rattle.std.proofs.lemmas.Bool.Decides.{nat_tests}
use Rattle.std.proofs.lemmas.List.{drop-drop, take_all}
use Rattle.std.proofs.lemmas.List.{length-map}
use Rattle.std.proofs.lemmas.List.{length-take}
use Rattle.ocs_base.specs.declared.addr.Addr.{Addr}
use Rattle.ocs_base.specs.Limits.{AreFrom, AreInLimits, time_of}
use Rattle.ocs_base.specs.declared.beam.Beam.{Beam}
use Rattle.ocs_base.specs.declared.script.At.{At}
use Rattle.ocs_base.specs.Systems.{last_clock, is_visible}
use Rattle.ocs_base.specs.declared.system.System.{System}
use Rattle.ocs_base.specs.declared.system.System.TheVariants.{Pal, Ntsc}
use Rattle.mem_versions.specs.MemView.{ViewValue, word_then}
use Rattle.serial_model.specs.Beam.{IsOnScreen, place_of}
use Rattle.serial_model.specs.Events.{due_events, touches_of}
use Rattle.serial_model.specs.Made.{word_of}
use Rattle.serial_model.specs.declared.picture.Denise.{Denise}
use Rattle.serial_model.specs.declared.picture.Touch.{Touch}
use Rattle.serial_model.specs.Picture.{clear_line, step_of, touch_in_order, touch_if_any}
use Rattle.serial_model.proofs.EndLaws.{on_screen}
use Rattle.serial_bands.specs.declared.event.Event.{Event}
use Rattle.serial_bands.specs.Run.{RunValue, beam_at, run_memory}
use Rattle.serial_bands.specs.Clock.{sets_at, bytes_at, bus_touch_at, fetch_alone, opening_at}
use Rattle.serial_bands.specs.ClockLaws.{IsNextInField}
use Rattle.serial_bands.specs.Bands.{begins}
use Rattle.serial_bands.specs.BandShown.{bytes_from, clx_from, IsRightDrawn}
use Rattle.serial_model.specs.StandsFor.{StandsFor}
use Rattle.serial_bands.specs.RightJob.{HasMemory, events_from, script_events, bus_events}
use Rattle.serial_bands.specs.EventReading.{touch_of_event, bus_touch_of}
use Rattle.serial_bands.specs.ReplayLaws.{with_script, with_fetch, step_of_kept, after_kept}
use Rattle.serial_bands.specs.DrawnTo.{IsDrawnTo, touch_by_address, behind_script, behind_clock, with_access}
use Rattle.serial_bands.proofs.Drawing.{words_are_found, touch_is_next, drawing_goes_on, last_fetch_is_next, drawing_ends}
use Rattle.serial_bands.proofs.NextClock.{bytes_are_of_step, next_in_band, events_by_place}
use Rattle.serial_bands.proofs.Reading.{script_comes_first, script_events_are_sets}
use Rattle.band_draw.specs.declared.progress.Progress.{Progress}
use Rattle.band_draw.specs.code.Due.{IsLeft}
use Rattle.band_draw.specs.Given.{IsGiven, filled_after}
use Rattle.band_draw.specs.declared.band_painter.BandPainter.{BandPainter}
use Rattle.band_draw.specs.BandPainter.{IsBandPainterOf, Paints}
use Rattle.band_draw.specs.code.Progress.{IsSource, IsSamePlace, IsReached, IsFilled, IsAt, IsShown, IsEnded}
use Rattle.band_draw.specs.code.Sound.{IsSound}
use Rattle.band_draw.specs.code.Touched.{touched_by, touched_by_events}
use Rattle.band_draw.proofs.Sounding.{sound_opening, sound_kept, sound_in_order, sound_after, sound_touched}

-- how many bytes there are
size_by : (b : Bool) (n : ℕ) (l : List ℕ) → length l ≡ 12 → (if b then n + 12 else n) ≡ n + length (if b then l else [])
size_by true n l is = omega (arith, is)
size_by false n l is = omega arith

step_size : (system : System) (v h n : ℕ) (p : Denise) → filled_after system v h n ≡ n + length (step_of system v h p).bytes
unfolding step_of
step_size system v h n p = size_by (is_visible system v h) n _ refl

clock_size : (run : RunValue) (c n : ℕ) → filled_after run.script.system (beam_at run c).v (beam_at run c).h n ≡ n + length (bytes_at run c)
clock_size run c n =
    step_size run.script.system (beam_at run c).v (beam_at run c).h n _ ∙ ap (λ (l : List ℕ). n + length l) (sym (bytes_are_of_step run c))

more_size : (run : RunValue) (from n : ℕ) → length (bytes_from run from (suc n)) ≡ length (bytes_from run from n) + length (bytes_at run (from + n))
unfolding bytes_from
more_size run from n = length-append (bytes_from run from n) (bytes_at run (from + n))

none_more : (n : ℕ) → n + 0 ≡ n
none_more n = omega arith

one_more : (n k : ℕ) → n + suc k ≡ suc (n + k)
one_more n k = omega arith

size_grows : (run : RunValue) (from n k : ℕ) → length (bytes_from run from n) ≤ length (bytes_from run from (n + k))
size_grows run from n zero = omega (arith, ap (λ m. length (bytes_from run from m)) (none_more n))
size_grows run from n (suc k) =
    omega (arith, ap (λ m. length (bytes_from run from m)) (one_more n k), more_size run from (n + k), size_grows run from n k)

pub size_within : (run : RunValue) (from n most : ℕ) → n ≤ most → length (bytes_from run from n) ≤ length (bytes_from run from most)
size_within run from n most order =
    let there : n + (most - n) ≡ most = omega arith in
    subst (λ m. length (bytes_from run from n) ≤ length (bytes_from run from m)) there (size_grows run from n (most - n))

pub filled_next : (run : RunValue) (from c v h filled : ℕ) → from ≤ c → v ≡ (beam_at run c).v → h ≡ (beam_at run c).h
    → filled ≡ length (bytes_from run from (c - from)) → filled_after run.script.system v h filled ≡ length (bytes_from run from (c + 1 - from))
filled_next run from c v h filled least line clock is =
    let here : from + (c - from) ≡ c = omega arith in
    let count : suc (c - from) ≡ c + 1 - from = omega arith in
    ap (λ k. filled_after run.script.system k h filled) line ∙ ap (λ k. filled_after run.script.system (beam_at run c).v k filled) clock
    ∙ clock_size run c filled
    ∙ ap (λ k. k + length (bytes_at run c)) is
    ∙ ap (λ k. length (bytes_from run from (c - from)) + length (bytes_at run k)) (sym here)
    ∙ sym (more_size run from (c - from))
    ∙ ap (λ k. length (bytes_from run from k)) count

filled_if : (b : Bool) (filled most : ℕ) → b ≡ true → (if b then filled + 12 else filled) ≤ most → filled + 12 ≤ most
filled_if true filled most is within = within
filled_if false filled most is within = cc

visible_filled : (system : System) (v h filled most : ℕ) → is_visible system v h ≡ true → filled_after system v h filled ≤ most → filled + 12 ≤ most
visible_filled system v h filled most is = filled_if (is_visible system v h) filled most is

pub room_there : (run : RunValue) (events : List Event) (room : List ℕ) (p : Progress) → IsAt run events room p
    → is_visible run.script.system p.beam.v p.beam.h ≡ true → p.filled + 12 ≤ length room
room_there run events room p at visible =
    visible_filled run.script.system p.beam.v p.beam.h p.filled (length room) visible
    (omega (
      arith,
      filled_next run p.from p.clock p.beam.v p.beam.h p.filled at.reached.least at.reached.place.line at.reached.place.clock at.filled.count,
      size_within run p.from (p.clock + 1 - p.from) (p.to - p.from) (omega (arith, at.reached.most, at.reached.least)),
      at.filled.size,
    ))

-- a band that has come to its clock is drawn to it
drawn_there : (run : RunValue) (events : List Event) (p : Progress) (at : IsReached run events p)
    → IsDrawnTo run p.from p.to p.clock at.picture (drop p.next events) (bytes_from run p.from (p.clock - p.from))
    (clx_from run p.from (p.clock - p.from))
drawn_there run events p at = record {
  least = at.least;
  most = at.most;
  stands = at.stands;
  log = at.log;
  shown = refl;
  gathered = refl;
}

pub drawn_of : (run : RunValue) (events : List Event) (room : List ℕ) (p : Progress) (at : IsAt run events room p)
    → IsDrawnTo run p.from p.to p.clock at.reached.picture (drop p.next events) (take p.filled room) p.clx
drawn_of run events room p at = record {
  least = at.reached.least;
  most = at.reached.most;
  stands = at.reached.stands;
  log = at.reached.log;
  shown = at.filled.shown;
  gathered = at.filled.gathered;
}

-- the picture state and the place
pub sound_there : (run : RunValue) (events : List Event) (p : Progress) (at : IsReached run events p) → IsSound at.picture
sound_there run events p at =
    sound_kept (4 * (beam_at run p.clock).h) at.picture (opening_at run p.clock) at.stands (sound_opening run p.clock)

pub same_screen : (b other : Beam) → IsSamePlace b other → IsOnScreen other → IsOnScreen b
same_screen b other same on = record {
  line = subst (λ k. k < 313) (sym same.line) on.line;
  clock = subst (λ k. k < 228) (sym same.clock) on.clock;
}

pub screen_there : (run : RunValue) (events : List Event) (p : Progress) → IsReached run events p → IsOnScreen p.beam
screen_there run events p at = same_screen p.beam (beam_at run p.clock) at.place (on_screen run.side run.image run.script p.clock)

-- the script's events of the clock
script_part : (run : RunValue) (events : List Event) (c n next sets : ℕ) → drop next events ≡ events_from run c n
    → sets ≡ length (sets_at run c) → take sets (drop next events) ≡ script_events run c
script_part run events c n next sets log is =
    ap (λ l. take sets l) log ∙ ap (λ k. take k (events_from run c n)) is ∙ script_comes_first run c n

pub part_there : (run : RunValue) (events : List Event) (p : Progress) → IsReached run events p
    → p.next + p.sets ≤ length events
part_there run events p at =
    let c : ℕ = p.clock in
    let part : length (take p.sets (drop p.next events)) ≡ length (sets_at run c) =
    ap (λ (l : List Event). length l) (script_part run events c (p.to - c - 1) p.next p.sets at.log at.sets)
    ∙ length-map (sets_at run c) _ in
    omega (arith, part, at.sets, at.next, length-take p.sets (drop p.next events), length-drop p.next events)

all_found : (run : RunValue) (from to c : ℕ) (word_found : ℕ → Addr → ℕ) (touches : List Touch) (p : Denise)
    → HasMemory run from to word_found → from ≤ c → c ≤ to
    → touched_by (beam_at run c).h (word_found c) touches p ≡ touch_in_order (beam_at run c).h (word_of (run_memory run c)) touches p
unfolding touch_in_order
all_found run from to c word_found [] p has least most = refl
all_found run from to c word_found (touch ∷ touches) p has least most =
    all_found run from to c word_found touches _ has least most
    ∙ ap (λ q. touch_in_order (beam_at run c).h (word_of (run_memory run c)) touches q)
    (words_are_found run from to c word_found (Some touch) p has least most)

script_drawn : (run : RunValue) (events : List Event) (view : ViewValue) (p : Progress) → IsSource run p.from p.to view
    → (at : IsReached run events p)
    → touched_by_events (beam_at run p.clock).h (word_then view p.clock) (take p.sets (drop p.next events)) at.picture
    ≡ with_script run p.clock at.picture
script_drawn run events view p source at =
    let c : ℕ = p.clock in
    let h : ℕ = (beam_at run c).h in
    ap (λ l. touched_by h (word_then view c) (map touch_of_event l) at.picture)
    (script_part run events c (p.to - c - 1) p.next p.sets at.log at.sets)
    ∙ ap (λ l. touched_by h (word_then view c) l at.picture) (script_events_are_sets run c)
    ∙ all_found run p.from p.to c (word_then view) (sets_at run c) at.picture source.memory at.least (omega (arith, at.most))

-- what the clock shows
abbrev pub IsGivenBy : System → Progress → List Event → ViewValue → List ℕ → List ℕ → BandPainter → ℕ → Type 0
IsGivenBy system p events view before after shown clx = (q : Denise) → IsBandPainterOf (4 * p.beam.h) p.painter q →
    IsGiven system p.beam.v p.beam.h (touched_by_events p.beam.h (word_then view p.clock) (take p.sets (drop p.next events)) q) shown before after p.clx clx

given_here : (run : RunValue) (events : List Event) (view : ViewValue) (before after : List ℕ) (p : Progress) (shown : BandPainter) (clx : ℕ)
    → IsSource run p.from p.to view → (at : IsReached run events p) → IsBandPainterOf (4 * p.beam.h) p.painter at.picture
    → IsGivenBy run.script.system p events view before after shown clx
    → IsGiven run.script.system (beam_at run p.clock).v (beam_at run p.clock).h (with_script run p.clock at.picture) shown before after p.clx clx
given_here run events view before after p shown clx source at painted given =
    let b : Beam = beam_at run p.clock in
    let system : System = run.script.system in
    let part : List Event = take p.sets (drop p.next events) in
    subst (λ q. IsGiven system b.v b.h q shown before after p.clx clx) (script_drawn run events view p source at)
    (subst (λ k. IsGiven system b.v k (touched_by_events k (word_then view p.clock) part at.picture) shown before after p.clx clx) at.place.clock
    (subst (λ k. IsGiven system k p.beam.h (touched_by_events p.beam.h (word_then view p.clock) part at.picture) shown before after p.clx clx) at.place.line
    (given at.picture painted)))

-- the events behind the script's
pub rest_there : (run : RunValue) (events : List Event) (p : Progress) → IsReached run events p
    → drop (p.next + p.sets) events ≡ behind_script run p.clock (drop p.next events)
rest_there run events p at =
    sym (drop-drop p.sets p.next events) ∙ ap (λ k. drop k (drop p.next events)) at.sets

behind : (h : ℕ) → 4 * h ≤ 4 * h + 4
behind h = omega arith

-- with the access's touch, whichever it is found to be
accessed : (run : RunValue) (events : List Event) (view : ViewValue) (p : Progress) (shown touched : BandPainter) (after : Denise)
    (found there : Option Touch) → IsSource run p.from p.to view → IsReached run events p → found ≡ there
    → IsBandPainterOf (4 * (beam_at run p.clock).h + 4) shown after
    → Paints (4 * p.beam.h) (touch_by_address p.beam.h (word_then view p.clock) found) shown touched
    → IsBandPainterOf (4 * (beam_at run p.clock).h + 4) touched
    (touch_if_any (beam_at run p.clock).h (word_of (run_memory run p.clock)) there after)
accessed run events view p shown touched after found there source at is painted paints =
    let c : ℕ = p.clock in
    let h : ℕ = (beam_at run c).h in
    let here : Paints (4 * h) (touch_by_address h (word_then view c) there) shown touched =
    subst (λ t. Paints (4 * h) (touch_by_address h (word_then view c) t) shown touched) is
    (subst (λ k. Paints (4 * k) (touch_by_address k (word_then view c) found) shown touched) at.place.clock paints) in
    subst (λ q. IsBandPainterOf (4 * h + 4) touched q)
    (words_are_found run p.from p.to c (word_then view) there after source.memory at.least (omega (arith, at.most)))
    (here (4 * h + 4) after (behind h) painted)

-- the next place
next_clock : (c : ℕ) → suc c ≡ c + 1
next_clock c = omega arith

pub nexts : (run : RunValue) (c : ℕ) → begins run (c + 1) ≡ false → IsNextInField run.script.system (beam_at run c) (beam_at run (c + 1))
nexts run c none =
    subst (λ k. IsNextInField run.script.system (beam_at run c) (beam_at run k)) (next_clock c)
    (next_in_band run c (subst (λ k. begins run k ≡ false) (sym (next_clock c)) none))

line_by : (system : System) (h k v w : ℕ) → h ≡ k → v ≡ w
    → (if nat_le (last_clock system v) h then v + 1 else v) ≡ (if nat_le (last_clock system w) k then w + 1 else w)
line_by system h k v w clock line =
    ap (λ x. if nat_le (last_clock system v) x then v + 1 else v) clock ∙ ap (λ x. if nat_le (last_clock system x) k then x + 1 else x) line

clock_by : (system : System) (h k v w : ℕ) → h ≡ k → v ≡ w
    → (if nat_le (last_clock system v) h then 0 else h + 1) ≡ (if nat_le (last_clock system w) k then 0 else k + 1)
clock_by system h k v w clock line =
    ap (λ x. if nat_le (last_clock system v) x then 0 else x + 1) clock ∙ ap (λ x. if nat_le (last_clock system x) k then 0 else k + 1) line

pub same_next : (system : System) (b beam other next : Beam) → IsSamePlace b other → IsNextInField system b beam → IsNextInField system other next
    → IsSamePlace beam next
same_next system b beam other next same one two = record {
  frame = one.frame ∙ same.frame ∙ sym two.frame;
  line = one.line ∙ line_by system b.h other.h b.v other.v same.clock same.line ∙ sym two.line;
  clock = one.clock ∙ clock_by system b.h other.h b.v other.v same.clock same.line ∙ sym two.clock;
}

inner_next : (run : RunValue) (events : List Event) (view : ViewValue) (p : Progress) → IsSource run p.from p.to view
    → IsReached run events p → p.clock + 1 < p.to → begins run (p.clock + 1) ≡ false
inner_next run events view p source at more = source.inner (p.clock + 1) (omega (arith, at.least)) more

pub place_next : (run : RunValue) (events : List Event) (view : ViewValue) (p : Progress) (beam : Beam)
    → IsSource run p.from p.to view → IsReached run events p → p.clock + 1 < p.to → IsNextInField run.script.system p.beam beam
    → IsSamePlace beam (beam_at run (p.clock + 1))
place_next run events view p beam source at more next =
    same_next run.script.system p.beam beam (beam_at run p.clock) (beam_at run (p.clock + 1)) at.place next
    (nexts run p.clock (inner_next run events view p source at more))

pub screen_next : (run : RunValue) (events : List Event) (view : ViewValue) (p : Progress) (beam : Beam)
    → IsSource run p.from p.to view → IsReached run events p → p.clock + 1 < p.to → IsNextInField run.script.system p.beam beam → IsOnScreen beam
screen_next run events view p beam source at more next =
    same_screen beam (beam_at run (p.clock + 1)) (place_next run events view p beam source at more next)
    (on_screen run.side run.image run.script (p.clock + 1))

one_place_on : (frame v h line clock last : ℕ) → h < 228 → line ≡ (if nat_le last h then v + 1 else v) → clock ≡ (if nat_le last h then 0 else h + 1)
    → (frame * 313 + v) * 228 + h + 1 ≤ (frame * 313 + line) * 228 + clock
one_place_on frame v h line clock last within one two = grind (arith, nat_tests)

one_time_on : (frame v h line clock f w k last : ℕ) → h < 228 → k ≤ 226 → 226 ≤ last
    → line ≡ (if nat_le last h then v + 1 else v) → clock ≡ (if nat_le last h then 0 else h + 1)
    → (frame * 313 + v) * 228 + h + 1 ≤ (f * 313 + w) * 228 + k → (frame * 313 + line) * 228 + clock ≤ (f * 313 + w) * 228 + k
one_time_on frame v h line clock f w k last within early least one two later = grind (arith, nat_tests)

least_last : (system : System) (v : ℕ) → 226 ≤ last_clock system v
least_last Pal v = omega arith
least_last Ntsc v = grind (arith, nat_tests)

place_on : (system : System) (b beam : Beam) → b.h < 228 → IsNextInField system b beam → place_of b + 1 ≤ place_of beam
place_on system b beam within next =
    subst (λ k. place_of b + 1 ≤ (k * 313 + beam.v) * 228 + beam.h) (sym next.frame)
    (one_place_on b.frame b.v b.h beam.v beam.h (last_clock system b.v) within next.line next.clock)

-- events are at clocks up to 226, so none is between a line's last clock and the next line
from_next : (system of : System) (frames : ℕ) (b beam : Beam) (events : List At) → b.h < 228 → IsNextInField system b beam
    → AreInLimits of frames events → AreFrom (place_of b + 1) events → AreFrom (place_of beam) events
from_next system of frames b beam [] within next limits from = tt
from_next system of frames b beam (e ∷ events) within next limits from = (
  subst (λ k. (k * 313 + beam.v) * 228 + beam.h ≤ time_of e) (sym next.frame)
      (one_time_on b.frame b.v b.h beam.v beam.h e.frame e.v e.h (last_clock system b.v) within limits.0.clock (least_last system b.v)
      next.line next.clock from.0),
  from_next system of frames b beam events within next limits.1 from.1,
)

left_on : (system : System) (script left : List At) (b beam : Beam) → b.h < 228 → IsNextInField system b beam → IsLeft (place_of b + 1) script left
    → IsLeft (place_of beam) script left
left_on system script left b beam within next so =
    let on : place_of b + 1 ≤ place_of beam = place_on system b beam within next in
    record {
      system = so.system;
      frames = so.frames;
      from = from_next system so.system so.frames b beam left within next so.limits so.from;
      order = so.order;
      limits = so.limits;
      same = λ later screen from. so.same later screen (omega (arith, on, from));
    }

pub left_there : (run : RunValue) (events : List Event) (p : Progress) (beam : Beam) → IsReached run events p
    → IsNextInField run.script.system p.beam beam → IsLeft (place_of beam) run.script.events (drop p.due.next run.script.events)
left_there run events p beam at next = left_on run.script.system run.script.events _ p.beam beam (screen_there run events p at).clock next at.left

-- the clearing
same_clear : (b other : Beam) (p : Denise) → b.h ≡ other.h → clear_line b p ≡ clear_line other p
unfolding clear_line
same_clear b other p same =
    ap (λ h. if h == 0 then record p { loads = []; runs = replicate 8 None; held = record { 0 = slice_index p.palette 0 } } else p) same

clear_by : (b : Bool) (h next : ℕ) → next ≡ (if b then 0 else h + 1) → (next == 0) ≡ false → 4 * h + 4 ≤ 4 * next
clear_by true h next is none = absurd (grind (arith, nat_tests))
clear_by false h next is none = omega (arith, is)

clear_order : (last h next : ℕ) → next ≡ (if nat_le last h then 0 else h + 1) → (next == 0) ≡ false → 4 * h + 4 ≤ 4 * next
clear_order last h next is none = clear_by (nat_le last h) h next is none

-- what the access of a clock before the last comes to
pub record IsTurn (run : RunValue) (events : List Event) (view : ViewValue) (p : Progress) (touched cleared : BandPainter)
    (beam : Beam) (sets due count : ℕ) : Type 0 where
  pub place : IsNextInField run.script.system p.beam beam
  pub coming : sets ≡ length (touches_of (due_events beam run.script.events))
  pub left : IsLeft (place_of beam + 1) run.script.events (drop due run.script.events)
  pub bound : due ≤ length run.script.events
  pub access : Paints (4 * p.beam.h)
      (touch_by_address p.beam.h (word_then view p.clock) (bus_touch_of p.clock sets (drop (p.next + p.sets) events))) p.painter touched
  pub counted : count ≡ length (bus_events p.clock (bus_touch_of p.clock sets (drop (p.next + p.sets) events)))
  pub within : count ≤ length (drop (p.next + p.sets) events)
  pub clean : (from : ℕ) (q : Denise) → IsBandPainterOf from touched q → ((beam.h == 0) ≡ false → from ≤ 4 * beam.h)
      → IsBandPainterOf (4 * beam.h) cleared (clear_line beam q)
  pub kept : cleared.keeps ≡ false → p.clock + 1 + 228 < p.to + beam.h

touch_next : (run : RunValue) (events : List Event) (view : ViewValue) (p : Progress) (beam : Beam) (sets : ℕ)
    → IsSource run p.from p.to view → IsReached run events p → p.clock + 1 < p.to → IsNextInField run.script.system p.beam beam
    → sets ≡ length (touches_of (due_events beam run.script.events))
    → bus_touch_of p.clock sets (drop (p.next + p.sets) events) ≡ bus_touch_at run p.clock
touch_next run events view p beam sets source at more next is =
    let place : IsSamePlace beam (beam_at run (p.clock + 1)) = place_next run events view p beam source at more next in
    let coming : sets ≡ length (sets_at run (p.clock + 1)) =
    is ∙ ap (λ l. length (touches_of l)) (events_by_place run.script.events beam (beam_at run (p.clock + 1)) place.frame place.line place.clock) in
    ap (λ l. bus_touch_of p.clock sets l) (rest_there run events p at)
    ∙ ap (λ k. bus_touch_of p.clock k (behind_script run p.clock (drop p.next events))) coming
    ∙ touch_is_next run p.from p.to p.clock at.picture (drop p.next events) _ _ (drawn_there run events p at) more

pub next_within : (run : RunValue) (events : List Event) (p : Progress) (count : ℕ) → IsReached run events p
    → count ≤ length (drop (p.next + p.sets) events) → p.next + (p.sets + count) ≤ length events
next_within run events p count at within =
    omega (arith, within, length-drop (p.next + p.sets) events, part_there run events p at)

abbrev pub come_to : Progress → BandPainter → Beam → ℕ → ℕ → ℕ → Progress
come_to p cleared beam sets due count = record {
  from = p.from;
  to = p.to;
  clock = p.clock + 1;
  beam = beam;
  painter = cleared;
  sets = sets;
  due = record { next = due };
  next = p.next + (p.sets + count);
  filled = p.filled;
  clx = p.clx;
}

painted_next : (run : RunValue) (events : List Event) (view : ViewValue) (p : Progress) (touched cleared : BandPainter)
    (beam : Beam) (sets due count : ℕ) → IsSource run p.from p.to view → (so : IsShown run events p) → p.clock + 1 < p.to
    → IsTurn run events view p touched cleared beam sets due count
    → IsBandPainterOf (4 * beam.h) cleared
    (clear_line (beam_at run (p.clock + 1)) (with_access run p.clock (after_kept run p.clock so.reached.picture)))
painted_next run events view p touched cleared beam sets due count source so more turn =
    let c : ℕ = p.clock in
    let at : IsReached run events p = so.reached in
    let next : Beam = beam_at run (c + 1) in
    let h : ℕ = (beam_at run c).h in
    let after : Denise = after_kept run c at.picture in
    let left : Denise = with_access run c after in
    let place : IsSamePlace beam next = place_next run events view p beam source at more turn.place in
    let painted : IsBandPainterOf (4 * h + 4) touched left =
    accessed run events view p p.painter touched after _ _ source at
    (touch_next run events view p beam sets source at more turn.place turn.coming)
    (subst (λ k. IsBandPainterOf (4 * k + 4) p.painter after) at.place.clock so.painted) turn.access in
    subst (λ q. IsBandPainterOf (4 * beam.h) cleared q) (same_clear beam next left place.clock)
    (turn.clean (4 * h + 4) left painted
    (clear_order (last_clock run.script.system (beam_at run c).v) h beam.h
    (place.clock ∙ (nexts run c (inner_next run events view p source at more)).clock)))

drop_clock : (run : RunValue) (events : List Event) (view : ViewValue) (p : Progress) (beam : Beam) (sets count : ℕ)
    → IsSource run p.from p.to view → IsReached run events p → p.clock + 1 < p.to → IsNextInField run.script.system p.beam beam
    → sets ≡ length (touches_of (due_events beam run.script.events))
    → count ≡ length (bus_events p.clock (bus_touch_of p.clock sets (drop (p.next + p.sets) events)))
    → drop (p.next + (p.sets + count)) events ≡ behind_clock run p.clock (drop p.next events)
drop_clock run events view p beam sets count source at more next is counted =
    let there : p.next + (p.sets + count) ≡ p.next + p.sets + count = omega arith in
    ap (λ k. drop k events) there
    ∙ sym (drop-drop count (p.next + p.sets) events)
    ∙ ap (λ l. drop count l) (rest_there run events p at)
    ∙ ap (λ k. drop k (behind_script run p.clock (drop p.next events)))
    (counted ∙ ap (λ t. length (bus_events p.clock t)) (touch_next run events view p beam sets source at more next is))

reached_next : (run : RunValue) (events : List Event) (view : ViewValue) (p : Progress) (touched cleared : BandPainter)
    (beam : Beam) (sets due count : ℕ) → IsSource run p.from p.to view → IsReached run events p → p.clock + 1 < p.to
    → IsTurn run events view p touched cleared beam sets due count
    → IsReached run events (come_to p cleared beam sets due count)
reached_next run events view p touched cleared beam sets due count source at more turn =
    let c : ℕ = p.clock in
    let place : IsSamePlace beam (beam_at run (c + 1)) = place_next run events view p beam source at more turn.place in
    let drawn = drawing_goes_on run p.from p.to c at.picture (drop p.next events) _ _ (drawn_there run events p at) more in
    record {
      picture = clear_line (beam_at run (c + 1)) (with_access run c (after_kept run c at.picture));
      stands = drawn.stands;
      least = drawn.least;
      most = drawn.most;
      log = drop_clock run events view p beam sets count source at more turn.place turn.coming turn.counted ∙ drawn.log;
      place = place;
      sets =
          turn.coming
          ∙ ap (λ l. length (touches_of l)) (events_by_place run.script.events beam (beam_at run (c + 1)) place.frame place.line place.clock);
      left = turn.left;
      due = turn.bound;
      next = next_within run events p count at turn.within;
    }

-- with the access, a clock that is shown is behind it
pub turned : (run : RunValue) (events : List Event) (view : ViewValue) (room : List ℕ) (p : Progress) (touched cleared : BandPainter)
    (beam : Beam) (sets due count : ℕ) → IsSource run p.from p.to view → IsShown run events p → p.clock + 1 < p.to
    → IsTurn run events view p touched cleared beam sets due count → IsFilled run (p.clock + 1) room p
    → IsAt run events room (come_to p cleared beam sets due count)
unfolding reached_next
turned run events view room p touched cleared beam sets due count source so more turn filled = record {
  reached = reached_next run events view p touched cleared beam sets due count source so.reached more turn;
  painted = painted_next run events view p touched cleared beam sets due count source so more turn;
  kept = turn.kept;
  filled = record { shown = filled.shown; gathered = filled.gathered; count = filled.count; size = filled.size };
}

-- the picture step of a clock is shown
abbrev pub with_shown : Progress → BandPainter → ℕ → ℕ → Progress
with_shown p shown filled clx = record p { painter = shown; filled = filled; clx = clx }

pub shown_there : (run : RunValue) (events : List Event) (view : ViewValue) (room after : List ℕ) (p : Progress)
    (shown : BandPainter) (filled clx : ℕ) → IsSource run p.from p.to view → IsAt run events room p
    → IsGivenBy run.script.system p events view (take p.filled room) (take filled after) shown clx → shown.keeps ≡ p.painter.keeps
    → IsShown run events (with_shown p shown filled clx)
shown_there run events view room after p shown filled clx source at given keeps =
    let c : ℕ = p.clock in
    let here : IsReached run events p = at.reached in
    record {
      reached = record {
        picture = here.picture;
        stands = here.stands;
        least = here.least;
        most = here.most;
        log = here.log;
        place = here.place;
        sets = here.sets;
        left = here.left;
        due = here.due;
        next = here.next;
      };
      painted =
          subst (λ k. IsBandPainterOf (4 * k + 4) shown (after_kept run c here.picture)) (sym here.place.clock)
          (given_here run events view (take p.filled room) (take filled after) p shown clx source here at.painted given).painted;
      kept = λ none. at.kept (sym keeps ∙ none);
    }

pub filled_there : (run : RunValue) (events : List Event) (view : ViewValue) (room after : List ℕ) (p : Progress)
    (shown : BandPainter) (filled clx : ℕ) → IsSource run p.from p.to view → IsAt run events room p → p.clock + 1 < p.to
    → IsGivenBy run.script.system p events view (take p.filled room) (take filled after) shown clx
    → filled ≡ filled_after run.script.system p.beam.v p.beam.h p.filled → length after ≡ length room
    → IsFilled run (p.clock + 1) after (with_shown p shown filled clx)
filled_there run events view room after p shown filled clx source at more given bytes size =
    let c : ℕ = p.clock in
    let here : IsReached run events p = at.reached in
    let made = given_here run events view (take p.filled room) (take filled after) p shown clx source here at.painted given in
    let drawn = drawing_goes_on run p.from p.to c here.picture (drop p.next events) (take p.filled room) p.clx (drawn_of run events room p at) more in
    record {
      shown = made.bytes ∙ drawn.shown;
      gathered = made.bits ∙ drawn.gathered;
      count = bytes ∙ filled_next run p.from c p.beam.v p.beam.h p.filled here.least here.place.line here.place.clock at.filled.count;
      size = size ∙ at.filled.size;
    }

-- the last clock
sound_end : (run : RunValue) (events : List Event) (p : Progress) (at : IsReached run events p)
    → IsSound (with_fetch run p.clock (after_kept run p.clock at.picture))
sound_end run events p at =
    let c : ℕ = p.clock in
    let b : Beam = beam_at run c in
    let words : ℕ → ℕ = word_of (run_memory run c) in
    let script : IsSound (with_script run c at.picture) =
    sound_in_order b.h words (sets_at run c) at.picture (sound_there run events p at) in
    sound_touched b.h words (fetch_alone (bus_touch_at run c)) (after_kept run c at.picture)
    (sound_after run.script.system b.v b.h (with_script run c at.picture) script)

pub ended : (run : RunValue) (events : List Event) (view : ViewValue) (room after : List ℕ) (p : Progress)
    (shown touched : BandPainter) (closing : Denise) (filled clx coming : ℕ)
    → IsSource run p.from p.to view → IsAt run events room p → p.clock + 1 ≡ p.to
    → IsGivenBy run.script.system p events view (take p.filled room) (take filled after) shown clx
    → filled ≡ filled_after run.script.system p.beam.v p.beam.h p.filled → length after ≡ length room
    → Paints (4 * p.beam.h)
    (touch_by_address p.beam.h (word_then view p.clock) (bus_touch_of p.clock coming (drop (p.next + p.sets) events))) shown touched
    → ((from : ℕ) (q : Denise) → IsBandPainterOf from touched q → q.held.0 ≤ 4095 → StandsFor from closing q)
    → IsEnded run p.from p.to after closing clx
ended run events view room after p shown touched closing filled clx coming source at last given filled_is size access close n band =
    let c : ℕ = p.clock in
    let drawn = drawn_of run events room p at in
    let left : Denise = with_fetch run c (after_kept run c at.reached.picture) in
    let here : IsGiven run.script.system (beam_at run c).v (beam_at run c).h (with_script run c at.reached.picture) shown (take p.filled room)
    (take filled after) p.clx clx =
    given_here run events view (take p.filled room) (take filled after) p shown clx source at.reached at.painted given in
    let touch : bus_touch_of c coming (drop (p.next + p.sets) events) ≡ fetch_alone (bus_touch_at run c) =
    ap (λ l. bus_touch_of c coming l) (rest_there run events p at.reached)
    ∙ last_fetch_is_next run p.from p.to c coming at.reached.picture (drop p.next events) (take p.filled room) p.clx drawn last in
    let painted : IsBandPainterOf (4 * (beam_at run c).h + 4) touched left =
    accessed run events view p shown touched (after_kept run c at.reached.picture) _ _ source at.reached touch here.painted access in
    let stands : StandsFor (4 * (beam_at run c).h + 4) closing left =
    close (4 * (beam_at run c).h + 4) left painted (sound_end run events p at.reached).held in
    let whole : filled ≡ length (bytes_from run p.from (p.to - p.from)) =
    filled_is ∙ filled_next run p.from c p.beam.v p.beam.h p.filled at.reached.least at.reached.place.line at.reached.place.clock at.filled.count
    ∙ ap (λ k. length (bytes_from run p.from (k - p.from))) last in
    let full : length after ≤ filled = omega (arith, size, at.filled.size, whole) in
    subst (λ l. IsRightDrawn run n p.from p.to l clx closing) (sym here.bytes ∙ take_all filled after full)
    (subst (λ k. IsRightDrawn run n p.from p.to (take p.filled room ++ (step_of_kept run c at.reached.picture).bytes) k closing)
    (sym here.bits)
    (drawing_ends run n p.from p.to c at.reached.picture closing (drop p.next events) (take p.filled room) p.clx band drawn last stands))

pub given_part : (system : System) (p : Progress) (events : List Event) (view : ViewValue) (part : List Event) (before after : List ℕ)
    (shown : BandPainter) (clx : ℕ)
    → part ≡ take p.sets (drop p.next events)
    → ((q : Denise) → IsBandPainterOf (4 * p.beam.h) p.painter q
    → IsGiven system p.beam.v p.beam.h (touched_by_events p.beam.h (word_then view p.clock) part q) shown before after p.clx clx)
    → IsGivenBy system p events view before after shown clx
given_part system p events view part before after shown clx is given q painted =
    subst (λ l. IsGiven system p.beam.v p.beam.h (touched_by_events p.beam.h (word_then view p.clock) l q) shown before after p.clx clx) is (given q painted)
