-- Clocks up to the next change are drawn at once: what the steps need, and where they come to.
use Rattle.std.proofs.Common.{◌≡◌, ◌≤◌, ◌<◌, ℕ, zero, suc, ◌+◌, ◌-◌, ◌*◌, Bool, true, false, List, [], ◌++◌, length}
use Rattle.std.proofs.Common.{take, drop, refl, sym, ap, ◌∙◌, subst, arith}
use Rattle.std.proofs.Common.{bit_or, length-append, append_assoc}
use Rattle.std.proofs.lemmas.List.{nil_from_length}
use Rattle.std.specs.Bool.{if◌then◌else◌}
use Rattle.ocs_base.specs.Systems.{last_clock, is_visible}
use Rattle.ocs_base.specs.declared.system.System.{System}
use Rattle.mem_versions.specs.MemView.{ViewValue}
use Rattle.serial_model.specs.Beam.{IsOnScreen, place_of}
use Rattle.serial_model.specs.Events.{due_events, touches_of}
use Rattle.serial_model.specs.Made.{word_of}
use Rattle.serial_model.specs.Picture.{PictureStep, step_of, after_step, touch_in_order}
use Rattle.serial_model.specs.Spans.{after_shows, shown_bytes, shown_clx}
use Rattle.serial_model.specs.declared.picture.Denise.{Denise}
use Rattle.serial_model.proofs.EndLaws.{on_screen}
use Rattle.painter.specs.Span.{visible_clocks}
use Rattle.serial_bands.specs.BandShown.{bytes_from}
use Rattle.serial_bands.specs.Clock.{sets_at}
use Rattle.serial_bands.specs.DrawnTo.{IsDrawnTo}
use Rattle.serial_bands.specs.RightJob.{events_from}
use Rattle.serial_bands.specs.ReplayLaws.{with_script, step_of_kept}
use Rattle.serial_bands.specs.Run.{RunValue, beam_at, run_memory}
use Rattle.serial_bands.specs.Spans.{AreQuiet, fetched}
use Rattle.serial_bands.specs.declared.event.Event.{Event}
use Rattle.serial_bands.proofs.Drawing.{drawing_goes_on}
use Rattle.serial_bands.proofs.NextClock.{events_by_place}
use Rattle.serial_bands.proofs.Ors.{or_assoc}
use Rattle.serial_bands.proofs.Spans.{drawing_goes_on_quietly}
use Rattle.band_draw.specs.code.Ahead.{IsFetched}
use Rattle.band_draw.specs.BandPainter.{IsBandPainterOf}
use Rattle.band_draw.specs.code.Due.{IsLeft, IsLeftEarlier}
use Rattle.band_draw.specs.Given.{IsSpanGiven}
use Rattle.band_draw.specs.code.Progress.{IsSource, IsSamePlace, IsReached, IsFilled, IsAt, IsShown}
use Rattle.band_draw.specs.declared.band_painter.BandPainter.{BandPainter}
use Rattle.band_draw.specs.declared.progress.Progress.{Progress}
use Rattle.band_draw.proofs.Fetching.{on_line, placed, place_on_line, stays_on_line}
use Rattle.band_draw.proofs.Turning.{same_screen, size_within, filled_next, drawn_of}

-- how many bytes so many clocks show
bytes_by : (b : Bool) (l : List ℕ) → length l ≡ 12 → length (if b then l else []) ≡ 12 * (if b then 1 else 0)
bytes_by true l is = is
bytes_by false l is = refl

one_size : (system : System) (v h : ℕ) (p : Denise) → length (step_of system v h p).bytes ≡ 12 * (if is_visible system v h then 1 else 0)
unfolding step_of
one_size system v h p = bytes_by (is_visible system v h) _ refl

span_size : (system : System) (v h n : ℕ) (p : Denise) → length (shown_bytes system v h n p) ≡ 12 * visible_clocks system v h n
unfolding shown_bytes visible_clocks
span_size system v h zero p = refl
span_size system v h (suc n) p =
    omega (
      arith,
      length-append (shown_bytes system v h n p) (step_of system v (h + n) (after_shows system v h n p)).bytes,
      span_size system v h n p,
      one_size system v (h + n) (after_shows system v h n p),
    )

-- the clocks from that of p up to, not including, clock m
abbrev pub count_to : Progress → ℕ → ℕ
count_to p m = m - p.clock

abbrev pub IsAhead : RunValue → Progress → ℕ → Type 0
IsAhead run p m = 0 < count_to p m → p.beam.h + count_to p m ≤ last_clock run.script.system p.beam.v

-- the picture state at the clock that a span comes to
abbrev pub picture_ahead : RunValue → Progress → ℕ → Denise → Denise
picture_ahead run p m picture =
    after_shows run.script.system p.beam.v p.beam.h (count_to p m) (fetched run p.clock (count_to p m) picture)

drawn_ahead : (run : RunValue) (view : ViewValue) (events : List Event) (room : List ℕ) (p q : Progress) (m : ℕ)
    → IsSource run p.from p.to view → (at : IsAt run events room p) → IsFetched run events p q m → m < p.to → IsAhead run p m
    → IsDrawnTo run p.from p.to m (picture_ahead run p m at.reached.picture) (events_from run m (p.to - m - 1))
    (take p.filled room
    ++ shown_bytes run.script.system p.beam.v p.beam.h (count_to p m) (fetched run p.clock (count_to p m) at.reached.picture))
    (bit_or p.clx (shown_clx run.script.system p.beam.v p.beam.h (count_to p m) (fetched run p.clock (count_to p m) at.reached.picture)))
drawn_ahead run view events room p q m source at so more line =
    let n : ℕ = count_to p m in
    let there : p.clock + n ≡ m = omega (arith, so.least) in
    let system : System = run.script.system in
    let kept : Denise = fetched run p.clock n at.reached.picture in
    let D : ℕ → ℕ → ℕ → Type 0 = λ v h k. IsDrawnTo run p.from p.to k (after_shows system v h n kept)
    (events_from run k (p.to - k - 1)) (take p.filled room ++ shown_bytes system v h n kept)
    (bit_or p.clx (shown_clx system v h n kept)) in
    subst (λ k. D p.beam.v p.beam.h k) there
    (subst (λ v. D v p.beam.h (p.clock + n)) (sym at.reached.place.line)
    (subst (λ h. D (beam_at run p.clock).v h (p.clock + n)) (sym at.reached.place.clock)
    (drawing_goes_on_quietly run p.from p.to p.clock n at.reached.picture (drop p.next events) (take p.filled room) p.clx
    (drawn_of run events room p at)
    (omega (arith, there, more)) (subst (λ k. AreQuiet run p.clock k) (sym there) so.quiet)
    (stays_on_line run view events p n source (placed run events p at.reached) (omega (arith, there, more)) line))))

-- the place
place_ahead : (run : RunValue) (view : ViewValue) (events : List Event) (room : List ℕ) (p q : Progress) (m : ℕ)
    → IsSource run p.from p.to view → IsAt run events room p → IsFetched run events p q m → m < p.to → IsAhead run p m
    → IsSamePlace (on_line p.beam (count_to p m)) (beam_at run m)
place_ahead run view events room p q m source at so more line =
    let there : p.clock + count_to p m ≡ m = omega (arith, so.least) in
    subst (λ k. IsSamePlace (on_line p.beam (count_to p m)) (beam_at run k)) there
    (place_on_line run view events p (count_to p m) source (placed run events p at.reached) (omega (arith, there, more)) line)

-- the room, for the clocks before that one and for that one too
filled_ahead : (run : RunValue) (view : ViewValue) (events : List Event) (room : List ℕ) (p q : Progress) (m : ℕ)
    → IsSource run p.from p.to view → IsAt run events room p → IsFetched run events p q m → m < p.to → IsAhead run p m
    → p.filled + 12 * visible_clocks run.script.system p.beam.v p.beam.h (count_to p m) ≡ length (bytes_from run p.from (m - p.from))
filled_ahead run view events room p q m source at so more line =
    let n : ℕ = count_to p m in
    let kept : Denise = fetched run p.clock n at.reached.picture in
    omega (
      arith,
      at.filled.count,
      ap (λ (l : List ℕ). length l) at.filled.shown,
      ap (λ (l : List ℕ). length l) (drawn_ahead run view events room p q m source at so more line).shown,
      length-append (take p.filled room) (shown_bytes run.script.system p.beam.v p.beam.h n kept),
      span_size run.script.system p.beam.v p.beam.h n kept,
    )

one_visible : (b : Bool) (n : ℕ) → (if b then n + 12 else n) ≡ n + 12 * (if b then 1 else 0)
one_visible true n = omega arith
one_visible false n = omega arith

more_visible : (system : System) (v h n : ℕ)
    → visible_clocks system v h (suc n) ≡ visible_clocks system v h n + (if is_visible system v (h + n) then 1 else 0)
unfolding visible_clocks
more_visible system v h n = refl

filled_behind : (run : RunValue) (view : ViewValue) (events : List Event) (room : List ℕ) (p q : Progress) (m : ℕ)
    → IsSource run p.from p.to view → IsAt run events room p → IsFetched run events p q m → m < p.to → IsAhead run p m
    → p.filled + 12 * visible_clocks run.script.system p.beam.v p.beam.h (suc (count_to p m)) ≡ length (bytes_from run p.from (m + 1 - p.from))
filled_behind run view events room p q m source at so more line =
    let n : ℕ = count_to p m in
    let system : System = run.script.system in
    let v : ℕ = p.beam.v in
    let h : ℕ = p.beam.h in
    let place = place_ahead run view events room p q m source at so more line in
    let filled : ℕ = p.filled + 12 * visible_clocks system v h n in
    omega (
      arith,
      more_visible system v h n,
      one_visible (is_visible system v (h + n)) filled,
      filled_next run p.from m v (h + n) filled (omega (arith, so.least, at.reached.least)) place.line place.clock
          (filled_ahead run view events room p q m source at so more line),
    )

room_ahead : (run : RunValue) (view : ViewValue) (events : List Event) (room : List ℕ) (p q : Progress) (m : ℕ)
    → IsSource run p.from p.to view → IsAt run events room p → IsFetched run events p q m → m < p.to → IsAhead run p m
    → p.filled + 12 * visible_clocks run.script.system p.beam.v p.beam.h (suc (count_to p m)) ≤ length room
room_ahead run view events room p q m source at so more line =
    omega (
      arith,
      filled_behind run view events room p q m source at so more line,
      size_within run p.from (m + 1 - p.from) (p.to - p.from) (omega (arith, more)),
      at.filled.size,
    )

screen_ahead : (run : RunValue) (view : ViewValue) (events : List Event) (room : List ℕ) (p q : Progress) (m : ℕ)
    → IsSource run p.from p.to view → IsAt run events room p → IsFetched run events p q m → m < p.to → IsAhead run p m
    → IsOnScreen (on_line p.beam (count_to p m))
screen_ahead run view events room p q m source at so more line =
    same_screen (on_line p.beam (count_to p m)) (beam_at run m) (place_ahead run view events room p q m source at so more line)
    (on_screen run.side run.image run.script m)

-- the same by what is there when the fetches are made
room_by : (system : System) (v h n filled most : ℕ) (on : Bool) → filled + 12 * visible_clocks system v h (suc n) ≤ most
    → filled + 12 * visible_clocks system v h (n + (if on then 1 else 0)) ≤ most
room_by system v h n filled most true within =
    let there : suc n ≡ n + 1 = omega arith in
    subst (λ k. filled + 12 * visible_clocks system v h k ≤ most) there within
room_by system v h n filled most false within =
    let there : n ≡ n + 0 = omega arith in
    subst (λ k. filled + 12 * visible_clocks system v h k ≤ most) there (omega (arith, within, more_visible system v h n))

pub room_passed : (run : RunValue) (view : ViewValue) (events : List Event) (room : List ℕ) (p q : Progress) (m : ℕ) (on : Bool)
    → IsSource run p.from p.to view → IsAt run events room p → IsFetched run events p q m → m < p.to → IsAhead run p m
    → q.filled + 12 * visible_clocks run.script.system q.beam.v q.beam.h (count_to q m + (if on then 1 else 0)) ≤ length room
room_passed run view events room p q m on source at so more line =
    subst (λ (k : Progress).
    k.filled + 12 * visible_clocks run.script.system k.beam.v k.beam.h (count_to k m + (if on then 1 else 0)) ≤ length room) (sym so.same)
    (room_by run.script.system p.beam.v p.beam.h (count_to p m) p.filled (length room) on
    (room_ahead run view events room p q m source at so more line))

pub screen_passed : (run : RunValue) (view : ViewValue) (events : List Event) (room : List ℕ) (p q : Progress) (m : ℕ)
    → IsSource run p.from p.to view → IsAt run events room p → IsFetched run events p q m → m < p.to → IsAhead run p m
    → IsOnScreen (on_line q.beam (count_to q m))
screen_passed run view events room p q m source at so more line =
    subst (λ (k : Progress). IsOnScreen (on_line k.beam (count_to k m))) (sym so.same)
    (screen_ahead run view events room p q m source at so more line)

-- the script's events that are left
pub left_passed : (run : RunValue) (events : List Event) (room : List ℕ) (p q : Progress) (m : ℕ)
    → IsAt run events room p → IsFetched run events p q m → p.clock < m
    → IsLeftEarlier (place_of (on_line q.beam (count_to q m))) run.script.events (drop q.due.next run.script.events)
left_passed run events room p q m at so some =
    subst (λ (k : Progress). IsLeftEarlier (place_of (on_line k.beam (count_to k m))) run.script.events (drop k.due.next run.script.events))
    (sym so.same)
    (record { earlier = place_of p.beam + 1; order = omega (arith, some); events = at.reached.left })

-- where nothing was to be shown, all is as it was
pub stays_at : (run : RunValue) (events : List Event) (room : List ℕ) (p q : Progress)
    → IsAt run events room p → IsFetched run events p q p.clock → IsAt run events room q
stays_at run events room p q at so =
    let none : p.clock - p.clock ≡ 0 = omega arith in
    let now : Progress = record p { painter = q.painter; next = q.next } in
    let here : IsReached run events p = at.reached in
    let there : IsAt run events room now = record {
      reached = record {
        picture = here.picture;
        stands = here.stands;
        least = here.least;
        most = here.most;
        log = so.log;
        place = here.place;
        sets = here.sets;
        left = here.left;
        due = here.due;
        next = so.next;
      };
      painted =
          subst (λ n. IsBandPainterOf (4 * p.beam.h) q.painter (fetched run p.clock n here.picture)) none
          (so.painted (4 * p.beam.h) here.picture (omega (arith, none)) at.painted);
      kept = λ keeps. at.kept (sym so.keeps ∙ keeps);
      filled = record { shown = at.filled.shown; gathered = at.filled.gathered; count = at.filled.count; size = at.filled.size };
    } in
    subst (λ k. IsAt run events room k) (sym so.same) there

-- what a span comes to
abbrev pub passed_to : Progress → BandPainter → ℕ → ℕ → ℕ → ℕ → ℕ → Progress
passed_to p shown m filled clx sets due = record {
  from = p.from;
  to = p.to;
  clock = m;
  beam = on_line p.beam (count_to p m);
  painter = shown;
  sets = sets;
  due = record { next = due };
  next = p.next;
  filled = filled;
  clx = clx;
}

-- a span of n clocks, and what of the script is due at clock m
pub record IsPass (run : RunValue) (room after : List ℕ) (q : Progress) (shown : BandPainter) (m n filled clx sets due : ℕ) : Type 0 where
  pub given : (from : ℕ) (d : Denise) → IsBandPainterOf from q.painter d
      → IsSpanGiven from run.script.system q.beam.v q.beam.h n d shown (take q.filled room) (take filled after) q.clx clx
  pub keeps : shown.keeps ≡ q.painter.keeps
  pub bytes : filled ≡ q.filled + 12 * visible_clocks run.script.system q.beam.v q.beam.h n
  pub size : length after ≡ length room
  pub coming : sets ≡ length (touches_of (due_events (on_line q.beam (count_to q m)) run.script.events))
  pub left : IsLeft (place_of (on_line q.beam (count_to q m)) + 1) run.script.events (drop due run.script.events)
  pub bound : due ≤ length run.script.events

-- the progress when the fetches are made
abbrev pub with_fetches : Progress → Progress → Progress
with_fetches p q = record p { painter = q.painter; next = q.next }

reached_by : (run : RunValue) (view : ViewValue) (events : List Event) (room after : List ℕ) (p q : Progress) (shown : BandPainter)
    (m n filled clx sets due : ℕ) → IsSource run p.from p.to view → IsAt run events room p → IsFetched run events p q m → m < p.to → IsAhead run p m
    → IsPass run room after (with_fetches p q) shown m n filled clx sets due
    → IsReached run events (passed_to (with_fetches p q) shown m filled clx sets due)
reached_by run view events room after p q shown m n filled clx sets due source at so more line pass =
    let drawn = drawn_ahead run view events room p q m source at so more line in
    let place = place_ahead run view events room p q m source at so more line in
    record {
      picture = picture_ahead run p m at.reached.picture;
      stands = drawn.stands;
      least = drawn.least;
      most = drawn.most;
      log = so.log;
      place = place;
      sets =
          pass.coming
          ∙ ap (λ l. length (touches_of l))
          (events_by_place run.script.events (on_line p.beam (count_to p m)) (beam_at run m) place.frame place.line place.clock);
      left = pass.left;
      due = pass.bound;
      next = so.next;
    }

-- a span up to the clock
passed_by : (run : RunValue) (view : ViewValue) (events : List Event) (room after : List ℕ) (p q : Progress) (shown : BandPainter)
    (m filled clx sets due : ℕ) → IsSource run p.from p.to view → IsAt run events room p → IsFetched run events p q m → m < p.to → IsAhead run p m
    → IsPass run room after (with_fetches p q) shown m (count_to p m) filled clx sets due
    → IsAt run events after (passed_to (with_fetches p q) shown m filled clx sets due)
unfolding reached_by
passed_by run view events room after p q shown m filled clx sets due source at so more line pass =
    let n : ℕ = count_to p m in
    let there : p.clock + n ≡ m = omega (arith, so.least) in
    let picture : Denise = at.reached.picture in
    let drawn = drawn_ahead run view events room p q m source at so more line in
    let given : IsSpanGiven (4 * (p.beam.h + n)) run.script.system p.beam.v p.beam.h n (fetched run p.clock n picture) shown (take p.filled room)
    (take filled after) p.clx clx =
    pass.given (4 * (p.beam.h + n)) (fetched run p.clock n picture) (so.painted (4 * (p.beam.h + n)) picture (omega arith) at.painted) in
    record {
      reached = reached_by run view events room after p q shown m n filled clx sets due source at so more line pass;
      painted = given.painted;
      kept = λ keeps. omega (arith, there, at.kept (sym so.keeps ∙ sym pass.keeps ∙ keeps));
      filled = record {
        shown = given.bytes ∙ drawn.shown;
        gathered = given.bits ∙ drawn.gathered;
        count = pass.bytes ∙ filled_ahead run view events room p q m source at so more line;
        size = pass.size ∙ at.filled.size;
      };
    }

pub passed : (run : RunValue) (view : ViewValue) (events : List Event) (room after : List ℕ) (p q : Progress) (shown : BandPainter)
    (m filled clx sets due : ℕ) → IsSource run p.from p.to view → IsAt run events room p → IsFetched run events p q m → m < p.to → IsAhead run p m
    → IsPass run room after q shown m (count_to q m) filled clx sets due → IsAt run events after (passed_to q shown m filled clx sets due)
passed run view events room after p q shown m filled clx sets due source at so more line =
    subst (λ k. IsPass run room after k shown m (count_to k m) filled clx sets due → IsAt run events after (passed_to k shown m filled clx sets due))
    (sym so.same) (passed_by run view events room after p q shown m filled clx sets due source at so more line)

-- a span with the clock itself, at which the script writes nothing
none_written : (run : RunValue) (m : ℕ) (q : Denise) → 0 ≡ length (sets_at run m) → q ≡ with_script run m q
unfolding touch_in_order
none_written run m q is =
    ap (λ l. touch_in_order (beam_at run m).h (word_of (run_memory run m)) l q) (sym (nil_from_length (sets_at run m) (sym is)))

step_there : (run : RunValue) (m v h : ℕ) (q : Denise) → v ≡ (beam_at run m).v → h ≡ (beam_at run m).h → q ≡ with_script run m q
    → step_of run.script.system v h q ≡ step_of_kept run m q
step_there run m v h q line clock script =
    ap (λ k. step_of run.script.system k h q) line ∙ ap (λ k. step_of run.script.system (beam_at run m).v k q) clock
    ∙ ap (λ d. step_of run.script.system (beam_at run m).v (beam_at run m).h d) script

more_shown : (system : System) (v h n : ℕ) (p : Denise) → after_shows system v h (suc n) p
    ≡ after_step (step_of system v (h + n) (after_shows system v h n p)) (after_shows system v h n p)
unfolding after_shows
more_shown system v h n p = refl

more_bytes : (system : System) (v h n : ℕ) (p : Denise) → shown_bytes system v h (suc n) p
    ≡ shown_bytes system v h n p ++ (step_of system v (h + n) (after_shows system v h n p)).bytes
unfolding shown_bytes
more_bytes system v h n p = refl

more_bits : (system : System) (v h n : ℕ) (p : Denise) → shown_clx system v h (suc n) p
    ≡ bit_or (shown_clx system v h n p) (step_of system v (h + n) (after_shows system v h n p)).clx
unfolding shown_clx
more_bits system v h n p = refl

-- the picture step of the clock, at the end of a span
abbrev pub IsStepAhead : RunValue → Progress → ℕ → Denise → Type 0
IsStepAhead run p m q = step_of run.script.system p.beam.v (p.beam.h + count_to p m) q ≡ step_of_kept run m q

shown_by : (run : RunValue) (view : ViewValue) (events : List Event) (room after : List ℕ) (p q : Progress) (shown : BandPainter)
    (m filled clx due : ℕ) → IsSource run p.from p.to view → IsAt run events room p → IsFetched run events p q m → m < p.to → IsAhead run p m
    → IsPass run room after (with_fetches p q) shown m (suc (count_to p m)) filled clx 0 due
    → IsShown run events (passed_to (with_fetches p q) shown m filled clx 0 due)
unfolding reached_by
shown_by run view events room after p q shown m filled clx due source at so more line pass =
    let n : ℕ = count_to p m in
    let x : ℕ = 4 * (p.beam.h + n) + 4 in
    let there : p.clock + n ≡ m = omega (arith, so.least) in
    let system : System = run.script.system in
    let picture : Denise = at.reached.picture in
    let kept : Denise = fetched run p.clock n picture in
    let reached = reached_by run view events room after p q shown m (suc n) filled clx 0 due source at so more line pass in
    let before : Denise = after_shows system p.beam.v p.beam.h n kept in
    let script : before ≡ with_script run m before = none_written run m before reached.sets in
    let step : IsStepAhead run p m before = step_there run m p.beam.v (p.beam.h + n) before reached.place.line reached.place.clock script in
    let given : IsSpanGiven x system p.beam.v p.beam.h (suc n) kept shown (take p.filled room) (take filled after) p.clx clx =
    pass.given x kept (so.painted x picture (omega arith) at.painted) in
    record {
      reached = reached;
      painted =
          subst (λ d. IsBandPainterOf x shown d)
          (more_shown system p.beam.v p.beam.h n kept ∙ ap (λ s. after_step s before) step ∙ ap (λ d. after_step (step_of_kept run m before) d) script)
          given.painted;
      kept = λ keeps. omega (arith, there, at.kept (sym so.keeps ∙ sym pass.keeps ∙ keeps));
    }

filled_by : (run : RunValue) (view : ViewValue) (events : List Event) (room after : List ℕ) (p q : Progress) (shown : BandPainter)
    (m filled clx due : ℕ) → IsSource run p.from p.to view → IsAt run events room p → IsFetched run events p q m → m + 1 < p.to → IsAhead run p m
    → IsPass run room after (with_fetches p q) shown m (suc (count_to p m)) filled clx 0 due
    → IsFilled run (m + 1) after (passed_to (with_fetches p q) shown m filled clx 0 due)
filled_by run view events room after p q shown m filled clx due source at so more line pass =
    let n : ℕ = count_to p m in
    let x : ℕ = 4 * (p.beam.h + n) + 4 in
    let here : m < p.to = omega (arith, more) in
    let system : System = run.script.system in
    let v : ℕ = p.beam.v in
    let h : ℕ = p.beam.h in
    let picture : Denise = at.reached.picture in
    let kept : Denise = fetched run p.clock n picture in
    let front : List ℕ = take p.filled room in
    let reached = reached_by run view events room after p q shown m (suc n) filled clx 0 due source at so here line pass in
    let before : Denise = after_shows system v h n kept in
    let step : IsStepAhead run p m before =
    step_there run m v (h + n) before reached.place.line reached.place.clock (none_written run m before reached.sets) in
    let given : IsSpanGiven x system v h (suc n) kept shown front (take filled after) p.clx clx =
    pass.given x kept (so.painted x picture (omega arith) at.painted) in
    let drawn =
    drawing_goes_on run p.from p.to m before _ _ _ (drawn_ahead run view events room p q m source at so here line) more in
    record {
      shown =
          given.bytes ∙ ap (λ l. front ++ l) (more_bytes system v h n kept)
          ∙ sym (append_assoc front (shown_bytes system v h n kept) (step_of system v (h + n) before).bytes)
          ∙ ap (λ (s : PictureStep). (front ++ shown_bytes system v h n kept) ++ s.bytes) step ∙ drawn.shown;
      gathered =
          given.bits ∙ ap (λ k. bit_or p.clx k) (more_bits system v h n kept)
          ∙ sym (or_assoc p.clx (shown_clx system v h n kept) (step_of system v (h + n) before).clx)
          ∙ ap (λ (s : PictureStep). bit_or (bit_or p.clx (shown_clx system v h n kept)) s.clx) step ∙ drawn.gathered;
      count = pass.bytes ∙ filled_behind run view events room p q m source at so here line;
      size = pass.size ∙ at.filled.size;
    }

pub passed_with : (run : RunValue) (view : ViewValue) (events : List Event) (room after : List ℕ) (p q : Progress) (shown : BandPainter)
    (m filled clx due : ℕ) → IsSource run p.from p.to view → IsAt run events room p → IsFetched run events p q m → m + 1 < p.to → IsAhead run p m
    → IsPass run room after q shown m (suc (count_to q m)) filled clx 0 due
    → IsShown run events (passed_to q shown m filled clx 0 due) × IsFilled run (m + 1) after (passed_to q shown m filled clx 0 due)
passed_with run view events room after p q shown m filled clx due source at so more line =
    subst (λ k. IsPass run room after k shown m (suc (count_to k m)) filled clx 0 due
    → IsShown run events (passed_to k shown m filled clx 0 due) × IsFilled run (m + 1) after (passed_to k shown m filled clx 0 due))
    (sym so.same) (λ pass. (
      shown_by run view events room after p q shown m filled clx due source at so (omega (arith, more)) line pass,
      filled_by run view events room after p q shown m filled clx due source at so more line pass,
    ))
