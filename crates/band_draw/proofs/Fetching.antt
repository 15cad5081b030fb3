-- Fetches of bitplanes that are made before the clocks that are shown.
use Rattle.std.proofs.Common.{◌≡◌, ◌≤◌, ◌<◌, ℕ, zero, suc, ◌+◌, ◌-◌, ◌*◌, nat_le, List, [], ◌∷◌, length, drop, slice_get, Option, None, Some}
use Rattle.std.proofs.Common.{refl, sym, ap, ◌∙◌, subst, arith}
use Rattle.std.specs.Bool.{if◌then◌else◌}
use Rattle.std.proofs.lemmas.Bool.Decides.{nat_tests}
use Rattle.ocs_base.specs.Systems.{last_clock}
use Rattle.ocs_base.specs.declared.addr.Addr.{Addr}
use Rattle.ocs_base.specs.declared.beam.Beam.{Beam}
use Rattle.ocs_base.specs.declared.beam.Clock.{Clock}
use Rattle.ocs_base.specs.declared.system.System.{System}
use Rattle.planes.proofs.Standing.{ShowsSame-later}
use Rattle.mem_versions.specs.MemView.{ViewValue, word_then}
use Rattle.serial_model.specs.Made.{word_of}
use Rattle.serial_model.specs.Picture.{set_picture, plane_latch, touch_if_any}
use Rattle.serial_model.specs.declared.picture.Denise.{Denise}
use Rattle.serial_model.specs.declared.picture.Touch.{Touch}
use Rattle.serial_model.specs.declared.picture.Touch.TheVariants as T
use Rattle.serial_bands.specs.declared.event.Event.{Event}
use Rattle.serial_bands.specs.declared.event.Event.TheVariants as E
use Rattle.serial_bands.specs.ClockLaws.{IsNextInField}
use Rattle.serial_bands.specs.Clock.{bus_touch_at}
use Rattle.serial_bands.specs.DrawnTo.{with_access}
use Rattle.serial_bands.specs.RightJob.{events_from}
use Rattle.serial_bands.specs.Run.{RunValue, beam_at, run_memory}
use Rattle.serial_bands.specs.Spans.{IsPlaneIfAny, IsQuiet, AreUntouched, fetched, IsOnLine, IsBehind, IsFetchNext}
use Rattle.serial_bands.proofs.Drawing.{words_are_found}
use Rattle.serial_bands.proofs.Spans.{quiet_joined, quiet_once, quiet_nowhere, untouched_quiet, untouched_before_first}
use Rattle.serial_bands.proofs.Spans.{fetch_is_next, fetched_same, fetched_once}
use Rattle.band_draw.specs.code.Ahead.{IsPlaced, IsFetched, first_clock}
use Rattle.band_draw.specs.BandPainter.{IsBandPainterOf, Paints}
use Rattle.band_draw.specs.code.Progress.{IsSource, IsSamePlace, IsReached}
use Rattle.band_draw.specs.declared.band_painter.BandPainter.{BandPainter}
use Rattle.band_draw.specs.declared.progress.Progress.{Progress}
use Rattle.band_draw.proofs.Turning.{nexts, same_next}

-- what paints from a position on does so from a later one
pub band_later : (from later : ℕ) (now : BandPainter) (p : Denise) → from ≤ later → IsBandPainterOf from now p → IsBandPainterOf later now p
band_later from later now p order is = record {
  painter = is.painter;
  loads = λ keeps. ShowsSame-later from later now.loads p.loads order (is.loads keeps);
}

-- the place so many clocks on, on a line
abbrev pub on_line : Beam → ℕ → Beam
on_line b n = record b { h = b.h + n }

no_further : (n : ℕ) → n + 0 ≡ n
no_further n = omega arith

one_further : (n k : ℕ) → n + suc k ≡ n + k + 1
one_further n k = omega arith

line_on : (last v h k : ℕ) → h + suc k ≤ last → v ≡ (if nat_le last (h + k) then v + 1 else v)
line_on last v h k within = grind (arith, nat_tests)

clock_on : (last h k : ℕ) → h + suc k ≤ last → h + suc k ≡ (if nat_le last (h + k) then 0 else h + k + 1)
clock_on last h k within = grind (arith, nat_tests)

next_on : (system : System) (b : Beam) (k : ℕ) → b.h + suc k ≤ last_clock system b.v → IsNextInField system (on_line b k) (on_line b (suc k))
next_on system b k within = record {
  frame = refl;
  line = line_on (last_clock system b.v) b.v b.h k within;
  clock = clock_on (last_clock system b.v) b.h k within;
}

pub place_on_line : (run : RunValue) (view : ViewValue) (events : List Event) (p : Progress) (k : ℕ) → IsSource run p.from p.to view
    → IsPlaced run events p → p.clock + k < p.to → (0 < k → p.beam.h + k ≤ last_clock run.script.system p.beam.v)
    → IsSamePlace (on_line p.beam k) (beam_at run (p.clock + k))
place_on_line run view events p zero source at more line =
    subst (λ h. IsSamePlace (record p.beam { h = h }) (beam_at run (p.clock + 0))) (sym (no_further p.beam.h))
    (subst (λ c. IsSamePlace p.beam (beam_at run c)) (sym (no_further p.clock)) at.place)
place_on_line run view events p (suc k) source at more line =
    let within : p.beam.h + suc k ≤ last_clock run.script.system p.beam.v = line (omega arith) in
    let there : p.clock + suc k ≡ p.clock + k + 1 = one_further p.clock k in
    let before : IsSamePlace (on_line p.beam k) (beam_at run (p.clock + k)) =
    place_on_line run view events p k source at (omega (arith, more)) (λ some. omega (arith, within)) in
    subst (λ c. IsSamePlace (on_line p.beam (suc k)) (beam_at run c)) (sym there)
    (same_next run.script.system (on_line p.beam k) (on_line p.beam (suc k)) (beam_at run (p.clock + k)) (beam_at run (p.clock + k + 1)) before
    (next_on run.script.system p.beam k within)
    (nexts run (p.clock + k) (source.inner (p.clock + k + 1) (omega (arith, at.least)) (omega (arith, more)))))

pub stays_on_line : (run : RunValue) (view : ViewValue) (events : List Event) (p : Progress) (n : ℕ) → IsSource run p.from p.to view
    → IsPlaced run events p → p.clock + n < p.to → (0 < n → p.beam.h + n ≤ last_clock run.script.system p.beam.v)
    → IsOnLine run p.clock n
stays_on_line run view events p n source at more line k few =
    let place : IsSamePlace (on_line p.beam k) (beam_at run (p.clock + k)) =
    place_on_line run view events p k source at (omega (arith, few, more))
    (λ some. omega (arith, few, line (omega (arith, few, some)))) in
    (sym place.line ∙ at.place.line, sym place.clock ∙ ap (λ h. h + k) at.place.clock)

-- what is placed
pub placed : (run : RunValue) (events : List Event) (p : Progress) → IsReached run events p → IsPlaced run events p
placed run events p at = record {
  least = at.least;
  most = at.most;
  place = at.place;
  log = at.log;
  next = at.next;
}

no_clock : (c : ℕ) → c - c ≡ 0
no_clock c = omega arith

-- so far nothing has been fetched
pub none_fetched : (run : RunValue) (events : List Event) (p : Progress) → IsPlaced run events p → IsFetched run events p p p.clock
none_fetched run events p at = record {
  least = omega arith;
  quiet = quiet_nowhere run p.clock p.clock (omega arith);
  log = at.log;
  next = at.next;
  painted = λ from d later is.
      subst (λ n. IsBandPainterOf from p.painter (fetched run p.clock n d)) (sym (no_clock p.clock))
      (band_later (4 * p.beam.h) from p.painter d (omega (arith, later)) is);
  keeps = refl;
  same = refl;
}

-- the event at a place is the first of those from there on
pub head_there : (events : List Event) (n : ℕ) (e : Event) → slice_get events n ≡ Some e → drop n events ≡ e ∷ drop (n + 1) events
head_there [] zero e is = cc
head_there [] (suc n) e is = cc
head_there (x ∷ events) zero e is = let same : x ≡ e = cc in ap (λ y. y ∷ events) same
head_there (x ∷ events) (suc n) e is =
    let next : suc n + 1 ≡ suc (n + 1) = omega arith in
    head_there events n e is ∙ ap (λ k. e ∷ drop k (x ∷ events)) (sym next)

pub end_there : (events : List Event) (n : ℕ) → slice_get events n ≡ None → drop n events ≡ []
end_there [] zero is = refl
end_there [] (suc n) is = refl
end_there (x ∷ events) zero is = cc
end_there (x ∷ events) (suc n) is = end_there events n is

pub within_there : (events : List Event) (n : ℕ) (e : Event) → slice_get events n ≡ Some e → n + 1 ≤ length events
within_there [] zero e is = cc
within_there [] (suc n) e is = cc
within_there (x ∷ events) zero e is = omega arith
within_there (x ∷ events) (suc n) e is = omega (arith, within_there events n e is)

-- what the first event tells of the clocks
behind_by : (events : List Event) (n other from until : ℕ) (first : Option Event) → slice_get events n ≡ first → until ≤ first_clock other first
    → from < until → IsBehind until (drop n events)
behind_by events n other from until None is before some = subst (λ l. IsBehind until l) (sym (end_there events n is)) tt
behind_by events n other from until (Some (E.Set at reg word)) is before some =
    subst (λ l. IsBehind until l) (sym (head_there events n (E.Set at reg word) is)) (omega (arith, before, some))
behind_by events n other from until (Some (E.Plane at plane addr)) is before some =
    subst (λ l. IsBehind until l) (sym (head_there events n (E.Plane at plane addr) is)) (omega (arith, before))
behind_by events n other from until (Some (E.Sprite at sprite second addr)) is before some =
    subst (λ l. IsBehind until l) (sym (head_there events n (E.Sprite at sprite second addr) is)) (omega (arith, before))

pub behind_first : (events : List Event) (n other from until : ℕ) → until ≤ first_clock other (slice_get events n) → from < until
    → IsBehind until (drop n events)
behind_first events n other from until before some = behind_by events n other from until (slice_get events n) refl before some

-- one more is fetched
pub next_fetch : (run : RunValue) (events : List Event) (old now : Progress) (m : ℕ) (at : Clock) (plane : ℕ) (addr : Addr)
    → IsFetched run events old now m → slice_get events now.next ≡ Some (E.Plane at plane addr) → at.0 + 1 < old.to
    → IsFetchNext run old.to m at.0 (T.Plane plane addr) (drop (now.next + 1) events)
next_fetch run events old now m at plane addr so there more =
    fetch_is_next run old.to m at plane addr (drop (now.next + 1) events)
    (sym (head_there events now.next (E.Plane at plane addr) there) ∙ so.log) more

-- it is not before the clock, and less is left behind it
pub fetch_order : (run : RunValue) (events : List Event) (old now : Progress) (m : ℕ) (at : Clock) (plane : ℕ) (addr : Addr)
    → IsFetched run events old now m → slice_get events now.next ≡ Some (E.Plane at plane addr) → at.0 + 1 < old.to
    → old.clock ≤ at.0
fetch_order run events old now m at plane addr so there more =
    omega (arith, so.least, (next_fetch run events old now m at plane addr so there more).order)

pub next_left : (events : List Event) (now after : ℕ) (e : Event) → slice_get events now ≡ Some e → after ≡ now + 1
    → length events - after < length events - now
next_left events now after e there next = omega (arith, next, within_there events now e there)

fetch_found : (run : RunValue) (view : ViewValue) (from to c h plane : ℕ) (addr : Addr) (p : Denise) → IsSource run from to view
    → from ≤ c → c ≤ to → h ≡ (beam_at run c).h → bus_touch_at run c ≡ Some (T.Plane plane addr)
    → set_picture h (plane_latch plane) (word_then view c addr) p ≡ with_access run c p
fetch_found run view from to c h plane addr p source least most place is =
    ap (λ k. set_picture k (plane_latch plane) (word_then view c addr) p) place
    ∙ words_are_found run from to c (word_then view) (Some (T.Plane plane addr)) p source.memory least most
    ∙ ap (λ t. touch_if_any (beam_at run c).h (word_of (run_memory run c)) t p) (sym is)

plane_quiet : (run : RunValue) (c plane : ℕ) (addr : Addr) (touch : Option Touch) → touch ≡ Some (T.Plane plane addr) → plane ≤ 6
    → IsPlaneIfAny touch
plane_quiet run c plane addr touch is few = subst (λ t. IsPlaneIfAny t) (sym is) few

twice_same : (old now after : Progress) → now ≡ record old { painter = now.painter; next = now.next }
    → after ≡ record now { painter = after.painter; next = after.next } → after ≡ record old { painter = after.painter; next = after.next }
twice_same old now after one two = two ∙ ap (λ (p : Progress). record p { painter = after.painter; next = after.next }) one

pub one_fetched : (run : RunValue) (view : ViewValue) (events : List Event) (old now after : Progress) (m : ℕ) (at : Clock) (plane : ℕ) (addr : Addr)
    → IsSource run old.from old.to view → IsPlaced run events old → IsFetched run events old now m
    → slice_get events now.next ≡ Some (E.Plane at plane addr) → at.0 + 1 < old.to
    → (0 < at.0 - old.clock → old.beam.h + (at.0 - old.clock) ≤ last_clock run.script.system old.beam.v) → plane ≤ 6
    → Paints (4 * (now.beam.h + (at.0 - now.clock)))
    (set_picture (now.beam.h + (at.0 - now.clock)) (plane_latch plane) (word_then view at.0 addr)) now.painter after.painter
    → after.painter.keeps ≡ now.painter.keeps → after.next ≡ now.next + 1
    → after ≡ record now { painter = after.painter; next = after.next }
    → IsFetched run events old after (at.0 + 1)
one_fetched run view events old now after m at plane addr source placed so there more line few paints keeps next same =
    let c : ℕ = old.clock in
    let f : ℕ = at.0 in
    let found : IsFetchNext run old.to m f (T.Plane plane addr) (drop (now.next + 1) events) =
    next_fetch run events old now m at plane addr so there more in
    let least : c ≤ f = omega (arith, so.least, found.order) in
    let here : c + (f - c) ≡ f = omega (arith, least) in
    let quiet : IsQuiet run f = record { script = found.script; access = plane_quiet run f plane addr (bus_touch_at run f) found.access few } in
    let place : old.beam.h + (f - c) ≡ (beam_at run f).h =
    (place_on_line run view events old (f - c) source placed (omega (arith, here, more)) line).clock ∙ ap (λ k. (beam_at run k).h) here in
    let beam : now.beam.h + (f - now.clock) ≡ old.beam.h + (f - c) =
    ap (λ (p : Progress). p.beam.h + (f - p.clock)) so.same in
    record {
      least = omega (arith, least);
      quiet =
          quiet_joined run c f (f + 1) (quiet_joined run c m f so.quiet (untouched_quiet run m f found.before)) (quiet_once run f quiet);
      log = ap (λ n. drop n events) next ∙ found.rest;
      next = omega (arith, next, within_there events now.next (E.Plane at plane addr) there);
      painted = λ from d later is.
          let before : IsBandPainterOf from now.painter (fetched run c (m - c) d) =
          so.painted from d (omega (arith, later, found.order, so.least)) is in
          let made = paints from (fetched run c (m - c) d) (omega (arith, later, beam, least)) before in
          subst (λ q. IsBandPainterOf from after.painter q)
          (fetch_found run view old.from old.to f (now.beam.h + (f - now.clock)) plane addr (fetched run c (m - c) d) source
          (omega (arith, placed.least, least)) (omega (arith, more)) (beam ∙ place) found.access
          ∙ ap (λ q. with_access run f q) (sym (fetched_same run c m f d so.least found.order found.before))
          ∙ sym (fetched_once run c f d least)) made;
      keeps = keeps ∙ so.keeps;
      same = twice_same old now after so.same same;
    }

-- up to the next that touches anything else
pub fetched_until : (run : RunValue) (events : List Event) (old now : Progress) (m until : ℕ) → IsFetched run events old now m → m ≤ until
    → until < old.to → (m < until → IsBehind until (drop now.next events)) → IsFetched run events old now until
fetched_until run events old now m until so order more behind = by (until - m) refl
  where
    by : (n : ℕ) → n ≡ until - m → IsFetched run events old now until
    by zero is =
        let here : m ≡ until = omega (arith, is, order) in
        subst (λ k. IsFetched run events old now k) here so
    by (suc n) is =
        let there : m + suc n ≡ until = omega (arith, is, order) in
        let before = untouched_before_first run old.to m (suc n) (drop now.next events) so.log
        (subst (λ k. IsBehind k (drop now.next events)) (sym there) (behind (omega (arith, is)))) (omega (arith, there, more)) in
        let untouched : AreUntouched run m until = subst (λ k. AreUntouched run m k) there before.0 in
        record {
          least = omega (arith, so.least, order);
          quiet = quiet_joined run old.clock m until so.quiet (untouched_quiet run m until untouched);
          log = before.1 ∙ ap (λ k. events_from run k (old.to - k - 1)) there;
          next = so.next;
          painted = λ from d later is.
              subst (λ q. IsBandPainterOf from now.painter q) (sym (fetched_same run old.clock m until d so.least order untouched))
              (so.painted from d (omega (arith, later, so.least, order)) is);
          keeps = so.keeps;
          same = so.same;
        }
