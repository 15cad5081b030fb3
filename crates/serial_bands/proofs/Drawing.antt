-- Bands that are drawn clock by clock.
use Rattle.std.proofs.Common.{◌≡◌, ◌<◌, ◌≤◌, ℕ, suc, ◌+◌, ◌-◌, ◌*◌, List, [], ◌∷◌, ◌++◌, length, drop, Some, None, refl, ap, ◌∙◌, sym, subst, arith, bit_or}
use Rattle.ocs_base.specs.declared.beam.Beam.{Beam}
use Rattle.serial_model.specs.declared.picture.Denise.{Denise}
use Rattle.serial_model.specs.declared.picture.Touch.TheVariants as T
use Rattle.serial_model.specs.Made.{word_of}
use Rattle.serial_model.specs.Picture.{set_picture, plane_latch, sprite_data, clear_line}
use Rattle.serial_bands.specs.declared.event.Event.{Event}
use Rattle.serial_bands.specs.Run.{RunValue, beam_at, run_memory}
use Rattle.serial_bands.specs.Clock.{opening_at, closing_at, bytes_at, clx_at, sets_at, bus_touch_at}
use Rattle.serial_model.specs.StandsFor.{StandsFor}
use Rattle.serial_bands.specs.BandShown.{bytes_from, clx_from}
use Rattle.serial_bands.specs.RightJob.{bus_events, events_from}
use Rattle.serial_bands.specs.EventReading.{bus_touch_of}
use Rattle.serial_bands.specs.ReplayLaws.{step_of_kept, after_kept, with_fetch, with_write}
use Rattle.serial_bands.specs.DrawnTo.{IsDrawnTo, behind_script, with_access, WordsAreFound, DrawingBegins}
use Rattle.serial_bands.specs.DrawnTo.{TouchIsNext, DrawingGoesOn, LastFetchIsNext, DrawingEnds}
use Rattle.serial_bands.proofs.Counts.{no_tint}
use Rattle.serial_bands.proofs.NextClock.{touched_twice}
use Rattle.serial_bands.proofs.Ranges.{events_in_range}
use Rattle.serial_model.proofs.Standing.{stands_on}
use Rattle.serial_bands.proofs.Reading.{rest_behind_script, last_behind_script, bus_touch_is_found, last_fetch_is_found}
use Rattle.serial_bands.proofs.Replay.{bytes_of_kept, clx_of_kept, closing_of_kept, opening_of_kept}

pub words_are_found : WordsAreFound
words_are_found run from to c word_found None p has least most = refl
words_are_found run from to c word_found (Some (T.Set reg word)) p has least most = refl
words_are_found run from to c word_found (Some (T.Plane plane at)) p has least most =
    ap (λ word. set_picture (beam_at run c).h (plane_latch plane) word p) (has c at least most)
words_are_found run from to c word_found (Some (T.Sprite sprite second at)) p has least most =
    ap (λ word. set_picture (beam_at run c).h (sprite_data sprite second) word p) (has c at least most)

no_clock : (c : ℕ) → c - c ≡ 0
no_clock c = omega arith

pub drawing_begins : DrawingBegins
unfolding bytes_from clx_from
drawing_begins run n from to beam opening events word_found room job = record {
  least = omega arith;
  most = job.band.order;
  stands = subst (λ (b : Beam). StandsFor (4 * b.h) opening (opening_at run from)) job.place job.stands;
  log = job.log ∙ events_in_range run from to job.band.order;
  shown = ap (λ k. bytes_from run from k) (sym (no_clock from));
  gathered = ap (λ k. clx_from run from k) (sym (no_clock from));
}

-- what is left behind the script's events
left_behind : (run : RunValue) (to c : ℕ) (events : List Event) → events ≡ events_from run c (to - c - 1) → c + 1 < to
    → behind_script run c events ≡ bus_events c (bus_touch_at run c) ++ events_from run (c + 1) (to - (c + 1) - 1)
left_behind run to c events log more =
    let n : ℕ = to - (c + 1) - 1 in
    let count : to - c - 1 ≡ suc n = omega arith in
    ap (λ l. behind_script run c l) log
    ∙ ap (λ k. behind_script run c (events_from run c k)) count
    ∙ rest_behind_script run c n

pub touch_is_next : TouchIsNext
touch_is_next run from to c kept events bytes clx drawn more =
    ap (λ l. bus_touch_of c (length (sets_at run (c + 1))) l) (left_behind run to c events drawn.log more)
    ∙ bus_touch_is_found run c (to - (c + 1) - 1) (bus_touch_at run c)

behind_front : {A : Type 0} (xs ys : List A) → drop (length xs) (xs ++ ys) ≡ ys
behind_front [] ys = refl
behind_front (x ∷ xs) ys = behind_front xs ys

-- one clock more
next : (c : ℕ) → suc c ≡ c + 1
next c = omega arith

more_bytes : (run : RunValue) (from n : ℕ) → bytes_from run from (suc n) ≡ bytes_from run from n ++ bytes_at run (from + n)
unfolding bytes_from
more_bytes run from n = refl

more_clx : (run : RunValue) (from n : ℕ) → clx_from run from (suc n) ≡ bit_or (clx_from run from n) (clx_at run (from + n))
unfolding clx_from
more_clx run from n = refl

bytes_so_far : (run : RunValue) (from to c : ℕ) (kept : Denise) (events : List Event) (bytes : List ℕ) (clx : ℕ)
    → IsDrawnTo run from to c kept events bytes clx
    → bytes ++ (step_of_kept run c kept).bytes ≡ bytes_from run from (c + 1 - from)
bytes_so_far run from to c kept events bytes clx drawn =
    let n : ℕ = c - from in
    let first : from ≤ c = drawn.least in
    let here : from + n ≡ c = omega arith in
    let count : suc n ≡ c + 1 - from = omega arith in
    ap (λ l. l ++ (step_of_kept run c kept).bytes) drawn.shown
    ∙ ap (λ l. bytes_from run from n ++ l) (bytes_of_kept run c kept drawn.stands)
    ∙ ap (λ k. bytes_from run from n ++ bytes_at run k) (sym here)
    ∙ sym (more_bytes run from n)
    ∙ ap (λ k. bytes_from run from k) count

clx_so_far : (run : RunValue) (from to c : ℕ) (kept : Denise) (events : List Event) (bytes : List ℕ) (clx : ℕ)
    → IsDrawnTo run from to c kept events bytes clx
    → bit_or clx (step_of_kept run c kept).clx ≡ clx_from run from (c + 1 - from)
clx_so_far run from to c kept events bytes clx drawn =
    let n : ℕ = c - from in
    let first : from ≤ c = drawn.least in
    let here : from + n ≡ c = omega arith in
    let count : suc n ≡ c + 1 - from = omega arith in
    ap (λ x. bit_or x (step_of_kept run c kept).clx) drawn.gathered
    ∙ ap (λ x. bit_or (clx_from run from n) x) (clx_of_kept run c kept drawn.stands)
    ∙ ap (λ k. bit_or (clx_from run from n) (clx_at run k)) (sym here)
    ∙ sym (more_clx run from n)
    ∙ ap (λ k. clx_from run from k) count

opened_next : (run : RunValue) (c : ℕ) (kept : Denise) → StandsFor (4 * (beam_at run c).h) kept (opening_at run c)
    → StandsFor (4 * (beam_at run (suc c)).h) (clear_line (beam_at run (suc c)) (with_access run c (after_kept run c kept))) (opening_at run (suc c))
opened_next run c kept stands =
    let p : Denise = after_kept run c kept in
    let twice : with_access run c p ≡ with_write run c (with_fetch run c p) =
    touched_twice (beam_at run c).h (word_of (run_memory run c)) (bus_touch_at run c) p in
    let b : Beam = beam_at run (suc c) in
    subst (λ q. StandsFor (4 * b.h) (clear_line b q) (opening_at run (suc c))) (sym twice)
    (opening_of_kept run c (with_fetch run c p) (closing_of_kept run c kept stands))

pub drawing_goes_on : DrawingGoesOn
drawing_goes_on run from to c kept events bytes clx drawn more = record {
  least = omega (arith, drawn.least);
  most = more;
  stands =
      subst (λ k. StandsFor (4 * (beam_at run k).h) (clear_line (beam_at run k) (with_access run c (after_kept run c kept))) (opening_at run k))
      (next c) (opened_next run c kept drawn.stands);
  log =
      ap (λ l. drop (length (bus_events c (bus_touch_at run c))) l) (left_behind run to c events drawn.log more)
      ∙ behind_front (bus_events c (bus_touch_at run c)) (events_from run (c + 1) (to - (c + 1) - 1));
  shown = bytes_so_far run from to c kept events bytes clx drawn;
  gathered = clx_so_far run from to c kept events bytes clx drawn;
}

pub last_fetch_is_next : LastFetchIsNext
last_fetch_is_next run from to c coming kept events bytes clx drawn last =
    let count : to - c - 1 ≡ 0 = omega arith in
    ap (λ l. bus_touch_of c coming (behind_script run c l)) drawn.log
    ∙ ap (λ k. bus_touch_of c coming (behind_script run c (events_from run c k))) count
    ∙ ap (λ l. bus_touch_of c coming l) (last_behind_script run c)
    ∙ last_fetch_is_found c coming (bus_touch_at run c)

pub drawing_ends : DrawingEnds
drawing_ends run n from to c kept closing events bytes clx band drawn last stands =
    let here : c ≡ to - 1 = omega arith in
    let left : Denise = with_fetch run c (after_kept run c kept) in
    record {
      band = band;
      bytes =
          bytes_so_far run from to c kept events bytes clx drawn
          ∙ ap (λ k. bytes_from run from (k - from)) last
          ∙ sym (no_tint (bytes_from run from (to - from)));
      bits = clx_so_far run from to c kept events bytes clx drawn ∙ ap (λ k. clx_from run from (k - from)) last;
      stands =
          subst (λ k. StandsFor (4 * (beam_at run k).h + 4) closing (closing_at run k)) here
          (stands_on (4 * (beam_at run c).h + 4) closing left (closing_at run c) stands (closing_of_kept run c kept drawn.stands));
    }
