-- The log from clock to clock.
use Rattle.std.proofs.Common.{◌≡◌, ◌≤◌, ◌<◌, inl, inr, ℕ, suc, ◌+◌, ◌-◌, Bool, true, false, ◌==◌, ◌%◌, ◌&&◌, ◌||◌, List, [], ◌∷◌, ◌++◌, length}
use Rattle.std.proofs.Common.{map, Option, Some, None, refl, ap, ◌∙◌, sym, subst, arith, true≢false, add-one, append_assoc, append-nil}
use Rattle.ocs_base.specs.declared.beam.Beam.{Beam}
use Rattle.mem_versions.specs.Chip.{ChipValue}
use Rattle.mem_versions.specs.declared.write.Write.{Write}
use Rattle.serial_model.specs.declared.bus.Made.{Made}
use Rattle.serial_model.specs.declared.bus.Made.TheVariants as M
use Rattle.serial_model.specs.declared.picture.Denise.{Denise}
use Rattle.serial_model.specs.declared.picture.Touch.{Touch}
use Rattle.serial_model.specs.declared.picture.Touch.TheVariants as T
use Rattle.serial_model.specs.Beam.{is_line_start}
use Rattle.serial_model.specs.Made.{touch_of, is_clx_read}
use Rattle.serial_model.specs.Picture.{clear_line}
use Rattle.serial_bands.specs.declared.event.Event.{Event}
use Rattle.serial_bands.specs.declared.shadow.Shadow.{Shadow}
use Rattle.serial_bands.specs.Run.{RunValue, beam_at, run_memory}
use Rattle.serial_bands.specs.Clock.{made_at, bytes_at, sets_at, bus_touch_at, fetch_alone, write_alone, opening_at}
use Rattle.serial_bands.specs.Bands.{is_band_place, begins, begun, has_read_at}
use Rattle.serial_bands.specs.RightJob.{event_at, script_events, bus_events, events_from}
use Rattle.serial_bands.specs.Shadows.{IsInRange, IsShadowOf, touch_shadow, touch_shadow_if_any, touch_shadow_in_order}
use Rattle.serial_bands.specs.Fetches.{IsLeftBy}
use Rattle.serial_bands.specs.Stores.{stores_of, stores_at}
use Rattle.serial_bands.specs.OpenBand.{IsOpen, clock_events, waiting_events}
use Rattle.serial_bands.proofs.Fetches.{left_by_sets, left_by_touch, touch_in_two}
use Rattle.serial_bands.proofs.FetchRanges.{range_of_sets, range_of_touch}
use Rattle.serial_bands.proofs.Opening.{band_opens, band_goes_on}
use Rattle.serial_bands.proofs.Shading.{shadow_sets, shadow_access}
use Rattle.serial_bands.proofs.WholeRun.{frames_rise}
use Rattle.picture_log.specs.declared.band.OpenBand.{OpenBand}
use Rattle.picture_log.specs.declared.log.Log.{Log}
use Rattle.picture_log.specs.Log.{waiting_list, IsBeginning, IsGrowing, IsLogOf, Grows, IsShown, with_begin}
use Rattle.picture_log.specs.Log.{with_access_touch, with_script_touch, with_script_touches, waiting_write, size_to}
use Rattle.picture_log.specs.LogLaws.{LogStarts, LogBegins, OneTouchMore, LogShown, LogAccessed, BeginsWithLine, LogRead, ReadBegins, LogEnds}

not_both : (b : Bool) → b ≡ true → b ≡ false → ⊥
not_both b one other = true≢false (sym one ∙ other)

-- a band that goes on
goes_on : (run : RunValue) (c : ℕ) (band : OpenBand) (waiting : Option Event) (chip : ChipValue) → IsGrowing run c band waiting chip
    → begins run c ≡ false → (beam_at run c).frame < run.script.frames
    → Grows run c (record band { events = band.events ++ waiting_list waiting }) chip
goes_on run c band waiting chip is none going grown after made base writes =
    let count : ℕ = size_to run band.from c + length (bytes_at run c) in
    let more : IsOpen run band.number band.from (c + 1) band.beam band.opening
    (band.events ++ (waiting_events run c ++ clock_events run c)) count after =
    band_goes_on run band.number band.from c band.beam band.opening band.events (size_to run band.from c) chip after is.kept none going base writes in
    let events : grown.events ≡ band.events ++ (waiting_events run c ++ clock_events run c) =
    ap (λ (b : OpenBand). b.events) made
    ∙ append_assoc band.events (waiting_list waiting) (clock_events run c)
    ∙ ap (λ l. band.events ++ (l ++ clock_events run c)) is.waits in
    subst (λ l. IsOpen run band.number band.from (c + 1) band.beam band.opening l (size_to run band.from (c + 1)) after) (sym events)
    (subst (λ n. IsOpen run band.number band.from (c + 1) band.beam band.opening
    (band.events ++ (waiting_events run c ++ clock_events run c)) n after) more.size more)

pub log_starts : LogStarts
log_starts run c log chip is none going =
    elim is.band [
      | inl beginning ↦ absurd (not_both (begins run c) beginning.0.begin none)
      | inr growing ↦ record {
        grows = goes_on run c log.band log.waiting chip growing none going;
        waits = refl;
        least = is.least;
        last = is.last;
        shadow = is.shadow;
        range = is.range;
        left = is.left;
      }
    ]

-- a band that begins
all_running : (run : RunValue) (c : ℕ) → (beam_at run c).frame < run.script.frames
    → (k : ℕ) → k < c + 1 → (beam_at run k).frame < run.script.frames
all_running run c going k before =
    let rise : (beam_at run k).frame ≤ (beam_at run c).frame = frames_rise run k c (omega (arith, before)) in
    omega (arith, rise, going)

-- what is kept of a band, as one record
abbrev band_of : ℕ → ℕ → Beam → Denise → List Event → OpenBand
band_of number from beam opening events =
    record { number = number; from = from; beam = beam; opening = opening; events = events }

abbrev IsKept : RunValue → ℕ → OpenBand → ChipValue → Type 0
IsKept run c band chip = IsOpen run band.number band.from c band.beam band.opening band.events (size_to run band.from c) chip

begins_here : (run : RunValue) (c : ℕ) (beam : Beam) (log : Log) (chip : ChipValue) → IsBeginning run c log.band chip
    → (beam_at run c).frame < run.script.frames → beam ≡ beam_at run c → Grows run c (with_begin beam log).band chip
begins_here run c beam log chip is going here grown after made base writes =
    let opening : Denise = log.band.opening in
    let there : Beam = beam_at run c in
    let open_here : IsOpen run (begun run c) c (c + 1) there (clear_line there opening) (clock_events run c) (length (bytes_at run c)) after =
    band_opens run c (clear_line there opening) after is.begin (all_running run c going) is.stands
    (base ∙ is.base) (writes ∙ ap (λ (l : List Write). l ++ stores_at run c) is.writes) in
    let kept : IsKept run (c + 1) (band_of (begun run c) c there (clear_line there opening) (clock_events run c)) after =
    subst (λ n. IsOpen run (begun run c) c (c + 1) there (clear_line there opening) (clock_events run c) n after) open_here.size open_here in
    let same : band_of (begun run c) c there (clear_line there opening) (clock_events run c) ≡ grown =
    ap (λ n. band_of n c there (clear_line there opening) (clock_events run c)) is.number
    ∙ ap (λ from. band_of log.band.number from there (clear_line there opening) (clock_events run c)) (sym is.from)
    ∙ ap (λ b. band_of log.band.number log.band.from b (clear_line b opening) (clock_events run c)) (sym here)
    ∙ ap (λ l. band_of log.band.number log.band.from beam (clear_line beam opening) (l ++ clock_events run c)) (sym is.events)
    ∙ sym made in
    let moved : IsKept run (c + 1) grown after = subst (λ b. IsKept run (c + 1) b after) same kept in
    subst (λ (b : OpenBand). IsOpen run b.number b.from (c + 1) b.beam b.opening grown.events (size_to run b.from (c + 1)) after) made moved

pub log_begins : LogBegins
log_begins run c beam log chip is from going here =
    elim is.band [
      | inl beginning ↦ record {
        grows = begins_here run c beam log chip beginning.0 going here;
        waits = beginning.1;
        least = is.least;
        last = is.last;
        shadow = is.shadow;
        range = is.range;
        left = subst (λ l. IsLeftBy l log.shadow)
            (ap (λ w. log.band.events ++ waiting_list w) beginning.1 ∙ append-nil log.band.events) is.left;
      }
      | inr growing ↦ absurd (let order : log.band.from < c = growing.kept.order in omega (arith, order, from))
    ]

-- the script's touches, all at once
all_noted : (c : ℕ) (touches : List Touch) (log : Log)
    → with_script_touches c touches log
    ≡ record log {
      band = record log.band { events = log.band.events ++ map (event_at c) touches };
      shadow = touch_shadow_in_order c touches log.shadow;
    }
unfolding with_script_touches touch_shadow_in_order
all_noted c [] log = ap (λ (l : List Event). record log { band = record log.band { events = l } }) (sym (append-nil log.band.events))
all_noted c (touch ∷ touches) log =
    all_noted c touches (with_script_touch c touch log)
    ∙ ap (λ (l : List Event). record log {
      band = record log.band { events = l };
      shadow = touch_shadow_in_order c touches (touch_shadow c touch log.shadow);
    }) (append_assoc log.band.events (event_at c touch ∷ []) (map (event_at c) touches))

pub one_touch_more : OneTouchMore
unfolding with_script_touches
one_touch_more c touch [] log = refl
one_touch_more c touch (first ∷ touches) log = one_touch_more c touch touches (with_script_touch c first log)

pub log_shown : LogShown
log_shown run c log chip is =
    subst (λ l. IsShown run c l chip) (sym (all_noted c (sets_at run c) log))
    (record {
      before = log.band;
      grows = is.grows;
      band = refl;
      waits = is.waits;
      least = is.least;
      last = is.last;
      shadow = shadow_sets run c log.shadow is.shadow;
      range = range_of_sets run log.band.from c log.shadow is.range;
      left = left_by_sets run c log.band.events log.shadow is.left;
    })

-- the access
clock_events_are : (run : RunValue) (c : ℕ)
    → clock_events run c ≡ script_events run c ++ bus_events c (fetch_alone (bus_touch_at run c))
unfolding events_from
clock_events_are run c = refl

waits_for_next : (c : ℕ) (touch : Option Touch) → waiting_list (waiting_write c touch) ≡ bus_events c (write_alone touch)
waits_for_next c None = refl
waits_for_next c (Some (T.Set reg word)) = refl
waits_for_next c (Some (T.Plane plane at)) = refl
waits_for_next c (Some (T.Sprite sprite second at)) = refl

one_back : (c : ℕ) → c + 1 - 1 ≡ c
one_back c = omega arith

waiting_next : (run : RunValue) (c : ℕ) → waiting_events run (c + 1) ≡ bus_events c (write_alone (bus_touch_at run c))
waiting_next run c = ap (λ k. bus_events k (write_alone (bus_touch_at run k))) (one_back c)

grows_on : (run : RunValue) (c : ℕ) (before : OpenBand) (chip after : ChipValue) → Grows run c before chip
    → after.base ≡ chip.base → after.writes ≡ chip.writes ++ stores_at run c
    → IsGrowing run (c + 1) (record before {
      events = (before.events ++ script_events run c) ++ bus_events c (fetch_alone (bus_touch_at run c));
    }) (waiting_write c (bus_touch_at run c)) after
grows_on run c before chip after grows base writes =
    let fetch : List Event = bus_events c (fetch_alone (bus_touch_at run c)) in
    let events : (before.events ++ script_events run c) ++ fetch ≡ before.events ++ clock_events run c =
    append_assoc before.events (script_events run c) fetch ∙ ap (λ l. before.events ++ l) (sym (clock_events_are run c)) in
    record {
      kept = grows (record before { events = (before.events ++ script_events run c) ++ fetch }) after
          (ap (λ (l : List Event). record before { events = l }) events) base writes;
      waits = waits_for_next c (bus_touch_at run c) ∙ sym (waiting_next run c);
    }

pub log_accessed : LogAccessed
log_accessed run c log chip after is range base last writes =
    let touch : Option Touch = bus_touch_at run c in
    let from : ℕ = log.band.from in
    let growing : IsGrowing run (c + 1) (record log.band { events = log.band.events ++ bus_events c (fetch_alone touch) })
    (waiting_write c touch) after =
    subst (λ (b : OpenBand). IsGrowing run (c + 1) (record b { events = b.events ++ bus_events c (fetch_alone touch) })
    (waiting_write c touch) after) (sym is.band) (grows_on run c is.before chip after is.grows base writes) in
    let events : log.band.events ++ bus_events c touch
    ≡ (log.band.events ++ bus_events c (fetch_alone touch)) ++ waiting_list (waiting_write c touch) =
    ap (λ l. log.band.events ++ l) (touch_in_two c touch)
    ∙ sym (append_assoc log.band.events (bus_events c (fetch_alone touch)) (bus_events c (write_alone touch)))
    ∙ ap (λ l. (log.band.events ++ bus_events c (fetch_alone touch)) ++ l) (sym (waits_for_next c touch)) in
    let shadow : Shadow = touch_shadow_if_any c touch log.shadow in
    record {
      band = inr growing;
      least = (let least : from ≤ c = is.least in omega (arith, least));
      last = last ∙ is.last;
      shadow = subst (λ k. IsShadowOf run shadow (opening_at run k)) (sym (add-one c)) (shadow_access run c log.shadow range is.shadow);
      range = range_of_touch from c touch log.shadow is.least is.range;
      left = subst (λ l. IsLeftBy l shadow) events (left_by_touch c touch log.band.events log.shadow range is.left);
    }

-- an access that reads CLXDAT
reads_alone : (made : Made) → is_clx_read made ≡ true → touch_of made ≡ None
reads_alone M.Nothing reads = refl
reads_alone (M.Wrote reg word by) reads = absurd (true≢false (sym reads))
reads_alone (M.Read reg by) reads = refl
reads_alone (M.Stored at half word) reads = refl
reads_alone (M.Plane plane at) reads = absurd (true≢false (sym reads))
reads_alone (M.Sprite sprite second at) reads = absurd (true≢false (sym reads))

stores_nothing : (c : ℕ) (made : Made) (memory : List ℕ) → is_clx_read made ≡ true → stores_of c made memory ≡ []
stores_nothing c M.Nothing memory reads = refl
stores_nothing c (M.Wrote reg word by) memory reads = refl
stores_nothing c (M.Read reg by) memory reads = refl
stores_nothing c (M.Stored at half word) memory reads = absurd (true≢false (sym reads))
stores_nothing c (M.Plane plane at) memory reads = refl
stores_nothing c (M.Sprite sprite second at) memory reads = refl

third : (a b c : Bool) → c ≡ true → (a || (b || c)) ≡ true
third true b c last = refl
third false true c last = refl
third false false c last = last

begins_after_read : (run : RunValue) (c : ℕ) → is_clx_read (made_at run c) ≡ true → begins run (suc c) ≡ true
unfolding begins has_read_at
begins_after_read run c reads = third _ _ (is_clx_read (made_at run c)) reads

-- a place at which a band begins is a line's start
line_of_place : (height : ℕ) (b : Beam) → is_band_place height b ≡ true → is_line_start b ≡ true
line_of_place height b place = by_tests (b.v == 0) (b.h == 0) (b.v % height == 0) place
  where
    by_tests : (first start multiple : Bool) → ((first && start) || (start && multiple)) ≡ true → start ≡ true
    by_tests true true multiple place = refl
    by_tests true false multiple place = place
    by_tests false true multiple place = refl
    by_tests false false multiple place = place

first_of_two : (a b : Bool) → (a || b) ≡ true → b ≡ false → a ≡ true
first_of_two true b either other = refl
first_of_two false b either other = absurd (true≢false (sym either ∙ other))

pub begins_with_line : BeginsWithLine
unfolding begins
begins_with_line run c begin none =
    line_of_place run.height (beam_at run c) (first_of_two (is_band_place run.height (beam_at run c)) (has_read_at run c) begin none)

pub read_begins : ReadBegins
read_begins run c reads = subst (λ k. begins run k ≡ true) (sym (add-one c)) (begins_after_read run c reads)

pub log_read : LogRead
log_read run c log chip is reads =
    let none : bus_touch_at run c ≡ None = reads_alone (made_at run c) reads in
    let stores : stores_at run c ≡ [] = stores_nothing c (made_at run c) (run_memory run c) reads in
    let writes : chip.writes ≡ chip.writes ++ stores_at run c =
    sym (ap (λ (l : List Write). chip.writes ++ l) stores ∙ append-nil chip.writes) in
    let same : with_access_touch c None log ≡ log =
    ap (λ (l : List Event). record log { band = record log.band { events = l }; waiting = None }) (append-nil log.band.events)
    ∙ ap (λ w. record log { waiting = w }) (sym is.waits) in
    subst (λ l. IsLogOf run (c + 1) l chip) (ap (λ t. with_access_touch c t log) none ∙ same)
    (log_accessed run c log chip chip is (subst (λ t. IsInRange t) (sym none) tt) refl refl writes)

-- a band of which a clock is done
pub growing_of : (run : RunValue) (to : ℕ) (log : Log) (chip : ChipValue) → IsLogOf run to log chip → log.band.from < to
    → IsGrowing run to log.band log.waiting chip
growing_of run to log chip is before =
    elim is.band [
      | inl beginning ↦ absurd (let from : log.band.from ≡ to = beginning.0.from in omega (arith, before, from))
      | inr growing ↦ growing
    ]

pub log_ends : LogEnds
log_ends run to log chip is before begin =
    let growing : IsGrowing run to log.band log.waiting chip = growing_of run to log chip is before in
    record { kept = growing.kept; begin = begin; waits = growing.waits; last = is.last }
