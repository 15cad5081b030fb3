-- The bands of a whole run.
use Rattle.std.proofs.Common.{◌≡◌, ◌≢◌, ◌<◌, ◌≤◌, ℕ, zero, suc, ◌+◌, ◌-◌, ◌%◌, Bool, true, false, ◌||◌, ◌&&◌, ◌==◌, refl, ap, ◌∙◌, sym, subst, arith, inl, inr}
use Rattle.std.proofs.lemmas.Bool.{cases_eq}
use Rattle.std.proofs.lemmas.Bool.Decides.{nat_tests}
use Rattle.ocs_base.specs.Limits.{IsRunnable}
use Rattle.ocs_base.specs.declared.beam.Beam.{Beam}
use Rattle.ocs_base.specs.declared.system.System.{System}
use Rattle.serial_model.specs.Beam.{IsOnScreen, place_of, next_place, is_field_start, is_line_start}
use Rattle.serial_model.specs.Registers.{is_interlaced}
use Rattle.serial_model.specs.Serial.{state_over}
use Rattle.serial_model.specs.State.{State}
use Rattle.serial_model.specs.Tick.{before_access, make_access, tick}
use Rattle.serial_model.proofs.BeamLaws.{IsNext}
use Rattle.serial_model.proofs.EndLaws.{tick-IsNext, on_screen}
use Rattle.serial_model.proofs.NextLaws.{beam_next}
use Rattle.serial_bands.specs.Run.{RunValue, state_of, beam_at, IsEndOf}
use Rattle.serial_bands.specs.Bands.{has_read_at, begins, begun, IsBand, AreBands}
use Rattle.serial_bands.specs.BandLaws.{ClockHasBand, NumberHasBand, BandsOfRun, BandsAreFew, NumberIsSmall}
use Rattle.serial_bands.specs.ClockLaws.{FramesRise}
use Rattle.serial_bands.proofs.BandOrder.{begun_more, begun_same, grown_to, counted, not_later, one_place, first_begins, begun_in_band}

-- a run ends where a field starts, and so where a band would begin
next_field : (system : System) (lace : Bool) (b : Beam) → (next_place system lace b).frame ≢ b.frame → is_field_start (next_place system lace b) ≡ true
next_field system lace b rises = grind (arith, nat_tests)

first_of_three : (a b c : Bool) → a ≡ true → ((a || b) || c) ≡ true
first_of_three a b c here = ap (λ x. (x || b) || c) here

field_begins : (run : RunValue) (c : ℕ) → is_field_start (beam_at run c) ≡ true → begins run c ≡ true
unfolding begins
field_begins run c start =
    let b : Beam = beam_at run c in
    first_of_three (is_field_start b) (is_line_start b && (b.v % run.height == 0)) (has_read_at run c) start

pub end_begins : (run : RunValue) (clocks : ℕ) → IsEndOf run clocks → begins run clocks ≡ true
unfolding state_over
end_begins run zero end = first_begins run
end_begins run (suc c) end =
    let s : State = state_of run c in
    let system : System = run.script.system in
    let b : State = make_access (before_access system run.script.events s) in
    let lace : Bool = is_interlaced b.chips.registers in
    let place : Beam = record s.beam { lof = b.beam.lof } in
    let here : (tick system run.script.events s).beam ≡ next_place system lace place = beam_next system run.script.events s in
    let before : s.beam.frame < run.script.frames = end.running c (omega arith) in
    let frame : (next_place system lace place).frame ≡ run.script.frames = ap (λ (x : Beam). x.frame) (sym here) ∙ end.ended in
    let start : is_field_start (next_place system lace place) ≡ true =
    next_field system lace place (λ same. absurd (omega (arith, same, frame, before))) in
    field_begins run (suc c) (ap (λ (x : Beam). is_field_start x) here ∙ start)

-- the begin of each number below the count
pub record IsBegin (run : RunValue) (n before a : ℕ) : Type 0 where
  pub below : a < before
  pub begin : begins run a ≡ true
  pub number : begun run a ≡ n

find_begin : (run : RunValue) (n c : ℕ) → n < begun run c → (a : ℕ) × IsBegin run n c a
unfolding begun
find_begin run n zero less = absurd (omega (arith, less))
find_begin run n (suc c) less =
    let P : Bool → Type 0 = λ b. begins run c ≡ b → (a : ℕ) × IsBegin run n (suc c) a in
    let earlier : n < begun run c → (a : ℕ) × IsBegin run n (suc c) a = λ low.
    (let found : (a : ℕ) × IsBegin run n c a = find_begin run n c low in
    (found.0, record { below = omega (arith, found.1.below); begin = found.1.begin; number = found.1.number })) in
    (elim (begins run c) as P [
      | true ↦ (λ here.
          elim (cases_eq n (begun run c)) [
            | inl e ↦ (c, record { below = omega arith; begin = here; number = sym e })
            | inr other ↦ (
                let o : n ≡ begun run c → ⊥ = other in
                earlier (omega (arith, less, begun_more run c here)))
          ])
      | false ↦ (λ none. earlier (omega (arith, less, begun_same run c none)))
    ]) refl

-- and the next one
pub record IsNextBegin (run : RunValue) (a most b : ℕ) : Type 0 where
  pub after : a < b
  pub within : b ≤ most
  pub begin : begins run b ≡ true
  pub inner : (c : ℕ) → a < c → c < b → begins run c ≡ false

none_yet : (run : RunValue) (a m : ℕ) → ((c : ℕ) → a < c → c < m → begins run c ≡ false) → begins run m ≡ false
    → (c : ℕ) → a < c → c < suc m → begins run c ≡ false
none_yet run a m inner here c after before =
    elim (cases_eq c m) [
      | inl e ↦ (subst (λ k. begins run k ≡ false) (sym e) here)
      | inr other ↦ (let o : c ≡ m → ⊥ = other in inner c after (omega arith))
    ]

find_next : (run : RunValue) (a m fuel most : ℕ) → m + fuel ≡ most → a < m → ((c : ℕ) → a < c → c < m → begins run c ≡ false)
    → begins run most ≡ true → (b : ℕ) × IsNextBegin run a most b
find_next run a m zero most there after inner stop =
    let same : most ≡ m = omega arith in
    (m, record { after = after; within = omega arith; begin = subst (λ k. begins run k ≡ true) same stop; inner = inner })
find_next run a m (suc fuel) most there after inner stop =
    let P : Bool → Type 0 = λ b. begins run m ≡ b → (b : ℕ) × IsNextBegin run a most b in
    (elim (begins run m) as P [
      | true ↦ (λ here. (m, record { after = after; within = omega arith; begin = here; inner = inner }))
      | false ↦ (λ none. find_next run a (suc m) fuel most (omega arith) (omega arith) (none_yet run a m inner none) stop)
    ]) refl

-- each begin before the end is that of a band
band_from : (run : RunValue) (clocks a : ℕ) → IsEndOf run clocks → a < clocks → begins run a ≡ true
    → (b : ℕ) × IsBand run (begun run a) a b × (b ≤ clocks)
band_from run clocks a end before here =
    let found : (b : ℕ) × IsNextBegin run a clocks b =
    find_next run a (suc a) (clocks - suc a) clocks (omega arith) (omega arith) (λ c after low. absurd (omega (arith, after, low)))
    (end_begins run clocks end) in (
      found.0,
      (record {
        order = found.1.after;
        number = refl;
        begin = here;
        inner = found.1.inner;
        end = found.1.begin;
        running = λ c low. end.running c (omega (arith, low, found.1.within));
      }),
      found.1.within,
    )

pub number_has_band : NumberHasBand
number_has_band run clocks n end few =
    let found : (a : ℕ) × IsBegin run n clocks a = find_begin run n clocks few in
    let band : (b : ℕ) × IsBand run (begun run found.0) found.0 b × (b ≤ clocks) =
    band_from run clocks found.0 end found.1.below found.1.begin in
    (found.0, band.0, subst (λ k. IsBand run k found.0 band.0) found.1.number band.1)

-- the last begin up to a clock is that of the clock's band
pub clock_has_band : ClockHasBand
unfolding begun
clock_has_band run clocks c end before =
    let some : 1 ≤ begun run (suc c) =
    omega (arith, begun_more run 0 (first_begins run), grown_to run 1 (suc c) (omega arith)) in
    let n : ℕ = begun run (suc c) - 1 in
    let found : (a : ℕ) × IsBegin run n (suc c) a = find_begin run n (suc c) (omega arith) in
    let a : ℕ = found.0 in
    let band : (b : ℕ) × IsBand run (begun run a) a b × (b ≤ clocks) =
    band_from run clocks a end (omega (arith, found.1.below)) found.1.begin in
    let b : ℕ = band.0 in
    let count : begun run b ≡ begun run a + 1 =
    begun_in_band run (begun run a) a b b band.1 band.1.order (omega arith) in
    let after : suc c ≤ b =
    not_later run b (suc c) band.1.end (omega (arith, some, count, found.1.number)) in
    (begun run a, a, b, band.1, omega (arith, found.1.below), omega (arith, after))

-- all of them
all_from : (run : RunValue) (clocks count n a : ℕ) → IsEndOf run clocks → begins run a ≡ true → begun run a ≡ n
    → a ≤ clocks → n + count ≡ begun run clocks → AreBands run n count a clocks
all_from run clocks zero n a end here number order all =
    one_place run a clocks here (end_begins run clocks end) (omega (arith, number, all))
all_from run clocks (suc count) n a end here number order all =
    let before : a < clocks =
    elim (cases_eq a clocks) [
      | inl e ↦ absurd (omega (arith, number, all, ap (λ k. begun run k) e))
      | inr other ↦ (let o : a ≡ clocks → ⊥ = other in omega arith)
    ] in
    let band : (b : ℕ) × IsBand run (begun run a) a b × (b ≤ clocks) = band_from run clocks a end before here in
    let b : ℕ = band.0 in
    let next : begun run b ≡ n + 1 =
    begun_in_band run (begun run a) a b b band.1 band.1.order (omega arith) ∙ ap (λ k. k + 1) number in (
      b,
      subst (λ k. IsBand run k a b) number band.1,
      all_from run clocks count (n + 1) b end band.1.end next band.2 (omega (arith, all)),
    )

pub bands_of_run : BandsOfRun
unfolding begun
bands_of_run run clocks end =
    all_from run clocks (begun run clocks) 0 0 end (first_begins run) refl (omega arith) (omega arith)

-- each clock is one place later at least, which the frames of a run bound
pub place_rises : (run : RunValue) (c : ℕ) → c ≤ place_of (beam_at run c)
unfolding state_over
place_rises run zero = omega arith
place_rises run (suc c) =
    let s : State = state_of run c in
    let next : IsNext s.beam (tick run.script.system run.script.events s).beam =
    tick-IsNext run.script.system run.script.events s (on_screen run.side run.image run.script c) in
    omega (arith, next.later, place_rises run c)

place_below : (b : Beam) (frames : ℕ) → IsOnScreen b → b.frame < frames → frames ≤ 1000 → place_of b < 71364000
place_below b frames on going most = grind (arith, on.line, on.clock)

clock_below : (run : RunValue) (c : ℕ) → IsRunnable run.script → (beam_at run c).frame < run.script.frames → c < 71364000
clock_below run c good going =
    omega (arith, place_rises run c, place_below (beam_at run c) run.script.frames (on_screen run.side run.image run.script c) going good.most)

pub number_is_small : NumberIsSmall
number_is_small run n from to good band =
    omega (arith, clock_below run from good (band.running from band.order), counted run from, band.number)

pub bands_are_few : BandsAreFew
bands_are_few run zero good end = omega (arith, counted run 0)
bands_are_few run (suc c) good end =
    omega (arith, clock_below run c good (end.running c (omega arith)), counted run (suc c))

frame_rises : (run : RunValue) (c : ℕ) → (beam_at run c).frame ≤ (beam_at run (suc c)).frame
unfolding state_over
frame_rises run c = (tick-IsNext run.script.system run.script.events (state_of run c) (on_screen run.side run.image run.script c)).frame

none_after : (c : ℕ) → c + 0 ≡ c
none_after c = omega arith

one_after : (c n : ℕ) → c + suc n ≡ suc (c + n)
one_after c n = omega arith

frames_after : (run : RunValue) (c n : ℕ) → (beam_at run c).frame ≤ (beam_at run (c + n)).frame
frames_after run c zero = omega (arith, ap (λ k. (beam_at run k).frame) (none_after c))
frames_after run c (suc n) =
    omega (arith, ap (λ k. (beam_at run k).frame) (one_after c n), frames_after run c n, frame_rises run (c + n))

pub frames_rise : FramesRise
frames_rise run c later order =
    let there : c + (later - c) ≡ later = omega arith in
    subst (λ k. (beam_at run c).frame ≤ (beam_at run k).frame) there (frames_after run c (later - c))
