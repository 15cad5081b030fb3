-- Many clocks of the foreground in one call, from single ones.
use Rattle.std.proofs.Common.{◌≡◌, ◌≤◌, ◌<◌, ◌^◌, ℕ, suc, ◌+◌, ◌-◌, min, Bool, true, false, if◌then◌else◌}
use Rattle.std.proofs.Common.{[], ◌++◌, length, arith, ap, subst, ◌∙◌, sym, append_assoc, append-nil}
use Rattle.std.proofs.lemmas.Bool.Decides.{nat_tests}
use Rattle.std.proofs.lemmas.List.Sums.{count_by-le-length}
use Rattle.out_files.specs.OutFiles.{OutFilesValue}
use Rattle.serial_bands.specs.Run.{RunValue, state_of, beam_at}
use Rattle.serial_bands.specs.Bands.{is_band_place}
use Rattle.serial_bands.specs.BusReads.{bus_reads, word_registers, is_fetched, latched_words}
use Rattle.serial_bands.specs.RightJob.{events_in}
use Rattle.serial_bands.specs.OpenBand.{waiting_events}
use Rattle.band_log.specs.Raster.{RasterValue}
use Rattle.foreground.specs.Clock.{HasGiven, HasGivenPart, Rises}
use Rattle.foreground.specs.Fore.{ForeOf, ForeValue, IsUnderway, CanGo, HasAdvanced, Advances, GivesPart, looked_up}
use Rattle.clock_loop.specs.RunTo.{HasRunOn, RunsOn, reads_from, looked_from, RisesIn, RisesInSome}
use Rattle.foreground.proofs.AdvanceLaws.{given_then, given_part}
use Rattle.foreground.proofs.CutLaws.{gives_none, rises_none}

-- no clock, and one more
pub runs_none : (fore : ForeValue) (seen : RasterValue) (out : OutFilesValue) → RunsOn fore fore seen seen out out
runs_none fore seen out first is = record {
  until = first;
  stands = is;
  lines = [];
  trace = sym (append-nil (state_of fore.run fore.machine.t).trace);
  gives = gives_none fore.run first seen out;
}

pub runs_then : (f0 f1 f2 : ForeValue) (s0 s1 s2 : RasterValue) (o0 o1 o2 : OutFilesValue) → RunsOn f0 f1 s0 s1 o0 o1 → Advances f1 f2 s1 s2 o1 o2
    → f1.run ≡ f0.run → f2.machine.t ≡ f1.machine.t + 1 → RunsOn f0 f2 s0 s2 o0 o2
runs_then f0 f1 f2 s0 s1 s2 o0 o1 o2 runs advances run count first is =
    let one : HasRunOn f0 f1 first s0 s1 o0 o1 = runs first is in
    let two : HasAdvanced f1 f2 one.until s1 s2 o1 o2 = advances one.until one.stands in
    let trace : (state_of f0.run (f1.machine.t + 1)).trace ≡ (state_of f0.run f1.machine.t).trace ++ two.lines =
    subst (λ (r : RunValue). (state_of r (f1.machine.t + 1)).trace ≡ (state_of r f1.machine.t).trace ++ two.lines) run two.trace in
    record {
      until = two.until;
      stands = two.stands;
      lines = one.lines ++ two.lines;
      trace = ap (λ t. (state_of f0.run t).trace) count ∙ trace ∙ ap (λ x. x ++ two.lines) one.trace
          ∙ append_assoc (state_of f0.run f0.machine.t).trace one.lines two.lines;
      gives = given_then f0.run first one.until two.until s0 s1 s2 o0 o1 o2 one.lines two.lines one.gives
          (subst (λ (r : RunValue). HasGiven r one.until two.until s1 s2 o1 o2 two.lines) run two.gives);
    }

-- where memory is wanted in a clock behind these
pub part_behind : (f0 f1 : ForeValue) (s0 s1 s2 : RasterValue) (o0 o1 o2 : OutFilesValue) → RunsOn f0 f1 s0 s1 o0 o1 → GivesPart f1 s1 s2 o1 o2
    → f1.run ≡ f0.run → GivesPart f0 s0 s2 o0 o2
part_behind f0 f1 s0 s1 s2 o0 o1 o2 runs part run first is =
    let one : HasRunOn f0 f1 first s0 s1 o0 o1 = runs first is in
    given_part f0.run first one.until s0 s1 s2 o0 o1 o2 one.lines one.gives
    (subst (λ (r : RunValue). HasGivenPart r one.until s1 s2 o1 o2) run (part one.until one.stands))

-- it can go on
pub can_go_on : (f1 f2 : ForeValue) (s1 s2 : RasterValue) (o1 o2 : OutFilesValue) → Advances f1 f2 s1 s2 o1 o2 → f1.spent ≡ false → CanGo f1 s1
    → CanGo f2 s2
can_go_on f1 f2 s1 s2 o1 o2 advances fresh can not =
    let here : (first : ℕ) × IsUnderway f1 first s1 = can fresh in
    let one : HasAdvanced f1 f2 here.0 s1 s2 o1 o2 = advances here.0 here.1 in
    (one.until, one.stands)

-- counts of reads: of two rises, and of one within a greater one
pub rises_twice : (l1 h1 l2 h2 a b d : ℕ) → Rises l1 h1 a b → Rises l2 h2 b d → Rises (l1 + l2) (h1 + h2) a d
rises_twice l1 h1 l2 h2 a b d one two =
    let low : min (a + l1) (2 ^ 64 - 1) ≤ b = one.least_rise in
    let lower : min (b + l2) (2 ^ 64 - 1) ≤ d = two.least_rise in
    record { least_rise = grind (arith, nat_tests); most_rise = omega (arith, one.most_rise, two.most_rise) }

pub rises_within : (l least h most a b : ℕ) → least ≤ l → h ≤ most → Rises l h a b → Rises least most a b
rises_within l least h most a b low high is =
    let least_rise : min (a + l) (2 ^ 64 - 1) ≤ b = is.least_rise in
    record { least_rise = grind (arith, nat_tests); most_rise = omega (arith, high, is.most_rise) }

few_by : (place : Bool) (n : ℕ) → n ≤ length word_registers → (if place then n else 0) ≤ (if place then length word_registers else 0)
few_by true n few = few
few_by false n few = omega arith

-- what one clock looks up at most
looked_most : (fore : ForeValue) (first : ℕ) (seen : RasterValue) → IsUnderway fore first seen
    → looked_up fore ≤ (if is_band_place fore.run.height (beam_at fore.run fore.machine.t) then length word_registers else 0)
looked_most fore first seen is =
    let run = fore.run in
    let from = fore.log.band.from in
    let to = fore.machine.t in
    subst (λ b. looked_up fore ≤ (if is_band_place run.height b then length word_registers else 0)) (sym is.at.machine.beam)
    (few_by (is_band_place run.height fore.machine.beam) (latched_words run from to)
    (count_by-le-length (λ register. is_fetched register false (events_in run from to ++ waiting_events run to)) word_registers))

pub no_reads : (run : RunValue) (from reads : ℕ) → RisesIn run from (from - from) reads reads
no_reads run from reads =
    let none : from - from ≡ 0 = omega arith in
    subst (λ n. RisesIn run from n reads reads) (sym none) (rises_none 0 reads)

-- the clock behind so many
at_clock : (f0 f1 : ForeValue) (least most a b : ℕ) → f1.run ≡ f0.run → f0.machine.t ≤ f1.machine.t
    → Rises least (bus_reads f1.run f1.machine.t + most) a b → Rises least (bus_reads f0.run (f0.machine.t + (f1.machine.t - f0.machine.t)) + most) a b
at_clock f0 f1 least most a b run on is =
    let back : f1.machine.t ≡ f0.machine.t + (f1.machine.t - f0.machine.t) = omega (arith, on) in
    subst (λ c. Rises least (bus_reads f0.run c + most) a b) back (subst (λ (r : RunValue). Rises least (bus_reads r f1.machine.t + most) a b) run is)

looked_in : (f0 f1 : ForeValue) (s1 : RasterValue) → f1.run ≡ f0.run → f0.machine.t ≤ f1.machine.t → f1.spent ≡ false → CanGo f1 s1
    → looked_up f1 ≤ (if is_band_place f0.run.height (beam_at f0.run (f0.machine.t + (f1.machine.t - f0.machine.t))) then length word_registers else 0)
looked_in f0 f1 s1 run on fresh can =
    let back : f1.machine.t ≡ f0.machine.t + (f1.machine.t - f0.machine.t) = omega (arith, on) in
    subst (λ c. looked_up f1 ≤ (if is_band_place f0.run.height (beam_at f0.run c) then length word_registers else 0)) back
    (subst (λ (r : RunValue). looked_up f1 ≤ (if is_band_place r.height (beam_at r f1.machine.t) then length word_registers else 0)) run
    (looked_most f1 (can fresh).0 s1 (can fresh).1))

-- the rise through one clock more
pub one_more : (run : RunValue) (from n looked a b d : ℕ)
    → looked ≤ (if is_band_place run.height (beam_at run (from + n)) then length word_registers else 0)
    → RisesIn run from n a b → Rises (bus_reads run (from + n)) (bus_reads run (from + n) + looked) b d → RisesIn run from (suc n) a d
one_more run from n looked a b d few one two =
    let both : Rises (reads_from run from n + bus_reads run (from + n))
    ((reads_from run from n + looked_from run from n) + (bus_reads run (from + n) + looked)) a d = rises_twice _ _ _ _ a b d one two in
    rises_within _ _ _ _ a d (omega arith) (omega (arith, few)) both

pub reads_then : (f0 f1 f2 : ForeValue) (s1 : RasterValue) → f1.run ≡ f0.run → f0.machine.t ≤ f1.machine.t → f1.spent ≡ false → CanGo f1 s1
    → RisesIn f0.run f0.machine.t (f1.machine.t - f0.machine.t) f0.machine.chip.reads f1.machine.chip.reads
    → Rises (bus_reads f1.run f1.machine.t) (bus_reads f1.run f1.machine.t + looked_up f1) f1.machine.chip.reads f2.machine.chip.reads
    → f2.machine.t ≡ f1.machine.t + 1
    → RisesIn f0.run f0.machine.t (f2.machine.t - f0.machine.t) f0.machine.chip.reads f2.machine.chip.reads
reads_then f0 f1 f2 s1 run on fresh can one two count =
    let from = f0.machine.t in
    let n = f1.machine.t - f0.machine.t in
    let back : f1.machine.t ≡ from + n = omega (arith, on) in
    let more : suc n ≡ f2.machine.t - from = omega (arith, on, count) in
    let clock : Rises (bus_reads f0.run (from + n)) (bus_reads f0.run (from + n) + looked_up f1) f1.machine.chip.reads f2.machine.chip.reads =
    subst (λ c. Rises (bus_reads f0.run c) (bus_reads f0.run c + looked_up f1) f1.machine.chip.reads f2.machine.chip.reads) back
    (subst (λ (r : RunValue). Rises (bus_reads r f1.machine.t) (bus_reads r f1.machine.t + looked_up f1) f1.machine.chip.reads f2.machine.chip.reads)
    run two) in
    subst (λ k. RisesIn f0.run from k f0.machine.chip.reads f2.machine.chip.reads) more
    (one_more f0.run from n (looked_up f1) f0.machine.chip.reads f1.machine.chip.reads f2.machine.chip.reads (looked_in f0 f1 s1 run on fresh can) one clock)

pub few_behind : (f0 f1 f2 : ForeValue) (s1 : RasterValue) (limit : ℕ) → f1.run ≡ f0.run → f0.machine.t ≤ f1.machine.t → f1.machine.t < limit
    → f1.spent ≡ false → CanGo f1 s1
    → RisesIn f0.run f0.machine.t (f1.machine.t - f0.machine.t) f0.machine.chip.reads f1.machine.chip.reads
    → Rises 0 (bus_reads f1.run f1.machine.t + looked_up f1) f1.machine.chip.reads f2.machine.chip.reads
    → RisesInSome limit f0.run f0.machine.t f0.machine.chip.reads f2.machine.chip.reads
few_behind f0 f1 f2 s1 limit run on before fresh can one two =
    let from = f0.machine.t in
    let n = f1.machine.t - f0.machine.t in
    let clock : Rises 0 (bus_reads f0.run (from + n) + looked_up f1) f1.machine.chip.reads f2.machine.chip.reads =
    at_clock f0 f1 0 (looked_up f1) f1.machine.chip.reads f2.machine.chip.reads run on two in
    let looked : looked_up f1 ≤ (if is_band_place f0.run.height (beam_at f0.run (from + n)) then length word_registers else 0) =
    looked_in f0 f1 s1 run on fresh can in
    let both : Rises (reads_from f0.run from n + 0)
    ((reads_from f0.run from n + looked_from f0.run from n) + (bus_reads f0.run (from + n) + looked_up f1))
    f0.machine.chip.reads f2.machine.chip.reads = rises_twice _ _ _ _ _ f1.machine.chip.reads _ one clock in
    record {
      clocks = suc n;
      most = omega (arith, on, before);
      few = rises_within _ _ _ _ _ _ (omega arith) (omega (arith, looked)) both;
    }

-- what the loop's test says
pub below_view : {S : Type 0} (f g : ForeOf S) (limit : ℕ) → f ≡ g → f.machine.t < limit → g.machine.t < limit
below_view f g limit view below = subst (λ (x : ForeOf _). x.machine.t < limit) view below

pub fresh_view : {S : Type 0} (f g : ForeOf S) → f ≡ g → f.spent ≡ false → g.spent ≡ false
fresh_view f g view fresh = subst (λ (x : ForeOf _). x.spent ≡ false) view fresh
