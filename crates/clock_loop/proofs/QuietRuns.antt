-- Many clocks of the foreground in one call, of which some are passed over at once.
use Rattle.std.proofs.Common.{◌≡◌, ◌≤◌, ◌<◌, ℕ, zero, suc, ◌+◌, ◌-◌, false, ◌++◌, arith, ap, subst, ◌∙◌, sym}
use Rattle.std.proofs.Common.{append_assoc}
use Rattle.out_files.specs.OutFiles.{OutFilesValue}
use Rattle.serial_bands.specs.Run.{RunValue, state_of}
use Rattle.serial_bands.specs.BusReads.{bus_reads}
use Rattle.band_log.specs.Raster.{RasterValue}
use Rattle.foreground.specs.Clock.{HasGiven, Rises}
use Rattle.foreground.specs.Fore.{ForeValue, IsUnderway, CanGo, GivesPart}
use Rattle.clock_loop.specs.code.Quiet.{HasPassed}
use Rattle.clock_loop.specs.RunTo.{HasRunOn, RunsOn, reads_from, looked_from, RisesIn, RisesInSome}
use Rattle.foreground.proofs.AdvanceLaws.{given_then}
use Rattle.foreground.proofs.BeginLaws.{begins_no_part}
use Rattle.foreground.proofs.CutLaws.{rises_none}
use Rattle.clock_loop.proofs.RunToLaws.{one_more, rises_within, part_behind}

pub runs_more : (f0 f1 f2 : ForeValue) (s0 s1 s2 : RasterValue) (o0 o1 o2 : OutFilesValue) → RunsOn f0 f1 s0 s1 o0 o1 → RunsOn f1 f2 s1 s2 o1 o2
    → f1.run ≡ f0.run → RunsOn f0 f2 s0 s2 o0 o2
runs_more f0 f1 f2 s0 s1 s2 o0 o1 o2 runs more run first is =
    let one : HasRunOn f0 f1 first s0 s1 o0 o1 = runs first is in
    let two : HasRunOn f1 f2 one.until s1 s2 o1 o2 = more one.until one.stands in
    let trace : (state_of f0.run f2.machine.t).trace ≡ (state_of f0.run f1.machine.t).trace ++ two.lines =
    subst (λ (r : RunValue). (state_of r f2.machine.t).trace ≡ (state_of r f1.machine.t).trace ++ two.lines) run two.trace in
    record {
      until = two.until;
      stands = two.stands;
      lines = one.lines ++ two.lines;
      trace = trace ∙ ap (λ x. x ++ two.lines) one.trace
          ∙ append_assoc (state_of f0.run f0.machine.t).trace one.lines two.lines;
      gives = given_then f0.run first one.until two.until s0 s1 s2 o0 o1 o2 one.lines two.lines one.gives
          (subst (λ (r : RunValue). HasGiven r one.until two.until s1 s2 o1 o2 two.lines) run two.gives);
    }

pub runs_passed : (f0 f1 f2 : ForeValue) (limit : ℕ) (s0 s1 : RasterValue) (o0 o1 : OutFilesValue) → RunsOn f0 f1 s0 s1 o0 o1 → HasPassed limit f1 f2
    → f1.run ≡ f0.run → RunsOn f0 f2 s0 s1 o0 o1
runs_passed f0 f1 f2 limit s0 s1 o0 o1 runs passed run = runs_more f0 f1 f2 s0 s1 s1 o0 o1 o1 runs (passed.runs s1 o1) run

-- it can go on
pub can_go_behind : (f1 f2 : ForeValue) (limit : ℕ) (seen : RasterValue) (out : OutFilesValue) → HasPassed limit f1 f2 → f1.spent ≡ false → CanGo f1 seen
    → CanGo f2 seen
can_go_behind f1 f2 limit seen out passed fresh can not =
    let here : (first : ℕ) × IsUnderway f1 first seen = can fresh in
    let one : HasRunOn f1 f2 here.0 seen seen out out = passed.runs seen out here.0 here.1 in
    (one.until, one.stands)

-- clocks without a read of memory
quiet_reads : (run : RunValue) (from m n a b : ℕ) → RisesIn run from m a b → ((k : ℕ) → k < n → bus_reads run (from + (m + k)) ≡ 0)
    → RisesIn run from (m + n) a b
quiet_reads run from m zero a b is none =
    let e : m ≡ m + 0 = omega arith in
    subst (λ k. RisesIn run from k a b) e is
quiet_reads run from m (suc n) a b is none =
    let before : RisesIn run from (m + n) a b = quiet_reads run from m n a b is (λ k low. none k (omega (arith, low))) in
    let more : suc (m + n) ≡ m + suc n = omega arith in
    let one : Rises (bus_reads run (from + (m + n))) (bus_reads run (from + (m + n)) + 0) b b =
    subst (λ k. Rises k (k + 0) b b) (sym (none n (omega arith))) (rises_none 0 b) in
    subst (λ k. RisesIn run from k a b) more (one_more run from (m + n) 0 a b b (omega arith) before one)

pub reads_passed : (f0 f1 f2 : ForeValue) (limit : ℕ) → f1.run ≡ f0.run → f0.machine.t ≤ f1.machine.t → HasPassed limit f1 f2
    → f2.machine.chip.reads ≡ f1.machine.chip.reads
    → RisesIn f0.run f0.machine.t (f1.machine.t - f0.machine.t) f0.machine.chip.reads f1.machine.chip.reads
    → RisesIn f0.run f0.machine.t (f2.machine.t - f0.machine.t) f0.machine.chip.reads f2.machine.chip.reads
reads_passed f0 f1 f2 limit run on passed same is =
    let from = f0.machine.t in
    let m = f1.machine.t - f0.machine.t in
    let n = f2.machine.t - f1.machine.t in
    let all : m + n ≡ f2.machine.t - from = omega (arith, on, passed.on) in
    let none : (k : ℕ) → k < n → bus_reads f0.run (from + (m + k)) ≡ 0 =
    λ k low. (let back : from + (m + k) ≡ f1.machine.t + k = omega (arith, on) in
    ap (λ c. bus_reads f0.run c) back ∙ ap (λ r. bus_reads r (f1.machine.t + k)) (sym run) ∙ passed.quiet k low) in
    subst (λ r. RisesIn f0.run from (f2.machine.t - from) f0.machine.chip.reads r) (sym same)
    (subst (λ k. RisesIn f0.run from k f0.machine.chip.reads f1.machine.chip.reads) all
    (quiet_reads f0.run from m n f0.machine.chip.reads f1.machine.chip.reads is none))

-- where memory was wanted for the write that waited
pub part_passed : (f0 f1 : ForeValue) (s0 s1 : RasterValue) (o0 o1 : OutFilesValue) → RunsOn f0 f1 s0 s1 o0 o1 → f1.run ≡ f0.run
    → GivesPart f0 s0 s1 o0 o1
part_passed f0 f1 s0 s1 o0 o1 runs run = part_behind f0 f1 s0 s1 s1 o0 o1 o1 runs (begins_no_part f1 s1 o1) run

pub few_passed : (f0 f1 f2 : ForeValue) (limit : ℕ) → f0.machine.t ≤ f1.machine.t → f1.machine.t < limit
    → f2.machine.chip.reads ≡ f1.machine.chip.reads
    → RisesIn f0.run f0.machine.t (f1.machine.t - f0.machine.t) f0.machine.chip.reads f1.machine.chip.reads
    → RisesInSome limit f0.run f0.machine.t f0.machine.chip.reads f2.machine.chip.reads
few_passed f0 f1 f2 limit on before same is = record {
  clocks = f1.machine.t - f0.machine.t;
  most = omega (arith, on, before);
  few = subst (λ r. Rises 0 (reads_from f0.run f0.machine.t (f1.machine.t - f0.machine.t)
      + looked_from f0.run f0.machine.t (f1.machine.t - f0.machine.t)) f0.machine.chip.reads r) (sym same)
      (rises_within _ _ _ _ _ _ (omega arith) (omega arith) is);
}
