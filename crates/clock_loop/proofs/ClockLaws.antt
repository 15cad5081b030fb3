-- A clock within a line, from its steps, and such clocks one behind the other.
use Rattle.std.proofs.Common.{◌≡◌, ◌≤◌, ◌<◌, ◌+◌, ◌-◌, ℕ, Bool, false, Option}
use Rattle.std.proofs.Common.{arith, refl, ap, subst, sym, ◌∙◌}
use Rattle.mem_versions.specs.Chip.{ChipValue}
use Rattle.out_files.specs.OutFiles.{OutFilesValue}
use Rattle.serial_model.specs.declared.bus.Ask.{Ask}
use Rattle.serial_model.specs.Beam.{next_place}
use Rattle.serial_model.specs.Bus.{reads_of_ask}
use Rattle.serial_bands.specs.BusReads.{bus_reads}
use Rattle.bitplane_dma.specs.declared.rules.FetchRules.{FetchRules}
use Rattle.chip_set.specs.declared.bus.BlitterClaim.{BlitterClaim}
use Rattle.chip_set.specs.Chips.{CanAsk, IsBlitAsk, kept_wish, late_ask}
use Rattle.chip_set.proofs.BusLaws.{claim_kept}
use Rattle.band_log.specs.Raster.{RasterValue}
use Rattle.machine.specs.MachineSteps.{AsksInTime}
use Rattle.clock_loop.specs.code.BusRun.{IsWithinLine, CanMakeClock, HasMadeClock, HasMadeClockInPart, GoesOnBus, CanMakeClocks}
use Rattle.clock_loop.specs.code.BusRun.{HasRunOnBus, HasRunInPart, HasAskedLate}
use Rattle.clock_loop.specs.code.Line.{AreInLine}
use Rattle.clock_loop.specs.RunTo.{RisesInSome}
use Rattle.foreground.specs.Access.{CanAccess}
use Rattle.foreground.specs.Clock.{Rises}
use Rattle.foreground.specs.Fore.{ForeOf, ForeValue, CanGo, looked_up}
use Rattle.machine.specs.Machine.{reads_more}
use Rattle.foreground.specs.Steps.{BeginsClock, EndsClock, KeepsClock, MakesAskedAccess, AccessesPart, ReachesAsk}
use Rattle.foreground.proofs.AdvanceLaws.{advances, part_accessing, part_ending, place_made}
use Rattle.foreground.proofs.AskedLaws.{reaches_ask, at_ask, makes_from_ask, part_from_ask, kept_from_ask, rises_from_ask}
use Rattle.foreground.proofs.BeginLaws.{rises_same}
use Rattle.clock_loop.proofs.BusLaws.{begins_on_bus, first_leaves, leave_next}
use Rattle.clock_loop.proofs.LineLaws.{runs_none_behind, place_behind, in_line_next, first_due, can_go_then, reads_twice, few_twice}
use Rattle.clock_loop.proofs.QuietRuns.{runs_more}
use Rattle.clock_loop.proofs.RunToLaws.{runs_then, part_behind, can_go_on, reads_then, few_behind}

-- ---- one clock

pub begins_within_line : (f : ForeValue) (before seen : RasterValue) (out : OutFilesValue) → IsWithinLine f before → BeginsClock f f 0 seen seen out out
begins_within_line f before seen out w = begins_on_bus f w.underway.0 before seen out w.underway.1 w.ready w.running w.inner w.due

-- the chips of such a clock have asked for its slot with this
pub record HasAskedWith (ask : Ask) (f0 f1 : ForeValue) : Type 0 where
  pub asks : AsksInTime ask f0.machine f1.machine
  pub same : f1 ≡ record f0 { machine = f1.machine }

pub reaches_within_line : (ask : Ask) (f0 f1 : ForeValue) (before : RasterValue) (out : OutFilesValue) → IsWithinLine f0 before → HasAskedWith ask f0 f1
    → ReachesAsk 0 ask f0 f1 out out
reaches_within_line ask f0 f1 before out w asked =
    reaches_ask 0 f0 f0 f1 ask out out (runs_none_behind f0 f0 w.underway.0 before out refl w.underway.1 w.inner w.due) asked.asks asked.same

pub can_access : (ask : Ask) (f0 f1 : ForeValue) (seen : RasterValue) (out : OutFilesValue) → IsWithinLine f0 seen → HasAskedWith ask f0 f1 → CanAsk ask
    → IsBlitAsk ask (kept_wish f1.machine.chips) → CanAccess ask f1 seen
can_access ask f0 f1 seen out w asked able wish =
    let at = at_ask f0 f0 f1 ask w.underway.0 0 seen seen out out out w.underway.1 (begins_within_line f0 seen seen out w)
    (reaches_within_line ask f0 f1 seen out w asked) in
    record { logged = at.1; asked = at.0; able = able; wish = wish }

pub rises_within_line : (ask : Ask) (f0 f1 : ForeValue) (made reads : ℕ) (before : RasterValue) (out : OutFilesValue) → IsWithinLine f0 before
    → HasAskedWith ask f0 f1 → made ≡ reads_more (reads_of_ask ask) f1.machine.chip.reads → reads ≡ made
    → Rises (bus_reads f0.run f0.machine.t) (bus_reads f0.run f0.machine.t + looked_up f0) f0.machine.chip.reads reads
    × Rises 0 (bus_reads f0.run f0.machine.t + looked_up f0) f0.machine.chip.reads reads
rises_within_line ask f0 f1 made reads before out w asked count end =
    rises_from_ask f0 f0 f1 ask w.underway.0 0 (looked_up f0) made reads before before out out out w.underway.1
    (begins_within_line f0 before before out w) (rises_same (looked_up f0) f0.machine.chip.reads f0.machine.chip.reads refl)
    (reaches_within_line ask f0 f1 before out w asked) count end

-- its access was made, and it was ended
pub clock_made : (ask : Ask) (f0 f1 f2 f3 : ForeValue) (lace : Bool) (before seen after : RasterValue) (out mid given : OutFilesValue)
    → IsWithinLine f0 before → HasAskedWith ask f0 f1 → MakesAskedAccess f1 f2 seen after out mid → KeepsClock f1 f2
    → f2.machine.chip.reads ≡ reads_more (reads_of_ask ask) f1.machine.chip.reads → EndsClock f2 f3 mid given
    → f3.machine.beam ≡ next_place f2.run.script.system lace f2.machine.beam → HasMadeClock f0 f3 seen after out given
clock_made ask f0 f1 f2 f3 lace before seen after out mid given w asked makes kept reads ends place =
    let begins : BeginsClock f0 f0 0 seen seen out out = begins_within_line f0 before seen out w in
    let reaches : ReachesAsk 0 ask f0 f1 out out = reaches_within_line ask f0 f1 before out w asked in
    let behind : KeepsClock reaches.between f2 = kept_from_ask 0 ask f0 f1 f2 out out reaches kept in
    let there = place_made f0 f0 reaches.between f2 w.underway.0 0 before before out out out w.underway.1 (begins_within_line f0 before before out w)
    reaches.reaches behind in
    record {
      clock = advances f0 f0 reaches.between f2 f3 0 lace seen seen after out out out mid given w.running begins reaches.reaches
          (makes_from_ask 0 ask f0 f1 f2 seen after out out mid reaches makes) behind ends place;
      place = place_behind f2.run.script.system lace f0.machine.beam f2.machine.beam f3.machine.beam w.last there.0 place;
      count = ends.t ∙ ap (λ t. t + 1) there.1;
      spent = ends.spent ∙ kept.spent ∙ ap (λ (f : ForeValue). f.spent) asked.same;
      reads = (rises_within_line ask f0 f1 f2.machine.chip.reads f3.machine.chip.reads before out w asked reads
          (ap (λ (c : ChipValue). c.reads) ends.chip)).0;
    }

-- memory was wanted for its access
pub accessed_in_part : (ask : Ask) (f0 f1 f2 : ForeValue) (before seen after : RasterValue) (out given : OutFilesValue) → IsWithinLine f0 before
    → HasAskedWith ask f0 f1 → AccessesPart f1 seen after out given → f2.machine.chip.reads ≡ reads_more (reads_of_ask ask) f1.machine.chip.reads
    → HasMadeClockInPart f0 f2 seen after out given
accessed_in_part ask f0 f1 f2 before seen after out given w asked part reads =
    let reaches : ReachesAsk 0 ask f0 f1 out out = reaches_within_line ask f0 f1 before out w asked in
    record {
      part = part_accessing f0 f0 reaches.between 0 seen seen after out out out given (begins_within_line f0 before seen out w) reaches.reaches
          (part_from_ask 0 ask f0 f1 seen after out out given reaches part);
      few = (rises_within_line ask f0 f1 f2.machine.chip.reads f2.machine.chip.reads before out w asked reads refl).1;
    }

-- or for its end
pub ended_in_part : (ask : Ask) (f0 f1 f2 f3 : ForeValue) (before seen after : RasterValue) (out mid given : OutFilesValue) → IsWithinLine f0 before
    → HasAskedWith ask f0 f1 → MakesAskedAccess f1 f2 seen after out mid → KeepsClock f1 f2
    → f2.machine.chip.reads ≡ reads_more (reads_of_ask ask) f1.machine.chip.reads → f3.machine.chip ≡ f2.machine.chip → given ≡ mid
    → HasMadeClockInPart f0 f3 seen after out given
ended_in_part ask f0 f1 f2 f3 before seen after out mid given w asked makes kept reads chip refused =
    let reaches : ReachesAsk 0 ask f0 f1 out out = reaches_within_line ask f0 f1 before out w asked in
    record {
      part = part_ending f0 f0 reaches.between f2 0 seen seen after out out out mid given (begins_within_line f0 before seen out w) reaches.reaches
          (makes_from_ask 0 ask f0 f1 f2 seen after out out mid reaches makes) (kept_from_ask 0 ask f0 f1 f2 out out reaches kept) refused;
      few = (rises_within_line ask f0 f1 f2.machine.chip.reads f3.machine.chip.reads before out w asked reads
          (ap (λ (c : ChipValue). c.reads) chip)).1;
    }

-- that memory was wanted is noted
pub same_part : (f0 f g : ForeValue) (seen after : RasterValue) (out given : OutFilesValue) → g.machine.chip.reads ≡ f.machine.chip.reads
    → HasMadeClockInPart f0 f seen after out given → HasMadeClockInPart f0 g seen after out given
same_part f0 f g seen after out given same part = record {
  part = part.part;
  few = subst (λ n. Rises 0 (bus_reads f0.run f0.machine.t + looked_up f0) f0.machine.chip.reads n) (sym same) part.few;
}

-- the ask that was worked out anew
pub late_view : {S : Type 0} (g f : ForeOf S) (ask : Ask) → g ≡ f → ask ≡ late_ask g.machine.beam g.machine.chips
    → ask ≡ late_ask f.machine.beam f.machine.chips
late_view g f ask view is = subst (λ (x : ForeOf _). ask ≡ late_ask x.machine.beam x.machine.chips) view is

pub asked_with : (ask : Ask) (f0 f1 : ForeValue) → ask ≡ late_ask f1.machine.beam f1.machine.chips → HasAskedLate f0 f1 → HasAskedWith ask f0 f1
asked_with ask f0 f1 is asked =
    record { asks = subst (λ a. AsksInTime a f0.machine f1.machine) (sym is) asked.asks; same = asked.same }

pub late_access : (ask : Ask) (f0 f1 : ForeValue) (seen : RasterValue) (out : OutFilesValue) → ask ≡ late_ask f1.machine.beam f1.machine.chips
    → IsWithinLine f0 seen → HasAskedLate f0 f1 → CanAccess ask f1 seen
late_access ask f0 f1 seen out is w asked =
    can_access ask f0 f1 seen out w (asked_with ask f0 f1 is asked) (subst CanAsk (sym is) asked.able)
    (subst (λ a. IsBlitAsk a (kept_wish f1.machine.chips)) (sym is) asked.wish)

-- ---- clocks one behind the other

-- the first of n
pub first_can : (limit n : ℕ) (rules : Option FetchRules) (rest : ℕ) (claim : BlitterClaim) (f : ForeValue) (seen : RasterValue) → 0 < n
    → CanMakeClocks limit n rules rest claim f → CanGo f seen → f.spent ≡ false → CanMakeClock rules rest claim f seen
first_can limit n rules rest claim f seen some can able fresh =
    let are : AreInLine limit n f = can.line some in
    record {
      within = record {
        underway = able fresh;
        running = are.running;
        inner = are.inner;
        last = (let line = are.line in omega (arith, line, some));
        due = first_due limit n f some are;
        ready = can.ready some;
      };
      leaves = first_leaves rules n f.machine.beam f.machine.chips some (can.leave some);
      claims = can.claims some;
      rests = can.rests some;
    }

-- and those behind it
pub next_can : (limit n : ℕ) (rules : Option FetchRules) (rest more : ℕ) (claim : BlitterClaim) (f g : ForeValue) (seen after : RasterValue)
    (out given : OutFilesValue) → 0 < n → CanMakeClocks limit n rules rest claim f → g.run ≡ f.run → HasMadeClock f g seen after out given
    → GoesOnBus rules more f g → CanMakeClocks limit (n - 1) rules more claim g
next_can limit n rules rest more claim f g seen after out given some can run made goes = record {
  line = λ k. in_line_next limit n f g some (can.line some) run made.count made.place;
  leave = λ k. leave_next rules n f.machine.beam g.machine.beam f.machine.chips g.machine.chips some (can.leave some) made.place goes.chips;
  ready = λ k. goes.ready;
  claims = λ k. claim_kept claim rules f.machine.chips g.machine.chips goes.chips (can.claims some);
  rests = λ k. goes.rests;
}

-- what was run, and one clock more
pub run_and_clock : (limit : ℕ) (f0 f g : ForeValue) (able s0 s1 s2 : RasterValue) (o0 o1 o2 : OutFilesValue) → CanGo f able → f.spent ≡ false
    → f.run ≡ f0.run → f.machine.t < limit → HasRunOnBus limit f0 f s0 s1 o0 o1 → HasMadeClock f g s1 s2 o1 o2 → HasRunOnBus limit f0 g s0 s2 o0 o2
run_and_clock limit f0 f g able s0 s1 s2 o0 o1 o2 can fresh run before ran made =
    let on = ran.on in
    let count = made.count in
    record {
      clocks = runs_then f0 f g s0 s1 s2 o0 o1 o2 ran.clocks made.clock run made.count;
      on = omega (arith, on, count);
      most = omega (arith, before, count);
      reads = reads_then f0 f g able run ran.on fresh can ran.reads made.reads made.count;
    }

pub run_and_part : (limit : ℕ) (f0 f g : ForeValue) (able s0 s1 s2 : RasterValue) (o0 o1 o2 : OutFilesValue) → CanGo f able → f.spent ≡ false
    → f.run ≡ f0.run → f.machine.t < limit → HasRunOnBus limit f0 f s0 s1 o0 o1 → HasMadeClockInPart f g s1 s2 o1 o2
    → HasRunInPart limit f0 g s0 s2 o0 o2
run_and_part limit f0 f g able s0 s1 s2 o0 o1 o2 can fresh run before ran part = record {
  part = part_behind f0 f s0 s1 s2 o0 o1 o2 ran.clocks part.part run;
  few = few_behind f0 f g able limit run ran.on before fresh can ran.reads part.few;
}

-- and more that was run
pub run_and_run : (limit : ℕ) (f0 f g : ForeValue) (s0 s1 s2 : RasterValue) (o0 o1 o2 : OutFilesValue) → f.run ≡ f0.run → f.machine.t ≤ limit
    → HasRunOnBus limit f0 f s0 s1 o0 o1 → HasRunOnBus limit f g s1 s2 o1 o2 → HasRunOnBus limit f0 g s0 s2 o0 o2
run_and_run limit f0 f g s0 s1 s2 o0 o1 o2 run before ran more =
    let on0 = ran.on in
    let on1 = more.on in
    let most = more.most in
    record {
      clocks = runs_more f0 f g s0 s1 s2 o0 o1 o2 ran.clocks more.clocks run;
      on = omega (arith, on0, on1);
      most = omega (arith, before, most);
      reads = reads_twice f0 f g run ran.on more.on ran.reads more.reads;
    }

pub run_and_part_run : (limit : ℕ) (f0 f g : ForeValue) (s0 s1 s2 : RasterValue) (o0 o1 o2 : OutFilesValue) → f.run ≡ f0.run → f.machine.t ≤ limit
    → HasRunOnBus limit f0 f s0 s1 o0 o1 → HasRunInPart limit f g s1 s2 o1 o2 → HasRunInPart limit f0 g s0 s2 o0 o2
run_and_part_run limit f0 f g s0 s1 s2 o0 o1 o2 run before ran part = record {
  part = part_behind f0 f s0 s1 s2 o0 o1 o2 ran.clocks part.part run;
  few = few_twice f0 f g limit run ran.on before ran.reads part.few;
}

-- where nothing more was made
pub run_and_none : (limit : ℕ) (f0 f g : ForeValue) (s0 s1 : RasterValue) (o0 o1 o2 : OutFilesValue) → g ≡ f → o2 ≡ o1
    → HasRunOnBus limit f0 f s0 s1 o0 o1
    → HasRunOnBus limit f0 g s0 s1 o0 o2
run_and_none limit f0 f g s0 s1 o0 o1 o2 same untold ran =
    subst (λ x. HasRunOnBus limit f0 x s0 s1 o0 o2) (sym same) (subst (λ o. HasRunOnBus limit f0 f s0 s1 o0 o) (sym untold) ran)

-- what was run, with what is known of its last clock
pub record HasGoneOn (limit : ℕ) (f0 f : ForeValue) (s0 s : RasterValue) (o0 o : OutFilesValue) : Type 0 where
  pub able : CanGo f s
  pub fresh : f.spent ≡ false
  pub run : f.run ≡ f0.run
  pub ran : HasRunOnBus limit f0 f s0 s o0 o

pub gone_then : (limit : ℕ) (f0 f g : ForeValue) (s0 s1 s2 : RasterValue) (o0 o1 o2 : OutFilesValue) → HasGoneOn limit f0 f s0 s1 o0 o1
    → f.machine.t ≤ limit → g.run ≡ f.run → g.spent ≡ false → HasRunOnBus limit f g s1 s2 o1 o2 → HasGoneOn limit f0 g s0 s2 o0 o2
gone_then limit f0 f g s0 s1 s2 o0 o1 o2 gone before run fresh more = record {
  able = can_go_then f g s1 s2 o1 o2 more.clocks gone.fresh gone.able;
  fresh = fresh;
  run = run ∙ gone.run;
  ran = run_and_run limit f0 f g s0 s1 s2 o0 o1 o2 gone.run before gone.ran more;
}

pub gone_by_clock : (limit : ℕ) (f0 f g : ForeValue) (s0 s1 s2 : RasterValue) (o0 o1 o2 : OutFilesValue) → HasGoneOn limit f0 f s0 s1 o0 o1
    → f.machine.t < limit → g.run ≡ f.run → HasMadeClock f g s1 s2 o1 o2 → HasGoneOn limit f0 g s0 s2 o0 o2
gone_by_clock limit f0 f g s0 s1 s2 o0 o1 o2 gone before run made = record {
  able = can_go_on f g s1 s2 o1 o2 made.clock gone.fresh gone.able;
  fresh = made.spent ∙ gone.fresh;
  run = run ∙ gone.run;
  ran = run_and_clock limit f0 f g s1 s0 s1 s2 o0 o1 o2 gone.able gone.fresh gone.run before gone.ran made;
}

-- where memory was wanted in a clock behind it, or in clocks; that this is noted changes nothing of it
pub gone_in_part : (limit : ℕ) (f0 f g h : ForeValue) (s0 s1 s2 : RasterValue) (o0 o1 o2 : OutFilesValue) → HasGoneOn limit f0 f s0 s1 o0 o1
    → f.machine.t < limit → HasMadeClockInPart f g s1 s2 o1 o2 → h.machine.chip.reads ≡ g.machine.chip.reads → HasRunInPart limit f0 h s0 s2 o0 o2
gone_in_part limit f0 f g h s0 s1 s2 o0 o1 o2 gone before part same =
    run_and_part limit f0 f h s1 s0 s1 s2 o0 o1 o2 gone.able gone.fresh gone.run before gone.ran (same_part f g h s1 s2 o1 o2 same part)

pub gone_in_part_run : (limit : ℕ) (f0 f g h : ForeValue) (s0 s1 s2 : RasterValue) (o0 o1 o2 : OutFilesValue) → HasGoneOn limit f0 f s0 s1 o0 o1
    → f.machine.t ≤ limit → HasRunInPart limit f g s1 s2 o1 o2 → h.machine.chip.reads ≡ g.machine.chip.reads → HasRunInPart limit f0 h s0 s2 o0 o2
gone_in_part_run limit f0 f g h s0 s1 s2 o0 o1 o2 gone before part same =
    let few : HasRunInPart limit f0 g s0 s2 o0 o2 = run_and_part_run limit f0 f g s0 s1 s2 o0 o1 o2 gone.run before gone.ran part in
    record {
      part = few.part;
      few = subst (λ n. RisesInSome limit f0.run f0.machine.t f0.machine.chip.reads n) (sym same) few.few;
    }

-- where no more was given meanwhile
pub gone_untold : (limit : ℕ) (f0 f : ForeValue) (s0 s : RasterValue) (o0 o1 o2 : OutFilesValue) → o2 ≡ o1 → HasGoneOn limit f0 f s0 s o0 o1
    → HasGoneOn limit f0 f s0 s o0 o2
gone_untold limit f0 f s0 s o0 o1 o2 same gone = subst (λ o. HasGoneOn limit f0 f s0 s o0 o) (sym same) gone

-- ---- counts

pub all_left : (limit n : ℕ) (rules : Option FetchRules) (rest : ℕ) (claim : BlitterClaim) (f : ForeValue) → CanMakeClocks limit n rules rest claim f
    → CanMakeClocks limit (n - 0) rules (rest - 0) claim f
all_left limit n rules rest claim f can =
    let some : n ≡ n - 0 = omega arith in
    let more : rest ≡ rest - 0 = omega arith in
    subst (λ k. CanMakeClocks limit (n - 0) rules k claim f) more (subst (λ k. CanMakeClocks limit k rules rest claim f) some can)

pub fewer_left : (limit n made more rest : ℕ) (rules : Option FetchRules) (claim : BlitterClaim) (f : ForeValue)
    → CanMakeClocks limit (n - made - more) rules (rest - made - more) claim f
    → CanMakeClocks limit (n - (made + more)) rules (rest - (made + more)) claim f
fewer_left limit n made more rest rules claim f can =
    let some : n - made - more ≡ n - (made + more) = omega arith in
    let left : rest - made - more ≡ rest - (made + more) = omega arith in
    subst (λ k. CanMakeClocks limit (n - (made + more)) rules k claim f) left
    (subst (λ k. CanMakeClocks limit k rules (rest - made - more) claim f) some can)

pub none_fewer : (limit n made rest : ℕ) (rules : Option FetchRules) (claim : BlitterClaim) (f : ForeValue) → made ≡ 0
    → CanMakeClocks limit (n - made) rules (rest - made) claim f → CanMakeClocks limit n rules rest claim f
none_fewer limit n made rest rules claim f none can =
    let some : n - made ≡ n = omega (arith, none) in
    let left : rest - made ≡ rest = omega (arith, none) in
    subst (λ k. CanMakeClocks limit n rules k claim f) left (subst (λ k. CanMakeClocks limit k rules (rest - made) claim f) some can)
