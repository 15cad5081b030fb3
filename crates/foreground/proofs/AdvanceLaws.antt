-- One colour clock of the foreground, from its parts.
use Rattle.std.proofs.Common.{◌≡◌, ◌≤◌, ◌<◌, ◌==◌, ◌^◌, ℕ, zero, suc, ◌+◌, ◌-◌, min, Bool, true, false, List, []}
use Rattle.std.proofs.Common.{◌∷◌, ◌++◌, drop, arith, refl, ap, subst, ◌∙◌, sym, append_assoc, add-one, below_more}
use Rattle.std.proofs.lemmas.Bool.Decides.{nat_tests}
use Rattle.ocs_base.specs.Limits.{IsRunnable, AreInLimits}
use Rattle.ocs_base.specs.declared.beam.Beam.{Beam}
use Rattle.ocs_base.specs.declared.script.At.{At}
use Rattle.mem_versions.specs.Chip.{ChipValue}
use Rattle.out_files.specs.OutFiles.{OutFilesValue}
use Rattle.ocs_base.specs.declared.system.System.{System}
use Rattle.serial_model.specs.declared.trace.TraceLine.{TraceLine}
use Rattle.serial_model.specs.Beam.{IsOnScreen, place_of, next_place}
use Rattle.serial_model.specs.Tick.{run_processor, advance_beam}
use Rattle.serial_model.proofs.BeamLaws.{IsNext, next_place-IsNext}
use Rattle.serial_model.proofs.EventLaws.{AreFrom-next}
use Rattle.serial_bands.specs.Run.{RunValue, IsGoodRun, state_of, beam_at}
use Rattle.serial_bands.specs.Clock.{due_at}
use Rattle.serial_bands.specs.BusReads.{bus_reads}
use Rattle.serial_bands.specs.Bands.{has_clx_read, has_read_before}
use Rattle.serial_bands.proofs.BandRanges.{bytes_of_bands_tinted}
use Rattle.band_log.specs.Raster.{RasterValue}
use Rattle.out_files.specs.Gives.{Gives, GivesLines}
use Rattle.machine.specs.Machine.{MachineValue, Start, Stands, Makes, MakesQuietly, IsSamePlace, reads_more}
use Rattle.picture_log.specs.Log.{IsLogOf}
use Rattle.foreground.specs.Script.{IsLeft, IsMachine}
use Rattle.band_gather.specs.Gathered.{tinted_range}
use Rattle.serial_bands.specs.Access.{access_state, accessed_state}
use Rattle.foreground.specs.Clock.{AreLeftFrom, IsAt, IsBehindAccess, Tells, HasGiven, HasGivenPart, Rises}
use Rattle.foreground.specs.Fore.{ForeValue, HasScript, IsUnderway, HasAdvanced, Advances, GivesPart, is_done}
use Rattle.foreground.specs.Steps.{IsBefore, IsBehind, KeepsClock, HasBegunClock, BeginsClock, HasScriptBehind}
use Rattle.foreground.specs.Steps.{ReachesAccess, HasMadeAccess, MakesItsAccess, AccessesPart, EndsClock}
use Rattle.picture_log.specs.declared.log.Log.{Log}
use Rattle.out_files.proofs.GivesLaws.{gives_then}
use Rattle.machine.proofs.RunLaws.{stands_from, stands_behind_access}
use Rattle.machine.proofs.PlaceLaws.{IsOnScreen-same}
use Rattle.foreground.proofs.MadeLaws.{given_more, part_of_given}
use Rattle.foreground.proofs.LeftLaws.{left_from, started_band, log_band}

-- the steps behind the access, at one clock of a run
ends : (run : RunValue) (c first clx : ℕ) (m0 m1 m2 : MachineValue) (log : Log) (seen : RasterValue) (out given : OutFilesValue)
    → Makes run_processor m0 out m1 given → MakesQuietly (advance_beam run.script.system) m1 m2 → m2.chip ≡ m0.chip → IsBehindAccess run c first m0 log clx seen
    → IsAt run (c + 1) first m2 log clx seen × Tells (accessed_state run c) (state_of run (c + 1)) out given
ends run c first clx m0 m1 m2 log seen out given turns advances chip is =
    let start : Start = record { out = out; trace = (accessed_state run c).trace } in
    let after : Stands start m2 given (state_of run (c + 1)) =
    stands_behind_access run c m0 m1 m2 out given turns advances start (stands_from m0 out (accessed_state run c) is.machine) in (
      record {
        machine = after.machine;
        logged = subst (λ x. IsLogOf run (c + 1) log x) (sym chip) is.logged;
        fits = is.fits;
        gathered = is.gathered;
        cut = λ read. is.cut (sym (ap (λ k. has_read_before run k) (add-one c)) ∙ read);
        time = subst (λ (x : ChipValue). x.newest ≤ c + 1) (sym chip) is.time;
      },
      record { lines = after.told.lines; trace = after.told.trace; text = after.told.text },
    )

ends_at : (g : ForeValue) (m1 m2 : MachineValue) (out given : OutFilesValue) → Makes run_processor g.machine out m1 given
    → m1 ≡ record g.machine { chips = m1.chips } → MakesQuietly (advance_beam g.run.script.system) m1 m2 → m2.t ≡ m1.t + 1 → m2.chip ≡ m1.chip
    → EndsClock g (record g { machine = m2 }) out given
ends_at g m1 m2 out given turns same advances count chip =
    let kept : m2.chip ≡ g.machine.chip = chip ∙ ap (λ (m : MachineValue). m.chip) same in
    record {
      run = refl;
      next = refl;
      spent = refl;
      t = count ∙ ap (λ (m : MachineValue). m.t + 1) same;
      log = refl;
      clx = refl;
      chip = kept;
      stands = λ first seen is. ends g.run g.machine.t first g.clx g.machine m1 m2 g.log seen out given turns advances kept is;
    }

pub ends_clock : (system : System) (f g : ForeValue) (m1 m2 : MachineValue) (out given : OutFilesValue) → g ≡ f → system ≡ f.run.script.system
    → Makes run_processor g.machine out m1 given → m1 ≡ record g.machine { chips = m1.chips } → MakesQuietly (advance_beam system) m1 m2
    → m2.t ≡ m1.t + 1 → m2.chip ≡ m1.chip → EndsClock f (record g { machine = m2 }) out given
ends_clock system f g m1 m2 out given view by turns same advances count chip =
    let own : system ≡ g.run.script.system = by ∙ ap (λ (x : ForeValue). x.run.script.system) (sym view) in
    subst (λ x. EndsClock x (record g { machine = m2 }) out given) view
    (ends_at g m1 m2 out given turns same (subst (λ s. MakesQuietly (advance_beam s) m1 m2) own advances) count chip)

-- the next place of the beam
pub next_of : (system : System) (f g : ForeValue) (m1 : MachineValue) (b : Beam) (lace : Bool) → g ≡ f → system ≡ f.run.script.system
    → m1 ≡ record g.machine { chips = m1.chips } → b ≡ next_place system lace m1.beam → b ≡ next_place f.run.script.system lace f.machine.beam
next_of system f g m1 b lace view by same next =
    next ∙ ap (λ (m : MachineValue). next_place system lace m.beam) same ∙ ap (λ (x : ForeValue). next_place system lace x.machine.beam) view
    ∙ ap (λ s. next_place s lace f.machine.beam) by

-- the script's events that are left at the next place
limits_left : (system : System) (frames n : ℕ) (events : List At) → AreInLimits system frames events → AreInLimits system frames (drop n events)
limits_left system frames zero events limits = limits
limits_left system frames (suc n) [] limits = limits
limits_left system frames (suc n) (e ∷ events) limits = limits_left system frames n events limits.1

script_next : (run : RunValue) (b here next : Beam) (lace : Bool) (was left : ℕ) → IsRunnable run.script → HasScript run b was
    → HasScriptBehind run b was left → IsOnScreen b
    → IsSamePlace b here → next ≡ next_place run.script.system lace here → place_of b < place_of next → HasScript run next left
script_next run b here next lace was left good script behind on same is later =
    let at_place : place_of here ≡ place_of b = ap place_of same in
    let queue : IsLeft (place_of here + 1) (drop left run.script.events) =
    subst (λ n. IsLeft (n + 1) (drop left run.script.events)) (sym at_place) behind.left in
    record {
      within = behind.within;
      left = subst (λ b. IsLeft (place_of b) (drop left run.script.events)) (sym is) (record {
        system = queue.system;
        frames = queue.frames;
        queue = record {
          from = AreFrom-next run.script.system run.script.frames lace here (drop left run.script.events) (IsOnScreen-same b here same on)
              (limits_left run.script.system run.script.frames left run.script.events good.limits) queue.queue.from;
          order = queue.queue.order;
          limits = queue.queue.limits;
        };
      });
      same = λ other screen from. script.same other screen (omega (arith, later, from)) ∙ behind.later other screen (omega (arith, later, from));
    }

below : (frame frames : ℕ) → frame ≤ frames → (frame == frames) ≡ false → frame < frames
below frame frames most not = grind (arith, nat_tests)

-- a foreground that is underway and not done is at a clock of the run
pub going : (f : ForeValue) (first : ℕ) (seen : RasterValue) → IsUnderway f first seen → is_done f ≡ false
    → (beam_at f.run f.machine.t).frame < f.run.script.frames
going f first seen is not =
    subst (λ (b : Beam). b.frame < f.run.script.frames) (sym is.at.machine.beam) (below f.machine.beam.frame f.run.script.frames is.frame not)

-- so the next clock is underway
underway_next : (old new : ForeValue) (first until : ℕ) (seen after : RasterValue) (lace : Bool) (here : Beam) → IsUnderway old first seen
    → is_done old ≡ false → new.run ≡ old.run → new.machine.t ≡ old.machine.t + 1
    → IsAt old.run (old.machine.t + 1) until new.machine new.log new.clx after → HasScriptBehind old.run old.machine.beam old.next new.next
    → IsSamePlace old.machine.beam here → new.machine.beam ≡ next_place old.run.script.system lace here → IsUnderway new until after
underway_next old new first until seen after lace here is not run t at script same next =
    let on : IsOnScreen here = IsOnScreen-same old.machine.beam here same is.screen in
    let step : IsNext here new.machine.beam = subst (λ b. IsNext here b) (sym next) (next_place-IsNext old.run.script.system lace here on) in
    let at_place : place_of here ≡ place_of old.machine.beam = ap place_of same in
    let frame : here.frame ≡ old.machine.beam.frame = ap (λ (b : Beam). b.frame) same in
    let low : old.machine.beam.frame < old.run.script.frames = below old.machine.beam.frame old.run.script.frames is.frame not in
    let later : place_of old.machine.beam < place_of new.machine.beam = subst (λ n. n < place_of new.machine.beam) at_place step.later in
    let all : (k : ℕ) → k < old.machine.t + 1 → (beam_at old.run k).frame < old.run.script.frames =
    below_more _ _ is.running (going old first seen is not) in
    record {
      good = subst IsGoodRun (sym run) is.good;
      at = subst (λ r. IsAt r new.machine.t until new.machine new.log new.clx after) (sym run)
          (subst (λ k. IsAt old.run k until new.machine new.log new.clx after) (sym t) at);
      running = λ k before. subst (λ (r : RunValue). (beam_at r k).frame < r.script.frames) (sym run) (all k (omega (arith, before, t)));
      frame = subst (λ (r : RunValue). new.machine.beam.frame ≤ r.script.frames) (sym run) (omega (arith, step.one, frame, low));
      screen = step.screen;
      count = omega (arith, is.count, later, t);
      script = subst (λ r. HasScript r new.machine.beam new.next) (sym run)
          (script_next old.run old.machine.beam here new.machine.beam lace old.next new.next is.good.script is.script script is.screen same next
          later);
    }

-- what was given in two parts
pub given_then : (run : RunValue) (first mid until : ℕ) (seen between after : RasterValue) (old out new : OutFilesValue) (lines more : List TraceLine)
    → HasGiven run first mid seen between old out lines → HasGiven run mid until between after out new more
    → HasGiven run first until seen after old new (lines ++ more)
given_then run first mid until seen between after old out new lines more one two =
    let tinted : tinted_range run between.tint mid until ≡ tinted_range run seen.tint mid until = ap (λ t. tinted_range run t mid until) one.mark.tint in
    let whole : tinted_range run seen.tint first mid ++ tinted_range run between.tint mid until ≡ tinted_range run seen.tint first until =
    ap (λ p. tinted_range run seen.tint first mid ++ p) tinted ∙ bytes_of_bands_tinted run seen.tint first mid until one.least two.least in
    record {
      least = (let a : first ≤ mid = one.least in let b : mid ≤ until = two.least in omega arith);
      mark = record {
        bound = two.mark.bound ∙ one.mark.bound;
        mark = two.mark.mark ∙ one.mark.mark;
        tint = two.mark.tint ∙ one.mark.tint;
      };
      text = subst (λ p. Gives old new p (lines ++ more)) whole
          (gives_then old out new (tinted_range run seen.tint first mid) (tinted_range run between.tint mid until) lines more one.text two.text);
    }

-- and where memory was wanted in the second
pub given_part : (run : RunValue) (first mid : ℕ) (seen between after : RasterValue) (old out new : OutFilesValue) (lines : List TraceLine)
    → HasGiven run first mid seen between old out lines → HasGivenPart run mid between after out new → HasGivenPart run first seen after old new
given_part run first mid seen between after old out new lines one two =
    let tinted : tinted_range run between.tint mid two.until ≡ tinted_range run seen.tint mid two.until =
    ap (λ t. tinted_range run t mid two.until) one.mark.tint in
    record {
      until = two.until;
      least = (let a : first ≤ mid = one.least in let b : mid ≤ two.until = two.least in omega arith);
      left = two.left;
      mark = record {
        bound = two.mark.bound ∙ one.mark.bound;
        mark = two.mark.mark ∙ one.mark.mark;
        tint = two.mark.tint ∙ one.mark.tint;
      };
      part = tinted_range run seen.tint first mid ++ two.part;
      rest = two.rest;
      lines = lines ++ two.lines;
      split = append_assoc (tinted_range run seen.tint first mid) two.part two.rest
          ∙ ap (λ p. tinted_range run seen.tint first mid ++ p) (two.split ∙ tinted)
          ∙ bytes_of_bands_tinted run seen.tint first mid two.until one.least two.least;
      text = gives_then old out new (tinted_range run seen.tint first mid) two.part lines two.lines one.text two.text;
    }

-- once its band has begun
script_begun : (f0 f1 : ForeValue) (first clx : ℕ) (seen after : RasterValue) (out given : OutFilesValue) → HasBegunClock f0 f1 first clx seen after out given
    → HasScript f0.run f0.machine.beam f0.next → HasScript f1.run f1.machine.beam f1.next
script_begun f0 f1 first clx seen after out given begun script =
    subst (λ (f : ForeValue). HasScript f.run f.machine.beam f.next) (sym begun.same) script

bits_begun : (f0 f1 : ForeValue) (first clx : ℕ) (seen after : RasterValue) (out given : OutFilesValue) → HasBegunClock f0 f1 first clx seen after out given
    → has_clx_read (due_at f1.run f1.machine.t) ≡ true → (state_of f1.run f1.machine.t).clx ≡ clx
bits_begun f0 f1 first clx seen after out given begun =
    subst (λ (f : ForeValue). has_clx_read (due_at f.run f.machine.t) ≡ true → (state_of f.run f.machine.t).clx ≡ clx) (sym begun.same) begun.bits

-- what the steps up to the access make of a foreground whose band has begun
reached : (f0 f1 f2 : ForeValue) (first clx : ℕ) (seen s1 : RasterValue) (o0 o1 o2 : OutFilesValue) → IsUnderway f0 first seen
    → (begun : HasBegunClock f0 f1 first clx seen s1 o0 o1) → ReachesAccess clx f1 f2 o1 o2
    → IsBefore f2 begun.until s1 × Tells (state_of f1.run f1.machine.t) (access_state f1.run f1.machine.t) o1 o2
reached f0 f1 f2 first clx seen s1 o0 o1 o2 is begun reaches =
    reaches.stands begun.until s1 begun.begun (script_begun f0 f1 first clx seen s1 o0 o1 begun is.script)
    (bits_begun f0 f1 first clx seen s1 o0 o1 begun)

-- and what was given so far
given_reached : (f0 f1 f2 : ForeValue) (first clx : ℕ) (seen s1 : RasterValue) (o0 o1 o2 : OutFilesValue) → (is : IsUnderway f0 first seen)
    → (begun : HasBegunClock f0 f1 first clx seen s1 o0 o1) → (reaches : ReachesAccess clx f1 f2 o1 o2)
    → HasGiven f0.run first begun.until seen s1 o0 o2 (reached f0 f1 f2 first clx seen s1 o0 o1 o2 is begun reaches).1.lines
given_reached f0 f1 f2 first clx seen s1 o0 o1 o2 is begun reaches =
    let told = (reached f0 f1 f2 first clx seen s1 o0 o1 o2 is begun reaches).1 in
    given_more f0.run first begun.until seen s1 o0 o1 o2 [] told.lines begun.gives told.text

given_made : (f0 f1 f2 f3 : ForeValue) (first clx : ℕ) (seen s1 s2 : RasterValue) (o0 o1 o2 o3 : OutFilesValue) → (is : IsUnderway f0 first seen)
    → (begun : HasBegunClock f0 f1 first clx seen s1 o0 o1) → (reaches : ReachesAccess clx f1 f2 o1 o2)
    → (made : HasMadeAccess f2 f3 begun.until s1 s2 o2 o3)
    → HasGiven f0.run first made.until seen s2 o0 o3 ((reached f0 f1 f2 first clx seen s1 o0 o1 o2 is begun reaches).1.lines ++ made.lines)
given_made f0 f1 f2 f3 first clx seen s1 s2 o0 o1 o2 o3 is begun reaches made =
    let run : f2.run ≡ f0.run = reaches.run ∙ ap (λ (f : ForeValue). f.run) begun.same in
    given_then f0.run first begun.until made.until seen s1 s2 o0 o2 o3 (reached f0 f1 f2 first clx seen s1 o0 o1 o2 is begun reaches).1.lines made.lines
    (given_reached f0 f1 f2 first clx seen s1 o0 o1 o2 is begun reaches)
    (subst (λ r. HasGiven r begun.until made.until s1 s2 o2 o3 made.lines) run made.gives)

-- the trace of a clock, from the lines of its parts
traces : (run : RunValue) (c : ℕ) (l2 lm l4 : List TraceLine) → (access_state run c).trace ≡ (state_of run c).trace ++ l2
    → (accessed_state run c).trace ≡ (access_state run c).trace ++ lm → (state_of run (c + 1)).trace ≡ (accessed_state run c).trace ++ l4
    → (state_of run (c + 1)).trace ≡ (state_of run c).trace ++ ((l2 ++ lm) ++ l4)
traces run c l2 lm l4 first second third =
    third
    ∙ ap (λ t. t ++ l4) (second ∙ ap (λ t. t ++ lm) first ∙ append_assoc (state_of run c).trace l2 lm)
    ∙ append_assoc (state_of run c).trace (l2 ++ lm) l4

-- run, clock and place through the parts
run_begun : (f0 f1 : ForeValue) (first clx : ℕ) (seen after : RasterValue) (out given : OutFilesValue) → HasBegunClock f0 f1 first clx seen after out given
    → (f1.run ≡ f0.run) × (f1.machine.t ≡ f0.machine.t) × (f1.machine.beam ≡ f0.machine.beam) × (f1.next ≡ f0.next)
run_begun f0 f1 first clx seen after out given begun = (
  ap (λ (f : ForeValue). f.run) begun.same,
  ap (λ (f : ForeValue). f.machine.t) begun.same,
  ap (λ (f : ForeValue). f.machine.beam) begun.same,
  ap (λ (f : ForeValue). f.next) begun.same,
)

same_place_then : (a b c : Beam) → IsSamePlace a b → IsSamePlace b c → IsSamePlace a c
same_place_then a b c first second = second ∙ ap (λ (x : Beam). record x { lof = c.lof }) first

-- the end of a clock, once its access was made
advanced : (f0 f1 f2 f3 f4 : ForeValue) (first clx : ℕ) (lace : Bool) (seen s1 s2 : RasterValue) (o0 o1 o2 o3 o4 : OutFilesValue)
    → (is : IsUnderway f0 first seen) → is_done f0 ≡ false → (begun : HasBegunClock f0 f1 first clx seen s1 o0 o1) → ReachesAccess clx f1 f2 o1 o2
    → HasMadeAccess f2 f3 begun.until s1 s2 o2 o3 → KeepsClock f2 f3 → EndsClock f3 f4 o3 o4 → f4.machine.beam ≡ next_place f3.run.script.system lace
    f3.machine.beam
    → HasAdvanced f0 f4 first seen s2 o0 o4
advanced f0 f1 f2 f3 f4 first clx lace seen s1 s2 o0 o1 o2 o3 o4 is not begun reaches made kept end next =
    let r : RunValue = f0.run in
    let c : ℕ = f0.machine.t in
    let at_begin = run_begun f0 f1 first clx seen s1 o0 o1 begun in
    let run1 : f1.run ≡ r = at_begin.0 in
    let t1 : f1.machine.t ≡ c = at_begin.1 in
    let run2 : f2.run ≡ r = reaches.run ∙ run1 in
    let t2 : f2.machine.t ≡ c = reaches.t ∙ t1 in
    let run3 : f3.run ≡ r = kept.run ∙ run2 in
    let t3 : f3.machine.t ≡ c = kept.t ∙ t2 in
    let l2 = (reached f0 f1 f2 first clx seen s1 o0 o1 o2 is begun reaches).1 in
    let last : IsAt f3.run (f3.machine.t + 1) made.until f4.machine f4.log f4.clx s2
    × Tells (accessed_state f3.run f3.machine.t) (state_of f3.run (f3.machine.t + 1)) o3 o4 = end.stands made.until s2 made.behind in
    let at : IsAt r (c + 1) made.until f4.machine f4.log f4.clx s2 =
    subst (λ k. IsAt r (k + 1) made.until f4.machine f4.log f4.clx s2) t3
    (subst (λ x. IsAt x (f3.machine.t + 1) made.until f4.machine f4.log f4.clx s2) run3 last.0) in
    let trace2 : (access_state r c).trace ≡ (state_of r c).trace ++ l2.lines =
    subst (λ k. (access_state r k).trace ≡ (state_of r k).trace ++ l2.lines) t1
    (subst (λ x. (access_state x f1.machine.t).trace ≡ (state_of x f1.machine.t).trace ++ l2.lines) run1 l2.trace) in
    let tracem : (accessed_state r c).trace ≡ (access_state r c).trace ++ made.lines =
    subst (λ k. (accessed_state r k).trace ≡ (access_state r k).trace ++ made.lines) t2
    (subst (λ x. (accessed_state x f2.machine.t).trace ≡ (access_state x f2.machine.t).trace ++ made.lines) run2 made.trace) in
    let trace4 : (state_of r (c + 1)).trace ≡ (accessed_state r c).trace ++ last.1.lines =
    subst (λ k. (state_of r (k + 1)).trace ≡ (accessed_state r k).trace ++ last.1.lines) t3
    (subst (λ x. (state_of x (f3.machine.t + 1)).trace ≡ (accessed_state x f3.machine.t).trace ++ last.1.lines) run3 last.1.trace) in
    let place : IsSamePlace f0.machine.beam f3.machine.beam =
    same_place_then f0.machine.beam f2.machine.beam f3.machine.beam
    (subst (λ b. IsSamePlace b f2.machine.beam) at_begin.2 reaches.beam) kept.beam in
    let script1 : HasScriptBehind f1.run f1.machine.beam f1.next f2.next =
    reaches.script (script_begun f0 f1 first clx seen s1 o0 o1 begun is.script) in
    let script : HasScriptBehind r f0.machine.beam f0.next f4.next =
    subst (λ n. HasScriptBehind r f0.machine.beam f0.next n) (sym (end.next ∙ kept.next))
    (subst (λ (f : ForeValue). HasScriptBehind f.run f.machine.beam f.next f2.next) begun.same script1) in
    record {
      until = made.until;
      stands = underway_next f0 f4 first made.until seen s2 lace f3.machine.beam is not (end.run ∙ run3) (end.t ∙ ap (λ k. k + 1) t3) at script place
          (next ∙ ap (λ (x : RunValue). next_place x.script.system lace f3.machine.beam) run3);
      lines = (l2.lines ++ made.lines) ++ last.1.lines;
      trace = traces r c l2.lines made.lines last.1.lines trace2 tracem trace4;
      gives = given_more r first made.until seen s2 o0 o3 o4 (l2.lines ++ made.lines) last.1.lines
          (given_made f0 f1 f2 f3 first clx seen s1 s2 o0 o1 o2 o3 is begun reaches made) last.1.text;
    }

pub advances : (f0 f1 f2 f3 f4 : ForeValue) (clx : ℕ) (lace : Bool) (seen s1 s2 : RasterValue) (o0 o1 o2 o3 o4 : OutFilesValue)
    → is_done f0 ≡ false → BeginsClock f0 f1 clx seen s1 o0 o1 → ReachesAccess clx f1 f2 o1 o2
    → MakesItsAccess f2 f3 s1 s2 o2 o3 → KeepsClock f2 f3 → EndsClock f3 f4 o3 o4 → f4.machine.beam ≡ next_place f3.run.script.system lace f3.machine.beam
    → Advances f0 f4 seen s2 o0 o4
advances f0 f1 f2 f3 f4 clx lace seen s1 s2 o0 o1 o2 o3 o4 not begins reaches makes kept end next first is =
    let begun : HasBegunClock f0 f1 first clx seen s1 o0 o1 = begins first is in
    let before = (reached f0 f1 f2 first clx seen s1 o0 o1 o2 is begun reaches).0 in
    advanced f0 f1 f2 f3 f4 first clx lace seen s1 s2 o0 o1 o2 o3 o4 is not begun reaches (makes begun.until before) kept end next

-- which bands are outstanding then
left_begun : (f0 f1 : ForeValue) (first clx : ℕ) (seen s1 : RasterValue) (o0 o1 : OutFilesValue) (begun : HasBegunClock f0 f1 first clx seen s1 o0 o1)
    → AreLeftFrom f0.run begun.until s1
left_begun f0 f1 first clx seen s1 o0 o1 begun =
    subst (λ r. AreLeftFrom r begun.until s1) (ap (λ (f : ForeValue). f.run) begun.same)
    (left_from f1.run f1.log.band.number f1.log.band.from begun.until s1
    (started_band f1.run f1.machine.t f1.log f1.machine.chip begun.begun.logged) begun.begun.fits)

left_behind : (f : ForeValue) (until : ℕ) (seen : RasterValue) → IsBehind f until seen → AreLeftFrom f.run until seen
left_behind f until seen is =
    left_from f.run f.log.band.number f.log.band.from until seen
    (log_band f.run (f.machine.t + 1) f.log f.machine.chip is.logged) is.fits

-- where memory was wanted in the steps up to the access, in the access, and behind it
pub part_reaching : (f0 f1 : ForeValue) (clx : ℕ) (seen s1 : RasterValue) (o0 o1 o2 : OutFilesValue) → BeginsClock f0 f1 clx seen s1 o0 o1
    → GivesLines o1 o2 → GivesPart f0 seen s1 o0 o2
part_reaching f0 f1 clx seen s1 o0 o1 o2 begins told first is =
    let begun : HasBegunClock f0 f1 first clx seen s1 o0 o1 = begins first is in
    part_of_given f0.run first begun.until seen s1 o0 o2 ([] ++ told.0) (left_begun f0 f1 first clx seen s1 o0 o1 begun)
    (given_more f0.run first begun.until seen s1 o0 o1 o2 [] told.0 begun.gives told.1)

pub part_accessing : (f0 f1 f2 : ForeValue) (clx : ℕ) (seen s1 s2 : RasterValue) (o0 o1 o2 o3 : OutFilesValue) → BeginsClock f0 f1 clx seen s1 o0 o1
    → ReachesAccess clx f1 f2 o1 o2 → AccessesPart f2 s1 s2 o2 o3 → GivesPart f0 seen s2 o0 o3
part_accessing f0 f1 f2 clx seen s1 s2 o0 o1 o2 o3 begins reaches part first is =
    let begun : HasBegunClock f0 f1 first clx seen s1 o0 o1 = begins first is in
    let before = reached f0 f1 f2 first clx seen s1 o0 o1 o2 is begun reaches in
    let run : f2.run ≡ f0.run = reaches.run ∙ ap (λ (f : ForeValue). f.run) begun.same in
    given_part f0.run first begun.until seen s1 s2 o0 o2 o3 before.1.lines (given_reached f0 f1 f2 first clx seen s1 o0 o1 o2 is begun reaches)
    (subst (λ r. HasGivenPart r begun.until s1 s2 o2 o3) run (part begun.until before.0.logged))

pub part_ending : (f0 f1 f2 f3 : ForeValue) (clx : ℕ) (seen s1 s2 : RasterValue) (o0 o1 o2 o3 o4 : OutFilesValue) → BeginsClock f0 f1 clx seen s1 o0 o1
    → ReachesAccess clx f1 f2 o1 o2 → MakesItsAccess f2 f3 s1 s2 o2 o3 → KeepsClock f2 f3 → o4 ≡ o3 → GivesPart f0 seen s2 o0 o4
part_ending f0 f1 f2 f3 clx seen s1 s2 o0 o1 o2 o3 o4 begins reaches makes kept same first is =
    let begun : HasBegunClock f0 f1 first clx seen s1 o0 o1 = begins first is in
    let before = reached f0 f1 f2 first clx seen s1 o0 o1 o2 is begun reaches in
    let made : HasMadeAccess f2 f3 begun.until s1 s2 o2 o3 = makes begun.until before.0 in
    let run : f3.run ≡ f0.run = kept.run ∙ reaches.run ∙ ap (λ (f : ForeValue). f.run) begun.same in
    subst (λ o. HasGivenPart f0.run first seen s2 o0 o) (sym same)
    (part_of_given f0.run first made.until seen s2 o0 o3 (before.1.lines ++ made.lines)
    (subst (λ r. AreLeftFrom r made.until s2) run (left_behind f3 made.until s2 made.behind))
    (given_made f0 f1 f2 f3 first clx seen s1 s2 o0 o1 o2 o3 is begun reaches made))

-- what the parts need
pub script_at_begin : (f0 f1 : ForeValue) (first clx : ℕ) (seen s1 : RasterValue) (o0 o1 : OutFilesValue) → IsUnderway f0 first seen
    → BeginsClock f0 f1 clx seen s1 o0 o1 → HasScript f1.run f1.machine.beam f1.next
script_at_begin f0 f1 first clx seen s1 o0 o1 is begins = script_begun f0 f1 first clx seen s1 o0 o1 (begins first is) is.script

pub screen_at_begin : (f0 f1 : ForeValue) (first clx : ℕ) (seen s1 : RasterValue) (o0 o1 : OutFilesValue) → IsUnderway f0 first seen
    → BeginsClock f0 f1 clx seen s1 o0 o1 → IsOnScreen f1.machine.beam
screen_at_begin f0 f1 first clx seen s1 o0 o1 is begins =
    subst (λ (f : ForeValue). IsOnScreen f.machine.beam) (sym (begins first is).same) is.screen

pub machine_at_begin : (f0 f1 : ForeValue) (first clx : ℕ) (seen s1 : RasterValue) (o0 o1 : OutFilesValue) → IsUnderway f0 first seen
    → BeginsClock f0 f1 clx seen s1 o0 o1 → IsMachine f1.machine
machine_at_begin f0 f1 first clx seen s1 o0 o1 is begins = (state_of f1.run f1.machine.t, (begins first is).begun.machine)

pub before_access_of : (f0 f1 f2 : ForeValue) (first clx : ℕ) (seen s1 : RasterValue) (o0 o1 o2 : OutFilesValue) → IsUnderway f0 first seen
    → BeginsClock f0 f1 clx seen s1 o0 o1 → ReachesAccess clx f1 f2 o1 o2 → (until : ℕ) × IsBefore f2 until s1
before_access_of f0 f1 f2 first clx seen s1 o0 o1 o2 is begins reaches =
    ((begins first is).until, (reached f0 f1 f2 first clx seen s1 o0 o1 o2 is (begins first is) reaches).0)

-- clocks and frames of a run are few
place_few : (b : Beam) (frames : ℕ) → IsOnScreen b → b.frame < frames → frames ≤ 1000 → place_of b < 2 ^ 32
place_few b frames on going most = grind (arith, on.line, on.clock)

pub clocks_are_few : (f : ForeValue) (first : ℕ) (seen : RasterValue) → IsUnderway f first seen → is_done f ≡ false → f.machine.t < 2 ^ 32
clocks_are_few f first seen is not =
    let low : f.machine.beam.frame < f.run.script.frames = below f.machine.beam.frame f.run.script.frames is.frame not in
    omega (arith, is.count, place_few f.machine.beam f.run.script.frames is.screen low is.good.script.most)

pub frames_are_few : (f : ForeValue) (first : ℕ) (seen : RasterValue) → IsUnderway f first seen → f.machine.beam.frame ≤ 1000
frames_are_few f first seen is = omega (arith, is.frame, is.good.script.most)

-- the place of the beam through the parts
pub place_made : (f0 f1 f2 f3 : ForeValue) (first clx : ℕ) (seen s1 : RasterValue) (o0 o1 o2 : OutFilesValue) → IsUnderway f0 first seen
    → BeginsClock f0 f1 clx seen s1 o0 o1 → ReachesAccess clx f1 f2 o1 o2 → KeepsClock f2 f3
    → IsSamePlace f0.machine.beam f3.machine.beam × (f3.machine.t ≡ f0.machine.t)
place_made f0 f1 f2 f3 first clx seen s1 o0 o1 o2 is begins reaches kept =
    let at_begin = run_begun f0 f1 first clx seen s1 o0 o1 (begins first is) in (
      same_place_then f0.machine.beam f2.machine.beam f3.machine.beam
          (subst (λ b. IsSamePlace b f2.machine.beam) at_begin.2 reaches.beam) kept.beam,
      kept.t ∙ reaches.t ∙ at_begin.1,
    )

pub screen_made : (old new : Beam) → IsSamePlace old new → IsOnScreen old → IsOnScreen new
screen_made old new same on = IsOnScreen-same old new same on

pub room_for_clock : (f0 f2 : ForeValue) (first : ℕ) (seen : RasterValue) → IsUnderway f0 first seen → is_done f0 ≡ false → f2.machine.t ≡ f0.machine.t
    → f2.machine.t + 1 < 2 ^ 64
room_for_clock f0 f2 first seen is not same =
    let few : f0.machine.t < 2 ^ 32 = clocks_are_few f0 first seen is not in
    omega (arith, few, same)

pub room_for_frame : (f0 f3 : ForeValue) (first : ℕ) (seen : RasterValue) → IsUnderway f0 first seen → IsSamePlace f0.machine.beam f3.machine.beam
    → f3.machine.beam.frame + 1 < 2 ^ 32
room_for_frame f0 f3 first seen is place =
    let same : f3.machine.beam.frame ≡ f0.machine.beam.frame = ap (λ (b : Beam). b.frame) place in
    omega (arith, same, frames_are_few f0 first seen is)

-- the count of reads through a clock: words are looked up before its access, which reads some
count_up : (n more a b d : ℕ) → min (a + 0) (2 ^ 64 - 1) ≤ b → b ≤ a + more → d ≡ reads_more n b → Rises n (n + more) a d
count_up n more a b d low high is = record { least_rise = grind (arith, nat_tests); most_rise = grind (arith, nat_tests) }

count_few : (n more a b d : ℕ) → min (a + 0) (2 ^ 64 - 1) ≤ b → b ≤ a + more → d ≡ reads_more n b → Rises 0 (n + more) a d
count_few n more a b d low high is = record { least_rise = grind (arith, nat_tests); most_rise = grind (arith, nat_tests) }

bus_same : (f0 f2 : ForeValue) → f2.run ≡ f0.run → f2.machine.t ≡ f0.machine.t → bus_reads f2.run f2.machine.t ≡ bus_reads f0.run f0.machine.t
bus_same f0 f2 run t = ap (λ r. bus_reads r f2.machine.t) run ∙ ap (λ k. bus_reads f0.run k) t

pub rises_in_clock : (f0 f1 f2 f3 : ForeValue) (more reads : ℕ) → Rises 0 more f0.machine.chip.reads f1.machine.chip.reads
    → f2.machine.chip.reads ≡ f1.machine.chip.reads → f3.machine.chip.reads ≡ reads_more (bus_reads f2.run f2.machine.t) f2.machine.chip.reads
    → reads ≡ f3.machine.chip.reads → f2.run ≡ f0.run → f2.machine.t ≡ f0.machine.t
    → Rises (bus_reads f0.run f0.machine.t) (bus_reads f0.run f0.machine.t + more) f0.machine.chip.reads reads
rises_in_clock f0 f1 f2 f3 more reads begin same access end run t =
    count_up (bus_reads f0.run f0.machine.t) more f0.machine.chip.reads f1.machine.chip.reads reads begin.least_rise begin.most_rise
    (end ∙ access ∙ ap (λ k. reads_more (bus_reads f2.run f2.machine.t) k) same ∙ ap (λ n. reads_more n f1.machine.chip.reads) (bus_same f0 f2 run t))

pub rises_at_refusal : (f0 f1 f2 f3 : ForeValue) (more reads : ℕ) → Rises 0 more f0.machine.chip.reads f1.machine.chip.reads
    → f2.machine.chip.reads ≡ f1.machine.chip.reads → f3.machine.chip.reads ≡ reads_more (bus_reads f2.run f2.machine.t) f2.machine.chip.reads
    → reads ≡ f3.machine.chip.reads → f2.run ≡ f0.run → f2.machine.t ≡ f0.machine.t
    → Rises 0 (bus_reads f0.run f0.machine.t + more) f0.machine.chip.reads reads
rises_at_refusal f0 f1 f2 f3 more reads begin same access end run t =
    count_few (bus_reads f0.run f0.machine.t) more f0.machine.chip.reads f1.machine.chip.reads reads begin.least_rise begin.most_rise
    (end ∙ access ∙ ap (λ k. reads_more (bus_reads f2.run f2.machine.t) k) same ∙ ap (λ n. reads_more n f1.machine.chip.reads) (bus_same f0 f2 run t))

pub rises_less : (n more a b : ℕ) → Rises 0 more a b → Rises 0 (n + more) a b
rises_less n more a b rises = record { least_rise = rises.least_rise; most_rise = omega (arith, rises.most_rise) }
