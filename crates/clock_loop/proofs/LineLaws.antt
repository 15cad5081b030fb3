-- Clocks of a line that are made one behind the other.
use Rattle.std.proofs.Common.{◌≡◌, ◌≤◌, ◌<◌, ℕ, zero, suc, ◌+◌, ◌-◌, max, ◌==◌, Bool, false, if◌then◌else◌}
use Rattle.std.proofs.Common.{List, [], drop, length, arith, refl, ap, subst, ◌∙◌, sym}
use Rattle.std.proofs.lemmas.Bool.Decides.{nat_tests}
use Rattle.ocs_base.specs.declared.beam.Beam.{Beam}
use Rattle.ocs_base.specs.declared.script.At.{At}
use Rattle.ocs_base.specs.declared.system.System.{System}
use Rattle.out_files.specs.OutFiles.{OutFilesValue}
use Rattle.quiet_clocks.proofs.PlainClock.{else_of}
use Rattle.quiet_clocks.proofs.QuietClocks.{next_later}
use Rattle.serial_model.specs.Beam.{IsOnScreen, is_line_start, is_field_start, next_place, later_beam}
use Rattle.serial_model.specs.Events.{due_events, touches_of}
use Rattle.serial_model.specs.State.{Chips}
use Rattle.serial_model.specs.Tick.{start_chips, start_clock}
use Rattle.serial_bands.specs.Bands.{is_band_place, has_clx_read}
use Rattle.serial_bands.specs.BusReads.{bus_reads, word_registers}
use Rattle.serial_bands.specs.Clock.{due_at}
use Rattle.serial_bands.specs.Run.{RunValue, beam_at}
use Rattle.band_log.specs.Raster.{RasterValue}
use Rattle.chip_set.specs.Chips.{IsChipsOf}
use Rattle.foreground.specs.Clock.{Rises}
use Rattle.foreground.specs.Fore.{ForeOf, ForeValue, HasScript, IsUnderway, CanGo}
use Rattle.clock_loop.specs.code.Line.{AreInLine}
use Rattle.picture_log.specs.Log.{with_script_touches}
use Rattle.machine.specs.Machine.{MachineValue, MakesQuietly, IsSamePlace}
use Rattle.clock_loop.specs.RunTo.{HasRunOn, RunsOn, reads_from, looked_from, RisesIn, RisesInSome}
use Rattle.foreground.specs.Script.{MakesEvents}
use Rattle.foreground.specs.Steps.{HasScriptBehind, RunsEvents}
use Rattle.foreground.proofs.EmptyLaws.{none_happen, none_touched}
use Rattle.clock_loop.proofs.QuietLaws.{no_place, reads_no_bits, left_next}
use Rattle.clock_loop.proofs.RunToLaws.{rises_twice, rises_within}

-- ---- the first two steps

-- no line starts
starts_no_chips : (b : Beam) (c : Chips) → 0 < b.h → start_chips b c ≡ c
starts_no_chips b c inner =
    let line : is_line_start b ≡ false = grind (arith, nat_tests, inner) in
    let field : is_field_start b ≡ false = grind (arith, nat_tests, inner) in
    else_of (is_line_start b) _ _ line ∙ else_of (is_field_start b) _ c field

starts_quietly : (m : MachineValue) → 0 < m.beam.h → MakesQuietly start_clock m m
starts_quietly m inner out start s stands =
    let here : 0 < s.beam.h = subst (λ (b : Beam). 0 < b.h) (sym stands.machine.beam) inner in
    record {
      machine = record {
        t = stands.machine.t;
        beam = stands.machine.beam;
        memory = stands.machine.memory;
        chips = subst (λ (c : Chips). IsChipsOf m.chips c) (sym (starts_no_chips s.beam s.chips here)) stands.machine.chips;
        side = stands.machine.side;
      };
      told = record { lines = stands.told.lines; trace = stands.told.trace; text = stands.told.text };
    }

-- no event is due
behind_none : (run : RunValue) (b : Beam) (next : ℕ) → HasScript run b next → IsOnScreen b → due_events b run.script.events ≡ []
    → HasScriptBehind run b next next
behind_none run b next script on none = record {
  within = script.within;
  left = left_next b (drop next run.script.events) on script.left (sym (script.same b on (omega arith)) ∙ none);
  later = λ later screen after. refl;
}

pub runs_no_event : (f : ForeValue) (out : OutFilesValue) → 0 < f.machine.beam.h → HasScript f.run f.machine.beam f.next → IsOnScreen f.machine.beam
    → due_events f.machine.beam f.run.script.events ≡ [] → RunsEvents 0 f f out out
runs_no_event f out inner script on none = record {
  started = f.machine;
  start = starts_quietly f.machine inner;
  first = refl;
  events = subst (λ (events : List At). MakesEvents 0 events f.machine out f.machine out) (sym none) (none_happen 0 f.machine out);
  place = record { t = refl; beam = refl; chip = refl };
  notes = none_touched f.machine.t f.log ∙ ap (λ (events : List At). with_script_touches f.machine.t (touches_of events) f.log) (sym none);
  script = behind_none f.run f.machine.beam f.next script on none;
  same = refl;
}

-- the same of a foreground whose band went on
pub runs_none_behind : (f g : ForeValue) (first : ℕ) (seen : RasterValue) (out : OutFilesValue) → g ≡ record f { log = g.log } → IsUnderway f first seen
    → 0 < f.machine.beam.h → due_events f.machine.beam f.run.script.events ≡ [] → RunsEvents 0 g g out out
runs_none_behind f g first seen out same is inner none =
    subst (λ (x : ForeValue). RunsEvents 0 x x out out) (sym same)
    (runs_no_event (record f { log = g.log }) out inner is.script is.screen none)

-- no band begins
pub no_read_due : (f : ForeValue) (first : ℕ) (seen : RasterValue) → IsUnderway f first seen → due_events f.machine.beam f.run.script.events ≡ []
    → has_clx_read (due_at f.run f.machine.t) ≡ false
no_read_due f first seen is none =
    reads_no_bits (due_at f.run f.machine.t) (ap (λ (b : Beam). due_events b f.run.script.events) is.at.machine.beam ∙ none)

pub no_band_place : (height : ℕ) (b : Beam) → 0 < b.h → is_band_place height b ≡ false
no_band_place height b inner =
    let e : b.h + 0 ≡ b.h = omega arith in
    subst (λ h. is_band_place height (record b { h = h }) ≡ false) e (no_place height 0 b inner)

-- ---- the place behind a clock

pub place_behind : (system : System) (lace : Bool) (old mid new : Beam) → old.h < 226 → IsSamePlace old mid → new ≡ next_place system lace mid
    → IsSamePlace (later_beam 1 old) new
place_behind system lace old mid new low same is =
    let zero_on : mid.h + 0 ≡ mid.h = omega arith in
    let here : mid.h ≡ old.h = ap (λ (b : Beam). b.h) same in
    let on : next_place system lace mid ≡ later_beam 1 mid =
    subst (λ h. next_place system lace (record mid { h = h }) ≡ later_beam 1 mid) zero_on (next_later system lace 0 mid (omega (arith, low, here))) in
    let next : new ≡ later_beam 1 mid = is ∙ on in
    let lof : mid.lof ≡ new.lof = sym (ap (λ (b : Beam). b.lof) next) in
    next ∙ ap (λ (b : Beam). later_beam 1 b) same ∙ ap (λ l. record old { h = old.h + 1; lof = l }) lof

-- ---- clocks of the line

due_elsewhere : (b : Beam) (lof : Bool) (events : List At) → due_events (record b { lof = lof }) events ≡ due_events b events
unfolding due_events
due_elsewhere b lof events = refl

-- one fewer behind one of them
pub in_line_next : (limit n : ℕ) (f g : ForeValue) → 0 < n → AreInLine limit n f → g.run ≡ f.run → g.machine.t ≡ f.machine.t + 1
    → IsSamePlace (later_beam 1 f.machine.beam) g.machine.beam → AreInLine limit (n - 1) g
in_line_next limit n f g some are run count place =
    let b : Beam = f.machine.beam in
    let h : g.machine.beam.h ≡ b.h + 1 = ap (λ (x : Beam). x.h) place in
    let frame : g.machine.beam.frame ≡ b.frame = ap (λ (x : Beam). x.frame) place in
    record {
      inner = omega (arith, h);
      line = omega (arith, are.line, h, some);
      before = omega (arith, are.before, count, some);
      due = λ k low. ap (λ (r : RunValue). due_events (later_beam k g.machine.beam) r.script.events) run
          ∙ ap (λ (x : Beam). due_events (later_beam k x) f.run.script.events) place
          ∙ due_elsewhere (later_beam k (later_beam 1 b)) g.machine.beam.lof f.run.script.events
          ∙ (let e : b.h + 1 + k ≡ b.h + suc k = omega arith in ap (λ x. due_events (record b { h = x }) f.run.script.events) e)
          ∙ are.due (suc k) (omega (arith, low));
      running = ap (λ x. x == g.run.script.frames) frame ∙ ap (λ (r : RunValue). b.frame == r.script.frames) run ∙ are.running;
    }

pub first_due : (limit n : ℕ) (f : ForeValue) → 0 < n → AreInLine limit n f → due_events f.machine.beam f.run.script.events ≡ []
first_due limit n f some are =
    let e : f.machine.beam.h + 0 ≡ f.machine.beam.h = omega arith in
    subst (λ h. due_events (record f.machine.beam { h = h }) f.run.script.events ≡ []) e (are.due 0 some)

-- ---- what clocks in two parts make

pub can_go_then : (f1 f2 : ForeValue) (s1 s2 : RasterValue) (o1 o2 : OutFilesValue) → RunsOn f1 f2 s1 s2 o1 o2 → f1.spent ≡ false → CanGo f1 s1 → CanGo f2 s2
can_go_then f1 f2 s1 s2 o1 o2 runs fresh can not =
    let here : (first : ℕ) × IsUnderway f1 first s1 = can fresh in
    let one : HasRunOn f1 f2 here.0 s1 s2 o1 o2 = runs here.0 here.1 in
    (one.until, one.stands)

reads_in_two : (run : RunValue) (from m n : ℕ) → reads_from run from (m + n) ≡ reads_from run from m + reads_from run (from + m) n
reads_in_two run from m zero =
    let e : m + 0 ≡ m = omega arith in
    let f : reads_from run from m ≡ reads_from run from m + 0 = omega arith in
    ap (λ k. reads_from run from k) e ∙ f
reads_in_two run from m (suc n) =
    let e : m + suc n ≡ suc (m + n) = omega arith in
    let f : from + (m + n) ≡ from + m + n = omega arith in
    let before : reads_from run from (m + n) ≡ reads_from run from m + reads_from run (from + m) n = reads_in_two run from m n in
    let last : bus_reads run (from + (m + n)) ≡ bus_reads run (from + m + n) = ap (λ c. bus_reads run c) f in
    ap (λ k. reads_from run from k) e ∙ omega (arith, before, last)

looked_in_two : (run : RunValue) (from m n : ℕ) → looked_from run from (m + n) ≡ looked_from run from m + looked_from run (from + m) n
looked_in_two run from m zero =
    let e : m + 0 ≡ m = omega arith in
    let f : looked_from run from m ≡ looked_from run from m + 0 = omega arith in
    ap (λ k. looked_from run from k) e ∙ f
looked_in_two run from m (suc n) =
    let e : m + suc n ≡ suc (m + n) = omega arith in
    let f : from + (m + n) ≡ from + m + n = omega arith in
    let place : ℕ → ℕ = λ c. if is_band_place run.height (beam_at run c) then length word_registers else 0 in
    let before : looked_from run from (m + n) ≡ looked_from run from m + looked_from run (from + m) n = looked_in_two run from m n in
    let last : place (from + (m + n)) ≡ place (from + m + n) = ap place f in
    ap (λ k. looked_from run from k) e ∙ omega (arith, before, last)

rises_then : (run : RunValue) (from m n a b d : ℕ) → RisesIn run from m a b → RisesIn run (from + m) n b d → RisesIn run from (m + n) a d
rises_then run from m n a b d one two =
    let both = rises_twice _ _ _ _ a b d one two in
    rises_within _ _ _ _ a d (omega (arith, reads_in_two run from m n)) (omega (arith, reads_in_two run from m n, looked_in_two run from m n)) both

few_then : (run : RunValue) (from m n a b d : ℕ) → RisesIn run from m a b → Rises 0 (reads_from run (from + m) n + looked_from run (from + m) n) b d
    → Rises 0 (reads_from run from (m + n) + looked_from run from (m + n)) a d
few_then run from m n a b d one two =
    let both = rises_twice _ _ _ _ a b d one two in
    rises_within _ _ _ _ a d (omega arith) (omega (arith, reads_in_two run from m n, looked_in_two run from m n)) both

pub reads_twice : (f0 f1 f2 : ForeValue) → f1.run ≡ f0.run → f0.machine.t ≤ f1.machine.t → f1.machine.t ≤ f2.machine.t
    → RisesIn f0.run f0.machine.t (f1.machine.t - f0.machine.t) f0.machine.chip.reads f1.machine.chip.reads
    → RisesIn f1.run f1.machine.t (f2.machine.t - f1.machine.t) f1.machine.chip.reads f2.machine.chip.reads
    → RisesIn f0.run f0.machine.t (f2.machine.t - f0.machine.t) f0.machine.chip.reads f2.machine.chip.reads
reads_twice f0 f1 f2 run on more one two =
    let m = f1.machine.t - f0.machine.t in
    let n = f2.machine.t - f1.machine.t in
    let back : f1.machine.t ≡ f0.machine.t + m = omega (arith, on) in
    let all : m + n ≡ f2.machine.t - f0.machine.t = omega (arith, on, more) in
    let there : RisesIn f0.run (f0.machine.t + m) n f1.machine.chip.reads f2.machine.chip.reads =
    subst (λ c. RisesIn f0.run c n f1.machine.chip.reads f2.machine.chip.reads) back
    (subst (λ (r : RunValue). RisesIn r f1.machine.t n f1.machine.chip.reads f2.machine.chip.reads) run two) in
    subst (λ k. RisesIn f0.run f0.machine.t k f0.machine.chip.reads f2.machine.chip.reads) all
    (rises_then f0.run f0.machine.t m n f0.machine.chip.reads f1.machine.chip.reads f2.machine.chip.reads one there)

pub few_twice : (f0 f1 f2 : ForeValue) (limit : ℕ) → f1.run ≡ f0.run → f0.machine.t ≤ f1.machine.t → f1.machine.t ≤ limit
    → RisesIn f0.run f0.machine.t (f1.machine.t - f0.machine.t) f0.machine.chip.reads f1.machine.chip.reads
    → RisesInSome limit f1.run f1.machine.t f1.machine.chip.reads f2.machine.chip.reads
    → RisesInSome limit f0.run f0.machine.t f0.machine.chip.reads f2.machine.chip.reads
few_twice f0 f1 f2 limit run on low one some =
    let m = f1.machine.t - f0.machine.t in
    let n = some.clocks in
    let back : f1.machine.t ≡ f0.machine.t + m = omega (arith, on) in
    let there : Rises 0 (reads_from f0.run (f0.machine.t + m) n + looked_from f0.run (f0.machine.t + m) n) f1.machine.chip.reads f2.machine.chip.reads =
    subst (λ c. Rises 0 (reads_from f0.run c n + looked_from f0.run c n) f1.machine.chip.reads f2.machine.chip.reads) back
    (subst (λ (r : RunValue). Rises 0 (reads_from r f1.machine.t n + looked_from r f1.machine.t n) f1.machine.chip.reads f2.machine.chip.reads) run some.few) in
    record {
      clocks = m + n;
      most = omega (arith, on, low, some.most);
      few = few_then f0.run f0.machine.t m n f0.machine.chip.reads f1.machine.chip.reads f2.machine.chip.reads one there;
    }

-- what two calls make one behind the other, each up to the limit
pub few_in_two : (f0 f1 f2 : ForeValue) (limit : ℕ) → f1.run ≡ f0.run → f0.machine.t ≤ f1.machine.t → f1.machine.t ≤ max f0.machine.t limit
    → RisesIn f0.run f0.machine.t (f1.machine.t - f0.machine.t) f0.machine.chip.reads f1.machine.chip.reads
    → RisesInSome limit f1.run f1.machine.t f1.machine.chip.reads f2.machine.chip.reads
    → RisesInSome limit f0.run f0.machine.t f0.machine.chip.reads f2.machine.chip.reads
few_in_two f0 f1 f2 limit run on low one some =
    let m = f1.machine.t - f0.machine.t in
    let n = some.clocks in
    let back : f1.machine.t ≡ f0.machine.t + m = omega (arith, on) in
    let there : Rises 0 (reads_from f0.run (f0.machine.t + m) n + looked_from f0.run (f0.machine.t + m) n) f1.machine.chip.reads f2.machine.chip.reads =
    subst (λ c. Rises 0 (reads_from f0.run c n + looked_from f0.run c n) f1.machine.chip.reads f2.machine.chip.reads) back
    (subst (λ (r : RunValue). Rises 0 (reads_from r f1.machine.t n + looked_from r f1.machine.t n) f1.machine.chip.reads f2.machine.chip.reads) run some.few) in
    record {
      clocks = m + n;
      most = omega (arith, on, low, some.most);
      few = few_then f0.run f0.machine.t m n f0.machine.chip.reads f1.machine.chip.reads f2.machine.chip.reads one there;
    }

-- and where no clock was made
pub nothing_made : {S : Type 0} (f0 f1 f2 : ForeOf S) → f0.machine.t ≤ f1.machine.t → f1.machine.t ≤ f2.machine.t
    → (f1.machine.t ≡ f0.machine.t → f1 ≡ f0) → (f2.machine.t ≡ f1.machine.t → f2 ≡ f1) → f2.machine.t ≤ f0.machine.t → f2 ≡ f0
nothing_made f0 f1 f2 on more first second none = second (omega (arith, on, more, none)) ∙ first (omega (arith, on, more, none))

-- what the loop's test says
pub open_view : {S : Type 0} (f g : ForeOf S) → f ≡ g → f.log.band.from < f.machine.t → g.log.band.from < g.machine.t
open_view f g view before = subst (λ (x : ForeOf _). x.log.band.from < x.machine.t) view before
