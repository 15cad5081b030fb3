-- A clock once its chips have asked for the slot.
use Rattle.std.proofs.Common.{◌≡◌, ℕ, ◌+◌, ap, subst, sym, ◌∙◌, refl}
use Rattle.out_files.specs.OutFiles.{OutFilesValue}
use Rattle.serial_model.specs.declared.bus.Ask.{Ask}
use Rattle.serial_model.specs.Events.{due_events, touches_of}
use Rattle.serial_model.specs.Tick.{start_clock}
use Rattle.serial_model.specs.Bus.{reads_of_ask}
use Rattle.serial_bands.specs.BusReads.{bus_reads}
use Rattle.band_log.specs.Raster.{RasterValue}
use Rattle.picture_log.specs.Log.{with_script_touches}
use Rattle.machine.specs.Machine.{MachineValue, MakesQuietly, KeepsPlace, reads_more}
use Rattle.foreground.specs.Script.{MakesEvents}
use Rattle.machine.specs.MachineSteps.{AsksInTime}
use Rattle.foreground.specs.Clock.{Rises}
use Rattle.foreground.specs.Fore.{ForeValue, IsUnderway}
use Rattle.foreground.specs.Steps.{IsBefore, IsLoggedBefore, KeepsClock, HasAskedNow, AccessesPart, HasBegunClock, BeginsClock, ReachesAsk}
use Rattle.foreground.specs.Steps.{HasScriptBehind, RunsEvents, MakesAskedAccess, MakesItsAccess}
use Rattle.foreground.proofs.AdvanceLaws.{before_access_of, rises_in_clock, rises_at_refusal}
use Rattle.foreground.proofs.KeptLaws.{asked_then, part_once_asked, kept_once_asked}
use Rattle.foreground.proofs.MadeLaws.{makes_by_access, reads_of_access}
use Rattle.foreground.proofs.ReachLaws.{reaches_access}

-- ---- the foreground

-- it has reached the ask: the chips have asked, and the log is that of before the access
pub at_ask : (f0 f1 f3 : ForeValue) (ask : Ask) (first clx : ℕ) (seen s1 : RasterValue) (o0 o1 o2 : OutFilesValue) → IsUnderway f0 first seen
    → BeginsClock f0 f1 clx seen s1 o0 o1 → ReachesAsk clx ask f1 f3 o1 o2 → HasAskedNow ask f3 × ((until : ℕ) × IsLoggedBefore f3 until s1)
at_ask f0 f1 f3 ask first clx seen s1 o0 o1 o2 is begins reaches =
    let b : ForeValue = reaches.between in
    let before : (until : ℕ) × IsBefore b until s1 = before_access_of f0 f1 b first clx seen s1 o0 o1 o2 is begins reaches.reaches in
    let there = asked_then b b f3.machine ask before.0 s1 refl before.1 reaches.asks reaches.asked reaches.chips in (
      subst (λ f. HasAskedNow ask f) (sym reaches.same) there.0,
      (before.0, subst (λ f. IsLoggedBefore f before.0 s1) (sym reaches.same) there.1),
    )

-- the first two steps through the view of its struct
pub runs_events : (bits : ℕ) (f0 g0 f2 : ForeValue) (m1 : MachineValue) (out given : OutFilesValue) → g0 ≡ f0
    → MakesQuietly start_clock g0.machine m1 → m1 ≡ record g0.machine { chips = m1.chips }
    → MakesEvents bits (due_events m1.beam g0.run.script.events) m1 out f2.machine given → KeepsPlace m1 f2.machine
    → f2.log ≡ with_script_touches m1.t (touches_of (due_events m1.beam g0.run.script.events)) g0.log
    → HasScriptBehind g0.run m1.beam g0.next f2.next
    → f2 ≡ record g0 { machine = f2.machine; log = f2.log; next = f2.next } → RunsEvents bits f0 f2 out given
runs_events bits f0 g0 f2 m1 out given view start first events place notes script same =
    subst (λ f. RunsEvents bits f f2 out given) view (record {
      started = m1;
      start = start;
      first = first;
      events = events;
      place = place;
      notes = notes;
      script = script;
      same = same;
    })

-- and with the ask behind them
pub reaches_ask : (bits : ℕ) (f0 f2 f3 : ForeValue) (ask : Ask) (out given : OutFilesValue) → RunsEvents bits f0 f2 out given
    → AsksInTime ask f2.machine f3.machine → f3 ≡ record f2 { machine = f3.machine } → ReachesAsk bits ask f0 f3 out given
reaches_ask bits f0 f2 f3 ask out given runs asks same = record {
  between = record f2 { machine = asks.between };
  reaches =
      reaches_access bits f0 f2 runs.started asks.between out given runs.start runs.first runs.events runs.place runs.notes runs.script runs.same asks.timers
      asks.kept;
  asks = asks.asks;
  asked = asks.asked;
  chips = asks.same;
  same = same;
}

-- what follows is said of it as it was right before the ask
pub makes_from_ask : (clx : ℕ) (ask : Ask) (f1 f3 f4 : ForeValue) (s1 s2 : RasterValue) (o1 o2 o3 : OutFilesValue)
    → (reaches : ReachesAsk clx ask f1 f3 o1 o2) → MakesAskedAccess f3 f4 s1 s2 o2 o3 → MakesItsAccess reaches.between f4 s1 s2 o2 o3
makes_from_ask clx ask f1 f3 f4 s1 s2 o1 o2 o3 reaches makes =
    makes_by_access reaches.between reaches.between f4 f3.machine ask s1 s2 o2 o3 refl reaches.chips
    (subst (λ f. MakesAskedAccess f f4 s1 s2 o2 o3) reaches.same makes)

pub part_from_ask : (clx : ℕ) (ask : Ask) (f1 f3 : ForeValue) (s1 s2 : RasterValue) (o1 o2 o3 : OutFilesValue) → (reaches : ReachesAsk clx ask f1 f3 o1 o2)
    → AccessesPart f3 s1 s2 o2 o3 → AccessesPart reaches.between s1 s2 o2 o3
part_from_ask clx ask f1 f3 s1 s2 o1 o2 o3 reaches part =
    part_once_asked reaches.between reaches.between f3.machine s1 s2 o2 o3 refl reaches.chips
    (subst (λ f. AccessesPart f s1 s2 o2 o3) reaches.same part)

pub kept_from_ask : (clx : ℕ) (ask : Ask) (f1 f3 f4 : ForeValue) (o1 o2 : OutFilesValue) → (reaches : ReachesAsk clx ask f1 f3 o1 o2) → KeepsClock f3 f4
    → KeepsClock reaches.between f4
kept_from_ask clx ask f1 f3 f4 o1 o2 reaches kept =
    kept_once_asked reaches.between reaches.between f4 f3.machine refl reaches.chips (subst (λ f. KeepsClock f f4) reaches.same kept)

-- the words that were read, where so many were by the access and so many are at the end
pub rises_from_ask : (f0 f1 f3 : ForeValue) (ask : Ask) (first clx more made reads : ℕ) (seen s1 : RasterValue) (o0 o1 o2 : OutFilesValue)
    → IsUnderway f0 first seen → BeginsClock f0 f1 clx seen s1 o0 o1 → Rises 0 more f0.machine.chip.reads f1.machine.chip.reads
    → (reaches : ReachesAsk clx ask f1 f3 o1 o2) → made ≡ reads_more (reads_of_ask ask) f3.machine.chip.reads → reads ≡ made
    → Rises (bus_reads f0.run f0.machine.t) (bus_reads f0.run f0.machine.t + more) f0.machine.chip.reads reads
    × Rises 0 (bus_reads f0.run f0.machine.t + more) f0.machine.chip.reads reads
rises_from_ask f0 f1 f3 ask first clx more made reads seen s1 o0 o1 o2 is begins begin reaches count end =
    let b : ForeValue = reaches.between in
    let begun : HasBegunClock f0 f1 first clx seen s1 o0 o1 = begins first is in
    let before : (until : ℕ) × IsBefore b until s1 = before_access_of f0 f1 b first clx seen s1 o0 o1 o2 is begins reaches.reaches in
    let run : b.run ≡ f0.run = reaches.reaches.run ∙ ap (λ (f : ForeValue). f.run) begun.same in
    let t : b.machine.t ≡ f0.machine.t = reaches.reaches.t ∙ ap (λ (f : ForeValue). f.machine.t) begun.same in
    let f4 : ForeValue = record b { machine = record b.machine { chip = record b.machine.chip { reads = made } } } in
    let access : made ≡ reads_more (bus_reads b.run b.machine.t) b.machine.chip.reads =
    reads_of_access b b f3.machine ask before.0 made s1 refl before.1 reaches.asks reaches.chips count in (
      rises_in_clock f0 f1 b f4 more reads begin reaches.reaches.reads access end run t,
      rises_at_refusal f0 f1 b f4 more reads begin reaches.reaches.reads access end run t,
    )
