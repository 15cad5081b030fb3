-- The steps of a clock up to its access, over plain values.
use Rattle.std.proofs.Common.{◌≡◌, ◌≤◌, ℕ, ◌-◌, true, List, [], ◌∷◌, length, drop, take, length-drop, arith, refl, ap, subst, ◌∙◌, sym}
use Rattle.std.proofs.Math.Seq.{take-length}
use Rattle.ocs_base.specs.declared.beam.Beam.{Beam}
use Rattle.ocs_base.specs.declared.script.At.{At}
use Rattle.mem_versions.specs.Chip.{ChipValue}
use Rattle.out_files.specs.OutFiles.{OutFilesValue}
use Rattle.serial_model.specs.declared.picture.Touch.{Touch}
use Rattle.serial_model.specs.Beam.{IsOnScreen}
use Rattle.serial_model.specs.Events.{due_events, do_events, touches_of}
use Rattle.serial_model.specs.State.{State}
use Rattle.serial_model.specs.Tick.{start_clock, run_script, count_timers}
use Rattle.serial_bands.specs.Run.{RunValue, state_of, beam_at}
use Rattle.serial_bands.specs.Clock.{due_at, sets_at}
use Rattle.serial_bands.specs.Bands.{has_clx_read}
use Rattle.band_log.specs.Raster.{RasterValue}
use Rattle.machine.specs.Machine.{MachineValue, IsMachineOf, Start, Stands, MakesQuietly, KeepsPlace, IsSamePlace}
use Rattle.picture_log.specs.Log.{IsShown, with_script_touch, with_script_touches}
use Rattle.foreground.specs.Script.{MakesEvents, IsMachine}
use Rattle.band_gather.specs.Gathered.{Fits}
use Rattle.serial_bands.specs.Access.{access_state}
use Rattle.foreground.specs.Clock.{HasBegun, IsBeforeAccess, Tells}
use Rattle.foreground.specs.Fore.{ForeValue, HasScript}
use Rattle.foreground.specs.Steps.{HasScriptBehind, ReachesAccess}
use Rattle.picture_log.specs.declared.log.Log.{Log}
use Rattle.machine.proofs.ToldLaws.{told_none}
use Rattle.machine.proofs.RunLaws.{stands_shown}
use Rattle.picture_log.proofs.Logging.{log_shown}

-- from the state in which a clock begins to that in which its access is made
pub stands_at_access : (run : RunValue) (c bits : ℕ) (m0 m1 m2 m3 : MachineValue) (out given : OutFilesValue) → IsMachineOf m0 (state_of run c)
    → (has_clx_read (due_at run c) ≡ true → (state_of run c).clx ≡ bits) → MakesQuietly start_clock m0 m1
    → MakesEvents bits (due_events m1.beam run.script.events) m1 out m2 given → MakesQuietly count_timers m2 m3
    → Stands (record { out = out; trace = (state_of run c).trace }) m3 given (access_state run c)
stands_at_access run c bits m0 m1 m2 m3 out given is clx first events timers =
    let s : State = state_of run c in
    let start : Start = record { out = out; trace = s.trace } in
    let begun : Stands start m1 out (start_clock s) = first out start s (record { machine = is; told = told_none out s }) in
    let place : s.beam ≡ m1.beam = begun.machine.beam in
    let happened : Stands start m2 given (do_events (due_events m1.beam run.script.events) (start_clock s)) =
    events start (start_clock s) (λ reads. clx (ap (λ b. has_clx_read (due_events b run.script.events)) place ∙ reads)) begun in
    let script : Stands start m2 given (run_script run.script.events (start_clock s)) =
    subst (λ b. Stands start m2 given (do_events (due_events b run.script.events) (start_clock s))) (sym place) happened in
    stands_shown run.script.system start m3 given (count_timers (run_script run.script.events (start_clock s)))
    (timers given start (run_script run.script.events (start_clock s)) script)

pub tells_at_access : (run : RunValue) (c : ℕ) (m : MachineValue) (out given : OutFilesValue)
    → Stands (record { out = out; trace = (state_of run c).trace }) m given (access_state run c) → Tells (state_of run c) (access_state run c) out given
tells_at_access run c m out given is = record { lines = is.told.lines; trace = is.told.trace; text = is.told.text }

-- touches by the script keep number and first clock of the band
pub touches_keep_number : (c : ℕ) (touches : List Touch) (log : Log) → (with_script_touches c touches log).band.number ≡ log.band.number
unfolding with_script_touches
touches_keep_number c [] log = refl
touches_keep_number c (touch ∷ touches) log = touches_keep_number c touches (with_script_touch c touch log)

pub touches_keep_from : (c : ℕ) (touches : List Touch) (log : Log) → (with_script_touches c touches log).band.from ≡ log.band.from
unfolding with_script_touches
touches_keep_from c [] log = refl
touches_keep_from c (touch ∷ touches) log = touches_keep_from c touches (with_script_touch c touch log)

-- the log behind the picture step
pub logged_at_access : (run : RunValue) (c : ℕ) (log noted : Log) (b : Beam) → beam_at run c ≡ b
    → noted ≡ with_script_touches c (touches_of (due_events b run.script.events)) log → noted ≡ with_script_touches c (sets_at run c) log
logged_at_access run c log noted b here notes =
    notes ∙ sym (ap (λ x. with_script_touches c (touches_of (due_events x run.script.events)) log) here)

-- a log that stands behind the picture step fits the raster that fitted before
fits_logged : (run : RunValue) (c first : ℕ) (touches : List Touch) (log shown : Log) (seen : RasterValue)
    → shown ≡ with_script_touches c touches log → Fits run log.band.number log.band.from first seen
    → Fits run shown.band.number shown.band.from first seen
fits_logged run c first touches log shown seen is fits =
    let number : shown.band.number ≡ log.band.number = ap (λ (l : Log). l.band.number) is ∙ touches_keep_number c touches log in
    let from : shown.band.from ≡ log.band.from = ap (λ (l : Log). l.band.from) is ∙ touches_keep_from c touches log in
    subst (λ k. Fits run k shown.band.from first seen) (sym number) (subst (λ k. Fits run log.band.number k first seen) (sym from) fits)

-- all of it, at one clock of a run
reaches : (run : RunValue) (c bits first clx : ℕ) (m0 m1 m2 m3 : MachineValue) (log noted : Log) (seen : RasterValue) (out given : OutFilesValue)
    → HasBegun run c first m0 log clx seen → (has_clx_read (due_at run c) ≡ true → (state_of run c).clx ≡ bits)
    → MakesQuietly start_clock m0 m1 → MakesEvents bits (due_events m1.beam run.script.events) m1 out m2 given
    → MakesQuietly count_timers m2 m3 → m3.chip ≡ m0.chip → m1.beam ≡ m0.beam
    → noted ≡ with_script_touches c (touches_of (due_events m1.beam run.script.events)) log
    → IsBeforeAccess run c first m3 noted clx seen × Tells (state_of run c) (access_state run c) out given
reaches run c bits first clx m0 m1 m2 m3 log noted seen out given is reads start events timers chip beam notes =
    let stands : Stands (record { out = out; trace = (state_of run c).trace }) m3 given (access_state run c) =
    stands_at_access run c bits m0 m1 m2 m3 out given is.machine reads start events timers in
    let same : noted ≡ with_script_touches c (sets_at run c) log =
    logged_at_access run c log noted m1.beam (is.machine.beam ∙ sym beam) notes in (
      record {
        machine = stands.machine;
        logged = record {
          shown = subst (λ l. IsShown run c l m3.chip) (sym same)
              (subst (λ x. IsShown run c (with_script_touches c (sets_at run c) log) x) (sym chip) (log_shown run c log m0.chip is.logged));
          fits = fits_logged run c first (sets_at run c) log noted seen same is.fits;
          gathered = is.gathered;
          time = subst (λ (x : ChipValue). x.newest ≤ c) (sym chip) is.time;
        };
      },
      tells_at_access run c m3 out given stands,
    )

-- and of the foreground: `f2` is that behind the script's events
pub reaches_access : (bits : ℕ) (f0 f2 : ForeValue) (m1 m3 : MachineValue) (out given : OutFilesValue)
    → MakesQuietly start_clock f0.machine m1 → m1 ≡ record f0.machine { chips = m1.chips }
    → MakesEvents bits (due_events m1.beam f0.run.script.events) m1 out f2.machine given → KeepsPlace m1 f2.machine
    → f2.log ≡ with_script_touches m1.t (touches_of (due_events m1.beam f0.run.script.events)) f0.log
    → HasScriptBehind f0.run m1.beam f0.next f2.next
    → f2 ≡ record f0 { machine = f2.machine; log = f2.log; next = f2.next }
    → MakesQuietly count_timers f2.machine m3 → m3 ≡ record f2.machine { chips = m3.chips; side = m3.side }
    → ReachesAccess bits f0 (record f2 { machine = m3 }) out given
reaches_access bits f0 f2 m1 m3 out given start first events place notes script same timers last =
    let beam : m1.beam ≡ f0.machine.beam = ap (λ (m : MachineValue). m.beam) first in
    let t : m1.t ≡ f0.machine.t = ap (λ (m : MachineValue). m.t) first in
    let run : f2.run ≡ f0.run = ap (λ (f : ForeValue). f.run) same in
    let clx : f2.clx ≡ f0.clx = ap (λ (f : ForeValue). f.clx) same in
    let spent : f2.spent ≡ f0.spent = ap (λ (f : ForeValue). f.spent) same in
    let count : m3.t ≡ f0.machine.t = ap (λ (m : MachineValue). m.t) last ∙ place.t ∙ t in
    let chip : m3.chip ≡ f0.machine.chip = ap (λ (m : MachineValue). m.chip) last ∙ place.chip ∙ ap (λ (m : MachineValue). m.chip) first in
    let here : IsSamePlace f0.machine.beam f2.machine.beam = subst (λ b. IsSamePlace b f2.machine.beam) beam place.beam in
    let noted : f2.log ≡ with_script_touches f0.machine.t (touches_of (due_events m1.beam f0.run.script.events)) f0.log =
    notes ∙ ap (λ k. with_script_touches k (touches_of (due_events m1.beam f0.run.script.events)) f0.log) t in
    record {
      run = run;
      t = count;
      beam = subst (λ (m : MachineValue). IsSamePlace f0.machine.beam m.beam) (sym last) here;
      spent = spent;
      script = λ whole. subst (λ b. HasScriptBehind f0.run b f0.next f2.next) beam script;
      stands = λ first_band seen begun whole reads.
          let all : IsBeforeAccess f0.run f0.machine.t first_band m3 f2.log f0.clx seen
          × Tells (state_of f0.run f0.machine.t) (access_state f0.run f0.machine.t) out given =
          reaches f0.run f0.machine.t bits first_band f0.clx f0.machine m1 f2.machine m3 f0.log f2.log seen out given begun reads start events
          timers chip beam noted in (
            subst (λ r. IsBeforeAccess r m3.t first_band m3 f2.log f2.clx seen) (sym run)
                (subst (λ k. IsBeforeAccess f0.run k first_band m3 f2.log f2.clx seen) (sym count)
                (subst (λ k. IsBeforeAccess f0.run f0.machine.t first_band m3 f2.log k seen) (sym clx) all.0)),
            all.1,
          );
      reads = ap (λ (x : ChipValue). x.reads) chip;
    }

pub machine_started : (m new : MachineValue) (out : OutFilesValue) → IsMachine m → MakesQuietly start_clock m new → IsMachine new
machine_started m new out is step =
    let stands : Stands (record { out = out; trace = is.0.trace }) new out (start_clock is.0) =
    step out (record { out = out; trace = is.0.trace }) is.0 (record { machine = is.1; told = told_none out is.0 }) in
    (start_clock is.0, stands.machine)

-- the events of a clock, through the view of a foreground's struct
rest_of_list : (n : ℕ) (events : List At) → take (length events - n) (drop n events) ≡ drop n events
rest_of_list n events =
    let size : length (drop n events) ≡ length events - n = length-drop n events in
    ap (λ k. take k (drop n events)) (sym size) ∙ take-length (drop n events)

pub script_events_of : (bits : ℕ) (f g : ForeValue) (events : List At) (new : MachineValue) (out given : OutFilesValue) → IsOnScreen f.machine.beam
    → HasScript f.run f.machine.beam f.next → g ≡ f → events ≡ g.run.script.events
    → MakesEvents bits (due_events g.machine.beam (take (length events - g.next) (drop g.next events))) g.machine out new given
    → MakesEvents bits (due_events f.machine.beam f.run.script.events) f.machine out new given
script_events_of bits f g events new out given on script view same makes =
    let rest : take (length events - g.next) (drop g.next events) ≡ drop g.next g.run.script.events =
    rest_of_list g.next events ∙ ap (λ es. drop g.next es) same in
    let there : MakesEvents bits (due_events g.machine.beam (drop g.next g.run.script.events)) g.machine out new given =
    subst (λ es. MakesEvents bits (due_events g.machine.beam es) g.machine out new given) rest makes in
    let here : MakesEvents bits (due_events f.machine.beam (drop f.next f.run.script.events)) f.machine out new given =
    subst (λ (x : ForeValue). MakesEvents bits (due_events x.machine.beam (drop x.next x.run.script.events)) x.machine out new given) view there in
    let first : due_events f.machine.beam f.run.script.events ≡ due_events f.machine.beam (drop f.next f.run.script.events) =
    script.same f.machine.beam on (omega arith) in
    subst (λ es. MakesEvents bits es f.machine out new given) (sym first) here

-- the events that are due of those that are left are those of the whole script
due_of_left : (f g : ForeValue) (events : List At) → IsOnScreen f.machine.beam → HasScript f.run f.machine.beam f.next → g ≡ f
    → events ≡ g.run.script.events
    → due_events g.machine.beam (take (length events - g.next) (drop g.next events)) ≡ due_events f.machine.beam f.run.script.events
due_of_left f g events on script view same =
    ap (λ es. due_events g.machine.beam es) (rest_of_list g.next events ∙ ap (λ es. drop g.next es) same)
    ∙ ap (λ (x : ForeValue). due_events x.machine.beam (drop x.next x.run.script.events)) view
    ∙ sym (script.same f.machine.beam on (omega arith))

-- so what they touch is noted
pub noted_of_left : (f g : ForeValue) (events : List At) (log : Log) → IsOnScreen f.machine.beam → HasScript f.run f.machine.beam f.next
    → g ≡ f → events ≡ g.run.script.events
    → log ≡ with_script_touches g.machine.t
    (touches_of (due_events g.machine.beam (take (length events - g.next) (drop g.next events)))) g.log
    → log ≡ with_script_touches f.machine.t (touches_of (due_events f.machine.beam f.run.script.events)) f.log
noted_of_left f g events log on script view same is =
    is ∙ ap (λ es. with_script_touches g.machine.t (touches_of es) g.log) (due_of_left f g events on script view same)
    ∙ ap (λ (x : ForeValue). with_script_touches x.machine.t (touches_of (due_events f.machine.beam f.run.script.events)) x.log) view
