-- The run over plain values: its start, its turns, its end and its stops.
use Rattle.std.proofs.Common.{◌≡◌, ℕ, ◌+◌, ◌-◌, ◌*◌, ◌^◌, ◌<◌, ◌≤◌, Bool, true, false, nat_lt, ◌==◌, List, [], ◌++◌, length, Option, Some}
use Rattle.std.proofs.Common.{None, Result, Ok, Err, OnOk, OnErr, arith, refl, ap, ◌∙◌, sym, subst, append_assoc, append-nil, inl}
use Rattle.ocs_base.specs.Script.{ScriptValue}
use Rattle.ocs_base.specs.declared.system.System.{System}
use Rattle.ocs_io.specs.Place.{Files, Outside}
use Rattle.out_files.specs.Answers.{CreateAnswers}
use Rattle.out_files.specs.OutFiles.{OutNames, OutFilesValue, all_given}
use Rattle.out_files.specs.Together.{three_files, AreTogether, HoldParts, StayTogether, LeavesParts, Completes, Begins}
use Rattle.out_files.specs.declared.fault.WriteFault.{WriteFault}
use Rattle.out_files.specs.declared.fault.WriteFault.TheVariants.{Failed, OutOfMemory as NoRoomToWrite}
use Rattle.serial_model.specs.declared.trace.TraceLine.{TraceLine}
use Rattle.serial_model.specs.MemoryText.{memory_text}
use Rattle.serial_model.specs.Outputs.{frames_text, with_headings}
use Rattle.serial_model.specs.Side.{SideValue}
use Rattle.serial_model.specs.Serial.{state_over, IsEndOver}
use Rattle.serial_model.specs.State.{State, reset}
use Rattle.serial_model.specs.TraceText.{trace_text}
use Rattle.serial_model.proofs.EndLaws.{frames_are_whole}
use Rattle.serial_model.proofs.HeadingLaws.{with_headings-append}
use Rattle.serial_bands.specs.Run.{RunValue, state_of, beam_at}
use Rattle.ocs_base.specs.declared.beam.Beam.{Beam}
use Rattle.serial_bands.specs.BandShown.{bytes_from}
use Rattle.serial_bands.proofs.Ranges.{shown_in_range, bytes_of_two}
use Rattle.serial_bands.proofs.Counts.{no_tint}
use Rattle.serial_bands.proofs.BandRanges.{bands_rise}
use Rattle.band_log.specs.Raster.{RasterValue, Takes}
use Rattle.foreground.specs.Clock.{HasGivenPart}
use Rattle.std.proofs.lemmas.Bool.Decides.{nat_tests}
use Rattle.foreground.specs.Fore.{ForeValue, IsNew, is_done, HasSettled, Settles, GivesPart, IsUnderway as IsForeUnderway}
use Rattle.clock_loop.specs.RunTo.{HasRunOn, RunsOn, HasCome}
use Rattle.band_gather.specs.Gathered.{tinted_range}
use Rattle.files_run.specs.Prefix.{LeavesPrefixesOver}
use Rattle.files_run.specs.Run.{HasFilesOver, HasRun, HasParts, HasEndParts}
use Rattle.files_run.specs.Underway.{IsUnderway, CanRun, Runs, IsStopped, IsFresh, IsEmpty, Ends, IsCut}
use Rattle.files_run.specs.Underway.{IsSettledRun, IsWritten, StartsRun, EndsFromStart, IsCutFromStart}
use Rattle.files_run.proofs.PrefixLaws.{LeavesPrefixes-parts, LeavesPrefixes-end, LeavesPrefixes-all}

-- what a run has shown at a clock are the bytes of its clocks
shown_to : (run : RunValue) (t : ℕ) → (state_of run t).shown ≡ bytes_from run 0 t
unfolding state_over reset
shown_to run t =
    let e : t ≡ 0 + t = omega arith in
    ap (λ n. (state_of run n).shown) e ∙ shown_in_range run 0 t

-- those of two ranges, the first from the run's begin on
two_from : (run : RunValue) (n m : ℕ) → bytes_from run 0 n ++ bytes_from run n m ≡ bytes_from run 0 (n + m)
two_from run n m =
    let e : n ≡ 0 + n = omega arith in
    ap (λ c. bytes_from run 0 n ++ bytes_from run c m) e ∙ sym (bytes_of_two run 0 n m)

-- pixels without a tint follow those before
joined : (run : RunValue) (tint first until : ℕ) → first ≤ until → tint ≡ 0
    → bytes_from run 0 first ++ tinted_range run tint first until ≡ bytes_from run 0 until
joined run tint first until le plain =
    let whole : first + (until - first) ≡ until = omega arith in
    ap (λ t. bytes_from run 0 first ++ tinted_range run t first until) plain
    ∙ ap (λ bytes. bytes_from run 0 first ++ bytes) (no_tint (bytes_from run first (until - first)))
    ∙ two_from run first (until - first) ∙ ap (λ n. bytes_from run 0 n) whole

-- the bands that were gathered are of clocks that are done
gathered_before : (fore : ForeValue) (first : ℕ) (seen : RasterValue) → IsForeUnderway fore first seen → first ≤ fore.machine.t
gathered_before fore first seen is =
    let rise : first + is.at.fits.count ≤ fore.log.band.from = bands_rise fore.run is.at.fits.least is.at.fits.count first fore.log.band.from
    is.at.fits.bands in
    omega (arith, rise, is.at.logged.least)

-- some clocks more
pub IsUnderway-ran : (base files : Option Files) (old new : ForeValue) (seen after : RasterValue) (out given : OutFilesValue)
    → RunsOn old new seen after out given → new.run ≡ old.run → new.spent ≡ false → IsUnderway base files old seen out
    → IsUnderway base files new after given
IsUnderway-ran base files old new seen after out given runs run fresh is =
    let so : HasRunOn old new is.first seen after out given = runs is.first is.stands in
    let system : System = old.run.script.system in
    let text : AreTogether system given base files (bytes_from old.run 0 is.first ++ tinted_range old.run seen.tint is.first so.until)
    ((state_of old.run old.machine.t).trace ++ so.lines) = so.gives.text.text system base files _ _ is.text in
    let pixels : AreTogether system given base files (bytes_from old.run 0 so.until) ((state_of old.run old.machine.t).trace ++ so.lines) =
    subst (λ bytes. AreTogether system given base files bytes ((state_of old.run old.machine.t).trace ++ so.lines))
    (joined old.run seen.tint is.first so.until so.gives.least is.plain) text in
    let lines : AreTogether system given base files (bytes_from old.run 0 so.until) (state_of old.run new.machine.t).trace =
    subst (λ traced. AreTogether system given base files (bytes_from old.run 0 so.until) traced) (sym so.trace) pixels in
    record {
      first = so.until;
      stands = so.stands;
      plain = so.gives.mark.tint ∙ is.plain;
      fresh = fresh;
      text = subst (λ (r : RunValue). AreTogether r.script.system given base files (bytes_from r 0 so.until) (state_of r new.machine.t).trace) (sym run) lines;
    }

pub CanRun-ran : (old new : ForeValue) (seen after : RasterValue) (out given : OutFilesValue) → RunsOn old new seen after out given
    → new.spent ≡ false → CanRun old seen → CanRun new after
CanRun-ran old new seen after out given runs fresh can =
    let so : HasRunOn old new can.first seen after out given = runs can.first can.stands in
    record { first = so.until; stands = so.stands; plain = so.gives.mark.tint ∙ can.plain; fresh = fresh }

-- a flush
pub IsUnderway-flushed : (base before after : Option Files) (fore : ForeValue) (seen : RasterValue) (old new : OutFilesValue)
    → StayTogether old new before after → IsUnderway base before fore seen old → IsUnderway base after fore seen new
unfolding StayTogether
IsUnderway-flushed base before after fore seen old new stays is = record {
  first = is.first;
  stands = is.stands;
  plain = is.plain;
  fresh = is.fresh;
  text = stays fore.run.script.system base _ _ is.text;
}

-- where the run stops, each file has a part of its text
abbrev later_text : RunValue → ℕ → ℕ → List ℕ
later_text run first t = with_headings run.script.system (0 + length (bytes_from run 0 first)) (bytes_from run first (t - first))

frames_part : (run : RunValue) (first t : ℕ) (frames rest : List ℕ) → first ≤ t → frames ++ rest ≡ frames_text run.script.system (bytes_from run 0 first)
    → frames ++ (rest ++ later_text run first t) ≡ frames_text run.script.system (state_of run t).shown
frames_part run first t frames rest le part =
    let whole : first + (t - first) ≡ t = omega arith in
    let all : bytes_from run 0 first ++ bytes_from run first (t - first) ≡ (state_of run t).shown =
    two_from run first (t - first) ∙ ap (λ n. bytes_from run 0 n) whole ∙ sym (shown_to run t) in
    sym (append_assoc frames rest (later_text run first t))
    ∙ ap (λ x. x ++ later_text run first t) part
    ∙ sym (with_headings-append run.script.system 0 (bytes_from run 0 first) (bytes_from run first (t - first)))
    ∙ ap (λ bytes. frames_text run.script.system bytes) all

parts_at : (run : RunValue) (first t : ℕ) (names : OutNames) (base files : Option Files) → first ≤ t
    → HoldParts run.script.system names base files (bytes_from run 0 first) (state_of run t).trace []
    → HoldParts run.script.system names base files (state_of run t).shown (state_of run t).trace []
parts_at run first t names base files le has = record {
  frames = has.frames;
  trace = has.trace;
  bytes = has.bytes;
  frames_rest = has.frames_rest ++ later_text run first t;
  trace_rest = has.trace_rest;
  bytes_rest = has.bytes_rest;
  held = has.held;
  frames_part = frames_part run first t has.frames has.frames_rest le has.frames_part;
  trace_part = has.trace_part;
  bytes_part = has.bytes_part;
}

-- files and pending text are parts of the texts
parts_together : (system : System) (out : OutFilesValue) (base files : Option Files) (pixels : List ℕ) (lines : List TraceLine)
    → AreTogether system out base files pixels lines → HoldParts system out.names base files pixels lines []
parts_together system out base files pixels lines is = record {
  frames = is.frames;
  trace = is.trace;
  bytes = [];
  frames_rest = out.frames;
  trace_rest = out.trace;
  bytes_rest = [];
  held = is.held;
  frames_part = is.pixels_given;
  trace_part = is.lines_given;
  bytes_part = refl;
}

run_so_far : (fore : ForeValue) (first : ℕ) (seen : RasterValue) → IsForeUnderway fore first seen
    → HasRun fore.run.side fore.run.image fore.run.script fore.machine.t
run_so_far fore first seen is = record { running = is.running }

pub HasParts-now : (base files : Option Files) (fore : ForeValue) (seen : RasterValue) (out : OutFilesValue) → IsUnderway base files fore seen out
    → HasParts fore.run.side fore.run.image fore.run.script out.names base files fore.machine.t
HasParts-now base files fore seen out is = record {
  run = run_so_far fore is.first seen is.stands;
  parts = parts_at fore.run is.first fore.machine.t out.names base files (gathered_before fore is.first seen is.stands)
      (parts_together fore.run.script.system out base files _ _ is.text);
}

pub HasParts-refused : (base before after : Option Files) (fore : ForeValue) (seen : RasterValue) (out : OutFilesValue)
    → LeavesParts out before after [] → IsUnderway base before fore seen out
    → HasParts fore.run.side fore.run.image fore.run.script out.names base after fore.machine.t
unfolding LeavesParts
HasParts-refused base before after fore seen out leaves is = record {
  run = run_so_far fore is.first seen is.stands;
  parts = parts_at fore.run is.first fore.machine.t out.names base after (gathered_before fore is.first seen is.stands)
      (leaves fore.run.script.system base _ _ is.text);
}

-- what a fault leaves
pub on_err : {T E : Type 0} (r : Result T E) (P : Type 0) → P → OnErr r P
on_err (Ok v) P p = tt
on_err (Err e) P p = p

-- and what stands where none came
pub on_ok : {T E : Type 0} (r : Result T E) (P : Type 0) → P → OnOk r P
on_ok (Ok v) P p = p
on_ok (Err e) P p = tt

pub ok_then : {T E : Type 0} (r : Result T E) (P Q : Type 0) → OnOk r P → (P → Q) → OnOk r Q
ok_then (Ok v) P Q p f = f p
ok_then (Err e) P Q p f = tt

pub err_then : {T E : Type 0} (r : Result T E) (P Q : Type 0) → OnErr r P → (P → Q) → OnErr r Q
err_then (Ok v) P Q p f = tt
err_then (Err e) P Q p f = f p

abbrev RunParts : RunValue → OutNames → Option Files → Option Files → Type 0
RunParts run names base files = (clocks : ℕ) × HasParts run.side run.image run.script names base files clocks

pub stop-advance : (before now : Option Files) (first old : ForeValue) (seen last : RasterValue) (out given : OutFilesValue)
    → old.run ≡ first.run → given.names ≡ out.names → Runs first old seen last out given before now → IsStopped first seen out before now
stop-advance before now first old seen last out given run names runs base is =
    let parts : RunParts old.run given.names base now = (old.machine.t, HasParts-now base now old last given (runs base is)) in
    subst (λ ns. RunParts first.run ns base now) names (subst (λ r. RunParts r given.names base now) run parts)

pub stop-flush : (before now after : Option Files) (first fore : ForeValue) (seen last : RasterValue) (out given : OutFilesValue)
    → fore.run ≡ first.run → given.names ≡ out.names → Runs first fore seen last out given before now → LeavesParts given now after []
    → IsStopped first seen out before after
stop-flush before now after first fore seen last out given run names runs leaves base is =
    let parts : RunParts fore.run given.names base after = (fore.machine.t, HasParts-refused base now after fore last given leaves (runs base is)) in
    subst (λ ns. RunParts first.run ns base after) names (subst (λ r. RunParts r given.names base after) run parts)

-- the end: all bands are gathered
pub IsSettledRun-settled : (base files : Option Files) (old new : ForeValue) (seen after : RasterValue) (out given : OutFilesValue)
    → ((first : ℕ) → IsForeUnderway old first seen → HasSettled old new first seen after out given)
    → IsUnderway base files old seen out → IsSettledRun base files new given
IsSettledRun-settled base files old new seen after out given settles is =
    let so : HasSettled old new is.first seen after out given = settles is.first is.stands in
    let t : ℕ = old.machine.t in
    let system : System = old.run.script.system in
    let text : AreTogether system given base files (bytes_from old.run 0 is.first ++ tinted_range old.run seen.tint is.first t)
    ((state_of old.run t).trace ++ []) = so.gives.text.text system base files _ _ is.text in
    let bytes : bytes_from old.run 0 is.first ++ tinted_range old.run seen.tint is.first t ≡ (state_of old.run t).shown =
    joined old.run seen.tint is.first t so.gives.least is.plain ∙ sym (shown_to old.run t) in
    let whole : AreTogether system given base files (state_of old.run t).shown (state_of old.run t).trace =
    subst (λ lines. AreTogether system given base files (state_of old.run t).shown lines) (append-nil (state_of old.run t).trace)
    (subst (λ pixels. AreTogether system given base files pixels ((state_of old.run t).trace ++ [])) bytes text) in
    record {
      memory = so.settled.machine.memory;
      end = so.settled.end;
      text = subst (λ (r : RunValue). AreTogether r.script.system given base files (state_of r new.machine.t).shown (state_of r new.machine.t).trace)
          (sym so.same) (subst (λ n. AreTogether system given base files (state_of old.run n).shown (state_of old.run n).trace) (sym so.clock) whole);
    }

HasRun-end : (side : SideValue) (image : List ℕ) (script : ScriptValue) (clocks : ℕ) → IsEndOver side image script clocks → HasRun side image script clocks
HasRun-end side image script clocks end = record { running = end.running }

pub HasFiles-written : (base mid after : Option Files) (fore : ForeValue) (out : OutFilesValue) → 1 ≤ fore.run.script.frames
    → Completes out mid after (memory_text fore.machine.chip.words) → IsWritten base mid fore out
    → HasFilesOver fore.run.side fore.run.image fore.run.script out.names base after
unfolding Completes
HasFiles-written base mid after fore out some completes is =
    let s : State = state_of fore.run fore.machine.t in
    record {
      clocks = fore.machine.t;
      end = is.settled.end;
      run = HasRun-end fore.run.side fore.run.image fore.run.script fore.machine.t is.settled.end;
      shown = frames_are_whole fore.run.side fore.run.image fore.run.script fore.machine.t some is.settled.end;
      files = completes fore.run.script.system base s.shown s.trace is.frames is.trace is.settled.text
          ∙ ap (λ words. three_files out.names base (frames_text fore.run.script.system s.shown) (trace_text s.trace) (memory_text words))
          (sym is.settled.memory);
    }

pub HasParts-flush : (base mid after : Option Files) (fore : ForeValue) (out : OutFilesValue) → LeavesParts out mid after []
    → IsSettledRun base mid fore out → HasParts fore.run.side fore.run.image fore.run.script out.names base after fore.machine.t
unfolding LeavesParts
HasParts-flush base mid after fore out leaves is = record {
  run = HasRun-end fore.run.side fore.run.image fore.run.script fore.machine.t is.end;
  parts = leaves fore.run.script.system base _ _ is.text;
}

pub HasEndParts-written : (base mid after : Option Files) (fore : ForeValue) (out : OutFilesValue)
    → LeavesParts out mid after (memory_text fore.machine.chip.words) → IsWritten base mid fore out
    → HasEndParts fore.run.side fore.run.image fore.run.script out.names base after fore.machine.t
unfolding LeavesParts
HasEndParts-written base mid after fore out leaves is =
    let s : State = state_of fore.run fore.machine.t in
    record {
      end = is.settled.end;
      run = HasRun-end fore.run.side fore.run.image fore.run.script fore.machine.t is.settled.end;
      parts = subst (λ words. HoldParts fore.run.script.system out.names base after s.shown s.trace (memory_text words)) (sym is.settled.memory)
          (leaves fore.run.script.system base s.shown s.trace is.settled.text);
    }

-- the start: a foreground at reset, a raster without bands, and files that were created
pub CanRun-start : (run : RunValue) (fore : ForeValue) (seen : RasterValue) → IsNew run fore → IsEmpty run seen → CanRun fore seen
CanRun-start run fore seen new empty = record {
  first = 0;
  stands = new.fits seen empty.outstanding empty.next empty.bound;
  plain = empty.plain;
  fresh = new.fresh;
}

pub IsUnderway-start : (base files : Option Files) (run : RunValue) (fore : ForeValue) (seen : RasterValue) (out : OutFilesValue)
    → IsFresh run.script.system out → Begins out base files → IsNew run fore → IsEmpty run seen → IsUnderway base files fore seen out
unfolding Begins bytes_from state_over reset
IsUnderway-start base files run fore seen out fresh begins new empty =
    let same : out.system ≡ fore.run.script.system = fresh.kind ∙ ap (λ (r : RunValue). r.script.system) (sym new.run_of) in
    let text : AreTogether fore.run.script.system out base files [] [] =
    subst (λ system. AreTogether system out base files [] []) same (begins fresh.frames fresh.trace fresh.given) in
    record {
      first = 0;
      stands = new.fits seen empty.outstanding empty.next empty.bound;
      plain = empty.plain;
      fresh = new.fresh;
      text = subst (λ t. AreTogether fore.run.script.system out base files [] (state_of fore.run t).trace) (sym new.clock) text;
    }

-- a run that was cut, at each place
pub IsCut-clocks : (fore : ForeValue) (seen : RasterValue) (out : OutFilesValue) (before after : Option Files) → IsStopped fore seen out before after
    → IsCut fore seen out before after
IsCut-clocks fore seen out before after stopped base is =
    let parts = stopped base is in
    LeavesPrefixes-parts fore.run.side fore.run.image fore.run.script out.names base after parts.0 parts.1

pub IsCut-settle : (old fore : ForeValue) (seen last : RasterValue) (out given : OutFilesValue) (before now : Option Files) → fore.run ≡ old.run
    → given.names ≡ out.names → Runs old fore seen last out given before now → IsCut old seen out before now
IsCut-settle old fore seen last out given before now run names runs base is =
    let parts = stop-advance before now old fore seen last out given run names runs base is in
    LeavesPrefixes-parts old.run.side old.run.image old.run.script out.names base now parts.0 parts.1

abbrev CutParts : RunValue → OutNames → Option Files → Option Files → Type 0
CutParts run names base files = LeavesPrefixesOver run.side run.image run.script names base files

-- the run has come to its end, and all is settled
pub record IsSettling (old new : ForeValue) (seen after : RasterValue) (out given : OutFilesValue) (before mid : Option Files) : Type 0 where
  pub run : new.run ≡ old.run
  pub names : given.names ≡ out.names
  pub settled : (base : Option Files) → IsUnderway base before old seen out → IsSettledRun base mid new given

pub IsSettling-settled : (old fore new : ForeValue) (seen last after : RasterValue) (out given settled : OutFilesValue) (before mid : Option Files)
    → fore.run ≡ old.run → new.run ≡ fore.run → given.names ≡ out.names → settled.names ≡ given.names
    → Runs old fore seen last out given before mid
    → ((first : ℕ) → IsForeUnderway fore first last → HasSettled fore new first last after given settled)
    → IsSettling old new seen after out settled before mid
IsSettling-settled old fore new seen last after out given settled before mid first_run run first_names names runs settles = record {
  run = run ∙ first_run;
  names = names ∙ first_names;
  settled = λ base is. IsSettledRun-settled base mid fore new last after given settled settles (runs base is);
}

pub IsCut-flush : (old new : ForeValue) (seen last : RasterValue) (out settled : OutFilesValue) (before mid after : Option Files)
    → IsSettling old new seen last out settled before mid → LeavesParts settled mid after [] → IsCut old seen out before after
IsCut-flush old new seen last out settled before mid after so leaves base is =
    let parts : HasParts new.run.side new.run.image new.run.script settled.names base after new.machine.t =
    HasParts-flush base mid after new settled leaves (so.settled base is) in
    let cut : CutParts new.run settled.names base after =
    LeavesPrefixes-parts new.run.side new.run.image new.run.script settled.names base after new.machine.t parts in
    subst (λ ns. CutParts old.run ns base after) so.names (subst (λ r. CutParts r settled.names base after) so.run cut)

-- a flush that has nothing to append
pub StayTogether-none : (out : OutFilesValue) (files : Option Files) → StayTogether out out files files
unfolding StayTogether
StayTogether-none out files system base pixels lines so_far = so_far

-- all is appended
pub Ends-flushed : (old new : ForeValue) (seen last : RasterValue) (out settled given : OutFilesValue) (before mid after : Option Files)
    → IsSettling old new seen last out settled before mid → StayTogether settled given mid after → given ≡ all_given settled
    → Ends old new seen out given before after
unfolding StayTogether
Ends-flushed old new seen last out settled given before mid after so stays empty base is =
    let at : IsSettledRun base mid new settled = so.settled base is in
    record {
      settled = record { memory = at.memory; end = at.end; text = stays new.run.script.system base _ _ at.text };
      frames = ap (λ o. o.frames) empty;
      trace = ap (λ o. o.trace) empty;
    }

-- the mark of a raster stays
pub mark_ran : (old new : ForeValue) (seen after : RasterValue) (out given : OutFilesValue) → RunsOn old new seen after out given
    → CanRun old seen → after.mark ≡ seen.mark
mark_ran old new seen after out given runs can =
    let so : HasRunOn old new can.first seen after out given = runs can.first can.stands in
    so.gives.mark.mark

pub mark_part : (old : ForeValue) (seen after : RasterValue) (out given : OutFilesValue) → GivesPart old seen after out given → CanRun old seen
    → after.mark ≡ seen.mark
mark_part old seen after out given part can =
    let so : HasGivenPart old.run can.first seen after out given = part can.first can.stands in
    so.mark.mark

pub mark_settled : (old new : ForeValue) (seen after : RasterValue) (out given : OutFilesValue) → Settles old new seen after out given → CanRun old seen
    → after.mark ≡ seen.mark
mark_settled old new seen after out given settles can =
    let so : HasSettled old new can.first seen after out given = settles can.first can.stands in
    so.gives.mark.mark

-- from a run that goes on to one at whatever raster without bands
empty_raster : RasterValue
empty_raster = record { outstanding = []; next = 0; bound = None; mark = 0; tint = 0 }

is_empty : (run : RunValue) → IsEmpty run empty_raster
unfolding empty_raster
is_empty run = record { outstanding = refl; next = refl; bound = tt; plain = refl }

pub IsCutFromStart-now : (run : RunValue) (fore : ForeValue) (out : OutFilesValue) (files : Option Files) → IsNew run fore
    → IsCutFromStart run fore out files files
IsCutFromStart-now run fore out files new base begins =
    let parts : HasParts fore.run.side fore.run.image fore.run.script out.names base files fore.machine.t =
    HasParts-now base files fore empty_raster out (begins empty_raster (is_empty run)) in
    subst (λ r. CutParts r out.names base files) new.run_of
    (LeavesPrefixes-parts fore.run.side fore.run.image fore.run.script out.names base files fore.machine.t parts)

pub IsCutFromStart-cut : (run : RunValue) (fore : ForeValue) (seen : RasterValue) (out : OutFilesValue) (before after : Option Files) → IsNew run fore
    → IsEmpty run seen → IsCut fore seen out before after → IsCutFromStart run fore out before after
IsCutFromStart-cut run fore seen out before after new empty cut base begins =
    subst (λ r. CutParts r out.names base after) new.run_of (cut base (begins seen empty))

pub EndsFromStart-ends : (run : RunValue) (old new : ForeValue) (seen : RasterValue) (out given : OutFilesValue) (before after : Option Files)
    → IsEmpty run seen → Ends old new seen out given before after → EndsFromStart run old new out given before after
EndsFromStart-ends run old new seen out given before after empty ends base begins = ends base (begins seen empty)

abbrev RunFiles : RunValue → OutNames → Option Files → Option Files → Type 0
RunFiles run names base files = HasFilesOver run.side run.image run.script names base files

-- the whole run and its stops
pub LeavesPrefixes-create_refused : (side : SideValue) (image : List ℕ) (script : ScriptValue) (names : OutNames) (old new : Outside) (f : WriteFault)
    → CreateAnswers names old new (Err f) → LeavesPrefixesOver side image script names old.files new.files
LeavesPrefixes-create_refused side image script names old new (Failed file) made =
    LeavesPrefixes-all side image script names old.files new.files (inl (made.0, made.3))
LeavesPrefixes-create_refused side image script names old new NoRoomToWrite made = LeavesPrefixes-all side image script names old.files new.files (inl made)

pub begins_created : (base mid : Option Files) (run : RunValue) (fore : ForeValue) (out created : OutFilesValue) → IsFresh run.script.system out
    → created ≡ out → Begins created base mid → IsNew run fore → StartsRun run base mid fore created
begins_created base mid run fore out created fresh same begins new seen empty =
    IsUnderway-start base mid run fore seen created (subst (IsFresh run.script.system) (sym same) fresh) begins new empty

pub HasFiles-run : (base mid now after : Option Files) (run : RunValue) (fore last : ForeValue) (out created given : OutFilesValue)
    → IsFresh run.script.system out → created ≡ out → Begins created base mid → IsNew run fore → 1 ≤ run.script.frames
    → EndsFromStart run fore last created given mid now → last.run ≡ fore.run → given.names ≡ created.names
    → Completes given now after (memory_text last.machine.chip.words) → HasFilesOver run.side run.image run.script out.names base after
HasFiles-run base mid now after run fore last out created given fresh same begins new some ends kept names completes =
    let written : IsWritten base now last given = ends base (begins_created base mid run fore out created fresh same begins new) in
    let is : last.run ≡ run = kept ∙ new.run_of in
    let has : RunFiles last.run given.names base after =
    HasFiles-written base now after last given (subst (λ (r : RunValue). 1 ≤ r.script.frames) (sym is) some) completes written in
    subst (λ ns. RunFiles run ns base after) (names ∙ ap (λ o. o.names) same) (subst (λ r. RunFiles r given.names base after) is has)

pub LeavesPrefixes-run : (base mid after : Option Files) (run : RunValue) (fore : ForeValue) (out created : OutFilesValue)
    → IsFresh run.script.system out → created ≡ out → Begins created base mid → IsNew run fore → IsCutFromStart run fore created mid after
    → LeavesPrefixesOver run.side run.image run.script out.names base after
LeavesPrefixes-run base mid after run fore out created fresh same begins new cut =
    subst (λ o. CutParts run o.names base after) same (cut base (begins_created base mid run fore out created fresh same begins new))

pub LeavesPrefixes-memory : (base mid now after : Option Files) (run : RunValue) (fore last : ForeValue) (out created given : OutFilesValue)
    → IsFresh run.script.system out → created ≡ out → Begins created base mid → IsNew run fore
    → EndsFromStart run fore last created given mid now → last.run ≡ fore.run → given.names ≡ created.names
    → LeavesParts given now after (memory_text last.machine.chip.words) → LeavesPrefixesOver run.side run.image run.script out.names base after
LeavesPrefixes-memory base mid now after run fore last out created given fresh same begins new ends kept names leaves =
    let written : IsWritten base now last given = ends base (begins_created base mid run fore out created fresh same begins new) in
    let parts : HasEndParts last.run.side last.run.image last.run.script given.names base after last.machine.t =
    HasEndParts-written base now after last given leaves written in
    let cut : CutParts last.run given.names base after =
    LeavesPrefixes-end last.run.side last.run.image last.run.script given.names base after last.machine.t parts in
    subst (λ ns. CutParts run ns base after) (names ∙ ap (λ o. o.names) same)
    (subst (λ r. CutParts r given.names base after) (kept ∙ new.run_of) cut)

-- the names of the files stay
pub names_ran : (old new : ForeValue) (seen after : RasterValue) (out given : OutFilesValue) → RunsOn old new seen after out given
    → CanRun old seen → given.names ≡ out.names
names_ran old new seen after out given runs can =
    let so : HasRunOn old new can.first seen after out given = runs can.first can.stands in
    so.gives.text.names

pub names_settled : (old new : ForeValue) (seen after : RasterValue) (out given : OutFilesValue) → Settles old new seen after out given → CanRun old seen
    → given.names ≡ out.names
names_settled old new seen after out given settles can =
    let so : HasSettled old new can.first seen after out given = settles can.first can.stands in
    so.gives.text.names

-- and so does the clock
pub clock_settled : (old new : ForeValue) (seen after : RasterValue) (out given : OutFilesValue) → Settles old new seen after out given → CanRun old seen
    → new.machine.t ≡ old.machine.t
clock_settled old new seen after out given settles can =
    let so : HasSettled old new can.first seen after out given = settles can.first can.stands in
    so.clock

-- the clocks that are left grow fewer
clock_below : (fore : ForeValue) (first : ℕ) (seen : RasterValue) → IsForeUnderway fore first seen → fore.machine.beam.frame < fore.run.script.frames
    → fore.machine.t < fore.run.script.frames * 71364
clock_below fore first seen is going = omega (arith, is.count, is.screen.line, is.screen.clock)

not_done : (frame frames : ℕ) → frame ≤ frames → (frame == frames) ≡ false → frame < frames
not_done frame frames le not = grind (arith, nat_tests)

-- the clocks that are done, where the run is not
few_clocks : (fore : ForeValue) (seen : RasterValue) (done : Bool) → CanRun fore seen → done ≡ is_done fore → done ≡ false
    → fore.machine.t < fore.run.script.frames * 71364
few_clocks fore seen done can is not =
    clock_below fore can.first seen can.stands (not_done _ _ can.stands.frame (sym is ∙ not))

pub room_for_clocks : (fore : ForeValue) (seen : RasterValue) (done : Bool) → CanRun fore seen → done ≡ is_done fore → done ≡ false
    → fore.machine.t + 228 < 2 ^ 64
room_for_clocks fore seen done can is not =
    omega (arith, few_clocks fore seen done can is not, can.stands.good.script.most)

-- the next line is later
pub line_is_later : (fore : ForeValue) (next rest : ℕ) → next ≡ fore.machine.t + rest + 1 → fore.machine.t < next
line_is_later fore next rest is = omega (arith, is)

same_clock : (old new : ForeValue) (first until : ℕ) (seen after : RasterValue) → IsForeUnderway old first seen → IsForeUnderway new until after
    → new.run ≡ old.run → new.machine.t ≡ old.machine.t → is_done new ≡ is_done old
same_clock old new first until seen after was is run t =
    let beam : new.machine.beam ≡ old.machine.beam =
    sym is.at.machine.beam ∙ ap (λ r. beam_at r new.machine.t) run ∙ ap (λ c. beam_at old.run c) t ∙ was.at.machine.beam in
    ap (λ (b : Beam). b.frame == new.run.script.frames) beam ∙ ap (λ (r : RunValue). old.machine.beam.frame == r.script.frames) run

true_is_false : true ≡ false → ⊥
true_is_false e = cc

later_by : (rises : Bool) (a b : ℕ) → nat_lt a b ≡ rises → a ≤ b → (b ≡ a → ⊥) → a < b
later_by true a b is le not_same = grind (arith, nat_tests)
later_by false a b is le not_same = absurd (not_same (grind (arith, nat_tests)))

rise_by : (done : Bool) (old new : ForeValue) (limit : ℕ) → HasCome limit old new → old.machine.t < limit → is_done new ≡ done
    → (new.machine.t ≡ old.machine.t → is_done new ≡ false) → old.machine.t < new.machine.t
rise_by false old new limit come before is same = omega (arith, come.all is, before)
rise_by true old new limit come before is same =
    later_by _ old.machine.t new.machine.t refl come.on (λ t. absurd (true_is_false (sym is ∙ same t)))

-- clocks that a run goes on are some
pub later_clock : (old new : ForeValue) (seen after : RasterValue) (out given : OutFilesValue) (limit : ℕ) → CanRun old seen → is_done old ≡ false
    → RunsOn old new seen after out given → HasCome limit old new → old.machine.t < limit → new.run ≡ old.run → old.machine.t < new.machine.t
later_clock old new seen after out given limit can not runs come before run =
    let so : HasRunOn old new can.first seen after out given = runs can.first can.stands in
    rise_by _ old new limit come before refl
    (λ t. same_clock old new can.first so.until seen after can.stands so.stands run t ∙ not)

-- fewer are left then
pub fewer_left : (old new : ForeValue) (seen : RasterValue) (done : Bool) → CanRun old seen → done ≡ is_done old → done ≡ false
    → old.machine.t < new.machine.t → new.run ≡ old.run
    → new.run.script.frames * 71364 - new.machine.t < old.run.script.frames * 71364 - old.machine.t
fewer_left old new seen done can is not later run =
    let below : old.machine.t < old.run.script.frames * 71364 = few_clocks old seen done can is not in
    let same : new.run.script.frames ≡ old.run.script.frames = ap (λ (r : RunValue). r.script.frames) run in
    omega (arith, below, same, later)

pub fewer_clocks : (old new : ForeValue) (seen after : RasterValue) (out given : OutFilesValue) (done : Bool) (limit : ℕ) → CanRun old seen
    → done ≡ is_done old → done ≡ false → RunsOn old new seen after out given → HasCome limit old new → old.machine.t < limit → new.run ≡ old.run
    → new.run.script.frames * 71364 - new.machine.t < old.run.script.frames * 71364 - old.machine.t
fewer_clocks old new seen after out given done limit can is not runs come before run =
    fewer_left old new seen done can is not (later_clock old new seen after out given limit can (sym is ∙ not) runs come before run) run

-- a new crew is a raster without bands
pub IsEmpty-new : (run : RunValue) (seen : RasterValue)
    → seen ≡ record { outstanding = []; next = 0; bound = Some run; mark = seen.mark; tint = 0 } → IsEmpty run seen
IsEmpty-new run seen is = record {
  outstanding = ap (λ (s : RasterValue). s.outstanding) is;
  next = ap (λ (s : RasterValue). s.next) is;
  bound = subst (λ b. Takes b run) (sym (ap (λ (s : RasterValue). s.bound) is)) refl;
  plain = ap (λ (s : RasterValue). s.tint) is;
}
