-- A run that a crew draws: the crew as the body sees it, and what stands where the body's borrows ended.
use Rattle.std.proofs.Common.{◌≡◌, Result, Ok, Err, OnOk, OnErr, ap, ◌∙◌, sym, subst}
use Rattle.ocs_io.specs.Place.{Outside}
use Rattle.out_files.specs.OutFiles.{OutFilesValue}
use Rattle.serial_bands.specs.Run.{RunValue}
use Rattle.crew.specs.declared.crew.Crew.{Crew}
use Rattle.crew.specs.Crew.{crew_seen, IsNewCrew}
use Rattle.foreground.specs.Fore.{ForeValue, IsNew}
use Rattle.out_files.specs.declared.fault.WriteFault.{WriteFault}
use Rattle.files_run.specs.Underway.{IsEmpty, Ends, IsCut, EndsFromStart, IsCutFromStart, IsOfSameRun}
use Rattle.files_run.specs.declared.audio.Recording.{Recording}
use Rattle.files_run.proofs.RunLaws.{IsEmpty-new, EndsFromStart-ends, IsCutFromStart-cut}
use Rattle.band_log.specs.Raster.{RasterValue}

module _ {R G : Type 0} where
  -- a new crew, as it is lent to the body
  pub IsEmpty-lent : (run : RunValue) (crew lent : Crew R G) → lent ≡ crew → IsNewCrew run crew → IsEmpty run (crew_seen lent)
  IsEmpty-lent run crew lent is new = IsEmpty-new run (crew_seen lent) (subst (λ k. IsNewCrew run k) (sym is) new)

  -- the mark of the crew that it leaves
  pub mark_left : (crew lent given left : Crew R G) → lent ≡ crew → given ≡ left → (crew_seen given).mark ≡ (crew_seen lent).mark
      → (crew_seen left).mark ≡ (crew_seen crew).mark
  mark_left crew lent given left is leaves same =
      ap (λ k. (crew_seen k).mark) (sym leaves) ∙ same ∙ ap (λ k. (crew_seen k).mark) is

abbrev RunResult : Type 0
RunResult = Result (Unit {0}) WriteFault

-- the run is the same where the borrows ended with what it left
pub IsOfSameRun-left : (answer : RunResult) (old left new : ForeValue) (out given last : OutFilesValue) (heard audio : Recording) → new ≡ left
    → last ≡ given → audio ≡ heard → OnOk answer (IsOfSameRun old left out given heard) → OnOk answer (IsOfSameRun old new out last audio)
IsOfSameRun-left (Ok done) old left new out given last heard audio fore file sound same =
    subst (λ f. IsOfSameRun old f out last audio) (sym fore)
    (subst (λ o. IsOfSameRun old left out o audio) (sym file) (subst (λ a. IsOfSameRun old left out given a) (sym sound) same))
IsOfSameRun-left (Err fault) old left new out given last heard audio fore file sound same = tt

module _ {P : Type 0} (outside : P → Outside) (run : RunValue) (old : ForeValue) (seen : RasterValue) (out : OutFilesValue) (before after now : P) where
  -- the run came to its end, and the borrows ended with what it left
  pub EndsFromStart-left : (answer : RunResult) (left new : ForeValue) (given last : OutFilesValue) → IsEmpty run seen → new ≡ left → last ≡ given
      → now ≡ after → OnOk answer (Ends old left seen out given (outside before).files (outside after).files)
      → OnOk answer (EndsFromStart run old new out last (outside before).files (outside now).files)
  EndsFromStart-left (Err fault) left new given last empty fore file place ends = tt
  EndsFromStart-left (Ok done) left new given last empty fore file place ends =
      let so : EndsFromStart run old left out given (outside before).files (outside after).files =
      EndsFromStart-ends run old left seen out given (outside before).files (outside after).files empty ends in
      subst (λ f. EndsFromStart run old f out last (outside before).files (outside now).files) (sym fore)
      (subst (λ o. EndsFromStart run old left out o (outside before).files (outside now).files) (sym file)
      (subst (λ p. EndsFromStart run old left out given (outside before).files (outside p).files) (sym place) so))

  -- or it was cut
  pub IsCutFromStart-left : (answer : RunResult) → IsNew run old → IsEmpty run seen → now ≡ after
      → OnErr answer (IsCut old seen out (outside before).files (outside after).files)
      → OnErr answer (IsCutFromStart run old out (outside before).files (outside now).files)
  IsCutFromStart-left (Ok done) new empty place cut = tt
  IsCutFromStart-left (Err fault) new empty place cut =
      subst (λ p. IsCutFromStart run old out (outside before).files (outside p).files) (sym place)
      (IsCutFromStart-cut run old seen out (outside before).files (outside after).files new empty cut)
