-- What a run keeps from clock to clock: the foreground, the raster that draws its bands, and the files.
use Rattle.std.specs.Prelude.{◌≡◌, ◌≤◌, ◌<◌, ℕ, ◌+◌, ◌-◌, max, true, false, [], Option}
use Rattle.ocs_base.specs.declared.system.System.{System}
use Rattle.ocs_io.specs.Place.{Files}
use Rattle.out_files.specs.OutFiles.{OutFilesValue}
use Rattle.out_files.specs.Together.{AreTogether}
use Rattle.band_log.specs.Raster.{RasterValue, Takes}
use Rattle.crew.specs.Crew.{side_seen}
use Rattle.run_side.specs.declared.side.RunSide.{RunSide}
use Rattle.serial_bands.specs.Run.{RunOf, RunValue, run_over, state_of, IsEndOf}
use Rattle.serial_bands.specs.BandShown.{bytes_from}
use Rattle.foreground.specs.Fore.{ForeOf, ForeValue, over, IsUnderway as IsForeUnderway}
use Rattle.files_run.specs.Audio.{is_sampled, audio_text}
use Rattle.files_run.specs.Prefix.{LeavesPrefixesOver}
use Rattle.files_run.specs.Run.{HasParts}
use Rattle.files_run.specs.declared.audio.Recording.{Recording}

-- a run over a side of the program, and the foreground of one
abbrev pub run_of : RunOf RunSide → RunValue
run_of run = run_over side_seen run

abbrev pub fore_of : ForeOf RunSide → ForeValue
fore_of fore = over side_seen fore

-- The foreground stands for the state after as many clocks as it counts, over a raster without a tint; of the files `base` the three were created,
-- and they and what is pending for them are together the pixels of the bands that were gathered, and all lines of the trace.
pub record IsUnderway (base files : Option Files) (fore : ForeValue) (seen : RasterValue) (out : OutFilesValue) : Type 0 where
  pub first : ℕ
  pub stands : IsForeUnderway fore first seen
  pub plain : seen.tint ≡ 0
  pub fresh : fore.spent ≡ false
  pub text : AreTogether fore.run.script.system out base files (bytes_from fore.run 0 first) (state_of fore.run fore.machine.t).trace

-- what a run needs: the foreground stands somewhere in it, and the raster has no tint
pub record CanRun (fore : ForeValue) (seen : RasterValue) : Type 0 where
  pub first : ℕ
  pub stands : IsForeUnderway fore first seen
  pub plain : seen.tint ≡ 0
  pub fresh : fore.spent ≡ false

-- the clocks of this line from the present one on and before the clock `limit` are not sampled; that is this clock alone, or none lies behind the
-- line's clock 226
pub record AreUnsampled (limit : ℕ) (fore : ForeValue) : Type 0 where
  pub line : limit ≤ fore.machine.t + max 1 (227 - fore.machine.beam.h)
  pub none : (k : ℕ) → fore.machine.t + k < limit → is_sampled (record fore.machine.beam { h = fore.machine.beam.h + k }) ≡ false

-- what was taken up to the clock of a foreground, where it is taken
pub record IsHeard (audio : Recording) (fore : ForeValue) : Type 0 where
  pub taken : audio.on ≡ true → audio.bytes.items ≡ audio_text fore.run.side fore.run.image fore.run.script fore.machine.t

-- run and names of the files stay, and what the run sounds was taken up to its clock
pub record IsOfSameRun (old new : ForeValue) (out given : OutFilesValue) (audio : Recording) : Type 0 where
  pub run : new.run ≡ old.run
  pub names : given.names ≡ out.names
  pub heard : IsHeard audio new

-- the run has gone on
abbrev pub Runs : ForeValue → ForeValue → RasterValue → RasterValue → OutFilesValue → OutFilesValue → Option Files → Option Files → Type 0
Runs old new seen now out given before after =
    (base : Option Files) → IsUnderway base before old seen out → IsUnderway base after new now given

-- it was stopped: after so many clocks each file has a part of its text
abbrev pub IsStopped : ForeValue → RasterValue → OutFilesValue → Option Files → Option Files → Type 0
IsStopped fore seen out before after =
    (base : Option Files) → IsUnderway base before fore seen out →
    (clocks : ℕ) × HasParts fore.run.side fore.run.image fore.run.script out.names base after clocks

-- output files of a machine of this system that nothing was given to yet
pub record IsFresh (system : System) (out : OutFilesValue) : Type 0 where
  pub kind : out.system ≡ system
  pub frames : out.frames ≡ []
  pub trace : out.trace ≡ []
  pub given : out.given ≡ 0

-- a raster without bands, for a run and without a tint
pub record IsEmpty (run : RunValue) (seen : RasterValue) : Type 0 where
  pub outstanding : seen.outstanding ≡ []
  pub next : seen.next ≡ 0
  pub bound : Takes seen.bound run
  pub plain : seen.tint ≡ 0

-- at the end all bands are gathered, and the texts are whole
pub record IsSettledRun (base files : Option Files) (fore : ForeValue) (out : OutFilesValue) : Type 0 where
  pub memory : (state_of fore.run fore.machine.t).memory ≡ fore.machine.chip.words
  pub end : IsEndOf fore.run fore.machine.t
  pub text : AreTogether fore.run.script.system out base files (state_of fore.run fore.machine.t).shown (state_of fore.run fore.machine.t).trace

-- and nothing is pending
pub record IsWritten (base files : Option Files) (fore : ForeValue) (out : OutFilesValue) : Type 0 where
  pub settled : IsSettledRun base files fore out
  pub frames : out.frames ≡ []
  pub trace : out.trace ≡ []

-- from there the run came to its end, and nothing is pending
abbrev pub Ends : ForeValue → ForeValue → RasterValue → OutFilesValue → OutFilesValue → Option Files → Option Files → Type 0
Ends old new seen out given before after =
    (base : Option Files) → IsUnderway base before old seen out → IsWritten base after new given

-- or it was cut, and each file is as before or has a part of its text
abbrev pub IsCut : ForeValue → RasterValue → OutFilesValue → Option Files → Option Files → Type 0
IsCut fore seen out before after =
    (base : Option Files) → IsUnderway base before fore seen out → LeavesPrefixesOver fore.run.side fore.run.image fore.run.script out.names base after

-- a run that begins with whatever raster without bands
abbrev pub StartsRun : RunValue → Option Files → Option Files → ForeValue → OutFilesValue → Type 0
StartsRun run base files fore out = (seen : RasterValue) → IsEmpty run seen → IsUnderway base files fore seen out

-- it came to its end, or was cut
abbrev pub EndsFromStart : RunValue → ForeValue → ForeValue → OutFilesValue → OutFilesValue → Option Files → Option Files → Type 0
EndsFromStart run old new out given before after =
    (base : Option Files) → StartsRun run base before old out → IsWritten base after new given

abbrev pub IsCutFromStart : RunValue → ForeValue → OutFilesValue → Option Files → Option Files → Type 0
IsCutFromStart run fore out before after =
    (base : Option Files) → StartsRun run base before fore out → LeavesPrefixesOver run.side run.image run.script out.names base after
