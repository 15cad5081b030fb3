-- What the parts of a clock make of a foreground, at whatever clock of its run it stands.
use Rattle.std.specs.Prelude.{◌≡◌, ◌≤◌, ◌<◌, ℕ, ◌+◌, Bool, true, false, List, [], ◌++◌, length, drop}
use Rattle.ocs_base.specs.declared.beam.Beam.{Beam}
use Rattle.out_files.specs.OutFiles.{OutFilesValue}
use Rattle.serial_model.specs.declared.bus.Ask.{Ask}
use Rattle.serial_model.specs.declared.trace.TraceLine.{TraceLine}
use Rattle.serial_model.specs.Beam.{place_of}
use Rattle.serial_model.specs.State.{State}
use Rattle.serial_model.specs.Events.{due_events, touches_of}
use Rattle.serial_model.specs.Tick.{start_clock, ask_of}
use Rattle.serial_bands.specs.Run.{RunValue, state_of, beam_at}
use Rattle.serial_model.specs.Made.{is_clx_read}
use Rattle.serial_bands.specs.Clock.{due_at, made_at}
use Rattle.serial_bands.specs.Bands.{has_clx_read}
use Rattle.band_log.specs.Raster.{RasterValue}
use Rattle.machine.specs.Machine.{MachineValue, IsMachineOf, IsSamePlace, HasAskedOf, MakesQuietly, KeepsPlace}
use Rattle.picture_log.specs.Log.{IsLogOf, with_script_touches}
use Rattle.band_gather.specs.Gathered.{Fits}
use Rattle.foreground.specs.Script.{IsLeft, HasLater, MakesEvents}
use Rattle.serial_bands.specs.Access.{access_state, accessed_state}
use Rattle.foreground.specs.Clock.{IsAt, HasBegun, IsLogged, IsBeforeAccess, IsBehindAccess, Tells, HasGiven, HasGivenPart}
use Rattle.foreground.specs.Fore.{ForeValue, HasScript, IsUnderway}

-- a foreground at a clock, in each of these stages
abbrev pub IsBegun : ForeValue → ℕ → RasterValue → Type 0
IsBegun fore first seen = HasBegun fore.run fore.machine.t first fore.machine fore.log fore.clx seen

abbrev pub IsBefore : ForeValue → ℕ → RasterValue → Type 0
IsBefore fore first seen = IsBeforeAccess fore.run fore.machine.t first fore.machine fore.log fore.clx seen

abbrev pub IsLoggedBefore : ForeValue → ℕ → RasterValue → Type 0
IsLoggedBefore fore first seen = IsLogged fore.run fore.machine.t first fore.machine.chip fore.log fore.clx seen

abbrev pub IsBehind : ForeValue → ℕ → RasterValue → Type 0
IsBehind fore first seen = IsBehindAccess fore.run fore.machine.t first fore.machine fore.log fore.clx seen

-- all but log, memory and collision bits stays
abbrev pub KeepsMachine : ForeValue → ForeValue → Type 0
KeepsMachine old new =
    new ≡ record old { machine = record old.machine { chip = new.machine.chip }; log = new.log; clx = new.clx }

-- what precedes the first step of a clock: its band has begun, and the script's first read of CLXDAT will see these bits
pub record HasBegunClock (old new : ForeValue) (first clx : ℕ) (seen after : RasterValue) (out given : OutFilesValue) : Type 0 where
  pub until : ℕ
  pub same : KeepsMachine old new
  pub words : new.machine.chip.words ≡ old.machine.chip.words
  pub begun : IsBegun new until after
  pub bits : has_clx_read (due_at old.run old.machine.t) ≡ true → (state_of old.run old.machine.t).clx ≡ clx
  pub gives : HasGiven old.run first until seen after out given []

abbrev pub BeginsClock : ForeValue → ForeValue → ℕ → RasterValue → RasterValue → OutFilesValue → OutFilesValue → Type 0
BeginsClock old new clx seen after out given =
    (first : ℕ) → IsUnderway old first seen → HasBegunClock old new first clx seen after out given

-- memory was wanted: a part of the pixels of outstanding bands was given. The first is of a foreground at the start of a clock, the second of one within
abbrev pub BeginsPart : ForeValue → RasterValue → RasterValue → OutFilesValue → OutFilesValue → Type 0
BeginsPart old seen after out given = (first : ℕ) → IsUnderway old first seen → HasGivenPart old.run first seen after out given

abbrev pub AccessesPart : ForeValue → RasterValue → RasterValue → OutFilesValue → OutFilesValue → Type 0
AccessesPart old seen after out given = (first : ℕ) → IsLoggedBefore old first seen → HasGivenPart old.run first seen after out given

-- place and count of clocks stay; run, script's cursor and whether memory was wanted too
pub record KeepsClock (old new : ForeValue) : Type 0 where
  pub run : new.run ≡ old.run
  pub t : new.machine.t ≡ old.machine.t
  pub beam : IsSamePlace old.machine.beam new.machine.beam
  pub next : new.next ≡ old.next
  pub spent : new.spent ≡ old.spent

-- what is left of the script behind the events of a clock
pub record HasScriptBehind (run : RunValue) (b : Beam) (was next : ℕ) : Type 0 where
  pub within : next ≤ length run.script.events
  pub left : IsLeft (place_of b + 1) (drop next run.script.events)
  pub later : HasLater b (drop was run.script.events) (drop next run.script.events)

-- the steps up to the access: the script's events, the timers and the picture step
pub record ReachesAccess (clx : ℕ) (old new : ForeValue) (out given : OutFilesValue) : Type 0 where
  pub run : new.run ≡ old.run
  pub t : new.machine.t ≡ old.machine.t
  pub beam : IsSamePlace old.machine.beam new.machine.beam
  pub spent : new.spent ≡ old.spent
  pub script : HasScript old.run old.machine.beam old.next → HasScriptBehind old.run old.machine.beam old.next new.next
  pub stands : (first : ℕ) (seen : RasterValue) → IsBegun old first seen → HasScript old.run old.machine.beam old.next →
      (has_clx_read (due_at old.run old.machine.t) ≡ true → (state_of old.run old.machine.t).clx ≡ clx) →
      IsBefore new first seen × Tells (state_of old.run old.machine.t) (access_state old.run old.machine.t) out given
  pub reads : new.machine.chip.reads ≡ old.machine.chip.reads

-- the first two steps: its machine has started the clock, and the script's events have happened
pub record RunsEvents (clx : ℕ) (old new : ForeValue) (out given : OutFilesValue) : Type 0 where
  pub started : MachineValue
  pub start : MakesQuietly start_clock old.machine started
  pub first : started ≡ record old.machine { chips = started.chips }
  pub events : MakesEvents clx (due_events started.beam old.run.script.events) started out new.machine given
  pub place : KeepsPlace started new.machine
  pub notes : new.log ≡ with_script_touches started.t (touches_of (due_events started.beam old.run.script.events)) old.log
  pub script : HasScriptBehind old.run started.beam old.next new.next
  pub same : new ≡ record old { machine = new.machine; log = new.log; next = new.next }

-- it has reached the access, and its chips have asked for the slot: what the foreground was right before
pub record ReachesAsk (clx : ℕ) (ask : Ask) (old new : ForeValue) (out given : OutFilesValue) : Type 0 where
  pub between : ForeValue
  pub reaches : ReachesAccess clx old between out given
  pub asks : (s : State) → IsMachineOf between.machine s → ask ≡ ask_of s
  pub asked : (s : State) → IsMachineOf between.machine s → HasAskedOf new.machine s
  pub chips : new.machine ≡ record between.machine { chips = new.machine.chips }
  pub same : new ≡ record between { machine = new.machine }

-- its chips have asked for the slot, as the access of the clock does
pub record HasAskedNow (ask : Ask) (fore : ForeValue) : Type 0 where
  pub asks : ask ≡ ask_of (access_state fore.run fore.machine.t)
  pub asked : HasAskedOf fore.machine (access_state fore.run fore.machine.t)
  pub place : IsSamePlace (beam_at fore.run fore.machine.t) fore.machine.beam

-- the access
pub record HasMadeAccess (old new : ForeValue) (first : ℕ) (seen after : RasterValue) (out given : OutFilesValue) : Type 0 where
  pub until : ℕ
  pub behind : IsBehind new until after
  pub lines : List TraceLine
  pub trace : (accessed_state old.run old.machine.t).trace ≡ (access_state old.run old.machine.t).trace ++ lines
  pub gives : HasGiven old.run first until seen after out given lines

abbrev pub MakesItsAccess : ForeValue → ForeValue → RasterValue → RasterValue → OutFilesValue → OutFilesValue → Type 0
MakesItsAccess old new seen after out given = (first : ℕ) → IsBefore old first seen → HasMadeAccess old new first seen after out given

-- the same once its chips have asked
abbrev pub MakesAskedAccess : ForeValue → ForeValue → RasterValue → RasterValue → OutFilesValue → OutFilesValue → Type 0
MakesAskedAccess old new seen after out given =
    (first : ℕ) → IsLoggedBefore old first seen → HasMadeAccess old new first seen after out given

-- the steps behind the access: it stands at the start of the next clock
pub record EndsClock (old new : ForeValue) (out given : OutFilesValue) : Type 0 where
  pub run : new.run ≡ old.run
  pub next : new.next ≡ old.next
  pub spent : new.spent ≡ old.spent
  pub t : new.machine.t ≡ old.machine.t + 1
  pub log : new.log ≡ old.log
  pub clx : new.clx ≡ old.clx
  pub chip : new.machine.chip ≡ old.machine.chip
  pub stands : (first : ℕ) (seen : RasterValue) → IsBehind old first seen →
      IsAt old.run (old.machine.t + 1) first new.machine new.log new.clx seen
      × Tells (accessed_state old.run old.machine.t) (state_of old.run (old.machine.t + 1)) out given

-- right before the picture step of a clock with which a band begins: log and memory stand there, and no band is outstanding
pub record StandsAtRead (to : ℕ) (fore : ForeValue) (seen : RasterValue) : Type 0 where
  pub log : IsLogOf fore.run to fore.log fore.machine.chip
  pub fits : Fits fore.run fore.log.band.number to to seen
  pub begin : fore.log.band.from ≡ to
  pub time : fore.machine.chip.newest ≤ to

-- CLXDAT is read in a clock: by the script before its picture step, or by its access. All bands before that are gathered, and the
-- bits are cleared
pub record HasReadByScript (old new : ForeValue) (first clx : ℕ) (seen after : RasterValue) (out given : OutFilesValue) : Type 0 where
  pub same : KeepsMachine old new
  pub words : new.machine.chip.words ≡ old.machine.chip.words
  pub bits : (state_of old.run old.machine.t).clx ≡ clx
  pub empty : new.clx ≡ 0
  pub at : StandsAtRead old.machine.t new after
  pub gives : HasGiven old.run first old.machine.t seen after out given []

pub record HasReadByAccess (old new : ForeValue) (first clx : ℕ) (seen after : RasterValue) (out given : OutFilesValue) : Type 0 where
  pub same : KeepsMachine old new
  pub words : new.machine.chip.words ≡ old.machine.chip.words
  pub bits : (access_state old.run old.machine.t).clx ≡ clx
  pub empty : new.clx ≡ 0
  pub at : StandsAtRead (old.machine.t + 1) new after
  pub gives : HasGiven old.run first (old.machine.t + 1) seen after out given []

-- the foreground stands right before a read of CLXDAT: by the script at the start of a clock, where one of its events there reads
-- it, or, `shown`, by the access of the clock, while the beam is at the clock's place
abbrev pub StandsBeforeRead : Bool → ForeValue → RasterValue → Type 0
StandsBeforeRead false fore seen =
    (first : ℕ) × IsUnderway fore first seen × (has_clx_read (due_at fore.run fore.machine.t) ≡ true)
    × (fore.machine.beam.frame < fore.run.script.frames)
StandsBeforeRead true fore seen =
    (first : ℕ) × IsLoggedBefore fore first seen × (is_clx_read (made_at fore.run fore.machine.t) ≡ true)
    × IsSamePlace (beam_at fore.run fore.machine.t) fore.machine.beam

abbrev pub ReadsBits : Bool → ForeValue → ForeValue → ℕ → RasterValue → RasterValue → OutFilesValue → OutFilesValue → Type 0
ReadsBits false old new clx seen after out given =
    (first : ℕ) → IsUnderway old first seen → HasReadByScript old new first clx seen after out given
ReadsBits true old new clx seen after out given =
    (first : ℕ) → IsLoggedBefore old first seen → HasReadByAccess old new first clx seen after out given

abbrev pub ReadsPart : Bool → ForeValue → RasterValue → RasterValue → OutFilesValue → OutFilesValue → Type 0
ReadsPart false old seen after out given = BeginsPart old seen after out given
ReadsPart true old seen after out given = AccessesPart old seen after out given
