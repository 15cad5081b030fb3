-- What a reader of the command line answers.
use Rattle.std.specs.Prelude.{◌≡◌, ◌≤◌, ℕ, ◌≢◌, Option, Some, None}
use Rattle.ocs_words.specs.Order.{OrderValue, RunWordsValue, ExtraValue, NoFile, AudioFile, TrackFile, audio_of, IsFourthName}
use Rattle.ocs_words.specs.RewindOrder.{RewindOrderValue}
use Rattle.ocs_words.specs.Words.{SceneOrderValue, CommandValue, Run as RunValue, Gen as GenValue, Rewind as RewindValue}
use Rattle.ocs_words.specs.declared.order.Extra.{Extra}
use Rattle.ocs_words.specs.declared.order.Extra.TheVariants.{None as Neither, Audio, Track}
use Rattle.ocs_words.specs.declared.order.Order.{Order}
use Rattle.ocs_words.specs.declared.order.RunWords.{RunWords}
use Rattle.ocs_words.specs.declared.rewind_order.RewindOrder.{RewindOrder}
use Rattle.ocs_words.specs.declared.words.Command.{Command}
use Rattle.ocs_words.specs.declared.words.Command.TheVariants.{Run, Gen, Rewind}
use Rattle.ocs_words.specs.declared.words.SceneOrder.{SceneOrder}

-- the file that a run has besides, as a value
abbrev pub extra_value : Extra → ExtraValue
extra_value Neither = NoFile
extra_value (Audio name) = AudioFile name.now
extra_value (Track name) = TrackFile name.now

abbrev pub IsExtra : Option ExtraValue → Option Extra → Type 0
IsExtra extra None = extra ≡ None
IsExtra extra (Some e) = extra ≡ Some (extra_value e)

-- the order as a value
abbrev pub value_of : Order → OrderValue
value_of o = record {
  image = o.image.now;
  script = o.script.now;
  frames = o.frames.now;
  trace = o.trace.now;
  memory = o.memory.now;
  extra = extra_value o.extra;
  band = o.band;
  workers = o.workers;
}

abbrev pub IsOrder : Option OrderValue → Option Order → Type 0
IsOrder order None = order ≡ None
IsOrder order (Some o) = order ≡ Some (value_of o)

abbrev pub words_value : RunWords → RunWordsValue
words_value w = record {
  image = w.image.now;
  script = w.script.now;
  frames = w.frames.now;
  trace = w.trace.now;
  memory = w.memory.now;
  extra = extra_value w.extra;
  band = w.band.now;
  workers = w.workers.now;
}

abbrev pub AreRunWords : Option RunWordsValue → Option RunWords → Type 0
AreRunWords words None = words ≡ None
AreRunWords words (Some w) = words ≡ Some (words_value w)

-- the names of the files that are written are three, or four
pub record AreApart (o : Order) : Type 0 where
  pub frames_trace : o.frames.now ≢ o.trace.now
  pub frames_memory : o.frames.now ≢ o.memory.now
  pub trace_memory : o.trace.now ≢ o.memory.now
  pub audio : IsFourthName (record { frames = o.frames.now; trace = o.trace.now; memory = o.memory.now }) (audio_of (extra_value o.extra))

-- what the words of `gen` ask for, as a value
abbrev pub scene_value : SceneOrder → SceneOrderValue
scene_value o = record { number = o.number; band = o.band; workers = o.workers }

abbrev pub IsSceneOrder : Option SceneOrderValue → Option SceneOrder → Type 0
IsSceneOrder order None = order ≡ None
IsSceneOrder order (Some o) = order ≡ Some (scene_value o)

-- what the words of `rewind` ask for, as a value
abbrev pub rewind_value : RewindOrder → RewindOrderValue
rewind_value o = record {
  image = o.image.now;
  script = o.script.now;
  every = o.every;
  keep = o.keep;
  clocks = o.clocks.items;
}

abbrev pub IsRewindOrder : Option RewindOrderValue → Option RewindOrder → Type 0
IsRewindOrder order None = order ≡ None
IsRewindOrder order (Some o) = order ≡ Some (rewind_value o)

-- the numbers of a rewind are in the ranges that going to clocks needs
pub record HasRanges (o : RewindOrder) : Type 0 where
  pub every : 1 ≤ o.every
  pub frames : o.every ≤ 1000
  pub keep : 1 ≤ o.keep
  pub checkpoints : o.keep ≤ 64

-- the command as a value
abbrev pub command_value : Command → CommandValue
command_value (Run order) = RunValue (value_of order)
command_value (Gen scene) = GenValue (scene_value scene)
command_value (Rewind order) = RewindValue (rewind_value order)

abbrev pub IsCommand : Option CommandValue → Option Command → Type 0
IsCommand command None = command ≡ None
IsCommand command (Some c) = command ≡ Some (command_value c)

-- no two names of the files that a command writes are one
abbrev pub WritesApart : Command → Type 0
WritesApart (Run order) = AreApart order
WritesApart (Gen scene) = Unit {0}
WritesApart (Rewind order) = Unit {0}

-- a band has 1 to 313 lines
pub record IsHeight (band : ℕ) : Type 0 where
  pub least : 1 ≤ band
  pub most : band ≤ 313

abbrev pub HasHeight : Command → Type 0
HasHeight (Run order) = IsHeight order.band
HasHeight (Gen scene) = IsHeight scene.band
HasHeight (Rewind order) = Unit {0}

-- at most 32 workers draw
abbrev pub HasFewWorkers : Command → Type 0
HasFewWorkers (Run order) = order.workers ≤ 32
HasFewWorkers (Gen scene) = scene.workers ≤ 32
HasFewWorkers (Rewind order) = Unit {0}

-- the numbers of a rewind are in their ranges
abbrev pub IsInRange : Command → Type 0
IsInRange (Run order) = Unit {0}
IsInRange (Gen scene) = Unit {0}
IsInRange (Rewind order) = HasRanges order
