-- The words of the command line.
use Rattle.std.specs.Prelude.{◌≢◌, ℕ, if◌then◌else◌, List, [], ◌∷◌, codes, bytes_eq, Option, Some, None}
use Rattle.ocs_io.specs.Numbers.{dec_of}
use Rattle.out_files.specs.OutFiles.{OutNames}
use Rattle.run_inputs.specs.Names.{are_names, kept_within}

-- the file that a run has besides the two that every run reads and the three that it writes
pub data ExtraValue : Type 0 where
  -- none
  NoFile : ExtraValue
  -- what it sounds is written to the file of this name
  AudioFile : List ℕ → ExtraValue
  -- its disk is read from the file of this name
  TrackFile : List ℕ → ExtraValue

-- what the words of a run ask for
pub record OrderValue : Type 0 where
  pub image : List ℕ
  pub script : List ℕ
  pub frames : List ℕ
  pub trace : List ℕ
  pub memory : List ℕ
  pub extra : ExtraValue
  pub band : ℕ
  pub workers : ℕ

-- how many lines a band has, 1 to 313
abbrev pub band_of : List ℕ → Option ℕ
band_of text = kept_within 1 313 (dec_of text)

-- how many workers, 0 to 32
abbrev pub workers_of : List ℕ → Option ℕ
workers_of text = kept_within 0 32 (dec_of text)

-- the words of a run, behind the first
pub record RunWordsValue : Type 0 where
  pub image : List ℕ
  pub script : List ℕ
  pub frames : List ℕ
  pub trace : List ℕ
  pub memory : List ℕ
  pub extra : ExtraValue
  pub band : List ℕ
  pub workers : List ℕ

-- what the sixth name is of, by the first word
abbrev pub extra_of : List ℕ → List ℕ → Option ExtraValue
extra_of command name =
    if bytes_eq command (codes "sound") then Some (AudioFile name)
    else (if bytes_eq command (codes "disk") then Some (TrackFile name) else None)

abbrev pub with_extra : Option ExtraValue → List ℕ → List ℕ → List ℕ → List ℕ → List ℕ → List ℕ → List ℕ → Option RunWordsValue
with_extra None image script frames trace memory band workers = None
with_extra (Some extra) image script frames trace memory band workers = Some (record {
  image = image;
  script = script;
  frames = frames;
  trace = trace;
  memory = memory;
  extra = extra;
  band = band;
  workers = workers;
})

-- `run IMAGE SCRIPT FRAMES TRACE MEMORY BAND WORKERS`, `sound IMAGE SCRIPT FRAMES TRACE MEMORY AUDIO BAND WORKERS` or
-- `disk IMAGE SCRIPT FRAMES TRACE MEMORY TRACK BAND WORKERS`
abbrev pub run_words_of : List (List ℕ) → Option RunWordsValue
run_words_of (command ∷ image ∷ script ∷ frames ∷ trace ∷ memory ∷ band ∷ workers ∷ []) =
    with_extra (if bytes_eq command (codes "run") then Some NoFile else None) image script frames trace memory band workers
run_words_of (command ∷ image ∷ script ∷ frames ∷ trace ∷ memory ∷ extra ∷ band ∷ workers ∷ []) =
    with_extra (extra_of command extra) image script frames trace memory band workers
run_words_of words = None

-- the names of a run's files beside the five
abbrev pub extra_names : ExtraValue → List (List ℕ)
extra_names NoFile = []
extra_names (AudioFile name) = name ∷ []
extra_names (TrackFile name) = name ∷ []

-- a run that has a track
abbrev pub HasTrack : ExtraValue → Type 0
HasTrack NoFile = ⊥
HasTrack (AudioFile name) = ⊥
HasTrack (TrackFile name) = Unit {0}

-- the audio file, where there is one
abbrev pub audio_of : ExtraValue → Option (List ℕ)
audio_of NoFile = None
audio_of (AudioFile name) = Some name
audio_of (TrackFile name) = None

-- and the track
abbrev pub track_of : ExtraValue → Option (List ℕ)
track_of NoFile = None
track_of (AudioFile name) = None
track_of (TrackFile name) = Some name

abbrev pub order_with : RunWordsValue → Option ℕ → Option ℕ → Option OrderValue
order_with w None workers = None
order_with w (Some band) None = None
order_with w (Some band) (Some workers) = Some (record {
  image = w.image;
  script = w.script;
  frames = w.frames;
  trace = w.trace;
  memory = w.memory;
  extra = w.extra;
  band = band;
  workers = workers;
})

-- the order, where the names differ and are not empty, and the numbers are in their ranges
abbrev pub order_from : RunWordsValue → Option OrderValue
order_from w =
    if are_names (w.image ∷ w.script ∷ w.frames ∷ w.trace ∷ w.memory ∷ extra_names w.extra)
    then order_with w (band_of w.band) (workers_of w.workers)
    else None

abbrev pub order_in_words : Option RunWordsValue → Option OrderValue
order_in_words None = None
order_in_words (Some w) = order_from w

abbrev pub order_of : List (List ℕ) → Option OrderValue
order_of words = order_in_words (run_words_of words)

-- the name of the audio file, where there is one, is none of the three
pub record IsFourth (names : OutNames) (name : List ℕ) : Type 0 where
  pub frames : names.frames ≢ name
  pub trace : names.trace ≢ name
  pub memory : names.memory ≢ name

abbrev pub IsFourthName : OutNames → Option (List ℕ) → Type 0
IsFourthName names None = Unit {0}
IsFourthName names (Some name) = IsFourth names name
