-- What the words of the command line and the files come to.
use Rattle.std.specs.Prelude.{ℕ, if◌then◌else◌, List, Option, Some, None}
use Rattle.disk_dma.specs.Disk.{disk_side, new_disk}
use Rattle.disk_dma.specs.Track.{is_track}
use Rattle.ocs_base.specs.Script.{ScriptValue}
use Rattle.ocs_io.specs.Place.{Files, file}
use Rattle.paula_audio.specs.Paula.{paula_side, reset_paula}
use Rattle.run_inputs.specs.Verdict.{InputsVerdict, Absent as NoInput, BadImage as NoImage, BadScript as NoScript, Good as GoodInputs, inputs_verdict}
use Rattle.script_read.specs.declared.fault.BadKind.{BadKind}
use Rattle.serial_model.specs.Side.{SideValue, no_side}
use Rattle.ocs_words.specs.Order.{OrderValue, ExtraValue, NoFile, AudioFile, TrackFile}
use Rattle.ocs_words.specs.RewindOrder.{RewindOrderValue}
use Rattle.ocs_words.specs.Words.{CommandValue, Run, Gen, Rewind as GoTo}

-- the first of these that applies, in the order in which the command does its work
pub data Verdict : Type 0 where
  -- the words are of no command
  Usage : Verdict
  -- an input file is not there, where the order comes to its read
  Absent : List ℕ → Verdict
  -- the image is odd, shorter than 8 bytes or longer than the greater chip memory; or the script is good, and the image longer than
  -- its chip memory
  BadImage : Verdict
  -- the script is bad at a line
  BadScript : ℕ → BadKind → Verdict
  -- the track is odd, shorter than 2 bytes or longer than 32,768
  BadTrack : Verdict
  -- an image and a script whose chip memory it fits, what is asked, and what stands beside the chips as the run begins
  Good : List ℕ → ScriptValue → OrderValue → SideValue → Verdict
  -- a scene: its number, how many lines a band has, and how many workers
  Scene : ℕ → ℕ → ℕ → Verdict
  -- an image and a script whose chip memory it fits, of every how many frames one begins with a checkpoint, how many of these are kept,
  -- and the clocks that are gone to
  Rewind : List ℕ → ScriptValue → ℕ → ℕ → List ℕ → Verdict

-- the disk has the track
abbrev pub of_track : OrderValue → List ℕ → ScriptValue → List ℕ → Option (List ℕ) → Verdict
of_track order image script name None = Absent name
of_track order image script name (Some track) =
    if is_track track then Good image script order (disk_side (new_disk track script.chip)) else BadTrack

-- by the file that the run has besides: nothing stands beside the chips, or the four channels of sound, or the disk
abbrev pub of_extra : OrderValue → Files → List ℕ → ScriptValue → ExtraValue → Verdict
of_extra order files image script NoFile = Good image script order no_side
of_extra order files image script (AudioFile name) = Good image script order (paula_side (reset_paula script.chip))
of_extra order files image script (TrackFile name) = of_track order image script name (file files name)

-- what is asked of an image and a script whose chip memory it fits, and else what the two inputs come to
abbrev pub with_inputs : (List ℕ → ScriptValue → Verdict) → InputsVerdict → Verdict
with_inputs asked (NoInput name) = Absent name
with_inputs asked NoImage = BadImage
with_inputs asked (NoScript line kind) = BadScript line kind
with_inputs asked (GoodInputs image script) = asked image script

abbrev pub of_inputs : (List ℕ → ScriptValue → Verdict) → List ℕ → List ℕ → Files → Verdict
of_inputs asked image_name script_name files = with_inputs asked (inputs_verdict image_name script_name files)

abbrev pub of_order : OrderValue → Files → Verdict
of_order order files = of_inputs (λ image script. of_extra order files image script order.extra) order.image order.script files

abbrev pub of_rewind : RewindOrderValue → Files → Verdict
of_rewind order files = of_inputs (λ image script. Rewind image script order.every order.keep order.clocks) order.image order.script files

-- by the command that the words are
abbrev pub of_command : Option CommandValue → Files → Verdict
of_command None files = Usage
of_command (Some (Run order)) files = of_order order files
of_command (Some (Gen scene)) files = Scene scene.number scene.band scene.workers
of_command (Some (GoTo order)) files = of_rewind order files
