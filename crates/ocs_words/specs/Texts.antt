-- What each status says.
use Rattle.std.specs.Prelude.{ℕ, if◌then◌else◌, List, [], ◌++◌, codes, Option, Some, None, unwrap_or}
use Rattle.out_files.specs.declared.fault.OutFile.TheVariants.{Frames, Trace as TraceOut, Memory}
use Rattle.run_inputs.specs.Texts.{input_fault_text}
use Rattle.ocs_words.specs.declared.fault.Fault.{Fault}
use Rattle.ocs_words.specs.declared.fault.Fault.TheVariants.{Usage, Inputs, BadTrack, UnreadTrack, Unwritten, Unsaid, OutOfMemory}
use Rattle.ocs_words.specs.declared.fault.Output.{Output}
use Rattle.ocs_words.specs.declared.fault.Output.TheVariants.{File, Audio}
use Rattle.ocs_words.specs.Order.{OrderValue, NoFile, audio_of, track_of}
use Rattle.ocs_words.specs.Words.{CommandValue, Run, Gen, Rewind, command_of, begins_with}

abbrev pub track_name : OrderValue → List ℕ
track_name order = unwrap_or (track_of order.extra) []

abbrev pub output_name : OrderValue → Output → List ℕ
output_name order (File Frames) = order.frames
output_name order (File TraceOut) = order.trace
output_name order (File Memory) = order.memory
output_name order Audio = unwrap_or (audio_of order.extra) []

-- the form of the words, by the first of them
unfoldable pub usage_text : List (List ℕ) → List ℕ
usage_text words =
    if begins_with (codes "gen") words then codes "usage: ocs gen N BAND WORKERS\n"
    else (if begins_with (codes "sound") words then codes "usage: ocs sound IMAGE SCRIPT FRAMES TRACE MEMORY AUDIO BAND WORKERS\n"
    else (if begins_with (codes "disk") words then codes "usage: ocs disk IMAGE SCRIPT FRAMES TRACE MEMORY TRACK BAND WORKERS\n"
    else (if begins_with (codes "rewind") words then codes "usage: ocs rewind IMAGE SCRIPT EVERY KEEP CLOCK..\n"
    else codes "usage: ocs run IMAGE SCRIPT FRAMES TRACE MEMORY BAND WORKERS\n")))

-- the text of a fault of a command with this text of its form and this order; a summary or lines that could not be said have none
unfoldable pub fault_text : List ℕ → OrderValue → Fault → List ℕ
fault_text usage order Usage = usage
fault_text usage order (Inputs fault) = input_fault_text order.image order.script fault
fault_text usage order BadTrack = codes "bad track\n"
fault_text usage order UnreadTrack = codes "cannot read " ++ track_name order ++ codes "\n"
fault_text usage order (Unwritten output) = codes "cannot write " ++ output_name order output ++ codes "\n"
fault_text usage order Unsaid = []
fault_text usage order OutOfMemory = codes "out of memory\n"

-- an order without names, which the texts of other faults than those of files do not look at
abbrev pub no_order : OrderValue
no_order = record { image = []; script = []; frames = []; trace = []; memory = []; extra = NoFile; band = 0; workers = 0 }

-- the names of the files of a command, as those of an order: a rewind has the two inputs of a run
abbrev pub order_or_none : Option CommandValue → OrderValue
order_or_none None = no_order
order_or_none (Some (Run order)) = order
order_or_none (Some (Gen scene)) = no_order
order_or_none (Some (Rewind order)) = record no_order { image = order.image; script = order.script }

abbrev pub text_of : List (List ℕ) → Fault → List ℕ
text_of words fault = fault_text (usage_text words) (order_or_none (command_of words)) fault
