-- Faults of a command.
use Rattle.out_files.specs.declared.fault.WriteFault.{WriteFault}
use Rattle.out_files.specs.declared.fault.WriteFault.TheVariants.{Failed, OutOfMemory as NoRoomToWrite}
use Rattle.std.specs.Prelude.{ℕ, List, Option, Some, None}
use Rattle.ocs_io.specs.Place.{Outside, Rose}
use Rattle.ocs_words.specs.declared.fault.Fault.{Fault}
use Rattle.ocs_words.specs.declared.fault.Fault.TheVariants.{Usage, Inputs, BadTrack, UnreadTrack, Unwritten, Unsaid, OutOfMemory as NoRoom}
use Rattle.ocs_words.specs.declared.fault.Output.{Output}
use Rattle.ocs_words.specs.declared.fault.Output.TheVariants.{File, Audio}
use Rattle.run_inputs.specs.Fault.{status_of as status_of_inputs}

-- that of a run, whose files could not be written or which wanted memory
abbrev pub of_write : WriteFault → Fault
of_write (Failed file) = Unwritten (File file)
of_write NoRoomToWrite = NoRoom

-- the exit status of the command
abbrev pub status_of : Fault → ℕ
status_of Usage = 2
status_of (Inputs fault) = status_of_inputs fault
status_of UnreadTrack = 5
status_of (Unwritten output) = 6
status_of Unsaid = 6
status_of NoRoom = 7
status_of BadTrack = 9

-- an output of a run, by the name of its audio file where it has one
abbrev pub IsOutputOf : Option (List ℕ) → Output → Type 0
IsOutputOf audio (File file) = Unit {0}
IsOutputOf None Audio = ⊥
IsOutputOf (Some name) Audio = Unit {0}

-- why a run of good inputs was stopped: one of its files could not be written, and the count of these faults rose, or memory was
-- wanting
abbrev pub IsRunFault : Option (List ℕ) → Outside → Outside → Fault → Type 0
IsRunFault audio old new Usage = ⊥
IsRunFault audio old new (Inputs fault) = ⊥
IsRunFault audio old new BadTrack = ⊥
IsRunFault audio old new UnreadTrack = ⊥
IsRunFault audio old new (Unwritten output) = Rose old.write_faults new.write_faults × IsOutputOf audio output
IsRunFault audio old new Unsaid = ⊥
IsRunFault audio old new NoRoom = Unit {0}
