-- Faults of the command.
use Rattle.std.specs.Prelude.{ℕ}
use Rattle.run_inputs.specs.Fault.{status_of as status_of_inputs}
use Rattle.slots_run.specs.declared.fault.SlotsFault.{SlotsFault}
use Rattle.slots_run.specs.declared.fault.SlotsFault.TheVariants.{Usage, Inputs, Unwritten, OutOfMemory}

-- the exit status of the command
abbrev pub status_of : SlotsFault → ℕ
status_of Usage = 2
status_of (Inputs fault) = status_of_inputs fault
status_of Unwritten = 6
status_of OutOfMemory = 7
