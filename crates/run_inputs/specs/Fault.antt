-- Faults of the inputs of a run.
use Rattle.std.specs.Prelude.{ℕ}
use Rattle.run_inputs.specs.declared.fault.InputFault.{InputFault}
use Rattle.run_inputs.specs.declared.fault.InputFault.TheVariants.{BadImage, BadScript, Unread, OutOfMemory}

-- the exit status of the command
abbrev pub status_of : InputFault → ℕ
status_of BadImage = 3
status_of (BadScript line kind) = 4
status_of (Unread input) = 5
status_of OutOfMemory = 7
