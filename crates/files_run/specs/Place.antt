-- What the calls of a command leave of a place.
use Rattle.std.specs.Prelude.{ℕ, List, Option, Result, IfErr}
use Rattle.ocs_io.specs.Place.{Outside, OnlyWrites}
use Rattle.ocs_words.specs.Fault.{IsRunFault}
use Rattle.ocs_words.specs.declared.fault.Fault.{Fault}

-- Files of the run were only written, its audio file too, and a fault has its cause there.
pub record WritesRun (audio : Option (List ℕ)) (result : Result (Unit {0}) Fault) (old new : Outside) : Type 0 where
  pub kept : OnlyWrites old new
  pub cause : IfErr result (IsRunFault audio old new)
