-- The inputs of a command, where those named in the words may be read.
use Rattle.std.proofs.Common.{ℕ, List, Option, Some, None, refl}
use Rattle.ocs_run.specs.Top.{ReadableOrder, ReadablePair, ReadableInputs, ReadableCommand}
use Rattle.ocs_words.specs.Words.{CommandValue, Run, Gen, Rewind}

pub readable_command : (readable : List ℕ → Type 0) (command : Option CommandValue) → ReadableInputs readable command → ReadableCommand readable command
readable_command readable None inputs = tt
readable_command readable (Some (Run order)) inputs =
    let all : ReadableOrder readable order = inputs.run order refl in (all.image, all.script, all.track)
readable_command readable (Some (Gen scene)) inputs = tt
readable_command readable (Some (Rewind order)) inputs =
    let all : ReadablePair readable order = inputs.rewind order refl in (all.image, all.script)
