-- What was told the trace and given to the output files since some point.
use Rattle.std.proofs.Common.{◌≡◌, List, [], ◌++◌, ap, sym, ◌∙◌, append_assoc, append-nil}
use Rattle.out_files.specs.OutFiles.{OutFilesValue}
use Rattle.serial_model.specs.declared.trace.TraceLine.{TraceLine}
use Rattle.serial_model.specs.State.{State}
use Rattle.out_files.specs.Gives.{Gives}
use Rattle.machine.specs.Machine.{Start, HasTold}
use Rattle.out_files.proofs.GivesLaws.{gives_nothing, gives_then}

-- nothing yet
pub told_none : (out : OutFilesValue) (s : State) → HasTold (record { out = out; trace = s.trace }) out s
told_none out s = record { lines = []; trace = sym (append-nil s.trace); text = gives_nothing out }

-- it is of the trace alone
pub told_same : (start : Start) (out : OutFilesValue) (s after : State) → after.trace ≡ s.trace → HasTold start out s → HasTold start out after
told_same start out s after same told = record { lines = told.lines; trace = same ∙ told.trace; text = told.text }

-- and grows with it
pub told_more : (start : Start) (out new : OutFilesValue) (s after : State) (lines : List TraceLine) → after.trace ≡ s.trace ++ lines
    → Gives out new [] lines → HasTold start out s → HasTold start new after
told_more start out new s after lines more gives told = record {
  lines = told.lines ++ lines;
  trace = more ∙ ap (λ t. t ++ lines) told.trace ∙ append_assoc start.trace told.lines lines;
  text = gives_then start.out out new [] [] told.lines lines told.text gives;
}
