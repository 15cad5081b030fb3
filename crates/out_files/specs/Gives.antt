-- What a call adds to the texts of the output files.
use Rattle.std.specs.Prelude.{◌≡◌, ℕ, List, [], ◌++◌, Option}
use Rattle.ocs_base.specs.declared.system.System.{System}
use Rattle.ocs_io.specs.Place.{Files}
use Rattle.out_files.specs.OutFiles.{OutFilesValue}
use Rattle.out_files.specs.Together.{AreTogether}
use Rattle.serial_model.specs.declared.trace.TraceLine.{TraceLine}

-- these pixel bytes and these lines of the trace were added: files and pending text that were together the text of what was
-- given before are together that of it and of these
pub record Gives (old new : OutFilesValue) (pixels : List ℕ) (lines : List TraceLine) : Type 0 where
  pub names : new.names ≡ old.names
  pub text : (system : System) (base files : Option Files) (before : List ℕ) (traced : List TraceLine) →
      AreTogether system old base files before traced → AreTogether system new base files (before ++ pixels) (traced ++ lines)

-- nothing but some lines of the trace
abbrev pub GivesLines : OutFilesValue → OutFilesValue → Type 0
GivesLines old new = (lines : List TraceLine) × Gives old new [] lines
