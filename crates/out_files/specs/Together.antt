-- The files and what is pending for them are together the texts of what was given.
use Rattle.std.specs.Prelude.{◌≡◌, ◌≢◌, ℕ, ◌%◌, List, [], ◌∷◌, ◌++◌, length, Option}
use Rattle.ocs_io.specs.Place.{Files, with_file}
use Rattle.serial_model.specs.declared.trace.TraceLine.{TraceLine}
use Rattle.ocs_base.specs.Systems.{frame_bytes}
use Rattle.ocs_base.specs.declared.system.System.{System}
use Rattle.serial_model.specs.Outputs.{frames_text}
use Rattle.serial_model.specs.TraceText.{trace_text}
use Rattle.out_files.specs.OutFiles.{OutNames, OutFilesValue}

-- no two of the names are one
pub record AreDifferent (names : OutNames) : Type 0 where
  pub frames_trace : names.frames ≢ names.trace
  pub frames_memory : names.frames ≢ names.memory
  pub trace_memory : names.trace ≢ names.memory

-- the files, the three set to these bytes
abbrev pub three_files : OutNames → Option Files → List ℕ → List ℕ → List ℕ → Option Files
three_files names base frames trace memory =
    with_file (with_file (with_file base names.frames frames) names.trace trace) names.memory memory

-- of the files `base` the three were created; the frames file and what is pending for it are together the
-- text of these pixel bytes with the system's headings, and the trace and what is pending for it that of these lines
pub record AreTogether (system : System) (out : OutFilesValue) (base files : Option Files) (pixels : List ℕ) (lines : List TraceLine) : Type 0 where
  pub kind : out.system ≡ system
  pub frames : List ℕ
  pub trace : List ℕ
  pub held : files ≡ three_files out.names base frames trace []
  pub pixels_given : frames ++ out.frames ≡ frames_text system pixels
  pub lines_given : trace ++ out.trace ≡ trace_text lines
  pub place : out.given ≡ length pixels % frame_bytes system

-- of the files `base` each of the three holds a part of its text, from the first byte on
pub record HoldParts (system : System) (names : OutNames) (base files : Option Files) (pixels : List ℕ) (lines : List TraceLine)
    (memory : List ℕ) : Type 0 where
  pub frames : List ℕ
  pub trace : List ℕ
  pub bytes : List ℕ
  pub frames_rest : List ℕ
  pub trace_rest : List ℕ
  pub bytes_rest : List ℕ
  pub held : files ≡ three_files names base frames trace bytes
  pub frames_part : frames ++ frames_rest ≡ frames_text system pixels
  pub trace_part : trace ++ trace_rest ≡ trace_text lines
  pub bytes_part : bytes ++ bytes_rest ≡ memory

-- the files were created, and nothing has been given yet
unfoldable pub Begins : OutFilesValue → Option Files → Option Files → Type 0
Begins out base files = out.frames ≡ [] → out.trace ≡ [] → out.given ≡ 0 → AreTogether out.system out base files [] []

unfoldable pub AddsPixels : OutFilesValue → OutFilesValue → List ℕ → Type 0
AddsPixels was now piece =
    (system : System) (base files : Option Files) (pixels : List ℕ) (lines : List TraceLine) →
    AreTogether system was base files pixels lines → AreTogether system now base files (pixels ++ piece) lines

unfoldable pub AddsLine : OutFilesValue → OutFilesValue → TraceLine → Type 0
AddsLine was now line =
    (system : System) (base files : Option Files) (pixels : List ℕ) (lines : List TraceLine) →
    AreTogether system was base files pixels lines → AreTogether system now base files pixels (lines ++ line ∷ [])

unfoldable pub StayTogether : OutFilesValue → OutFilesValue → Option Files → Option Files → Type 0
StayTogether was now old new =
    (system : System) (base : Option Files) (pixels : List ℕ) (lines : List TraceLine) →
    AreTogether system was base old pixels lines → AreTogether system now base new pixels lines

-- what a refusal leaves
unfoldable pub LeavesParts : OutFilesValue → Option Files → Option Files → List ℕ → Type 0
LeavesParts was old new memory =
    (system : System) (base : Option Files) (pixels : List ℕ) (lines : List TraceLine) →
    AreTogether system was base old pixels lines → HoldParts system was.names base new pixels lines memory

-- where nothing is pending, the three files are the texts
unfoldable pub Completes : OutFilesValue → Option Files → Option Files → List ℕ → Type 0
Completes was old new memory =
    (system : System) (base : Option Files) (pixels : List ℕ) (lines : List TraceLine) → was.frames ≡ [] → was.trace ≡ [] →
    AreTogether system was base old pixels lines →
    new ≡ three_files was.names base (frames_text system pixels) (trace_text lines) memory
