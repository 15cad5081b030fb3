-- The three output files as contracts see them, and what their calls make of them.
use Rattle.std.specs.Prelude.{ℕ, ◌+◌, ◌%◌, List, [], ◌++◌, length}
use Rattle.ocs_base.specs.Systems.{frame_bytes}
use Rattle.ocs_base.specs.declared.system.System.{System}
use Rattle.serial_model.specs.Outputs.{with_headings}
use Rattle.serial_model.specs.TraceText.{line_text}
use Rattle.serial_model.specs.declared.trace.TraceLine.{TraceLine}

pub record OutNames : Type 0 where
  pub frames : List ℕ
  pub trace : List ℕ
  pub memory : List ℕ

pub record OutFilesValue : Type 0 where
  pub names : OutNames
  -- whose frames they are
  pub system : System
  -- the text that is not yet appended to the frames file and to the trace
  pub frames : List ℕ
  pub trace : List ℕ
  -- how many pixel bytes of the present frame were given
  pub given : ℕ

-- after pixel bytes, each frame's first of them with the heading before it
abbrev pub with_pixels : OutFilesValue → List ℕ → OutFilesValue
with_pixels o piece =
    record o { frames = o.frames ++ with_headings o.system o.given piece; given = (o.given + length piece) % frame_bytes o.system }

-- after a line of the trace
abbrev pub with_line : OutFilesValue → TraceLine → OutFilesValue
with_line o line = record o { trace = o.trace ++ line_text line }

-- with nothing pending for the frames file
abbrev pub frames_given : OutFilesValue → OutFilesValue
frames_given o = record o { frames = [] }

-- with nothing pending
abbrev pub all_given : OutFilesValue → OutFilesValue
all_given o = record o { frames = []; trace = [] }
