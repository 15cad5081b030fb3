-- The summary of a scene's run.
use Rattle.std.specs.Prelude.{◌≡◌, ℕ, ◌==◌, List, ◌++◌, codes, decimal, sum, count_by}
use Rattle.ocs_base.specs.declared.system.System.TheVariants.{Pal}
use Rattle.scene_gen.specs.Scene.{scene_image, scene_script}
use Rattle.serial_model.specs.MemoryText.{memory_text}
use Rattle.serial_model.specs.Outputs.{frames_text}
use Rattle.serial_model.specs.Serial.{state_at, IsEnd}
use Rattle.serial_model.specs.TraceText.{trace_text}

-- how many lines a text has, each ended by a line feed
abbrev pub line_count : List ℕ → ℕ
line_count text = count_by (λ byte. byte == 10) text

-- a line of the summary
abbrev pub number_line : List ℕ → ℕ → List ℕ
number_line name number = name ++ decimal number ++ codes "\n"

-- the four lines, from the texts of the three files: a scene has ten frames; the sum of the bytes of the frames file, the
-- number of lines of the trace, and the sum of the bytes of the memory file
unfoldable pub summary_text : List ℕ → List ℕ → List ℕ → List ℕ
summary_text frames trace memory =
    codes "frames 10\n"
    ++ (number_line (codes "picture ") (sum frames)
    ++ (number_line (codes "trace ") (line_count trace)
    ++ number_line (codes "memory ") (sum memory)))

-- the text is the summary of the serial run of the scene of this number, which is for a PAL machine
pub record IsSummary (number : ℕ) (text : List ℕ) : Type 0 where
  pub clocks : ℕ
  pub end : IsEnd (scene_image number) (scene_script number) clocks
  pub is : text ≡ (let s = state_at (scene_image number) (scene_script number) clocks in
      summary_text (frames_text Pal s.shown) (trace_text s.trace) (memory_text s.memory))
