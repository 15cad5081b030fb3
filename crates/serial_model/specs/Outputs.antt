-- The output texts of a run.
use Rattle.std.specs.Prelude.{ℕ, ◌+◌, ◌%◌, ◌==◌, if◌then◌else◌, List, [], ◌∷◌, ◌++◌, codes}
use Rattle.ocs_base.specs.Systems.{frame_bytes}
use Rattle.ocs_base.specs.declared.system.System.{System}
use Rattle.ocs_base.specs.declared.system.System.TheVariants.{Pal, Ntsc}

-- a frame's heading: a binary portable pixmap of 720 by 286 or 242 pixels, components up to 255
unfoldable pub heading : System → List ℕ
heading Pal = codes "P6\n720 286\n255\n"
heading Ntsc = codes "P6\n720 242\n255\n"

-- the heading, where a frame begins with the pixel byte of this number
abbrev pub heading_at : System → ℕ → List ℕ
heading_at system n = if n % frame_bytes system == 0 then heading system else []

-- pixel bytes, of which the first is number n of the run, with the heading before each frame's first
unfoldable pub with_headings : System → ℕ → List ℕ → List ℕ
with_headings system n [] = []
with_headings system n (byte ∷ bytes) = heading_at system n ++ byte ∷ with_headings system (n + 1) bytes

-- the frames file of the pixel bytes shown so far: each frame's heading and its pixel bytes
abbrev pub frames_text : System → List ℕ → List ℕ
frames_text system shown = with_headings system 0 shown
