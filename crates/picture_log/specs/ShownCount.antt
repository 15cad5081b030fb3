-- How many pixel bytes a run has shown before a place of the beam.
use Rattle.std.specs.Prelude.{ℕ, ◌+◌, ◌-◌, ◌*◌, min, if◌then◌else◌}
use Rattle.ocs_base.specs.Systems.{top_line, shown_lines, is_shown_line, is_visible, line_bytes, frame_bytes}
use Rattle.ocs_base.specs.declared.beam.Beam.{Beam}
use Rattle.ocs_base.specs.declared.system.System.{System}

-- those of whole frames, of each line that is shown, and 12 in each clock of a line that is
abbrev pub shown_before : System → Beam → ℕ
shown_before system b =
    b.frame * frame_bytes system
    + (line_bytes * min (b.v - top_line system) (shown_lines system) + (if is_shown_line system b.v then 12 * (b.h - 47) else 0))

-- and behind the picture step there
abbrev pub shown_behind : System → Beam → ℕ
shown_behind system b = shown_before system b + (if is_visible system b.v b.h then 12 else 0)
