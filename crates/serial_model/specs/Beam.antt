-- The beam: its places and their order.
use Rattle.std.specs.Prelude.{ℕ, ◌+◌, ◌<◌, Bool, true, not, ◌&&◌, ◌==◌, nat_le, if◌then◌else◌}
use Rattle.ocs_base.specs.declared.beam.Beam.{Beam}
use Rattle.ocs_base.specs.Limits.{order_of}
use Rattle.ocs_base.specs.Systems.{lines, last_clock}
use Rattle.ocs_base.specs.declared.system.System.{System}

-- the first place: frame 0, line 0, clock 0 of a long field
abbrev pub first_place : Beam
first_place = record { frame = 0; v = 0; h = 0; lof = true }

-- whether this is the last clock of a line, and of a field
abbrev pub is_line_end : System → Beam → Bool
is_line_end system b = nat_le (last_clock system b.v) b.h

abbrev pub is_field_end : System → Beam → Bool
is_field_end system b = is_line_end system b && nat_le (lines system b.lof) (b.v + 1)

-- the next place. After a line's last clock comes the next line of the field, or the first of the next frame, whose field is of
-- the other kind where LACE is set
abbrev pub next_place : System → Bool → Beam → Beam
next_place system lace b = record {
  frame = if is_field_end system b then b.frame + 1 else b.frame;
  v = if is_field_end system b then 0 else if is_line_end system b then b.v + 1 else b.v;
  h = if is_line_end system b then 0 else b.h + 1;
  lof = if is_field_end system b && lace then not b.lof else b.lof;
}

-- the first clock of a line, and of a field
abbrev pub is_line_start : Beam → Bool
is_line_start b = b.h == 0

abbrev pub is_field_start : Beam → Bool
is_field_start b = (b.v == 0) && (b.h == 0)

-- a place that a beam can have, in either system. (LOF can be cleared while the last line of a long field runs.)
pub record IsOnScreen (b : Beam) : Type 0 where
  pub line : b.v < 313
  pub clock : b.h < 228

-- so many clocks on in its line
abbrev pub later_beam : ℕ → Beam → Beam
later_beam n b = record b { h = b.h + n }

-- its place in the order of time, as one number
abbrev pub place_of : Beam → ℕ
place_of b = order_of b.frame b.v b.h
