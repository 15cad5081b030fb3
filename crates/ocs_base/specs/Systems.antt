-- The systems: the lines of a field, the clocks of a line, and what of them a frame's picture shows.
use Rattle.std.specs.Prelude.{ℕ, ◌+◌, ◌*◌, ◌%◌, Bool, ◌&&◌, ◌==◌, nat_le, nat_lt, if◌then◌else◌}
use Rattle.ocs_base.specs.declared.system.System.{System}
use Rattle.ocs_base.specs.declared.system.System.TheVariants.{Pal, Ntsc}

-- how many lines a field has, a long one and a short one
abbrev pub lines : System → Bool → ℕ
lines Pal lof = if lof then 313 else 312
lines Ntsc lof = if lof then 263 else 262

-- the last clock of a line: with NTSC lines of 227 clocks and of 228 take turns, the even ones first (profile)
abbrev pub last_clock : System → ℕ → ℕ
last_clock Pal v = 226
last_clock Ntsc v = if v % 2 == 1 then 227 else 226

-- a frame's picture: from this line on, so many lines
abbrev pub top_line : System → ℕ
top_line Pal = 26
top_line Ntsc = 20

abbrev pub shown_lines : System → ℕ
shown_lines Pal = 286
shown_lines Ntsc = 242

-- and of each line 180 clocks, from clock 47 on
abbrev pub is_shown_line : System → ℕ → Bool
is_shown_line system v = nat_le (top_line system) v && nat_lt v (top_line system + shown_lines system)

abbrev pub is_visible : System → ℕ → ℕ → Bool
is_visible system v h = is_shown_line system v && nat_le 47 h && nat_le h 226

-- the pixel bytes of a line, and of a frame: 720 pixels a line of three bytes each
abbrev pub line_bytes : ℕ
line_bytes = 2160

abbrev pub frame_bytes : System → ℕ
frame_bytes system = line_bytes * shown_lines system
