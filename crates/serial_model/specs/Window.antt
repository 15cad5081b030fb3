-- The display window. Its columns are counted in low-resolution pixels from the begin of the line, two a colour clock.
use Rattle.std.specs.Prelude.{ℕ, ◌+◌, ◌/◌, ◌%◌, Bool, ◌&&◌, nat_le, nat_lt, if◌then◌else◌}

-- VSTART: bits 15 to 8 of DIWSTRT, with V8 clear
abbrev pub window_start : ℕ → ℕ
window_start diwstrt = diwstrt / 256

-- VSTOP: bits 15 to 8 of DIWSTOP, with a V8 that is the opposite of V7
abbrev pub window_stop : ℕ → ℕ
window_stop diwstop = diwstop / 256 + (if nat_lt diwstop 0x8000 then 256 else 0)

-- whether a line is in the window
abbrev pub is_window_line : ℕ → ℕ → ℕ → Bool
is_window_line v diwstrt diwstop = nat_le (window_start diwstrt) v && nat_lt v (window_stop diwstop)

-- HSTART: bits 7 to 0 of DIWSTRT, with H8 clear
abbrev pub window_left : ℕ → ℕ
window_left diwstrt = diwstrt % 256

-- HSTOP: bits 7 to 0 of DIWSTOP, with H8 set
abbrev pub window_right : ℕ → ℕ
window_right diwstop = diwstop % 256 + 256

-- whether a column is in the window
abbrev pub is_window_column : ℕ → ℕ → ℕ → Bool
is_window_column x diwstrt diwstop = nat_le (window_left diwstrt) x && nat_lt x (window_right diwstop)

-- whether a pixel is in the window, by the registers as they are now (profile)
abbrev pub is_inside : ℕ → ℕ → ℕ → ℕ → Bool
is_inside v x diwstrt diwstop = is_window_line v diwstrt diwstop && is_window_column x diwstrt diwstop
