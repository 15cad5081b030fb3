-- What BPLCON0 says of the planes.
use Rattle.std.specs.Prelude.{ℕ, ◌/◌, ◌%◌, ◌^◌, ◌==◌, Bool, min, if◌then◌else◌}

-- whether a bit of a word is set
abbrev pub is_set : ℕ → ℕ → Bool
is_set place word = word / 2 ^ place % 2 == 1

-- HIRES, HOMOD and DBLPF
abbrev pub is_hires : ℕ → Bool
is_hires con0 = is_set 15 con0

abbrev pub is_hold_and_modify : ℕ → Bool
is_hold_and_modify con0 = is_set 11 con0

abbrev pub is_dual_playfield : ℕ → Bool
is_dual_playfield con0 = is_set 10 con0

-- the number of planes: BPU (bits 14 to 12), at most 6 in low and at most 4 in high resolution
abbrev pub planes_of : ℕ → ℕ
planes_of con0 = min (con0 / 2 ^ 12 % 8) (if is_hires con0 then 4 else 6)
