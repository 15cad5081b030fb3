-- A track: its words, the high byte of each first.
use Rattle.std.specs.Prelude.{ℕ, ◌+◌, ◌*◌, ◌/◌, ◌%◌, Bool, ◌&&◌, ◌==◌, nat_le, if◌then◌else◌, List, length, slice_index}

-- an even number of 2 to 32,768 bytes
abbrev pub is_track : List ℕ → Bool
is_track bytes = (length bytes % 2 == 0) && nat_le 2 (length bytes) && nat_le (length bytes) 32768

-- the word at a place
abbrev pub track_word : List ℕ → ℕ → ℕ
track_word bytes place = 256 * slice_index bytes (2 * place) + slice_index bytes (2 * place + 1)

-- the place of the next word: after the last that of the first
abbrev pub next_place : List ℕ → ℕ → ℕ
next_place bytes place = if place + 1 == length bytes / 2 then 0 else place + 1
