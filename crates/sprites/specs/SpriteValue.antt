-- The value of a sprite at a position of the line, from the starts of its words on that line.
--
-- Positions are counted in low-resolution pixels from the begin of the line, two a colour clock.
use Rattle.std.specs.Prelude.{◌≡◌, ◌≤◌, ◌++◌, [], ◌∷◌, ℕ, ◌+◌, ◌-◌, ◌*◌, ◌/◌, ◌%◌, ◌^◌, List, Option, None, nat_le, if◌then◌else◌, slice_index_or}
use Rattle.std.specs.List.{filter, last_or}
use Rattle.std.specs.Option.{option_map, unwrap_or, option_to_list}
use Rattle.sprites.specs.declared.runs.Start.{Start}

-- Of a sprite's starts on the line the one that runs at a position: the last that is not after it. Starts come in
-- order of positions, so it is that of the greatest position.
abbrev pub running_at : ℕ → List Start → Option Start
running_at x starts = last_or None (filter (λ start. nat_le start.x x) starts)

-- the two bits of a start's words at a position: DATA gives the lower and DATB the higher, bit 15 first, and past
-- bit 0 both are 0
abbrev pub value_of : ℕ → Start → ℕ
value_of x start =
    let passed = x - start.x in
    if nat_le passed 15
    then start.word_a / 2 ^ (15 - passed) % 2 + 2 * (start.word_b / 2 ^ (15 - passed) % 2)
    else 0

-- the value of a sprite at a position, from its starts on the line
unfoldable pub sprite_value : ℕ → List Start → ℕ
sprite_value x starts = unwrap_or (option_map (value_of x) (running_at x starts)) 0

-- the start that is kept of a sprite, if any
abbrev pub kept_start : List (Option Start) → ℕ → List Start
kept_start runs sprite = option_to_list (slice_index_or runs sprite None)

-- Where the kept start is the last of a line's starts and the position is not below it, the value is that by all of
-- the line's starts.
abbrev pub IsValueOnLine : ℕ → List Start → ℕ → Type 0
IsValueOnLine x kept value = (starts : List Start) (last : Start) → kept ≡ last ∷ [] → last.x ≤ x →
    value ≡ sprite_value x (starts ++ last ∷ [])
