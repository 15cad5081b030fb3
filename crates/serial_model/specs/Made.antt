-- What an access or an event of the script makes, done to each part of the state.
use Rattle.std.specs.Prelude.{ℕ, ◌+◌, ◌*◌, ◌/◌, ◌%◌, ◌==◌, Bool, false, if◌then◌else◌, List, [], ◌∷◌, ◌++◌, slice_index, slice_set, Option, Some, None}
use Rattle.ocs_base.specs.declared.beam.Beam.{Beam}
use Rattle.serial_model.specs.declared.bus.Half.{Half}
use Rattle.serial_model.specs.declared.bus.Half.TheVariants.{Both, High, Low}
use Rattle.serial_model.specs.declared.bus.Made.{Made}
use Rattle.serial_model.specs.declared.bus.Made.TheVariants as M
use Rattle.serial_model.specs.declared.picture.Touch.{Touch}
use Rattle.serial_model.specs.declared.picture.Touch.TheVariants.{Set, Plane, Sprite}
use Rattle.serial_model.specs.declared.trace.Source.{Source}
use Rattle.serial_model.specs.declared.trace.TraceLine.{TraceLine}
use Rattle.serial_model.specs.declared.trace.TraceLine.TheVariants.{Wrote, Peeked}
use Rattle.serial_model.specs.Picture.{touch_if_any}
use Rattle.serial_model.specs.Registers.{is_picture_register}
use Rattle.serial_model.specs.Side.{side_by_made}
use Rattle.serial_model.specs.State.{Chips, State, read_word}
use Rattle.serial_model.specs.Write.{write_chips, write_lof}

-- the word of memory at an address. Above the memory, where no access of the machine goes, it would be 0
abbrev pub word_of : List ℕ → ℕ → ℕ
word_of memory at = slice_index memory (at / 2)

-- a write to a register reaches the chips
abbrev pub chips_after : Made → Chips → Chips
chips_after M.Nothing c = c
chips_after (M.Wrote reg word by) c = write_chips reg.offset word c
chips_after (M.Read reg by) c = c
chips_after (M.Stored at half word) c = c
chips_after (M.Plane plane at) c = c
chips_after (M.Sprite sprite second at) c = c

-- and LOF
abbrev pub lof_after : Made → Bool → Bool
lof_after M.Nothing lof = lof
lof_after (M.Wrote reg word by) lof = write_lof reg.offset word lof
lof_after (M.Read reg by) lof = lof
lof_after (M.Stored at half word) lof = lof
lof_after (M.Plane plane at) lof = lof
lof_after (M.Sprite sprite second at) lof = lof

-- a stored word replaces the old one, and its low byte one half of it
abbrev pub merge_half : Half → ℕ → ℕ → ℕ
merge_half Both old word = word
merge_half High old byte = 256 * (byte % 256) + old % 256
merge_half Low old byte = 256 * (old / 256) + byte % 256

abbrev pub memory_after : Made → List ℕ → List ℕ
memory_after M.Nothing memory = memory
memory_after (M.Wrote reg word by) memory = memory
memory_after (M.Read reg by) memory = memory
memory_after (M.Stored at half word) memory =
    slice_set memory (at.value / 2) (merge_half half (slice_index memory (at.value / 2)) word)
memory_after (M.Plane plane at) memory = memory
memory_after (M.Sprite sprite second at) memory = memory

-- how the picture is touched: by a write to one of Denise's registers, and by a fetch
abbrev pub touch_of : Made → Option Touch
touch_of M.Nothing = None
touch_of (M.Wrote reg word by) = if is_picture_register reg.offset then Some (Set reg word) else None
touch_of (M.Read reg by) = None
touch_of (M.Stored at half word) = None
touch_of (M.Plane plane at) = Some (Plane plane at)
touch_of (M.Sprite sprite second at) = Some (Sprite sprite second at)

-- a read of CLXDAT, which clears the collision bits
abbrev pub is_clx_read : Made → Bool
is_clx_read M.Nothing = false
is_clx_read (M.Wrote reg word by) = false
is_clx_read (M.Read reg by) = reg.offset == 0x0e
is_clx_read (M.Stored at half word) = false
is_clx_read (M.Plane plane at) = false
is_clx_read (M.Sprite sprite second at) = false

abbrev pub clx_after : Made → ℕ → ℕ
clx_after made clx = if is_clx_read made then 0 else clx

-- the line of the trace, where there is one: a write by someone, or a read with the word that it gave
abbrev pub write_lines : Option Source → (Source → TraceLine) → List TraceLine
write_lines None line = []
write_lines (Some by) line = line by ∷ []

abbrev pub lines_of : Beam → ℕ → Chips → Made → List TraceLine
lines_of b clx c M.Nothing = []
lines_of b clx c (M.Wrote reg word by) = write_lines by (λ source. Wrote b reg word source)
lines_of b clx c (M.Read reg by) = Peeked b reg (read_word reg.offset b clx c) by ∷ []
lines_of b clx c (M.Stored at half word) = []
lines_of b clx c (M.Plane plane at) = []
lines_of b clx c (M.Sprite sprite second at) = []

-- all of it: what is made, done to the state
abbrev pub state_after : Made → State → State
state_after made s = record s {
  beam = record s.beam { lof = lof_after made s.beam.lof };
  memory = memory_after made s.memory;
  chips = chips_after made s.chips;
  side = side_by_made made s.side;
  picture = touch_if_any s.beam.h (word_of s.memory) (touch_of made) s.picture;
  clx = clx_after made s.clx;
  trace = s.trace ++ lines_of s.beam s.clx s.chips made;
}
