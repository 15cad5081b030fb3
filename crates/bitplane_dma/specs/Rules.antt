-- What decides the fetches of a line, read from the registers once.
use Rattle.std.specs.Prelude.{ℕ, ◌+◌, ◌-◌, ◌%◌, Bool, false, not, ◌&&◌, ◌||◌, ◌==◌, nat_le, nat_lt, min, if◌then◌else◌}
use Rattle.std.specs.Prelude.{List, [], ◌∷◌, slice_index, Option, Some, None}
use Rattle.ocs_base.specs.Sizes.{bytes_of}
use Rattle.priority_ham.specs.PlaneCount.{planes_of}
use Rattle.serial_model.specs.PlaneFetch.{fetch_start, fetch_end, plane_dma, high_resolution, is_in_unit, is_running, slot_plane}
use Rattle.serial_model.specs.PlaneFetch.{is_last_fetch, modulo_bytes}
use Rattle.serial_model.specs.Registers.{Registers, kept_word}
use Rattle.serial_model.specs.Window.{is_window_line}
use Rattle.bitplane_dma.specs.declared.rules.FetchRules.{FetchRules}

-- where the first unit of line v begins, if the line has one
abbrev pub first_unit : ℕ → Registers → Option ℕ
first_unit v registers =
    if plane_dma registers && (nat_le (fetch_start registers) 0xd8 && is_window_line v (kept_word registers 0x8e) (kept_word registers 0x90))
    then Some (fetch_start registers)
    else None

-- how many planes a unit fetches; none without DMA
abbrev pub planes_by : Registers → ℕ
planes_by registers = if plane_dma registers then planes_of (kept_word registers 0x100) else 0

-- the plane that a slot of a unit fetches, where so many planes are fetched; 0 where it fetches none
abbrev pub fetched_in_slot : Bool → ℕ → ℕ → ℕ
fetched_in_slot high planes slot = let plane = slot_plane high slot in if nat_le plane planes then plane else 0

-- the same of each of the eight slots
unfoldable pub slots_by : Bool → ℕ → List ℕ
slots_by high planes =
    fetched_in_slot high planes 0 ∷ fetched_in_slot high planes 1 ∷ fetched_in_slot high planes 2 ∷ fetched_in_slot high planes 3
    ∷ fetched_in_slot high planes 4 ∷ fetched_in_slot high planes 5 ∷ fetched_in_slot high planes 6 ∷ fetched_in_slot high planes 7 ∷ []

-- what decides the fetches of line v; no unit that begins at clock D1 (hexadecimal) or later is followed by another
abbrev pub rules_of : ℕ → Registers → FetchRules
rules_of v registers = record {
  first = first_unit v registers;
  end = min (fetch_end registers) 0xd1;
  high = high_resolution registers;
  slots = slots_by (high_resolution registers) (planes_by registers);
  odd = kept_word registers 0x108;
  even = kept_word registers 0x10a;
  size = registers.size;
  mask = bytes_of registers.size - 2;
}

abbrev pub is_first : ℕ → Option ℕ → Bool
is_first h None = false
is_first h (Some start) = h == start

-- a further unit begins eight clocks behind the last one
abbrev pub follows_by : FetchRules → ℕ → Option ℕ → Bool
follows_by rules h None = false
follows_by rules h (Some start) = (h == start + 8) && nat_lt start rules.end

-- a unit begins
abbrev pub begins_by : FetchRules → ℕ → Option ℕ → Bool
begins_by rules h last = not (is_running h last) && (follows_by rules h last || is_first h rules.first)

-- the plane that is fetched at clock h, where the line's last unit began at `start`
abbrev pub plane_by : FetchRules → ℕ → ℕ → Option ℕ
plane_by rules h start =
    let plane = slice_index rules.slots (h - start) in
    if is_in_unit h start && nat_le 1 plane then Some plane else None

-- how many bytes its fetch adds to the pointer beside the word's two
abbrev pub bytes_by : FetchRules → ℕ → ℕ → ℕ → ℕ
bytes_by rules h start plane =
    if is_last_fetch rules.high (h - start) && not (nat_lt start rules.end)
    then modulo_bytes (if plane % 2 == 1 then rules.odd else rules.even)
    else 0
