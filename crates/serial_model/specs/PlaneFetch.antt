-- Plane fetch: units of eight slots, the plane of each slot, and what a fetch does to the plane's pointer.
use Rattle.std.specs.Prelude.{◌≡◌, ℕ, ◌+◌, ◌-◌, ◌*◌, ◌/◌, ◌%◌, ◌≤◌, Bool, false, not, ◌&&◌, ◌||◌, ◌==◌, nat_le}
use Rattle.std.specs.Prelude.{nat_lt, min, max, if◌then◌else◌, List, [], ◌∷◌, slice_index, Option, Some, None}
use Rattle.std.specs.Prelude.{pos, unsigned_abs}
use Rattle.std.specs.Int.{w16, cast_signed, int_rem_euclid}
use Rattle.std.specs.Option.{option_map}
use Rattle.blit_words.specs.Blit.{even_part}
use Rattle.ocs_base.specs.AddressOf.{addr_at}
use Rattle.ocs_base.specs.declared.beam.Beam.{Beam}
use Rattle.priority_ham.specs.PlaneCount.{is_hires, planes_of}
use Rattle.serial_model.specs.declared.fetch.PlaneAsk.{PlaneAsk}
use Rattle.serial_model.specs.Beam.{is_line_start}
use Rattle.irq_cia.specs.Bits.{has_bits}
use Rattle.serial_model.specs.Registers.{kept_word, dmacon_of, pointer_at, with_pointer, Registers}
use Rattle.serial_model.specs.Window.{is_window_line}

-- DMAEN and BPLEN of DMACON are both set
abbrev pub plane_dma : Registers → Bool
plane_dma registers = has_bits (dmacon_of registers) 0x300

-- where the first unit begins: the greater of 18 (hexadecimal) and DDFSTRT, without its lowest two bits
abbrev pub fetch_start : Registers → ℕ
fetch_start registers = max 0x18 (kept_word registers 0x92) / 4 * 4

-- where no further unit follows: the lesser of D8 (hexadecimal) and DDFSTOP, without its lowest two bits
abbrev pub fetch_end : Registers → ℕ
fetch_end registers = min 0xd8 (kept_word registers 0x94) / 4 * 4

-- a unit that began at this clock has a next one
abbrev pub has_next : Registers → ℕ → Bool
has_next registers start = nat_lt start (fetch_end registers) && nat_le (start + 8) 0xd8

-- clock h is one of the eight slots of a unit that began at this clock
abbrev pub is_in_unit : ℕ → ℕ → Bool
is_in_unit h start = nat_le start h && nat_lt h (start + 8)

-- the same of a line's last unit, where it has one
abbrev pub is_running : ℕ → Option ℕ → Bool
is_running h None = false
is_running h (Some start) = is_in_unit h start

-- a unit follows the last one, eight clocks after it began
abbrev pub begins_next : ℕ → Registers → Option ℕ → Bool
begins_next h registers None = false
begins_next h registers (Some start) = (h == start + 8) && has_next registers start

-- a unit begins at the start of fetches, while DMA is on and in a line of the window; on no line whose start is above D8
-- (profile)
abbrev pub begins_first : Beam → Registers → Bool
begins_first b registers =
    (b.h == fetch_start registers) && nat_le (fetch_start registers) 0xd8 && plane_dma registers
    && is_window_line b.v (kept_word registers 0x8e) (kept_word registers 0x90)

-- a unit begins at this clock, by the registers as they are now (profile); none while another runs
abbrev pub begins_unit : Beam → Registers → Option ℕ → Bool
begins_unit b registers last =
    not (is_running b.h last) && (begins_next b.h registers last || begins_first b registers)

-- the clock at which the last unit began
abbrev pub last_unit : List ℕ → Option ℕ
last_unit [] = None
last_unit (start ∷ units) = Some start

-- the clocks of this line at which units began, the newest first, with what this clock adds to them
unfoldable pub units_at : Beam → Registers → List ℕ → List ℕ
units_at b registers units =
    let before = if is_line_start b then [] else units in
    if begins_unit b registers (last_unit before) then b.h ∷ before else before

-- that clock, from the one before alone
unfoldable pub last_unit_at : Beam → Registers → Option ℕ → Option ℕ
last_unit_at b registers last =
    let before = if is_line_start b then None else last in
    if begins_unit b registers before then Some b.h else before

-- the plane of a slot of a unit, in high and in low resolution; 0 is none
abbrev pub slot_plane : Bool → ℕ → ℕ
slot_plane high slot =
    if high
    then slice_index (4 ∷ 2 ∷ 3 ∷ 1 ∷ 4 ∷ 2 ∷ 3 ∷ 1 ∷ []) slot
    else slice_index (0 ∷ 4 ∷ 6 ∷ 2 ∷ 0 ∷ 3 ∷ 5 ∷ 1 ∷ []) slot

-- a plane is fetched while DMA is on, where it is not above the number of planes
abbrev pub fetches_plane : Registers → ℕ → Bool
fetches_plane registers plane =
    plane_dma registers && nat_le 1 plane && nat_le plane (planes_of (kept_word registers 0x100))

-- HIRES, bit 15 of BPLCON0
abbrev pub high_resolution : Registers → Bool
high_resolution registers = is_hires (kept_word registers 0x100)

-- the plane that is fetched at clock h, where the line's last unit began, by this clock, at `last`
abbrev pub fetched_plane : ℕ → Registers → Option ℕ → Option ℕ
fetched_plane h registers None = None
fetched_plane h registers (Some start) =
    let plane = slot_plane (high_resolution registers) (h - start) in
    if is_in_unit h start && fetches_plane registers plane then Some plane else None

-- the high word of a plane's pointer: BPL1PTH to BPL6PTH
abbrev pub plane_pointer : ℕ → ℕ
plane_pointer plane = 0xdc + 4 * plane

abbrev pub ask_for_plane : Registers → ℕ → PlaneAsk
ask_for_plane registers plane = record { plane = plane; at = pointer_at registers (plane_pointer plane) }

-- what the planes ask of the bus
abbrev pub plane_ask : ℕ → Registers → Option ℕ → Option PlaneAsk
plane_ask h registers last = option_map (λ plane. ask_for_plane registers plane) (fetched_plane h registers last)

-- BPL1MOD for planes 1, 3 and 5, BPL2MOD for planes 2, 4 and 6
abbrev pub modulo_word : Registers → ℕ → ℕ
modulo_word registers plane = kept_word registers (if plane % 2 == 1 then 0x108 else 0x10a)

-- how many bytes a modulo moves an address: a signed number, whose bit 0 counts as 0, as a blit's does. They are counted modulo
-- 1 MiB, of which each span is a part
abbrev pub modulo_bytes : ℕ → ℕ
modulo_bytes word = unsigned_abs (int_rem_euclid (even_part (cast_signed w16 word)) (pos 0x100000))

-- a slot in which a unit fetches its plane for the last time
abbrev pub is_last_fetch : Bool → ℕ → Bool
is_last_fetch high slot = not high || nat_le 4 slot

-- how many bytes a fetch adds to the pointer beside the word's two: the modulo, at a plane's last fetch in a last unit
abbrev pub added_bytes : ℕ → Registers → ℕ → ℕ → ℕ
added_bytes h registers start plane =
    if is_last_fetch (high_resolution registers) (h - start) && not (has_next registers start)
    then modulo_bytes (modulo_word registers plane)
    else 0

-- a pointer moves on by a word and some bytes more, and wraps at the span
abbrev pub move_pointer : ℕ → ℕ → Registers → Registers
move_pointer high bytes registers =
    with_pointer registers high (addr_at registers.size ((pointer_at registers high).value + 2 + bytes)).value

-- the fetch of a plane at clock h moves its pointer
abbrev pub move_plane_pointer : ℕ → Option ℕ → ℕ → Registers → Registers
move_plane_pointer h None plane registers = registers
move_plane_pointer h (Some start) plane registers =
    move_pointer (plane_pointer plane) (added_bytes h registers start plane) registers

abbrev pub move_if_fetched : ℕ → Option ℕ → Option ℕ → Registers → Registers
move_if_fetched h last None registers = registers
move_if_fetched h last (Some plane) registers = move_plane_pointer h last plane registers

-- what the fetch of clock h, if there is one, does to the registers
abbrev pub move_planes : ℕ → Option ℕ → Registers → Registers
move_planes h last registers = move_if_fetched h last (fetched_plane h registers last) registers

-- a clock at which a unit can begin
pub record IsUnitStart (start : ℕ) : Type 0 where
  pub low : 24 ≤ start
  pub high : start ≤ 216
  pub fourth : start % 4 ≡ 0

-- the same of a line's last unit, where it has one
abbrev pub IsLastUnit : Option ℕ → Type 0
IsLastUnit None = Unit {0}
IsLastUnit (Some start) = IsUnitStart start
