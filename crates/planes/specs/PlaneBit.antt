-- What a plane shows at a position of the line, from the loads of that line.
--
-- A write to BPL1DAT makes one load. Positions are counted in high-resolution pixels from the begin of the line,
-- four a colour clock.
use Rattle.std.specs.Prelude.{◌≡◌, ℕ, ◌+◌, ◌-◌, ◌*◌, ◌/◌, ◌%◌, ◌^◌, ◌≤◌, ◌==◌, Bool, List, Option, None, nat_le, if◌then◌else◌, slice_index}
use Rattle.std.specs.List.{filter, last_or}
use Rattle.std.specs.Option.{option_map, unwrap_or}
use Rattle.planes.specs.declared.load.Load.{Load}

-- how many low-resolution pixels a scroll of BPLCON1 delays
abbrev pub delay : Bool → ℕ → ℕ
delay hires scroll = if hires then scroll % 8 else scroll

-- The load of a write at a clock: the latches, and where odd and even planes begin to show them, by the scrolls
-- PF1H (bits 3 to 0 of BPLCON1) and PF2H (bits 7 to 4).
abbrev pub load_of : ℕ → List ℕ → ℕ → Bool → Load
load_of h latches con1 hires = record {
  odd = 4 * h + 6 + 2 * delay hires (con1 % 16);
  even = 4 * h + 6 + 2 * delay hires (con1 / 16 % 16);
  words = latches;
  hires = hires;
}

-- the position from which plane p, from 1, shows a load
abbrev pub start_of : ℕ → Load → ℕ
start_of p load = if p % 2 == 1 then load.odd else load.even

-- of a list of loads the last that plane p shows from position x or an earlier one on
abbrev pub shown_load : ℕ → ℕ → List Load → Option Load
shown_load p x loads = last_or None (filter (λ load. nat_le (start_of p load) x) loads)

-- The bit of a word so many positions after its start: bit 15 first, a bit for each position in high resolution and
-- for each two in low, and 0 past bit 0.
abbrev pub word_bit : Bool → ℕ → ℕ → ℕ
word_bit hires passed word =
    let place = if hires then passed else passed / 2 in
    if nat_le place 15 then word / 2 ^ (15 - place) % 2 else 0

abbrev pub load_bit : ℕ → ℕ → Load → ℕ
load_bit p x load = word_bit load.hires (x - start_of p load) (slice_index load.words (p - 1))

-- the bit that plane p shows at position x, 0 where it shows no load
unfoldable pub plane_bit : ℕ → ℕ → List Load → ℕ
plane_bit p x loads = unwrap_or (option_map (load_bit p x) (shown_load p x loads)) 0

-- the bit of a plane that is not above the number of planes, else 0
abbrev pub counted : ℕ → ℕ → ℕ → List Load → ℕ
counted count p x loads = if nat_le p count then plane_bit p x loads else 0

-- the bits of the six planes, plane p as bit p - 1
unfoldable pub all_bits : ℕ → ℕ → List Load → ℕ
all_bits x count loads =
    counted count 1 x loads
    + 2 * counted count 2 x loads
    + 4 * counted count 3 x loads
    + 8 * counted count 4 x loads
    + 16 * counted count 5 x loads
    + 32 * counted count 6 x loads

-- Two lists of loads show the same bit of each of the planes 1 to 6 at each position from one on: the first stands for
-- the second from there on.
unfoldable pub ShowsSame : ℕ → List Load → List Load → Type 0
ShowsSame from kept loads = (p x : ℕ) → 1 ≤ p → p ≤ 6 → from ≤ x → plane_bit p x kept ≡ plane_bit p x loads

-- the same, where it is even the same load that is shown
unfoldable pub ShowsLoadsOf : ℕ → List Load → List Load → Type 0
ShowsLoadsOf from kept loads = (p x : ℕ) → from ≤ x → shown_load p x kept ≡ shown_load p x loads
