-- Laws of ranges of clocks: their bytes, their collision bits and their events.
use Rattle.std.specs.Prelude.{◌≡◌, ◌<◌, ◌≤◌, ℕ, suc, ◌+◌, ◌-◌, true, false, ◌||◌, ◌==◌, ◌++◌, bit_or}
use Rattle.serial_model.specs.Made.{is_clx_read}
use Rattle.serial_bands.specs.Run.{RunValue, state_of}
use Rattle.serial_bands.specs.Clock.{made_at, bus_touch_at, clx_after_at, write_alone}
use Rattle.serial_bands.specs.Bands.{has_read_at}
use Rattle.serial_bands.specs.BandShown.{bytes_from, clx_from}
use Rattle.serial_bands.specs.RightJob.{events_from, events_in, bus_events}

-- the bytes of a range are what the run shows in it
abbrev pub ShownInRange : Type 0
ShownInRange = (run : RunValue) (c n : ℕ) → (state_of run (c + n)).shown ≡ (state_of run c).shown ++ bytes_from run c n

-- two ranges, one after the other, are one range
abbrev pub BytesOfTwo : Type 0
BytesOfTwo = (run : RunValue) (c n m : ℕ) → bytes_from run c (n + m) ≡ bytes_from run c n ++ bytes_from run (c + n) m

abbrev pub ClxOfTwo : Type 0
ClxOfTwo = (run : RunValue) (c n m : ℕ) → clx_from run c (n + m) ≡ bit_or (clx_from run c n) (clx_from run (c + n) m)

-- CLXDAT was read, or the run began, right before the picture step of `from`, and was not read again before that of `last`
pub record IsSinceRead (run : RunValue) (from last : ℕ) : Type 0 where
  pub begin : (from == 0) || has_read_at run from ≡ true
  pub inner : (c : ℕ) → from < c → c ≤ last → has_read_at run c ≡ false

-- what a read sees: the bits of the picture steps since the last read. One by the access of a clock sees those of the
-- clock too, and one by the script those up to the clock before
abbrev pub ReadByAccess : Type 0
ReadByAccess = (run : RunValue) (from last : ℕ) → from ≤ last → IsSinceRead run from last →
    clx_after_at run last ≡ clx_from run from (last + 1 - from)

abbrev pub ReadByScript : Type 0
ReadByScript = (run : RunValue) (from last : ℕ) → from ≤ last → IsSinceRead run from last → is_clx_read (made_at run last) ≡ false →
    (state_of run (last + 1)).clx ≡ clx_from run from (last + 1 - from)

-- the events of a range that has a clock: those from its first on, and of so many that follow before the last
abbrev pub EventsInRange : Type 0
EventsInRange = (run : RunValue) (from to : ℕ) → from < to → events_in run from to ≡ events_from run from (to - from - 1)

-- one clock more at a range's end: the write that waited, of the access of its last clock, becomes an event
abbrev pub EventsOfOneMore : Type 0
EventsOfOneMore = (run : RunValue) (c n : ℕ) →
    events_from run c (suc n)
    ≡ events_from run c n ++ (bus_events (c + n) (write_alone (bus_touch_at run (c + n))) ++ events_from run (c + suc n) 0)
