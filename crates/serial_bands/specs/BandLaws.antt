-- Laws of the bands of a run: they are its picture steps, each in one band, in order of number from 0.
use Rattle.std.specs.Prelude.{◌≡◌, ◌<◌, ◌≤◌, ℕ, ◌+◌, ◌-◌, ◌^◌, false, List}
use Rattle.ocs_base.specs.Limits.{IsRunnable}
use Rattle.serial_bands.specs.Run.{RunValue, state_of, beam_at, run_memory, IsEndOf}
use Rattle.serial_bands.specs.Clock.{opening_at, closing_at, made_at, bus_touch_at, write_alone, clx_after_at}
use Rattle.serial_model.specs.Made.{word_of, is_clx_read}
use Rattle.serial_model.specs.Picture.{clear_line, touch_if_any}
use Rattle.serial_bands.specs.RangeLaws.{IsSinceRead}
use Rattle.serial_bands.specs.Bands.{begun, IsBand, AreBands}
use Rattle.serial_bands.specs.BandShown.{bytes_from, clx_from, bytes_of_bands, clx_of_bands, tinted_bytes}
use Rattle.serial_bands.specs.BusReads.{bus_reads, latched_words}

-- the first band begins with the first clock, and each next one where the one before it ends
abbrev pub FirstBand : Type 0
FirstBand = (run : RunValue) (from to : ℕ) → IsBand run 0 from to → from ≡ 0

abbrev pub NextBand : Type 0
NextBand = (run : RunValue) (n from to next end : ℕ) → IsBand run n from to → IsBand run (n + 1) next end → next ≡ to

-- a number has one range
abbrev pub OneBand : Type 0
OneBand = (run : RunValue) (n from to other end : ℕ) → IsBand run n from to → IsBand run n other end → (from ≡ other) × (to ≡ end)

-- after a clock of band n, as many bands have begun as it and those before it are
abbrev pub BegunInBand : Type 0
BegunInBand = (run : RunValue) (n from to c : ℕ) → IsBand run n from to → from < c → c ≤ to → begun run c ≡ n + 1

-- each clock of a run is in a band, each number below the count is that of a band, and so the bands of a whole run are as many
-- as have begun before its end
abbrev pub ClockHasBand : Type 0
ClockHasBand = (run : RunValue) (clocks c : ℕ) → IsEndOf run clocks → c < clocks →
    (n : ℕ) × (from : ℕ) × (to : ℕ) × IsBand run n from to × (from ≤ c) × (c < to)

abbrev pub NumberHasBand : Type 0
NumberHasBand = (run : RunValue) (clocks n : ℕ) → IsEndOf run clocks → n < begun run clocks →
    (from : ℕ) × (to : ℕ) × IsBand run n from to

abbrev pub BandsOfRun : Type 0
BandsOfRun = (run : RunValue) (clocks : ℕ) → IsEndOf run clocks → AreBands run 0 (begun run clocks) 0 clocks

-- a band follows bands
abbrev pub OneBandMore : Type 0
OneBandMore = (run : RunValue) (n count from to end : ℕ) → AreBands run n count from to → IsBand run (n + count) to end →
    AreBands run n (count + 1) from end

-- the bytes and the collision bits of bands are those of the range that they fill
abbrev pub BytesOfBands : Type 0
BytesOfBands = (run : RunValue) (n count from to : ℕ) (bands : AreBands run n count from to) →
    bytes_of_bands run n count from to bands ≡ bytes_from run from (to - from)

abbrev pub ClxOfBands : Type 0
ClxOfBands = (run : RunValue) (n count from to : ℕ) (bands : AreBands run n count from to) →
    clx_of_bands run n count from to bands ≡ clx_from run from (to - from)

-- the opening of the band that follows is the closing picture state with the last access's write made, and cleared where a
-- line starts
abbrev pub OpeningOfNextBand : Type 0
OpeningOfNextBand = (run : RunValue) (n from to : ℕ) → IsBand run n from to →
    opening_at run to
    ≡ clear_line (beam_at run to)
    (touch_if_any (beam_at run (to - 1)).h (word_of (run_memory run (to - 1))) (write_alone (bus_touch_at run (to - 1))) (closing_at run (to - 1)))

-- all bands, one after another, show the bytes of the run
abbrev pub ShownByBands : Type 0
ShownByBands = (run : RunValue) (count to : ℕ) (bands : AreBands run 0 count 0 to) →
    (state_of run to).shown ≡ bytes_of_bands run 0 count 0 to bands

-- the bands since the last read of CLXDAT have the bits that a read at their end sees: one by the last access, or one by the
-- script in the next clock
abbrev pub ReadAfterBands : Type 0
ReadAfterBands = (run : RunValue) (n count from to : ℕ) (bands : AreBands run n count from to) → from < to → IsSinceRead run from (to - 1) →
    clx_after_at run (to - 1) ≡ clx_of_bands run n count from to bands

abbrev pub PeekAfterBands : Type 0
PeekAfterBands = (run : RunValue) (n count from to : ℕ) (bands : AreBands run n count from to) → from < to → IsSinceRead run from (to - 1) →
    is_clx_read (made_at run (to - 1)) ≡ false → (state_of run to).clx ≡ clx_of_bands run n count from to bands

-- in the limits of scripts a run has fewer than 2^32 bands, and a number of a band fits 32 bits
abbrev pub BandsAreFew : Type 0
BandsAreFew = (run : RunValue) (clocks : ℕ) → IsRunnable run.script → IsEndOf run clocks → begun run clocks < 2 ^ 32

abbrev pub NumberIsSmall : Type 0
NumberIsSmall = (run : RunValue) (n from to : ℕ) → IsRunnable run.script → IsBand run n from to → n < 2 ^ 32

-- under the tint 0 bytes are what they are
abbrev pub NoTint : Type 0
NoTint = (bytes : List ℕ) → tinted_bytes 0 bytes ≡ bytes

-- an access reads one word at most, and a band leaves at most 22 words that a fetch filled
abbrev pub AccessReadsFew : Type 0
AccessReadsFew = (run : RunValue) (c : ℕ) → bus_reads run c ≤ 1

abbrev pub LatchedAreFew : Type 0
LatchedAreFew = (run : RunValue) (from to : ℕ) → latched_words run from to ≤ 22
