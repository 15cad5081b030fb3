-- Laws of one colour clock: what it leaves of a state, and how a clock of a run follows from the one before.
use Rattle.std.specs.Prelude.{◌≡◌, ◌≤◌, ℕ, suc, ◌+◌, false, if◌then◌else◌, List, ◌++◌, Option, bit_or}
use Rattle.ocs_base.specs.declared.beam.Beam.{Beam}
use Rattle.ocs_base.specs.declared.script.At.{At}
use Rattle.ocs_base.specs.declared.system.System.{System}
use Rattle.serial_model.specs.declared.picture.Denise.{Denise}
use Rattle.serial_model.specs.declared.picture.Touch.{Touch}
use Rattle.serial_model.specs.Beam.{is_line_end, is_field_start}
use Rattle.serial_model.specs.Events.{due_events, do_events}
use Rattle.serial_model.specs.Laws.{made_in, picture_step}
use Rattle.serial_model.specs.Made.{word_of, memory_after, is_clx_read}
use Rattle.serial_model.specs.Picture.{clear_line, step_of, after_step, touch_if_any, PictureStep}
use Rattle.serial_model.specs.State.{Chips, State, read_word}
use Rattle.serial_model.specs.Tick.{tick}
use Rattle.serial_bands.specs.Run.{RunValue, state_of, beam_at, run_memory}
use Rattle.serial_bands.specs.Clock.{opening_in, closing_in, bus_touch_in, write_alone, fetch_alone, clx_before_in, clx_after_in, opening_at}
use Rattle.serial_bands.specs.Clock.{displayed_at, made_at, closing_at, bus_touch_at, picture_at, bytes_at, clx_at, clx_before_at, clx_after_at, due_at}
use Rattle.serial_bands.specs.Bands.{has_clx_read, begins}

-- a write of a register reads no memory
abbrev pub WritesReadNothing : Type 0
WritesReadNothing = (h : ℕ) (words others : ℕ → ℕ) (touch : Option Touch) (p : Denise) →
    touch_if_any h words (write_alone touch) p ≡ touch_if_any h others (write_alone touch) p

-- a clock leaves the closing picture state with the access's write of a register made
abbrev pub PictureOfTick : Type 0
PictureOfTick = (system : System) (events : List At) (s : State) →
    (tick system events s).picture
    ≡ touch_if_any s.beam.h (word_of s.memory) (write_alone (bus_touch_in system events s)) (closing_in system events s)

-- the next clock opens with that, cleared at a line's start
abbrev pub OpeningOfTick : Type 0
OpeningOfTick = (system : System) (events : List At) (s : State) →
    opening_in (tick system events s)
    ≡ clear_line (tick system events s).beam
    (touch_if_any s.beam.h (word_of s.memory) (write_alone (bus_touch_in system events s)) (closing_in system events s))

-- a read of CLXDAT gives the collision bits that were gathered
abbrev pub ReadGivesClx : Type 0
ReadGivesClx = (b : Beam) (clx : ℕ) (c : Chips) → read_word 0x0e b clx c ≡ clx

-- the collision bits: a read by the script clears them before the picture step, which adds its own, and a read by the access
-- clears them after it. So of several reads in one clock the script's first sees what was gathered, and the others nothing
abbrev pub ClxOfEvents : Type 0
ClxOfEvents = (events : List At) (s : State) → (do_events events s).clx ≡ (if has_clx_read events then 0 else s.clx)

abbrev pub ClxBefore : Type 0
ClxBefore = (events : List At) (s : State) →
    clx_before_in events s ≡ (if has_clx_read (due_events s.beam events) then 0 else s.clx)

abbrev pub ClxAfter : Type 0
ClxAfter = (system : System) (events : List At) (s : State) →
    clx_after_in system events s ≡ bit_or (clx_before_in events s) (picture_step system events s).clx

abbrev pub ClxOfTick : Type 0
ClxOfTick = (system : System) (events : List At) (s : State) →
    (tick system events s).clx ≡ (if is_clx_read (made_in system events s) then 0 else clx_after_in system events s)

-- the next place in a field: the next clock of the line, or the first of the next line
pub record IsNextInField (system : System) (b next : Beam) : Type 0 where
  pub frame : next.frame ≡ b.frame
  pub line : next.v ≡ (if is_line_end system b then b.v + 1 else b.v)
  pub clock : next.h ≡ (if is_line_end system b then 0 else b.h + 1)

abbrev pub PlaceOfTick : Type 0
PlaceOfTick = (system : System) (events : List At) (s : State) → is_field_start (tick system events s).beam ≡ false →
    IsNextInField system s.beam (tick system events s).beam

-- at the clocks of a run
abbrev pub NextMemory : Type 0
NextMemory = (run : RunValue) (c : ℕ) → run_memory run (suc c) ≡ memory_after (made_at run c) (run_memory run c)

abbrev pub NextOpening : Type 0
NextOpening = (run : RunValue) (c : ℕ) →
    opening_at run (suc c)
    ≡ clear_line (beam_at run (suc c))
    (touch_if_any (beam_at run c).h (word_of (run_memory run c)) (write_alone (bus_touch_at run c)) (closing_at run c))

-- the picture step shows the opening, touched by the script
abbrev pub step_at : RunValue → ℕ → PictureStep
step_at run c = step_of run.script.system (beam_at run c).v (beam_at run c).h (picture_at run c)

abbrev pub DisplayedIsStep : Type 0
DisplayedIsStep = (run : RunValue) (c : ℕ) → displayed_at run c ≡ after_step (step_at run c) (picture_at run c)

abbrev pub BytesAreOfStep : Type 0
BytesAreOfStep = (run : RunValue) (c : ℕ) → bytes_at run c ≡ (step_at run c).bytes

abbrev pub ClxIsOfStep : Type 0
ClxIsOfStep = (run : RunValue) (c : ℕ) → clx_at run c ≡ (step_at run c).clx

-- and the clock closes with its access's fetch
abbrev pub ClosingHasFetch : Type 0
ClosingHasFetch = (run : RunValue) (c : ℕ) →
    closing_at run c
    ≡ touch_if_any (beam_at run c).h (word_of (run_memory run c)) (fetch_alone (bus_touch_at run c)) (displayed_at run c)

abbrev pub NextShown : Type 0
NextShown = (run : RunValue) (c : ℕ) → (state_of run (suc c)).shown ≡ (state_of run c).shown ++ bytes_at run c

abbrev pub ClxAtStart : Type 0
ClxAtStart = (run : RunValue) (c : ℕ) →
    clx_before_at run c ≡ (if has_clx_read (due_at run c) then 0 else (state_of run c).clx)

abbrev pub ClxAtAccess : Type 0
ClxAtAccess = (run : RunValue) (c : ℕ) → clx_after_at run c ≡ bit_or (clx_before_at run c) (clx_at run c)

abbrev pub NextClx : Type 0
NextClx = (run : RunValue) (c : ℕ) →
    (state_of run (suc c)).clx ≡ (if is_clx_read (made_at run c) then 0 else clx_after_at run c)

-- within a band no field starts
abbrev pub NextInBand : Type 0
NextInBand = (run : RunValue) (c : ℕ) → begins run (suc c) ≡ false →
    IsNextInField run.script.system (beam_at run c) (beam_at run (suc c))

-- the script's events of a clock follow from frame, line and clock alone, whatever LOF is
abbrev pub EventsByPlace : Type 0
EventsByPlace = (events : List At) (b other : Beam) → b.frame ≡ other.frame → b.v ≡ other.v → b.h ≡ other.h →
    due_events b events ≡ due_events other events

-- frames do not fall
abbrev pub FramesRise : Type 0
FramesRise = (run : RunValue) (c later : ℕ) → c ≤ later → (beam_at run c).frame ≤ (beam_at run later).frame
