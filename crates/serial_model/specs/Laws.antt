-- Laws of a colour clock and of a run: what the definitions come to.
use Rattle.std.specs.Prelude.{◌≡◌, ℕ, ◌*◌, ◌≤◌, false, List, ◌++◌, length, bit_or}
use Rattle.ocs_base.specs.Limits.{IsRunnable}
use Rattle.ocs_base.specs.Script.{ScriptValue}
use Rattle.ocs_base.specs.declared.beam.Beam.{Beam}
use Rattle.ocs_base.specs.declared.script.At.{At}
use Rattle.ocs_base.specs.Systems.{frame_bytes}
use Rattle.ocs_base.specs.declared.system.System.{System}
use Rattle.serial_model.specs.declared.bus.Made.{Made}
use Rattle.serial_model.specs.declared.picture.Denise.{Denise}
use Rattle.serial_model.specs.Beam.{next_place}
use Rattle.serial_model.specs.Events.{due_events, touches_of, event_lines}
use Rattle.serial_model.specs.Made.{word_of, memory_after, touch_of, is_clx_read, lines_of}
use Rattle.serial_model.specs.Picture.{touch_if_any, touch_in_order, clear_line, PictureStep, step_of, after_step}
use Rattle.serial_model.specs.Registers.{is_interlaced}
use Rattle.serial_model.specs.Serial.{state_over, IsEndOver}
use Rattle.serial_model.specs.Side.{Happening, SideValue, side_after, ask_of_side, later_side, IsQuietSide, no_side, IsBelow, FitsSide}
use Rattle.serial_model.specs.State.{State}
use Rattle.serial_model.specs.Turns.{interrupt_of, taken_lines}
use Rattle.serial_model.specs.Tick.{start_clock, run_script, before_access, made_of, answer_state, make_access, tick}

-- what the access of the clock that begins in this state makes
abbrev pub made_in : System → List At → State → Made
made_in system events s = made_of (before_access system events s)

-- the picture state that the picture step of this clock shows: cleared at a line's start, and touched by the script, whose
-- touches are a function of the script and the place of the beam alone
abbrev pub picture_before : List At → State → Denise
picture_before events s =
    touch_in_order s.beam.h (word_of s.memory) (touches_of (due_events s.beam events)) (clear_line s.beam s.picture)

abbrev pub picture_step : System → List At → State → PictureStep
picture_step system events s = step_of system s.beam.v s.beam.h (picture_before events s)

-- memory: what the access stores, and nothing else
abbrev pub MemoryNext : Type 0
MemoryNext = (system : System) (events : List At) (s : State) →
    (tick system events s).memory ≡ memory_after (made_in system events s) s.memory

-- the picture state: the picture step, and then the access's touch
abbrev pub PictureNext : Type 0
PictureNext = (system : System) (events : List At) (s : State) →
    (tick system events s).picture
    ≡ touch_if_any s.beam.h (word_of s.memory) (touch_of (made_in system events s))
    (after_step (picture_step system events s) (picture_before events s))

-- the pixel bytes: those of the picture step
abbrev pub ShownNext : Type 0
ShownNext = (system : System) (events : List At) (s : State) →
    (tick system events s).shown ≡ s.shown ++ (picture_step system events s).bytes

-- the collision bits, where the access does not read them: those after the script's events, and those of the picture step
abbrev pub ClxNext : Type 0
ClxNext = (system : System) (events : List At) (s : State) → is_clx_read (made_in system events s) ≡ false →
    (tick system events s).clx ≡ bit_or (run_script events (start_clock s)).clx (picture_step system events s).clx

-- the trace: the lines of the script's events, then those of the access, and then that of an interrupt that begins
abbrev pub TraceNext : Type 0
TraceNext = (system : System) (events : List At) (s : State) →
    (tick system events s).trace
    ≡ s.trace ++ (event_lines (due_events s.beam events) (start_clock s)
    ++ ((let b = answer_state (before_access system events s) in
    lines_of b.beam b.clx b.chips (made_in system events s))
    ++ (let b = make_access (before_access system events s) in taken_lines b.beam (interrupt_of b.chips))))

-- the beam: the next place, where LOF is all that the writes of this clock can have changed
abbrev pub BeamNext : Type 0
BeamNext = (system : System) (events : List At) (s : State) →
    (tick system events s).beam
    ≡ (let b = make_access (before_access system events s) in
    next_place system (is_interlaced b.chips.registers) (record s.beam { lof = b.beam.lof }))

-- a side that fits a size of chip memory goes on fitting it, whatever happens to it
abbrev pub FitIsKept : Type 0
FitIsKept = (size : ℕ) (happening : Happening) (side : SideValue) → FitsSide size side →
    FitsSide size (side_after happening side)

-- the address of what it asks for is below that size
abbrev pub AskOfFitIsBelow : Type 0
AskOfFitIsBelow = (size : ℕ) (b : Beam) (dmacon : ℕ) (side : SideValue) → FitsSide size side →
    IsBelow size (ask_of_side b dmacon side)

-- a machine without a side fits every size
abbrev pub NoneFitsEach : Type 0
NoneFitsEach = (size : ℕ) → FitsSide size no_side

-- no side stays no side, and does nothing in any number of clocks
abbrev pub NoSideStays : Type 0
NoSideStays = (n : ℕ) (b : Beam) (dmacon : ℕ) → later_side n b dmacon no_side ≡ no_side

abbrev pub NoSideIsQuiet : Type 0
NoSideIsQuiet = (b : Beam) (dmacon n : ℕ) → IsQuietSide b dmacon n no_side

-- a side that does nothing in so many clocks does nothing in fewer
abbrev pub FewerOfQuietSide : Type 0
FewerOfQuietSide = (m n : ℕ) (b : Beam) (dmacon : ℕ) (side : SideValue) → m ≤ n → IsQuietSide b dmacon n side → IsQuietSide b dmacon m side

-- a run of a script has an end, over each side
abbrev pub HasEnd : Type 0
HasEnd = (side : SideValue) (image : List ℕ) (script : ScriptValue) → IsRunnable script →
    (clocks : ℕ) × IsEndOver side image script clocks

-- and has shown whole frames there
abbrev pub FramesAreWhole : Type 0
FramesAreWhole = (side : SideValue) (image : List ℕ) (script : ScriptValue) (clocks : ℕ) → 1 ≤ script.frames →
    IsEndOver side image script clocks →
    length (state_over side image script clocks).shown ≡ script.frames * frame_bytes script.system
