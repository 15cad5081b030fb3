-- What one colour clock makes of the picture: in a state in which it begins, and at a clock of a run.
use Rattle.std.specs.Prelude.{ℕ, List, Option, Some, None}
use Rattle.ocs_base.specs.declared.script.At.{At}
use Rattle.ocs_base.specs.declared.system.System.{System}
use Rattle.serial_model.specs.declared.bus.Ask.{Ask}
use Rattle.serial_model.specs.declared.bus.Made.{Made}
use Rattle.serial_model.specs.declared.picture.Denise.{Denise}
use Rattle.serial_model.specs.declared.picture.Touch.{Touch}
use Rattle.serial_model.specs.declared.picture.Touch.TheVariants.{Set, Plane, Sprite}
use Rattle.serial_model.specs.Events.{due_events, touches_of}
use Rattle.serial_model.specs.Laws.{made_in, picture_before, picture_step}
use Rattle.serial_model.specs.Made.{word_of, touch_of}
use Rattle.serial_model.specs.Picture.{clear_line, after_step, touch_if_any, touch_in_order}
use Rattle.serial_model.specs.State.{State}
use Rattle.serial_model.specs.Tick.{start_clock, run_script, before_access, ask_of}
use Rattle.serial_bands.specs.Run.{RunValue, state_of, beam_at, run_memory}

-- the picture state after the first step of the clock, which clears it at a line's start
abbrev pub opening_in : State → Denise
opening_in s = clear_line s.beam s.picture

-- the picture state after the picture step
abbrev pub displayed_in : System → List At → State → Denise
displayed_in system events s = after_step (picture_step system events s) (picture_before events s)

-- the access, and how what it makes touches the picture
abbrev pub access_in : System → List At → State → Ask
access_in system events s = ask_of (before_access system events s)

abbrev pub bus_touch_in : System → List At → State → Option Touch
bus_touch_in system events s = touch_of (made_in system events s)

-- of a touch the fetch alone, and the write of a register alone
abbrev pub fetch_alone : Option Touch → Option Touch
fetch_alone None = None
fetch_alone (Some (Set reg word)) = None
fetch_alone (Some (Plane plane at)) = Some (Plane plane at)
fetch_alone (Some (Sprite sprite second at)) = Some (Sprite sprite second at)

abbrev pub write_alone : Option Touch → Option Touch
write_alone None = None
write_alone (Some (Set reg word)) = Some (Set reg word)
write_alone (Some (Plane plane at)) = None
write_alone (Some (Sprite sprite second at)) = None

-- the picture state at the end of the clock with the access's write of a register left out
abbrev pub closing_in : System → List At → State → Denise
closing_in system events s =
    touch_if_any s.beam.h (word_of s.memory) (fetch_alone (bus_touch_in system events s)) (displayed_in system events s)

-- the collision bits that a read sees after the script's events of the clock, before its picture step, and those that one
-- of the access sees, after it
abbrev pub clx_before_in : List At → State → ℕ
clx_before_in events s = (run_script events (start_clock s)).clx

abbrev pub clx_after_in : System → List At → State → ℕ
clx_after_in system events s = (before_access system events s).clx

-- the same at a clock of a run
unfoldable pub opening_at : RunValue → ℕ → Denise
opening_at run c = opening_in (state_of run c)

unfoldable pub displayed_at : RunValue → ℕ → Denise
displayed_at run c = displayed_in run.script.system run.script.events (state_of run c)

unfoldable pub access_at : RunValue → ℕ → Ask
access_at run c = access_in run.script.system run.script.events (state_of run c)

-- what the access makes
unfoldable pub made_at : RunValue → ℕ → Made
made_at run c = made_in run.script.system run.script.events (state_of run c)

unfoldable pub closing_at : RunValue → ℕ → Denise
closing_at run c = closing_in run.script.system run.script.events (state_of run c)

unfoldable pub clx_before_at : RunValue → ℕ → ℕ
clx_before_at run c = clx_before_in run.script.events (state_of run c)

unfoldable pub clx_after_at : RunValue → ℕ → ℕ
clx_after_at run c = clx_after_in run.script.system run.script.events (state_of run c)

-- the pixel bytes that the picture step shows, and its collision bits
unfoldable pub bytes_at : RunValue → ℕ → List ℕ
bytes_at run c = (picture_step run.script.system run.script.events (state_of run c)).bytes

unfoldable pub clx_at : RunValue → ℕ → ℕ
clx_at run c = (picture_step run.script.system run.script.events (state_of run c)).clx

abbrev pub bus_touch_at : RunValue → ℕ → Option Touch
bus_touch_at run c = touch_of (made_at run c)

-- the script's events of the clock, and how they touch the picture: of the place alone
abbrev pub due_at : RunValue → ℕ → List At
due_at run c = due_events (beam_at run c) run.script.events

abbrev pub sets_at : RunValue → ℕ → List Touch
sets_at run c = touches_of (due_at run c)

-- the picture state that the picture step of the clock shows: the opening, touched by the script
abbrev pub picture_at : RunValue → ℕ → Denise
picture_at run c = touch_in_order (beam_at run c).h (word_of (run_memory run c)) (sets_at run c) (opening_at run c)
