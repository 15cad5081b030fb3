-- The script's events: those that are left, and those of one clock.
use Rattle.std.specs.Prelude.{ℕ, Bool, if◌then◌else◌, ◌==◌, ◌&&◌, List, [], ◌∷◌, ◌++◌, filter, Option, Some, None}
use Rattle.irq_cia.specs.Cia.{after_key}
use Rattle.ocs_base.specs.Limits.{AreFrom, AreInOrder, AreInLimits}
use Rattle.ocs_base.specs.declared.beam.Beam.{Beam}
use Rattle.ocs_base.specs.declared.script.At.{At}
use Rattle.ocs_base.specs.declared.script.Act.{Act}
use Rattle.ocs_base.specs.declared.script.Act.TheVariants.{Poke, Peek, Joy, Fire, Key}
use Rattle.ocs_base.specs.declared.system.System.{System}
use Rattle.serial_model.specs.declared.bus.Made.{Made}
use Rattle.serial_model.specs.declared.bus.Made.TheVariants as M
use Rattle.serial_model.specs.declared.picture.Touch.{Touch}
use Rattle.serial_model.specs.declared.registers.Inputs.{Inputs}
use Rattle.serial_model.specs.declared.trace.Source.TheVariants.{Script}
use Rattle.serial_model.specs.declared.trace.TraceLine.{TraceLine}
use Rattle.serial_model.specs.Made.{touch_of, lines_of, state_after}
use Rattle.serial_model.specs.State.{Chips, State}

-- events that are none of them before the place, in order and in the limits of a run
pub record IsQueue (system : System) (frames place : ℕ) (events : List At) : Type 0 where
  pub from : AreFrom place events
  pub order : AreInOrder events
  pub limits : AreInLimits system frames events

-- an event of this frame, line and clock
abbrev pub is_due : Beam → At → Bool
is_due b e = (e.frame == b.frame) && (e.v == b.v) && (e.h == b.h)

-- the events of a clock, in their order
unfoldable pub due_events : Beam → List At → List At
due_events b events = filter (is_due b) events

-- what an event makes: a poke is a write to a register and a peek a read of one, by the script
abbrev pub made_by_act : Act → Made
made_by_act (Poke reg word) = M.Wrote reg word (Some Script)
made_by_act (Peek reg) = M.Read reg Script
made_by_act (Joy port word) = M.Nothing
made_by_act (Fire port down) = M.Nothing
made_by_act (Key code) = M.Nothing

-- what joysticks, fire buttons and keys do to the chips: the word of JOY0DAT or JOY1DAT, a fire button down or up, and a code
-- of the keyboard for CIA A
abbrev pub with_joy : ℕ → ℕ → Inputs → Inputs
with_joy port word i = record i { joy0 = if port == 0 then word else i.joy0; joy1 = if port == 0 then i.joy1 else word }

abbrev pub with_fire : ℕ → Bool → Inputs → Inputs
with_fire port down i = record i { fire0 = if port == 0 then down else i.fire0; fire1 = if port == 0 then i.fire1 else down }

abbrev pub tell_chips : Act → Chips → Chips
tell_chips (Poke reg word) c = c
tell_chips (Peek reg) c = c
tell_chips (Joy port word) c = record c { inputs = with_joy port word c.inputs }
tell_chips (Fire port down) c = record c { inputs = with_fire port down c.inputs }
tell_chips (Key code) c = record c { cia_a = after_key code c.cia_a }

-- an event happens
abbrev pub do_event : Act → State → State
do_event act s = state_after (made_by_act act) (record s { chips = tell_chips act s.chips })

-- events happen in their order
unfoldable pub do_events : List At → State → State
do_events [] s = s
do_events (e ∷ events) s = do_events events (do_event e.act s)

-- the trace lines of events that happen in their order from this state on
abbrev pub lines_by : Act → State → List TraceLine
lines_by act s = lines_of s.beam s.clx s.chips (made_by_act act)

unfoldable pub event_lines : List At → State → List TraceLine
event_lines [] s = []
event_lines (e ∷ events) s = lines_by e.act s ++ event_lines events (do_event e.act s)

-- how an event touches the picture, and how events do: a function of the events alone
abbrev pub add_touch : Option Touch → List Touch → List Touch
add_touch None touches = touches
add_touch (Some touch) touches = touch ∷ touches

unfoldable pub touches_of : List At → List Touch
touches_of [] = []
touches_of (e ∷ events) = add_touch (touch_of (made_by_act e.act)) (touches_of events)
