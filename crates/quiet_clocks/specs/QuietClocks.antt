-- Quiet clocks one behind the other, within a line.
use Rattle.std.specs.Prelude.{◌≡◌, ◌<◌, ◌≤◌, ℕ, zero, suc, ◌+◌, ◌==◌, if◌then◌else◌, List, []}
use Rattle.ocs_base.specs.declared.beam.Beam.{Beam}
use Rattle.ocs_base.specs.Script.{ScriptValue}
use Rattle.ocs_base.specs.declared.script.At.{At}
use Rattle.ocs_base.specs.declared.system.System.{System}
use Rattle.serial_model.specs.declared.bus.SideAsk.TheVariants as S
use Rattle.serial_model.specs.Events.{due_events}
use Rattle.serial_model.specs.PlaneFetch.{units_at}
use Rattle.serial_model.specs.Processor.{Processor}
use Rattle.serial_model.specs.Registers.{Registers, dmacon_of}
use Rattle.serial_model.specs.Serial.{state_over}
use Rattle.serial_model.specs.Beam.{later_beam}
use Rattle.serial_model.specs.Side.{SideValue, bits_of_side, ask_of_side, later_side}
use Rattle.serial_model.specs.State.{Chips, State}
use Rattle.serial_model.specs.Tick.{tick}
use Rattle.irq_cia.specs.Ticks.{HasNoUnderflow, ticks_on}
use Rattle.quiet_clocks.specs.Ticks.{ticks_in}
use Rattle.quiet_clocks.specs.PlainClock.{AsksNothingNew}
use Rattle.quiet_clocks.specs.QuietClock.{IsCalm, TurnsTo}

-- the state after so many colour clocks
unfoldable pub clocks : System → List At → ℕ → State → State
clocks system events zero s = s
clocks system events (suc n) s = tick system events (clocks system events n s)

-- the clocks of the line at which units of bitplane fetch began, so many clocks on
unfoldable pub later_units : ℕ → Beam → Registers → List ℕ → List ℕ
later_units zero b registers units = units
later_units (suc n) b registers units = units_at (later_beam n b) registers (later_units n b registers units)

-- the chips so many quiet clocks on, where the processor is after k clocks the k-th of these
abbrev pub later_chips : Beam → ℕ → ℕ → (ℕ → Processor) → Chips → Chips
later_chips b t n processors c = record c {
  units = later_units n b c.registers c.units;
  processor = processors n;
  missed = if n == 0 then c.missed else 0;
  cia_a = ticks_on (ticks_in t n) c.cia_a;
  cia_b = ticks_on (ticks_in t n) c.cia_b;
}

-- the state so many quiet clocks on; picture, collisions and pixel bytes are those of the clocks one by one
unfoldable pub later_state : System → List At → ℕ → (ℕ → Processor) → State → State
later_state system events n processors s = record (clocks system events n s) {
  t = s.t + n;
  beam = later_beam n s.beam;
  memory = s.memory;
  chips = later_chips s.beam s.t n processors s.chips;
  side = later_side n s.beam (dmacon_of s.chips.registers) s.side;
  trace = s.trace;
}

-- what is known of a state by which the next n clocks are quiet: they lie within the line, and at each of them no event is
-- due, nothing new is requested, neither side nor chips ask for the slot, and the processor turns to the next of these; and no
-- timer underflows among them
pub record IsQuietSpan (events : List At) (s : State) (n : ℕ) (processors : ℕ → Processor) : Type 0 where
  pub inner : 0 < s.beam.h
  pub last : s.beam.h + n ≤ 226
  pub begin : processors 0 ≡ s.chips.processor
  pub due : (k : ℕ) → k < n → due_events (later_beam k s.beam) events ≡ []
  pub lines : (k : ℕ) → k < n →
      AsksNothingNew (bits_of_side (later_beam k s.beam) (dmacon_of s.chips.registers) (later_side k s.beam (dmacon_of s.chips.registers) s.side))
      s.chips
  pub side : (k : ℕ) → k < n →
      ask_of_side (later_beam k s.beam) (dmacon_of s.chips.registers) (later_side (suc k) s.beam (dmacon_of s.chips.registers) s.side)
      ≡ S.Nothing
  pub calm : (k : ℕ) → k < n →
      IsCalm (later_beam k s.beam) (record s.chips { processor = processors k; units = later_units k s.beam s.chips.registers s.chips.units })
  pub turns : (k : ℕ) → k < n → TurnsTo s.chips.irq (processors k) (processors (suc k))
  pub timers_a : HasNoUnderflow (ticks_in s.t n) s.chips.cia_a
  pub timers_b : HasNoUnderflow (ticks_in s.t n) s.chips.cia_b

-- what is known of the chips by which the next n clocks are quiet, where no side is, the clocks lie within the line, and no event
-- of the script is due: nothing new is requested, nobody asks for the slot, the processor turns to the next of these, and no
-- timer underflows
pub record AreQuiet (b : Beam) (t n : ℕ) (processors : ℕ → Processor) (c : Chips) : Type 0 where
  pub begin : processors 0 ≡ c.processor
  pub lines : AsksNothingNew 0 c
  pub calm : (k : ℕ) → k < n → IsCalm (later_beam k b) (record c { processor = processors k; units = later_units k b c.registers c.units })
  pub turns : (k : ℕ) → k < n → TurnsTo c.irq (processors k) (processors (suc k))
  pub timers_a : HasNoUnderflow (ticks_in t n) c.cia_a
  pub timers_b : HasNoUnderflow (ticks_in t n) c.cia_b

-- n quiet clocks
abbrev pub QuietSpan : Type 0
QuietSpan = (system : System) (events : List At) (n : ℕ) (s : State) (processors : ℕ → Processor) → IsQuietSpan events s n processors →
    clocks system events n s ≡ later_state system events n processors s

-- the first of quiet clocks are quiet clocks
abbrev pub FewerAreQuiet : Type 0
FewerAreQuiet = (events : List At) (m n : ℕ) (s : State) (processors : ℕ → Processor) → m ≤ n → IsQuietSpan events s n processors →
    IsQuietSpan events s m processors

-- clocks and further clocks
abbrev pub ClocksOfTwo : Type 0
ClocksOfTwo = (system : System) (events : List At) (m n : ℕ) (s : State) →
    clocks system events (m + n) s ≡ clocks system events n (clocks system events m s)

-- the states of a run are clocks one behind the other from any of them on
abbrev pub ClocksOfRun : Type 0
ClocksOfRun = (side : SideValue) (image : List ℕ) (script : ScriptValue) (from n : ℕ) →
    state_over side image script (from + n) ≡ clocks script.system script.events n (state_over side image script from)
