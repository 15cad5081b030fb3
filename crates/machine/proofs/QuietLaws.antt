-- Quiet clocks that the machine passes over.
use Rattle.std.proofs.Common.{◌≡◌, ◌≤◌, ◌<◌, ℕ, ◌+◌, List, []}
use Rattle.std.proofs.Common.{ap, subst, ◌∙◌, sym}
use Rattle.ocs_base.specs.declared.beam.Beam.{Beam}
use Rattle.ocs_base.specs.declared.script.At.{At}
use Rattle.ocs_base.specs.declared.system.System.{System}
use Rattle.serial_model.specs.Events.{due_events}
use Rattle.serial_model.specs.Processor.{Processor}
use Rattle.serial_model.specs.Side.{SideValue, no_side, later_side, IsQuietSide}
use Rattle.serial_model.specs.Registers.{dmacon_of}
use Rattle.serial_model.specs.State.{Chips, State}
use Rattle.chip_set.specs.Chips.{IsChipsOf, WorkingChips}
use Rattle.chip_set.specs.Quiet.{PassesQuiet}
use Rattle.quiet_clocks.specs.PlainClock.{AsksNothingNew}
use Rattle.quiet_clocks.specs.QuietClocks.{later_chips, later_state, IsQuietSpan, AreQuiet}
use Rattle.serial_model.specs.Beam.{later_beam}
use Rattle.quiet_clocks.proofs.QuietClocks.{quiet_span}
use Rattle.serial_model.proofs.SideLaws.{no_side_stays, no_side_is_quiet, fewer_of_quiet_side}
use Rattle.machine.specs.Machine.{MachineValue, IsMachineOf}
use Rattle.machine.specs.Quiet.{PassesOver}

-- ---- the machine

-- no side passes over all clocks, and stays as it is
pub none_is_quiet : (b : Beam) (dmacon n : ℕ) (side : SideValue) → side ≡ no_side → IsQuietSide b dmacon n side
none_is_quiet b dmacon n side none = subst (λ (x : SideValue). IsQuietSide b dmacon n x) (sym none) (no_side_is_quiet b dmacon n)

pub none_later : (n : ℕ) (b : Beam) (dmacon : ℕ) (side : SideValue) → side ≡ no_side → side ≡ later_side n b dmacon side
none_later n b dmacon side none =
    none ∙ sym (ap (λ (x : SideValue). later_side n b dmacon x) none ∙ no_side_stays n b dmacon)

-- chips and a side that pass over clocks
span_of_chips : (events : List At) (s : State) (n : ℕ) (processors : ℕ → Processor) → 0 < s.beam.h → s.beam.h + n ≤ 226
    → IsQuietSide s.beam (dmacon_of s.chips.registers) n s.side → ((k : ℕ) → k < n → due_events (later_beam k s.beam) events ≡ [])
    → AreQuiet s.beam s.t n processors s.chips → IsQuietSpan events s n processors
span_of_chips events s n processors inner last quiet due are = record {
  inner = inner;
  last = last;
  begin = are.begin;
  due = due;
  lines = λ k low. subst (λ bits. AsksNothingNew bits s.chips) (sym (quiet.bits k low)) are.lines;
  side = quiet.ask;
  calm = are.calm;
  turns = are.turns;
  timers_a = are.timers_a;
  timers_b = are.timers_b;
}

abbrev pub moved : MachineValue → WorkingChips → SideValue → ℕ → MachineValue
moved m chips side n = record m { t = m.t + n; beam = later_beam n m.beam; chips = chips; side = side }

abbrev dmacon_in : MachineValue → ℕ
dmacon_in m = dmacon_of m.chips.registers

stands_later : (system : System) (events : List At) (m : MachineValue) (chips : WorkingChips) (side : SideValue) (n : ℕ) (s : State)
    (processors : ℕ → Processor) → IsMachineOf m s → side ≡ later_side n m.beam (dmacon_in m) m.side
    → IsChipsOf chips (later_chips s.beam s.t n processors s.chips) → IsMachineOf (moved m chips side n) (later_state system events n processors s)
unfolding later_state
stands_later system events m chips side n s processors is ticked stands = record {
  t = ap (λ k. k + n) is.t;
  beam = ap (λ b. later_beam n b) is.beam;
  memory = is.memory;
  chips = stands;
  side = ap (λ b. later_side n b (dmacon_of s.chips.registers) s.side) is.beam
      ∙ ap (λ r. later_side n m.beam (dmacon_of r) s.side) is.chips.registers
      ∙ ap (λ (x : SideValue). later_side n m.beam (dmacon_in m) x) is.side ∙ sym ticked;
}

abbrev ChipsPass : MachineValue → WorkingChips → ℕ → Beam → ℕ → Type 0
ChipsPass m chips n b t = (c : Chips) → IsChipsOf m.chips c → PassesQuiet b t n c chips

quiet_there : (m : MachineValue) (n : ℕ) (s : State) → IsMachineOf m s → IsQuietSide m.beam (dmacon_in m) n m.side
    → IsQuietSide s.beam (dmacon_of s.chips.registers) n s.side
quiet_there m n s is quiet =
    subst (λ (b : Beam). IsQuietSide b (dmacon_of s.chips.registers) n s.side) (sym is.beam)
    (subst (λ r. IsQuietSide m.beam (dmacon_of r) n s.side) (sym is.chips.registers)
    (subst (λ (x : SideValue). IsQuietSide m.beam (dmacon_in m) n x) (sym is.side) quiet))

pub machine_passes : (m : MachineValue) (chips : WorkingChips) (side : SideValue) (n still : ℕ) → 0 < m.beam.h → m.beam.h + n ≤ 226 → n ≤ still
    → IsQuietSide m.beam (dmacon_in m) still m.side → side ≡ later_side n m.beam (dmacon_in m) m.side
    → ((c : Chips) → IsChipsOf m.chips c → PassesQuiet m.beam m.t n c chips) → PassesOver n m (moved m chips side n)
machine_passes m chips side n still inner last few quiet ticked passes events s is due =
    let here : ChipsPass m chips n s.beam s.t =
    subst (λ b. ChipsPass m chips n b s.t) (sym is.beam) (subst (λ t. ChipsPass m chips n m.beam t) (sym is.t) passes) in
    let one : PassesQuiet s.beam s.t n s.chips chips = here s.chips is.chips in
    let beside : IsQuietSide m.beam (dmacon_in m) n m.side = fewer_of_quiet_side n still m.beam (dmacon_in m) m.side few quiet in
    let span : IsQuietSpan events s n one.processors =
    span_of_chips events s n one.processors (subst (λ (b : Beam). 0 < b.h) (sym is.beam) inner)
    (subst (λ (b : Beam). b.h + n ≤ 226) (sym is.beam) last) (quiet_there m n s is beside)
    (subst (λ (b : Beam). (k : ℕ) → k < n → due_events (later_beam k b) events ≡ []) (sym is.beam) due) one.quiet in
    record {
      processors = one.processors;
      quiet = span;
      stands = λ system.
          subst (λ x. IsMachineOf (moved m chips side n) x) (sym (quiet_span system events n s one.processors span))
          (stands_later system events m chips side n s one.processors is ticked one.stands);
    }
