-- A plain clock: the state in which its access is made, and the rest.
use Rattle.std.proofs.Common.{◌≡◌, Bool, true, false, ◌==◌, if◌then◌else◌, List, [], arith, refl, ap, ◌∙◌}
use Rattle.std.proofs.lemmas.Bool.{and_right}
use Rattle.irq_cia.specs.Interrupts.{Interrupts}
use Rattle.ocs_base.specs.declared.beam.Beam.{Beam}
use Rattle.ocs_base.specs.declared.script.At.{At}
use Rattle.ocs_base.specs.declared.system.System.{System}
use Rattle.serial_model.specs.declared.bus.Ask.{Ask}
use Rattle.serial_model.specs.declared.picture.Denise.{Denise}
use Rattle.serial_model.specs.Beam.{is_line_start, is_field_start}
use Rattle.serial_model.specs.Bus.{ask_at}
use Rattle.serial_model.specs.Cias.{tick_timers, time_chips}
use Rattle.serial_model.specs.Events.{due_events, do_events}
use Rattle.serial_model.specs.Picture.{clear_line}
use Rattle.serial_model.specs.Registers.{dmacon_of}
use Rattle.serial_model.specs.Side.{tick_side}
use Rattle.serial_model.specs.State.{Chips, State}
use Rattle.serial_model.specs.Tick.{start_chips, start_clock, run_script, count_timers, show_pixels, before_access, ask_of, tick}
use Rattle.quiet_clocks.specs.PlainClock.{IsPlain, shown_at, rest_of, OwnedTick}

pub else_of : {A : Type 0} (b : Bool) (x y : A) → b ≡ false → (if b then x else y) ≡ y
else_of true x y is = grind arith
else_of false x y is = refl

-- no line and no field starts
chips_start : (b : Beam) (c : Chips) → is_line_start b ≡ false → start_chips b c ≡ c
chips_start b c inner =
    else_of (is_line_start b) _ _ inner ∙ else_of (is_field_start b) _ c (and_right (b.v == 0) (b.h == 0) inner)

picture_start : (b : Beam) (p : Denise) → is_line_start b ≡ false → clear_line b p ≡ p
unfolding clear_line
picture_start b p inner = else_of (is_line_start b) _ p inner

starts_none : (s : State) → is_line_start s.beam ≡ false → start_clock s ≡ s
starts_none s inner =
    ap (λ (c : Chips). record s { chips = c; picture = clear_line s.beam s.picture }) (chips_start s.beam s.chips inner)
    ∙ ap (λ (p : Denise). record s { picture = p }) (picture_start s.beam s.picture inner)

-- no event is due
runs_none : (events : List At) (s : State) → due_events s.beam events ≡ [] → run_script events s ≡ s
unfolding do_events
runs_none events s due = ap (λ all. do_events all s) due

-- no interrupt is requested
requests_none : (events : List At) (s : State) → IsPlain events s → count_timers s ≡ record s {
  chips = tick_timers s.t s.chips;
  side = tick_side s.beam (dmacon_of s.chips.registers) s.side;
}
unfolding time_chips
requests_none events s plain =
    ap (λ (irq : Interrupts). record s {
      chips = record (tick_timers s.t s.chips) { irq = irq };
      side = tick_side s.beam (dmacon_of s.chips.registers) s.side;
    }) plain.lines

pub before_plain : (system : System) (events : List At) (s : State) → IsPlain events s → before_access system events s ≡ shown_at system s
before_plain system events s plain =
    ap (λ (x : State). show_pixels system (count_timers (run_script events x))) (starts_none s plain.inner)
    ∙ ap (λ (x : State). show_pixels system (count_timers x)) (runs_none events s plain.due)
    ∙ ap (λ (x : State). show_pixels system x) (requests_none events s plain)

-- the rest, with the ask as it is
rest_as_asked : (system : System) (events : List At) (s : State)
    → tick system events s ≡ rest_of system (ask_of (before_access system events s)) (before_access system events s)
unfolding tick
rest_as_asked system events s = refl

pub owned_tick : OwnedTick
unfolding ask_at
owned_tick system events s ask plain asks =
    rest_as_asked system events s
    ∙ ap (λ (x : State). rest_of system (ask_of x) x) (before_plain system events s plain)
    ∙ ap (λ (a : Ask). rest_of system a (shown_at system s)) asks
