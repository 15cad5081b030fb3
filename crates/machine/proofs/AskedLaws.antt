-- The timers, the side and the ask, in one call.
use Rattle.std.proofs.Common.{◌≡◌, ℕ, ap, subst, sym, ◌∙◌, refl}
use Rattle.serial_model.specs.declared.bus.Ask.{Ask}
use Rattle.serial_model.specs.declared.bus.SideAsk.TheVariants as S
use Rattle.serial_model.specs.Bus.{ask_at}
use Rattle.serial_model.specs.Cias.{time_chips}
use Rattle.serial_model.specs.Registers.{dmacon_of}
use Rattle.serial_model.specs.Side.{no_side, tick_side, bits_of_side, ask_of_side}
use Rattle.serial_model.specs.State.{Chips, State}
use Rattle.serial_model.specs.Tick.{ask_of, count_timers}
use Rattle.chip_set.specs.Chips.{WorkingChips, IsChipsOf, HasAsked}
use Rattle.machine.specs.Machine.{MachineValue, IsMachineOf, HasAskedOf, MakesQuietly}
use Rattle.machine.specs.MachineSteps.{AsksInTime}
use Rattle.machine.proofs.BusLaws.{with_chips}
use Rattle.machine.proofs.AccessLaws.{asks_of, HasAskedOf-by}
use Rattle.machine.proofs.StepLaws.{Makes-timed}

-- ---- the machine without a side

pub asks_alone : (old new : MachineValue) (chips : WorkingChips) (ask : Ask) → old.side ≡ no_side
    → ((c : Chips) → IsChipsOf old.chips c → IsChipsOf chips (time_chips 0 old.t c))
    → ((c : Chips) → IsChipsOf chips c → ask ≡ ask_at S.Nothing old.beam c)
    → ((c : Chips) → IsChipsOf chips c → HasAsked old.beam c new.chips) → new ≡ record old { chips = new.chips } → AsksInTime ask old new
asks_alone old new chips ask none timed asks asked same =
    let dmacon : ℕ = dmacon_of old.chips.registers in
    let bits : 0 ≡ bits_of_side old.beam dmacon old.side = ap (λ side. bits_of_side old.beam dmacon side) (sym none) in
    let ticks : old.side ≡ tick_side old.beam dmacon old.side = none ∙ ap (λ side. tick_side old.beam dmacon side) (sym none) in
    let wish : S.Nothing ≡ ask_of_side old.beam (dmacon_of chips.registers) old.side =
    ap (λ side. ask_of_side old.beam (dmacon_of chips.registers) side) (sym none) in
    record {
      between = with_chips chips old;
      timers = Makes-timed old (with_chips chips old) dmacon 0 refl refl bits ticks timed;
      kept = refl;
      asks = asks_of (with_chips chips old) ask (dmacon_of chips.registers) S.Nothing refl wish asks;
      asked = HasAskedOf-by (with_chips chips old) new (dmacon_of chips.registers) S.Nothing refl wish tt same asked;
      same = same;
    }

-- and with a side, in two steps
pub asks_in_two : (old between view new : MachineValue) (ask : Ask) → view ≡ between → MakesQuietly count_timers old between
    → between ≡ record old { chips = between.chips; side = between.side }
    → ((s : State) → IsMachineOf view s → ask ≡ ask_of s) → ((s : State) → IsMachineOf view s → HasAskedOf new s)
    → new ≡ record view { chips = new.chips } → AsksInTime ask old new
asks_in_two old between view new ask seen timers kept asks asked same = record {
  between = between;
  timers = timers;
  kept = kept;
  asks = subst (λ m. (s : State) → IsMachineOf m s → ask ≡ ask_of s) seen asks;
  asked = subst (λ m. (s : State) → IsMachineOf m s → HasAskedOf new s) seen asked;
  same = subst (λ m. new ≡ record m { chips = new.chips }) seen same;
}
