-- The accesses of the blitter and of the processor to memory at clocks that everybody else leaves to them.
use Rattle.std.proofs.Common.{◌≡◌, ◌<◌, ◌+◌, ℕ, Bool, true, false, is_some, arith, refl, subst, ◌∙◌, sym}
use Rattle.std.proofs.lemmas.Bool.{false≢true, true≢false}
use Rattle.mem_versions.specs.Chip.{ChipValue}
use Rattle.ocs_base.specs.declared.beam.Beam.{Beam}
use Rattle.ocs_base.specs.declared.system.System.{System}
use Rattle.out_files.specs.OutFiles.{OutFilesValue}
use Rattle.serial_model.specs.declared.bus.Ask.{Ask}
use Rattle.serial_model.specs.declared.bus.Ask.TheVariants as A
use Rattle.serial_model.specs.declared.bus.Made.{Made}
use Rattle.serial_model.specs.declared.bus.Made.TheVariants as M
use Rattle.serial_model.specs.declared.bus.ProcessorAsk.{ProcessorAsk}
use Rattle.serial_model.specs.declared.bus.ProcessorAsk.TheVariants as P
use Rattle.quiet_clocks.proofs.QuietClocks.{next_later}
use Rattle.serial_model.specs.Beam.{next_place, later_beam}
use Rattle.serial_model.specs.Made.{chips_after}
use Rattle.serial_model.specs.Side.{SideValue, answer_side, side_by_made}
use Rattle.serial_model.specs.State.{Chips, State}
use Rattle.serial_model.specs.Tick.{ask_of}
use Rattle.chip_set.specs.AskLaws.{is_clx_ask}
use Rattle.chip_set.specs.Bus.{KeepsBus, KeepsOnBus, reaches_memory, is_bus_ask, is_bus_made, is_fetch_ask}
use Rattle.chip_set.specs.Chips.{WorkingChips, IsChipsOf}
use Rattle.chip_set.proofs.BusLaws.{kept_then, kept_alike, cias_then, cias_of_same}
use Rattle.machine.specs.Machine.{MachineValue, HasAskedOf}
use Rattle.machine.specs.MachineSteps.{Does}
use Rattle.machine.proofs.AccessLaws.{Answers, answered, accessed}

-- such an access does not read CLXDAT
no_register : (ask : ProcessorAsk) → reaches_memory ask ≡ true → is_clx_ask (A.Processor ask) ≡ false
no_register (P.Read at) bus = refl
no_register (P.Write at half word) bus = refl
no_register (P.ReadRegister reg) bus = absurd (false≢true bus)
no_register (P.WriteRegister reg word) bus = absurd (false≢true bus)

pub no_clx : (ask : Ask) → is_bus_ask ask ≡ true → is_clx_ask ask ≡ false
no_clx A.Free bus = refl
no_clx (A.Side ask) bus = refl
no_clx (A.Plane ask) bus = refl
no_clx (A.Sprite ask) bus = refl
no_clx (A.Copper at) bus = refl
no_clx (A.Blit ask) bus = refl
no_clx (A.Processor ask) bus = no_register ask bus

-- and what it makes leaves the chips
made_leaves : (made : Made) (c : Chips) → is_bus_made made ≡ true → chips_after made c ≡ c
made_leaves M.Nothing c bus = refl
made_leaves (M.Wrote reg word by) c bus = absurd (false≢true bus)
made_leaves (M.Read reg by) c bus = refl
made_leaves (M.Stored at half word) c bus = refl
made_leaves (M.Plane plane at) c bus = refl
made_leaves (M.Sprite sprite second at) c bus = refl

-- nor is the side told of any of it
own_answer : (ask : Ask) (word : ℕ) (side : SideValue) → is_bus_ask ask ≡ true → answer_side ask word side ≡ side
own_answer A.Free word side bus = refl
own_answer (A.Side ask) word side bus = absurd (false≢true bus)
own_answer (A.Plane ask) word side bus = refl
own_answer (A.Sprite ask) word side bus = refl
own_answer (A.Copper at) word side bus = refl
own_answer (A.Blit ask) word side bus = refl
own_answer (A.Processor ask) word side bus = refl

made_untold : (made : Made) (side : SideValue) → is_bus_made made ≡ true → side_by_made made side ≡ side
made_untold M.Nothing side bus = refl
made_untold (M.Wrote reg word by) side bus = absurd (false≢true bus)
made_untold (M.Read reg by) side bus = refl
made_untold (M.Stored at half word) side bus = refl
made_untold (M.Plane plane at) side bus = refl
made_untold (M.Sprite sprite second at) side bus = refl

pub side_untold : (ask : Ask) (made : Made) (word : ℕ) (old given new : SideValue) → is_bus_ask ask ≡ true → is_bus_made made ≡ true
    → given ≡ answer_side ask word old → new ≡ side_by_made made given → new ≡ old
side_untold ask made word old given new bus makes gives tells =
    tells ∙ made_untold made given makes ∙ gives ∙ own_answer ask word old bus

-- a place of a line behind which the line goes on
pub place_in_line : (system : System) (lace : Bool) (b : Beam) → b.h < 226 → next_place system lace b ≡ record b { h = b.h + 1 }
place_in_line system lace b low =
    let e : b.h + 0 ≡ b.h = omega arith in
    subst (λ h. next_place system lace (record b { h = h }) ≡ later_beam 1 b) e (next_later system lace 0 b (omega (arith, low)))

pub access_keeps : (ask : Ask) (made : Made) (old new : MachineValue) (chip : ChipValue) (chips : WorkingChips) (side : SideValue)
    (out after : OutFilesValue) → is_bus_ask ask ≡ true → is_bus_made made ≡ true → Answers ask 0 made old chips
    → Does made 0 (answered old chip chips side) out new after → (s : State) → ask ≡ ask_of s → HasAskedOf old s
    → (is_some chips.blit ≡ is_some old.chips.blit → KeepsOnBus old.chips chips) → is_some new.chips.blit ≡ is_some old.chips.blit
    → KeepsOnBus old.chips new.chips
access_keeps ask made old new chip chips side out after bus makes answers does s is asked kept same =
    let read : is_clx_ask ask ≡ true → s.clx ≡ 0 = λ reads. absurd (true≢false (sym reads ∙ no_clx ask bus)) in
    let stands = (accessed ask 0 made old chips answers s is read asked).chips in
    let after : IsChipsOf new.chips _ = subst (λ (c : Chips). IsChipsOf new.chips c) (made_leaves made _ makes) (does.chips _ stands) in
    let behind : KeepsBus chips new.chips = kept_alike chips new.chips _ stands after in
    let before = kept (sym behind.busy ∙ same) in
    (kept_then old.chips chips new.chips before.0 behind, cias_then old.chips chips new.chips before.1 (cias_of_same chips new.chips _ stands after))

-- an access of a plane, a sprite, the Copper or nobody does not read CLXDAT either
pub fetch_reads_no_bits : (ask : Ask) → is_fetch_ask ask ≡ true → is_clx_ask ask ≡ false
fetch_reads_no_bits A.Free is = refl
fetch_reads_no_bits (A.Side ask) is = refl
fetch_reads_no_bits (A.Plane ask) is = refl
fetch_reads_no_bits (A.Sprite ask) is = refl
fetch_reads_no_bits (A.Copper at) is = refl
fetch_reads_no_bits (A.Blit ask) is = refl
fetch_reads_no_bits (A.Processor ask) is = absurd (false≢true is)

abbrev pub with_chips : WorkingChips → MachineValue → MachineValue
with_chips chips m = record m { chips = chips }
