-- The slot of a clock.
use Rattle.std.proofs.Common.{◌≡◌, ℕ, Option, ap, subst, ◌∙◌}
use Rattle.out_files.specs.OutFiles.{OutFilesValue}
use Rattle.serial_model.specs.declared.bus.Ask.{Ask}
use Rattle.serial_model.specs.Bus.{answer_to}
use Rattle.serial_model.specs.State.{State}
use Rattle.serial_model.specs.Tick.{ask_of, answer_of}
use Rattle.band_log.specs.Raster.{RasterValue}
use Rattle.machine.specs.Machine.{MachineValue}
use Rattle.serial_bands.specs.Access.{access_state}
use Rattle.foreground.specs.Fore.{ForeValue, IsUnderway}
use Rattle.serial_model.specs.RegisterRead.{register_read}
use Rattle.foreground.specs.Slot.{IsSlotOf}
use Rattle.foreground.specs.Steps.{BeginsClock, ReachesAsk}
use Rattle.foreground.specs.declared.slot.Slot.{Slot}

-- the word of an ask is that of the state's own
pub word_by_ask : (ask : Ask) (s : State) (word : Option ℕ) → ask ≡ ask_of s
    → word ≡ register_read ask (answer_to ask s.beam s.clx s.chips s.memory) → word ≡ register_read (ask_of s) (answer_of s)
word_by_ask ask s word same is = is ∙ ap (λ a. register_read a (answer_to a s.beam s.clx s.chips s.memory)) same

-- the slot of a clock is said of the foreground as it was once its chips had asked, and so of the one at the start of the clock
pub slot_from_ask : (f0 f1 f3 : ForeValue) (ask : Ask) (first clx : ℕ) (slot : Slot) (seen s1 : RasterValue) (o0 o1 o2 : OutFilesValue)
    → IsUnderway f0 first seen → BeginsClock f0 f1 clx seen s1 o0 o1 → ReachesAsk clx ask f1 f3 o1 o2
    → IsSlotOf slot (access_state f3.run f3.machine.t) → IsSlotOf slot (access_state f0.run f0.machine.t)
slot_from_ask f0 f1 f3 ask first clx slot seen s1 o0 o1 o2 is begins reaches found =
    let same = (begins first is).same in
    let run : f3.run ≡ f0.run =
    ap (λ (f : ForeValue). f.run) reaches.same ∙ reaches.reaches.run ∙ ap (λ (f : ForeValue). f.run) same in
    let t : f3.machine.t ≡ f0.machine.t =
    ap (λ (f : ForeValue). f.machine.t) reaches.same ∙ ap (λ (m : MachineValue). m.t) reaches.chips ∙ reaches.reaches.t
    ∙ ap (λ (f : ForeValue). f.machine.t) same in
    subst (λ n. IsSlotOf slot (access_state f0.run n)) t (subst (λ r. IsSlotOf slot (access_state r f3.machine.t)) run found)
