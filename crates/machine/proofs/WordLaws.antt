-- The word of a register that answers an ask.
use Rattle.std.proofs.Common.{◌≡◌, ℕ, ◌==◌, true, Some, sym, ap, subst, ◌∙◌}
use Rattle.ocs_base.specs.declared.reg.Reg.{Reg}
use Rattle.serial_model.specs.State.{Chips, State, read_word}
use Rattle.chip_set.proofs.AskLaws.{read_once_asked}
use Rattle.chip_set.specs.Chips.{IsChipsOf}
use Rattle.machine.specs.Machine.{MachineValue, HasAskedOf}
use Rattle.machine.proofs.StepLaws.{read_alike}

-- what a read gives of chips that have asked is what it gives in the state
pub word_read : (reg : Reg) (m : MachineValue) (clx word : ℕ) (s : State) → HasAskedOf m s → ((reg.offset == 0x0e) ≡ true → s.clx ≡ clx)
    → ((c : Chips) → IsChipsOf m.chips c → word ≡ read_word reg.offset m.beam clx c) → Some word ≡ Some (read_word reg.offset s.beam s.clx s.chips)
word_read reg m clx word s asked bits is =
    ap (λ (w : ℕ). Some w)
    (read_once_asked reg s.beam clx s.chips m.chips word asked.chips
    (subst (λ b. (c : Chips) → IsChipsOf m.chips c → word ≡ read_word reg.offset b clx c) (sym asked.beam) is)
    ∙ sym (read_alike reg.offset s.beam s.clx clx s.chips bits))
