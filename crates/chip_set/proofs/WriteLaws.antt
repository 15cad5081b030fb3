-- A write to a register reaches the chips.
use Rattle.std.proofs.Common.{◌≡◌, ℕ, Bool, ap, subst, sym, ◌∙◌, is_some}
use Rattle.serial_model.specs.declared.registers.Effect.{Effect}
use Rattle.serial_model.specs.Registers.{Registers, words_after, effect_of}
use Rattle.serial_model.specs.State.{Chips}
use Rattle.serial_model.specs.Write.{carry_effect, write_chips}
use Rattle.chip_set.specs.Chips.{WorkingChips, IsChipsOf}
use Rattle.chip_set.proofs.BlitLaws.{kept_busy}

pub poked : (old new : WorkingChips) (registers : Registers) (effect : Effect) (busy : Bool) (offset word : ℕ) → busy ≡ is_some old.blit
    → registers ≡ words_after busy old.registers offset word → effect ≡ effect_of busy offset word
    → ((x : Chips) → IsChipsOf (record old { registers = registers }) x → IsChipsOf new (carry_effect effect offset word x))
    → (c : Chips) → IsChipsOf old c → IsChipsOf new (write_chips offset word c)
unfolding write_chips
poked old new registers effect busy offset word kept words carries follows c is =
    let same : busy ≡ is_some c.blit = kept ∙ kept_busy old.blit c.blit is.blit in
    let mid : Chips = record c { registers = words_after (is_some c.blit) c.registers offset word } in
    let stands : IsChipsOf (record old { registers = registers }) mid = record {
      registers = ap (λ b. words_after b c.registers offset word) (sym same) ∙ ap (λ r. words_after busy r offset word) is.registers ∙ sym words;
      last = is.last;
      kinds = is.kinds;
      copper = is.copper;
      blit = is.blit;
      zero = is.zero;
      irq = is.irq;
      processor = is.processor;
      missed = is.missed;
      cia_a = is.cia_a;
      cia_b = is.cia_b;
      inputs = is.inputs;
    } in
    subst (λ e. IsChipsOf new (carry_effect e offset word mid)) (carries ∙ ap (λ b. effect_of b offset word) same) (follows mid stands)
