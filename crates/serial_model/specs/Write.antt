-- A write to a register, by whomever: what it makes of the chips and of LOF.
use Rattle.std.specs.Prelude.{ℕ, ◌==◌, Bool, false, if◌then◌else◌, [], Some}
use Rattle.serial_model.specs.declared.registers.Effect.{Effect}
use Rattle.serial_model.specs.declared.registers.Effect.TheVariants.{Kept, Nothing, Jump, Blit, Picture, Interrupt, Lof}
use Rattle.serial_model.specs.BlitRegisters.{blit_start}
use Rattle.serial_model.specs.Copper.{copper_from}
use Rattle.irq_cia.specs.Interrupts.{after_ena_write, after_req_write}
use Rattle.serial_model.specs.Registers.{words_after, effect_of, pointer_at}
use Rattle.serial_model.specs.State.{Chips, is_busy}

-- the Copper begins to fetch at its list 1 (COP1LC, 080) or 2 (COP2LC, 084)
abbrev pub restart_copper : ℕ → Chips → Chips
restart_copper list c = record c { copper = copper_from (pointer_at c.registers (if list == 1 then 0x80 else 0x84)) }

-- a blit starts, by the registers as they are now
abbrev pub start_blit : Chips → Chips
start_blit c = record c { blit = Some (record { start = blit_start c.registers; answers = [] }) }

-- a write to INTENA (09a) or INTREQ
abbrev pub write_interrupts : ℕ → ℕ → Chips → Chips
write_interrupts offset word c =
    record c { irq = if offset == 0x9a then after_ena_write word c.irq else after_req_write word c.irq }

-- what the effect of a write of this word to this register does to the chips beside the kept words
abbrev pub carry_effect : Effect → ℕ → ℕ → Chips → Chips
carry_effect (Jump list) offset word c = restart_copper list c
carry_effect Kept offset word c = c
carry_effect Nothing offset word c = c
carry_effect Blit offset word c = start_blit c
carry_effect Picture offset word c = c
carry_effect Interrupt offset word c = write_interrupts offset word c
carry_effect (Lof long) offset word c = c

-- the chips after a write
unfoldable pub write_chips : ℕ → ℕ → Chips → Chips
write_chips offset word c =
    carry_effect (effect_of (is_busy c) offset word) offset word
    (record c { registers = words_after (is_busy c) c.registers offset word })

-- LOF after an effect, and after a write, which no blit closes the way to
abbrev pub lof_of : Effect → Bool → Bool
lof_of (Lof long) lof = long
lof_of Kept lof = lof
lof_of Nothing lof = lof
lof_of (Jump list) lof = lof
lof_of Blit lof = lof
lof_of Picture lof = lof
lof_of Interrupt lof = lof

unfoldable pub write_lof : ℕ → ℕ → Bool → Bool
write_lof offset word lof = lof_of (effect_of false offset word) lof
