-- The CIAs in the machine: their pins, the processor's accesses to them, their time, and their interrupts.
use Rattle.std.specs.Prelude.{ℕ, ◌+◌, ◌-◌, ◌*◌, ◌%◌, ◌==◌, bit_or, if◌then◌else◌, Option, Some, None}
use Rattle.irq_cia.specs.Cia.{after_tick, byte_at, after_read, after_write}
use Rattle.irq_cia.specs.Icr.{is_active}
use Rattle.irq_cia.specs.Interrupts.{after_request}
use Rattle.irq_cia.specs.declared.cia.CiaState.{CiaState}
use Rattle.serial_model.specs.declared.processor.CiaName.{CiaName}
use Rattle.serial_model.specs.declared.processor.CiaName.TheVariants.{A, B}
use Rattle.serial_model.specs.declared.processor.CiaRegister.{CiaRegister}
use Rattle.serial_model.specs.declared.registers.Inputs.{Inputs}
use Rattle.serial_model.specs.State.{Chips}

-- of CIA A's port A bit 7 is 0 while the fire button of port 1 is down, and bit 6 while that of port 0 is; all other pins are 1
abbrev pub fire_pins : Inputs → ℕ
fire_pins i = 0xff - (if i.fire1 then 0x80 else 0) - (if i.fire0 then 0x40 else 0)

abbrev pub pins_at : CiaName → ℕ → Inputs → ℕ
pins_at A number i = if number == 0 then fire_pins i else 0xff
pins_at B number i = 0xff

abbrev pub cia_of : CiaName → Chips → CiaState
cia_of A c = c.cia_a
cia_of B c = c.cia_b

abbrev pub with_cia : CiaName → CiaState → Chips → Chips
with_cia A cia c = record c { cia_a = cia }
with_cia B cia c = record c { cia_b = cia }

-- the word that has the byte of a CIA in its half, the low one for CIA A and the high one for CIA B; the other half reads 0
abbrev pub word_with : CiaName → ℕ → ℕ
word_with A byte = byte
word_with B byte = 256 * byte

-- an access of the processor to a register of a CIA: the word that it answers, and what it changes
abbrev pub answer_of_cia : CiaName → CiaRegister → Option ℕ → Chips → ℕ
answer_of_cia cia reg None c = word_with cia (byte_at reg.number (pins_at cia reg.number c.inputs) (cia_of cia c))
answer_of_cia cia reg (Some byte) c = 0

abbrev pub access_cia : CiaName → CiaRegister → Option ℕ → Chips → Chips
access_cia cia reg None c = with_cia cia (after_read reg.number (cia_of cia c)) c
access_cia cia reg (Some byte) c = with_cia cia (after_write reg.number byte (cia_of cia c)) c

-- the timers tick at each fifth clock since reset
abbrev pub tick_timers : ℕ → Chips → Chips
tick_timers t c = record c {
  cia_a = if t % 5 == 0 then after_tick c.cia_a else c.cia_a;
  cia_b = if t % 5 == 0 then after_tick c.cia_b else c.cia_b;
}

-- at every clock a CIA whose line is active requests its interrupt: CIA A PORTS, bit 3 of INTREQ, and CIA B EXTER, bit 13
abbrev pub line_bits : Chips → ℕ
line_bits c = (if is_active c.cia_a.icr then 0x8 else 0) + (if is_active c.cia_b.icr then 0x2000 else 0)

abbrev pub request_lines : ℕ → Chips → Chips
request_lines bits c = record c { irq = after_request (bit_or bits (line_bits c)) c.irq }

-- the timers, and then the requests of the CIAs beside those bits
unfoldable pub time_chips : ℕ → ℕ → Chips → Chips
time_chips bits t c = request_lines bits (tick_timers t c)
