-- What a clock makes of the processor once the slot was given, with the CIAs to which it has access.
use Rattle.std.specs.Prelude.{ℕ, List, [], ◌∷◌, Option, Some, None}
use Rattle.irq_cia.specs.Interrupts.{level_of}
use Rattle.ocs_base.specs.declared.beam.Beam.{Beam}
use Rattle.serial_model.specs.declared.processor.Turn.{Turn}
use Rattle.serial_model.specs.declared.processor.Turn.TheVariants.{Rests, Waits, Goes, Cia}
use Rattle.serial_model.specs.declared.trace.TraceLine.{TraceLine}
use Rattle.serial_model.specs.declared.trace.TraceLine.TheVariants.{Taken}
use Rattle.serial_model.specs.Cias.{answer_of_cia, access_cia}
use Rattle.serial_model.specs.Processor.{turn_of, stage_after, go_on}
use Rattle.serial_model.specs.State.{Chips}

-- it goes on with a word, and with the interrupt level as the words of the interrupts are now
abbrev pub go_on_with : ℕ → Chips → Chips
go_on_with word c = record c { processor = go_on word (level_of c.irq) c.processor }

abbrev pub begins_with : ℕ → Chips → Option ℕ
begins_with word c = (stage_after word (level_of c.irq) c.processor).begins

abbrev pub take_turn : Turn → Chips → Chips
take_turn Rests c = c
take_turn (Waits spent) c = record c { processor = record c.processor { spent = spent } }
take_turn (Goes word) c = go_on_with word c
take_turn (Cia cia reg byte) c = go_on_with (answer_of_cia cia reg byte c) (access_cia cia reg byte c)

-- the level of the interrupt that begins with it
abbrev pub begins_by : Turn → Chips → Option ℕ
begins_by Rests c = None
begins_by (Waits spent) c = None
begins_by (Goes word) c = begins_with word c
begins_by (Cia cia reg byte) c = begins_with (answer_of_cia cia reg byte c) c

unfoldable pub run_chips : Chips → Chips
run_chips c = take_turn (turn_of c.processor) c

unfoldable pub interrupt_of : Chips → Option ℕ
interrupt_of c = begins_by (turn_of c.processor) c

-- the line of the trace for an interrupt that begins
abbrev pub taken_lines : Beam → Option ℕ → List TraceLine
taken_lines b None = []
taken_lines b (Some level) = Taken b level ∷ []
