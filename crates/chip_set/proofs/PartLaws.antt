-- A part of the chips has changed: of the working ones, and of those that they stand for.
use Rattle.std.proofs.Common.{◌≡◌, ℕ, ◌*◌, ◌%◌, ◌==◌, ◌&&◌, if◌then◌else◌, Bool, true, false}
use Rattle.std.proofs.Common.{Option, Some, None, IfSome, inl, arith, refl, ap, subst, sym, ◌∙◌}
use Rattle.std.proofs.lemmas.Bool.Decides.{nat_tests}
use Rattle.std.specs.Option.{option_map, is_some}
use Rattle.blit_words.specs.Blitter.{blit_zero}
use Rattle.blit_words.specs.declared.blit.SlotAsk.{SlotAsk}
use Rattle.blit_words.specs.declared.blit.SlotAsk.TheVariants.{Read, Write}
use Rattle.blitter.specs.StandsFor.{ForWhatItStands, slot_shown}
use Rattle.blitter.specs.declared.Blit.{Blit}
use Rattle.cpu_bus.specs.Bus.{IsProcessorOf}
use Rattle.cpu_bus.specs.declared.BusCpu.{BusCpu}
use Rattle.irq_cia.specs.Cia.{after_tick, after_tod_pulse, after_read, byte_at}
use Rattle.irq_cia.specs.Interrupts.{Interrupts, after_request, after_ena_write, after_req_write}
use Rattle.irq_cia.specs.declared.cia.CiaState.{CiaState}
use Rattle.ocs_base.specs.declared.addr.Addr.{Addr}
use Rattle.ocs_base.specs.declared.beam.Beam.{Beam}
use Rattle.serial_model.specs.declared.bus.Ask.TheVariants as Ask
use Rattle.serial_model.specs.declared.processor.CiaName.{CiaName}
use Rattle.serial_model.specs.declared.processor.CiaName.TheVariants.{A, B}
use Rattle.serial_model.specs.declared.processor.CiaRegister.{CiaRegister}
use Rattle.serial_model.specs.declared.processor.Turn.{Turn}
use Rattle.serial_model.specs.declared.processor.Turn.TheVariants.{Cia}
use Rattle.serial_model.specs.declared.registers.Inputs.{Inputs}
use Rattle.serial_model.specs.Bus.{blit_owner_ask}
use Rattle.serial_model.specs.Cias.{pins_at, cia_of, with_cia, word_with, answer_of_cia, access_cia, tick_timers}
use Rattle.serial_model.specs.Processor.{Processor, turn_of}
use Rattle.serial_model.specs.Registers.{blitter_dma}
use Rattle.serial_model.specs.State.{BlitUnderWay, Chips, read_word, zero_of}
use Rattle.serial_model.specs.Turns.{take_turn, begins_by, go_on_with, begins_with, run_chips, interrupt_of}
use Rattle.serial_model.specs.Beam.{is_line_start, is_field_start}
use Rattle.serial_model.specs.Tick.{start_field, start_line, if_field_starts, start_chips}
use Rattle.serial_model.specs.Write.{write_interrupts, restart_copper}
use Rattle.chip_set.specs.Bus.{KeepsCias}
use Rattle.chip_set.specs.Chips.{WorkingChips, IsBlitOf, IsChipsOf, kept_wish}
use Rattle.chip_set.proofs.BusLaws.{asked_of}
use Rattle.chip_set.proofs.TurnLaws.{untouched}

other_than : (n m : ℕ) → (n ≡ m → ⊥) → (n == m) ≡ false
other_than n m other = grind (arith, nat_tests, other)

seen : (inside old : WorkingChips) (c : Chips) → inside ≡ old → IsChipsOf old c → IsChipsOf inside c
seen inside old c same is = subst (λ (now : WorkingChips). IsChipsOf now c) (sym same) is

-- the words of the interrupts, the processor and the CIAs
with_irq : (now : WorkingChips) (c : Chips) (irq other : Interrupts) → other ≡ irq → IsChipsOf now c
    → IsChipsOf (record now { irq = irq }) (record c { irq = other })
with_irq now c irq other alike is = record {
  registers = is.registers;
  last = is.last;
  kinds = is.kinds;
  copper = is.copper;
  blit = is.blit;
  zero = is.zero;
  irq = alike;
  processor = is.processor;
  missed = is.missed;
  cia_a = is.cia_a;
  cia_b = is.cia_b;
  inputs = is.inputs;
}

with_cias : (now : WorkingChips) (c : Chips) (a other_a b other_b : CiaState) → other_a ≡ a → other_b ≡ b → IsChipsOf now c
    → IsChipsOf (record now { cia_a = a; cia_b = b }) (record c { cia_a = other_a; cia_b = other_b })
with_cias now c a other_a b other_b alike_a alike_b is = record {
  registers = is.registers;
  last = is.last;
  kinds = is.kinds;
  copper = is.copper;
  blit = is.blit;
  zero = is.zero;
  irq = is.irq;
  processor = is.processor;
  missed = is.missed;
  cia_a = alike_a;
  cia_b = alike_b;
  inputs = is.inputs;
}

-- ---- a write to INTENA or INTREQ

pub ena_written : (offset word : ℕ) (inside old : WorkingChips) (irq : Interrupts) (c : Chips) → inside ≡ old → offset ≡ 0x9a
    → irq ≡ after_ena_write word inside.irq → IsChipsOf old c → IsChipsOf (record inside { irq = irq }) (write_interrupts offset word c)
ena_written offset word inside old irq c same ena writes is =
    let here : IsChipsOf inside c = seen inside old c same is in
    with_irq inside c irq (if offset == 0x9a then after_ena_write word c.irq else after_req_write word c.irq)
    (ap (λ (n : ℕ). if n == 0x9a then after_ena_write word c.irq else after_req_write word c.irq) ena
    ∙ ap (λ (i : Interrupts). after_ena_write word i) here.irq ∙ sym writes)
    here

pub req_written : (offset word : ℕ) (inside old : WorkingChips) (irq : Interrupts) (c : Chips) → inside ≡ old → (offset ≡ 0x9a → ⊥)
    → irq ≡ after_req_write word inside.irq → IsChipsOf old c → IsChipsOf (record inside { irq = irq }) (write_interrupts offset word c)
req_written offset word inside old irq c same other writes is =
    let here : IsChipsOf inside c = seen inside old c same is in
    with_irq inside c irq (if offset == 0x9a then after_ena_write word c.irq else after_req_write word c.irq)
    (ap (λ (ena : Bool). if ena then after_ena_write word c.irq else after_req_write word c.irq) (other_than offset 0x9a other)
    ∙ ap (λ (i : Interrupts). after_req_write word i) here.irq ∙ sym writes)
    here

-- ---- a read of a register

pub clx_word : (offset : ℕ) (b : Beam) (clx : ℕ) (c : Chips) → offset ≡ 0x0e → clx ≡ read_word offset b clx c
unfolding read_word
clx_word offset b clx c is = subst (λ (n : ℕ). clx ≡ read_word n b clx c) (sym is) refl

pub ena_word : (offset : ℕ) (b : Beam) (clx word : ℕ) (inside old : WorkingChips) (c : Chips) → inside ≡ old → offset ≡ 0x1c
    → word ≡ inside.irq.ena → IsChipsOf old c → word ≡ read_word offset b clx c
unfolding read_word
ena_word offset b clx word inside old c same at reads is =
    subst (λ (n : ℕ). word ≡ read_word n b clx c) (sym at)
    (reads ∙ ap (λ (i : Interrupts). i.ena) (sym (seen inside old c same is).irq))

pub req_word : (offset : ℕ) (b : Beam) (clx word : ℕ) (inside old : WorkingChips) (c : Chips) → inside ≡ old → offset ≡ 0x1e
    → word ≡ inside.irq.req → IsChipsOf old c → word ≡ read_word offset b clx c
unfolding read_word
req_word offset b clx word inside old c same at reads is =
    subst (λ (n : ℕ). word ≡ read_word n b clx c) (sym at)
    (reads ∙ ap (λ (i : Interrupts). i.req) (sym (seen inside old c same is).irq))

-- ---- the timers

pub both_ticked : (t : ℕ) (inside old : WorkingChips) (a b : CiaState) (c : Chips) → inside ≡ old → t % 5 ≡ 0 → a ≡ after_tick inside.cia_a
    → b ≡ after_tick inside.cia_b → IsChipsOf old c → IsChipsOf (record inside { cia_a = a; cia_b = b }) (tick_timers t c)
both_ticked t inside old a b c same at ticks_a ticks_b is =
    let here : IsChipsOf inside c = seen inside old c same is in
    let on : (t % 5 == 0) ≡ true = ap (λ (n : ℕ). n == 0) at in
    with_cias inside c a (if t % 5 == 0 then after_tick c.cia_a else c.cia_a) b (if t % 5 == 0 then after_tick c.cia_b else c.cia_b)
    (ap (λ (on : Bool). if on then after_tick c.cia_a else c.cia_a) on ∙ ap (λ (cia : CiaState). after_tick cia) here.cia_a ∙ sym ticks_a)
    (ap (λ (on : Bool). if on then after_tick c.cia_b else c.cia_b) on ∙ ap (λ (cia : CiaState). after_tick cia) here.cia_b ∙ sym ticks_b)
    here

pub none_ticked : (t : ℕ) (now : WorkingChips) (c : Chips) → (t % 5 ≡ 0 → ⊥) → IsChipsOf now c → IsChipsOf now (tick_timers t c)
none_ticked t now c other is = subst (λ (x : Chips). IsChipsOf now x) (sym (untouched t now c is (inl (other_than (t % 5) 0 other)))) is

-- ---- the first clock of a field and of a line

pub field_started : (inside restarted mid : WorkingChips) (irq : Interrupts) (cia_a : CiaState) (c : Chips) → inside ≡ restarted
    → irq ≡ after_request 0x20 inside.irq → cia_a ≡ after_tod_pulse inside.cia_a → mid ≡ record inside { irq = irq; cia_a = cia_a }
    → IsChipsOf restarted (restart_copper 1 c) → IsChipsOf mid (start_field c)
field_started inside restarted mid irq cia_a c same requests counts mid_is is =
    let here : IsChipsOf inside (restart_copper 1 c) = seen inside restarted (restart_copper 1 c) same is in
    let requested : IsChipsOf (record inside { irq = irq }) (record (restart_copper 1 c) { irq = after_request 0x20 c.irq }) =
    with_irq inside (restart_copper 1 c) irq (after_request 0x20 c.irq)
    (ap (λ (i : Interrupts). after_request 0x20 i) here.irq ∙ sym requests) here in
    subst (λ (now : WorkingChips). IsChipsOf now (start_field c)) (sym mid_is)
    (with_cias (record inside { irq = irq }) (record (restart_copper 1 c) { irq = after_request 0x20 c.irq }) cia_a (after_tod_pulse c.cia_a)
    inside.cia_b c.cia_b (ap (λ (k : CiaState). after_tod_pulse k) here.cia_a ∙ sym counts) here.cia_b requested)

pub line_started : (b : Beam) (line field : Bool) (inside mid : WorkingChips) (cia_b : CiaState) (c : Chips) → inside ≡ mid
    → line ≡ is_line_start b → line ≡ true → field ≡ is_field_start b → cia_b ≡ after_tod_pulse inside.cia_b
    → IsChipsOf mid (if field then start_field c else c) → IsChipsOf (record inside { cia_b = cia_b }) (start_chips b c)
line_started b line field inside mid cia_b c same line_is begins field_is counts is =
    let begun : Chips = if field then start_field c else c in
    let here : IsChipsOf inside begun = seen inside mid begun same is in
    let started : IsChipsOf (record inside { cia_b = cia_b }) (start_line begun) =
    with_cias inside begun inside.cia_a begun.cia_a cia_b (after_tod_pulse begun.cia_b) here.cia_a
    (ap (λ (k : CiaState). after_tod_pulse k) here.cia_b ∙ sym counts) here in
    subst (λ (on : Bool). IsChipsOf (record inside { cia_b = cia_b }) (if on then start_line (if_field_starts b c) else if_field_starts b c))
    (sym begins ∙ line_is)
    (subst (λ (on : Bool). IsChipsOf (record inside { cia_b = cia_b }) (start_line (if on then start_field c else c))) field_is started)

neither : (b : Bool) → (b && false) ≡ false
neither true = refl
neither false = refl

pub nothing_starts : (b : Beam) (line : Bool) (now : WorkingChips) (c : Chips) → line ≡ is_line_start b → line ≡ false → IsChipsOf now c
    → IsChipsOf now (start_chips b c)
nothing_starts b line now c line_is not is =
    let no_line : (b.h == 0) ≡ false = sym line_is ∙ not in
    let no_field : is_field_start b ≡ false = ap (λ (on : Bool). (b.v == 0) && on) no_line ∙ neither (b.v == 0) in
    subst (λ (on : Bool). IsChipsOf now (if on then start_line (if_field_starts b c) else if_field_starts b c)) (sym no_line)
    (subst (λ (on : Bool). IsChipsOf now (if on then start_field c else c)) (sym no_field) is)

-- ---- a read of a register of a CIA

pub a_was_read : (name : CiaName) (number : ℕ) (inside old : WorkingChips) (cia : CiaState) (c : Chips) → inside ≡ old → name ≡ A
    → cia ≡ after_read number inside.cia_a → IsChipsOf old c
    → IsChipsOf (record inside { cia_a = cia }) (with_cia name (after_read number (cia_of name c)) c)
a_was_read name number inside old cia c same is_a reads is =
    let here : IsChipsOf inside c = seen inside old c same is in
    subst (λ (name : CiaName). IsChipsOf (record inside { cia_a = cia }) (with_cia name (after_read number (cia_of name c)) c)) (sym is_a)
    (with_cias inside c cia (after_read number c.cia_a) inside.cia_b c.cia_b
    (ap (λ (k : CiaState). after_read number k) here.cia_a ∙ sym reads) here.cia_b here)

pub b_was_read : (name : CiaName) (number : ℕ) (inside old : WorkingChips) (cia : CiaState) (c : Chips) → inside ≡ old → name ≡ B
    → cia ≡ after_read number inside.cia_b → IsChipsOf old c
    → IsChipsOf (record inside { cia_b = cia }) (with_cia name (after_read number (cia_of name c)) c)
b_was_read name number inside old cia c same is_b reads is =
    let here : IsChipsOf inside c = seen inside old c same is in
    subst (λ (name : CiaName). IsChipsOf (record inside { cia_b = cia }) (with_cia name (after_read number (cia_of name c)) c)) (sym is_b)
    (with_cias inside c inside.cia_a c.cia_a cia (after_read number c.cia_b) here.cia_a
    (ap (λ (k : CiaState). after_read number k) here.cia_b ∙ sym reads) here)

-- its byte: the pins are those of the joysticks, as they are in both
pub a_byte : (name : CiaName) (number pins byte : ℕ) (inside old : WorkingChips) (c : Chips) → inside ≡ old → name ≡ A
    → pins ≡ pins_at name number inside.inputs → byte ≡ byte_at number pins inside.cia_a → IsChipsOf old c
    → byte ≡ word_with name (byte_at number (pins_at name number c.inputs) (cia_of name c))
a_byte name number pins byte inside old c same is_a pinned reads is =
    let here : IsChipsOf inside c = seen inside old c same is in
    let pins_are : pins ≡ pins_at name number c.inputs = pinned ∙ ap (λ (i : Inputs). pins_at name number i) (sym here.inputs) in
    reads
    ∙ ap (λ (p : ℕ). byte_at number p inside.cia_a) pins_are
    ∙ ap (λ (k : CiaState). byte_at number (pins_at name number c.inputs) k) (sym here.cia_a)
    ∙ ap (λ (n : CiaName). word_with n (byte_at number (pins_at name number c.inputs) (cia_of n c))) (sym is_a)

pub b_byte : (name : CiaName) (number pins byte : ℕ) (inside old : WorkingChips) (c : Chips) → inside ≡ old → name ≡ B
    → pins ≡ pins_at name number inside.inputs → byte ≡ byte_at number pins inside.cia_b → IsChipsOf old c
    → 256 * byte ≡ word_with name (byte_at number (pins_at name number c.inputs) (cia_of name c))
b_byte name number pins byte inside old c same is_b pinned reads is =
    let here : IsChipsOf inside c = seen inside old c same is in
    let pins_are : pins ≡ pins_at name number c.inputs = pinned ∙ ap (λ (i : Inputs). pins_at name number i) (sym here.inputs) in
    ap (λ (n : ℕ). 256 * n)
    (reads
    ∙ ap (λ (p : ℕ). byte_at number p inside.cia_b) pins_are
    ∙ ap (λ (k : CiaState). byte_at number (pins_at name number c.inputs) k) (sym here.cia_b))
    ∙ ap (λ (n : CiaName). word_with n (byte_at number (pins_at name number c.inputs) (cia_of n c))) (sym is_b)

-- ---- the processor's turn

pub turn_is : (turn is : Turn) (inside old : WorkingChips) (c : Chips) → inside ≡ old
    → ((p : Processor) → IsProcessorOf inside.processor p → turn ≡ turn_of p) → turn ≡ is → IsChipsOf old c → turn_of c.processor ≡ is
turn_is turn is inside old c same turns named stands = sym (turns c.processor (seen inside old c same stands).processor) ∙ named

pub ran_by : (turn : Turn) (new : WorkingChips) (c : Chips) → turn_of c.processor ≡ turn → IsChipsOf new (take_turn turn c)
    → IsChipsOf new (run_chips c)
unfolding run_chips
ran_by turn new c is ran = subst (λ (t : Turn). IsChipsOf new (take_turn t c)) (sym is) ran

pub begun_by : (turn : Turn) (level : Option ℕ) (c : Chips) → turn_of c.processor ≡ turn → level ≡ begins_by turn c → level ≡ interrupt_of c
unfolding interrupt_of
begun_by turn level c is begins = begins ∙ ap (λ (t : Turn). begins_by t c) (sym is)

pub has_waited : (spent : ℕ) (inside old : WorkingChips) (processor : BusCpu) (c : Chips) → inside ≡ old
    → ((p : Processor) → IsProcessorOf inside.processor p → IsProcessorOf processor (record p { spent = spent })) → IsChipsOf old c
    → IsChipsOf (record inside { processor = processor }) (record c { processor = record c.processor { spent = spent } })
has_waited spent inside old processor c same waits is =
    let here : IsChipsOf inside c = seen inside old c same is in
    record {
      registers = here.registers;
      last = here.last;
      kinds = here.kinds;
      copper = here.copper;
      blit = here.blit;
      zero = here.zero;
      irq = here.irq;
      processor = waits c.processor here.processor;
      missed = here.missed;
      cia_a = here.cia_a;
      cia_b = here.cia_b;
      inputs = here.inputs;
    }

pub goes_by_cia : (word : ℕ) (name : CiaName) (reg : CiaRegister) (byte : Option ℕ) (new : WorkingChips) (c : Chips) → word ≡ answer_of_cia name reg byte c
    → turn_of c.processor ≡ Cia name reg byte → IsChipsOf new (go_on_with word (access_cia name reg byte c)) → IsChipsOf new (run_chips c)
goes_by_cia word name reg byte new c answers is goes =
    ran_by (Cia name reg byte) new c is (subst (λ (w : ℕ). IsChipsOf new (go_on_with w (access_cia name reg byte c))) answers goes)

begins_alike : (word : ℕ) (name : CiaName) (reg : CiaRegister) (byte : Option ℕ) (c : Chips)
    → begins_with word (access_cia name reg byte c) ≡ begins_with word c
begins_alike word A reg None c = refl
begins_alike word A reg (Some byte) c = refl
begins_alike word B reg None c = refl
begins_alike word B reg (Some byte) c = refl

pub begins_by_cia : (word : ℕ) (name : CiaName) (reg : CiaRegister) (byte : Option ℕ) (level : Option ℕ) (c : Chips) → word ≡ answer_of_cia name reg byte c
    → turn_of c.processor ≡ Cia name reg byte → level ≡ begins_with word (access_cia name reg byte c) → level ≡ interrupt_of c
begins_by_cia word name reg byte level c answers is begins =
    begun_by (Cia name reg byte) level c is
    (begins ∙ begins_alike word name reg byte c ∙ ap (λ (w : ℕ). begins_with w c) answers)

-- what stays, where the processor alone has changed, and where the CIAs have before
pub all_but_cias : (old new : WorkingChips) → new ≡ record old { processor = new.processor }
    → new ≡ record old { processor = new.processor; cia_a = new.cia_a; cia_b = new.cia_b }
all_but_cias old new kept =
    subst (λ (w : WorkingChips). w ≡ record old { processor = w.processor; cia_a = w.cia_a; cia_b = w.cia_b }) (sym kept) refl

pub cias_stay : (old new : WorkingChips) → new ≡ record old { processor = new.processor } → KeepsCias old new
cias_stay old new kept = record {
  irq = ap (λ (w : WorkingChips). w.irq) kept;
  cia_a = ap (λ (w : WorkingChips). w.cia_a) kept;
  cia_b = ap (λ (w : WorkingChips). w.cia_b) kept;
}

pub all_but_both : (old mid new : WorkingChips) → mid ≡ record old { cia_a = mid.cia_a; cia_b = mid.cia_b } → new ≡ record mid { processor = new.processor }
    → new ≡ record old { processor = new.processor; cia_a = new.cia_a; cia_b = new.cia_b }
all_but_both old mid new before kept =
    all_but_cias mid new kept ∙ ap (λ (w : WorkingChips). record w { processor = new.processor; cia_a = new.cia_a; cia_b = new.cia_b }) before

-- ---- what a blit asks for, where it asks

pub wish_is : (inside old : WorkingChips) (blit : Blit) → inside ≡ old → is_some (kept_wish old) ≡ true → inside.blit ≡ Some blit
    → kept_wish old ≡ Some (slot_shown blit)
wish_is inside old blit same asks kept =
    asked_of old asks
    ∙ ap (λ (now : WorkingChips). option_map slot_shown now.blit) (sym same)
    ∙ ap (λ (b : Option Blit). option_map slot_shown b) kept

pub read_asked : (at : Option Addr) (inside old : WorkingChips) (blit : Blit) → inside ≡ old → is_some (kept_wish old) ≡ true
    → inside.blit ≡ Some blit → IfSome at (λ at. slot_shown blit ≡ Read at)
    → IfSome at (λ at. blit_owner_ask (kept_wish old) ≡ Ask.Blit (Read at))
read_asked None inside old blit same asks kept reads = tt
read_asked (Some at) inside old blit same asks kept reads =
    ap (λ (wish : Option SlotAsk). blit_owner_ask wish) (wish_is inside old blit same asks kept ∙ ap (λ (ask : SlotAsk). Some ask) reads)

pub write_asked : (write : Option (Addr × ℕ)) (inside old : WorkingChips) (blit : Blit) → inside ≡ old → is_some (kept_wish old) ≡ true
    → inside.blit ≡ Some blit → IfSome write (λ write. slot_shown blit ≡ Write write.0 write.1)
    → IfSome write (λ write. blit_owner_ask (kept_wish old) ≡ Ask.Blit (Write write.0 write.1))
write_asked None inside old blit same asks kept writes = tt
write_asked (Some write) inside old blit same asks kept writes =
    ap (λ (wish : Option SlotAsk). blit_owner_ask wish) (wish_is inside old blit same asks kept ∙ ap (λ (ask : SlotAsk). Some ask) writes)

-- ---- BZERO, of a blit and without one

zero_by_run : (blit : Blit) (zero kept : Bool) (run : Option BlitUnderWay) → IsBlitOf (Some blit) run
    → ForWhatItStands blit (λ s ws. zero ≡ blit_zero s ws) → zero ≡ zero_of run kept
zero_by_run blit zero kept None stands zeros = absurd stands
zero_by_run blit zero kept (Some run) stands zeros = zeros run.start run.answers stands

pub zero_of_blit : (inside old : WorkingChips) (blit : Blit) (zero : Bool) (c : Chips) → inside ≡ old → inside.blit ≡ Some blit
    → ForWhatItStands blit (λ s ws. zero ≡ blit_zero s ws) → IsChipsOf old c → zero ≡ zero_of c.blit c.zero
zero_of_blit inside old blit zero c same kept zeros is =
    zero_by_run blit zero c.zero c.blit (subst (λ (k : Option Blit). IsBlitOf k c.blit) kept (seen inside old c same is).blit) zeros

zero_by_none : (zero : Bool) (run : Option BlitUnderWay) → IsBlitOf None run → zero ≡ zero_of run zero
zero_by_none zero None stands = refl
zero_by_none zero (Some run) stands = absurd stands

pub zero_as_left : (inside old : WorkingChips) (c : Chips) → inside ≡ old → inside.blit ≡ None → IsChipsOf old c
    → inside.zero ≡ zero_of c.blit c.zero
zero_as_left inside old c same kept is =
    let here : IsChipsOf inside c = seen inside old c same is in
    sym here.zero ∙ zero_by_none c.zero c.blit (subst (λ (k : Option Blit). IsBlitOf k c.blit) kept here.blit)

no_wish : (dma : Bool) → Ask.Free ≡ blit_owner_ask (if dma then option_map slot_shown None else None)
no_wish true = refl
no_wish false = refl

pub none_asks : (inside old : WorkingChips) → inside ≡ old → inside.blit ≡ None → Ask.Free ≡ blit_owner_ask (kept_wish old)
none_asks inside old same none =
    subst (λ (b : Option Blit). Ask.Free ≡ blit_owner_ask (if blitter_dma old.registers then option_map slot_shown b else None))
    (sym none ∙ ap (λ (now : WorkingChips). now.blit) same) (no_wish (blitter_dma old.registers))
