-- The access of a blit, and the processor's turn behind it.
use Rattle.std.proofs.Common.{◌≡◌, ℕ, Bool, true, false, if◌then◌else◌, [], ◌∷◌, ◌++◌, Option, Some, None, is_some}
use Rattle.std.proofs.Common.{refl, ap, subst, sym, ◌∙◌}
use Rattle.std.proofs.lemmas.Option.{none-some}
use Rattle.blit_words.specs.Blitter.{is_done}
use Rattle.blit_words.specs.declared.blit.SlotAsk.{SlotAsk}
use Rattle.blit_words.specs.declared.blit.SlotAsk.TheVariants.{Read, Write, Rest, Done}
use Rattle.mem_versions.specs.Chip.{ChipValue, after_reads, word_at}
use Rattle.ocs_base.specs.declared.addr.Addr.{Addr}
use Rattle.out_files.specs.OutFiles.{OutFilesValue}
use Rattle.serial_model.specs.declared.bus.Ask.{Ask}
use Rattle.serial_model.specs.declared.bus.Ask.TheVariants as A
use Rattle.serial_model.specs.declared.bus.Half.TheVariants.{Both}
use Rattle.serial_model.specs.declared.bus.Made.{Made}
use Rattle.serial_model.specs.declared.bus.Made.TheVariants as M
use Rattle.serial_model.specs.declared.bus.ProcessorAsk.{ProcessorAsk}
use Rattle.serial_model.specs.Bus.{ask_of_blit, blit_owner_ask, end_blit, give_blit, missed_after}
use Rattle.serial_model.specs.Processor.{Processor}
use Rattle.serial_model.specs.State.{BlitUnderWay, Chips}
use Rattle.cpu_bus.specs.declared.BusCpu.{BusCpu}
use Rattle.cpu_bus.specs.Beside.{turn_beside_of}
use Rattle.cpu_bus.specs.Bus.{IsProcessorOf, wish_shown}
use Rattle.chip_set.specs.Beside.{missing}
use Rattle.chip_set.specs.Bus.{LeavesToPlanes, KeepsOnBus}
use Rattle.chip_set.specs.Chips.{WorkingChips, IsChipsOf, IsGoing, GivesBlit, kept_wish}
use Rattle.chip_set.proofs.BlitLaws.{going_by, read_is_none, write_is_none}
use Rattle.chip_set.proofs.BusLaws.{bus_answered}
use Rattle.machine.specs.Machine.{MachineValue}
use Rattle.machine.specs.MachineSteps.{chip_after}
use Rattle.machine.specs.Ahead.{IsAccessAtOnce}
use Rattle.machine.proofs.AccessLaws.{MakesAccess-by, StoresMade-by, reads_done}
use Rattle.machine.proofs.AheadLaws.{counted_by}
use Rattle.out_files.proofs.GivesLaws.{gives_nothing}

-- ---- what the blitter asks for

abbrev asked_blit : Ask → Option SlotAsk
asked_blit A.Free = None
asked_blit (A.Side ask) = None
asked_blit (A.Plane ask) = None
asked_blit (A.Sprite ask) = None
asked_blit (A.Copper at) = None
asked_blit (A.Blit ask) = Some ask
asked_blit (A.Processor ask) = None

wish_of : (wish : Option SlotAsk) (ask : SlotAsk) → blit_owner_ask wish ≡ A.Blit ask → wish ≡ Some ask
wish_of None ask is = ap asked_blit is
wish_of (Some (Read at)) ask is = ap asked_blit is
wish_of (Some (Write at word)) ask is = ap asked_blit is
wish_of (Some Rest) ask is = ap asked_blit is
wish_of (Some Done) ask is = absurd (none-some ask (ap asked_blit is))

pub goes_to_read : (at : Addr) (now : WorkingChips) → blit_owner_ask (kept_wish now) ≡ A.Blit (Read at) → IsGoing now.blit
goes_to_read at now is = going_by _ now.blit (Read at) (wish_of (kept_wish now) (Read at) is) (read_is_none at)

pub goes_to_write : (at : Addr) (word : ℕ) (now : WorkingChips) → blit_owner_ask (kept_wish now) ≡ A.Blit (Write at word) → IsGoing now.blit
goes_to_write at word now is = going_by _ now.blit (Write at word) (wish_of (kept_wish now) (Write at word) is) (write_is_none at word)

-- ---- its answer, and the clocks that the processor misses

-- it leaves the processor as it is
processor_by : (done : Bool) (run : BlitUnderWay) (c : Chips) → (if done then end_blit run c else record c { blit = Some run }).processor ≡ c.processor
processor_by true run c = refl
processor_by false run c = refl

processor_left : (word : ℕ) (run : Option BlitUnderWay) (c : Chips) → (give_blit word run c).processor ≡ c.processor
processor_left word None c = refl
processor_left word (Some run) c =
    let next : BlitUnderWay = record run { answers = run.answers ++ word ∷ [] } in processor_by (is_done (ask_of_blit next)) next c

-- and what is counted beside it
counted_before : (done : Bool) (run : BlitUnderWay) (n : ℕ) (c : Chips)
    → (if done then end_blit run (record c { missed = n }) else record c { blit = Some run; missed = n })
    ≡ record (if done then end_blit run c else record c { blit = Some run }) { missed = n }
counted_before true run n c = refl
counted_before false run n c = refl

counted_beside : (word n : ℕ) (run : Option BlitUnderWay) (c : Chips)
    → give_blit word run (record c { missed = n }) ≡ record (give_blit word run c) { missed = n }
counted_beside word n None c = refl
counted_beside word n (Some run) c =
    let next : BlitUnderWay = record run { answers = run.answers ++ word ∷ [] } in counted_before (is_done (ask_of_blit next)) next n c

missed_by : (done : Bool) (run : BlitUnderWay) (c : Chips) → (if done then end_blit run c else record c { blit = Some run }).missed ≡ c.missed
missed_by true run c = refl
missed_by false run c = refl

missed_left : (word : ℕ) (run : Option BlitUnderWay) (c : Chips) → (give_blit word run c).missed ≡ c.missed
missed_left word None c = refl
missed_left word (Some run) c =
    let next : BlitUnderWay = record run { answers = run.answers ++ word ∷ [] } in missed_by (is_done (ask_of_blit next)) next c

-- what stands for the same processor is the same to a clock
wish_alike : (old new : BusCpu) (p : Processor) → IsProcessorOf old p → IsProcessorOf new p → wish_shown old ≡ wish_shown new
wish_alike old new p one two =
    let on : old.on ≡ new.on = sym one.on ∙ two.on in
    let spent : old.spent ≡ new.spent = sym one.spent ∙ two.spent in
    let wait : old.wait ≡ new.wait = sym one.wait ∙ two.wait in
    ap (λ on. wish_shown (record old { on = on })) on
    ∙ ap (λ spent. wish_shown (record old { on = new.on; spent = spent })) spent
    ∙ ap (λ wait. wish_shown (record old { on = new.on; spent = new.spent; wait = wait })) wait

turn_alike : (old new : BusCpu) (p : Processor) → IsProcessorOf old p → IsProcessorOf new p → turn_beside_of old ≡ turn_beside_of new
turn_alike old new p one two =
    let on : old.on ≡ new.on = sym one.on ∙ two.on in
    let spent : old.spent ≡ new.spent = sym one.spent ∙ two.spent in
    let wait : old.wait ≡ new.wait = sym one.wait ∙ two.wait in
    let given : old.given ≡ new.given = sym one.given ∙ two.given in
    ap (λ on. turn_beside_of (record old { on = on })) on
    ∙ ap (λ spent. turn_beside_of (record old { on = new.on; spent = spent })) spent
    ∙ ap (λ wait. turn_beside_of (record old { on = new.on; spent = new.spent; wait = wait })) wait
    ∙ ap (λ (given : Option ℕ). turn_beside_of (record old { on = new.on; spent = new.spent; wait = new.wait; given = given })) given

processor_stands : (word : ℕ) (old mid : WorkingChips) → GivesBlit word old mid → (c : Chips) → IsChipsOf old c
    → IsProcessorOf mid.processor c.processor
processor_stands word old mid gives c is =
    subst (λ (p : Processor). IsProcessorOf mid.processor p) (processor_left word c.blit c) (gives c is).processor

-- the processor's turn behind it is the one before it
pub turn_behind : (word : ℕ) (old mid : WorkingChips) → GivesBlit word old mid → (c : Chips) → IsChipsOf old c
    → turn_beside_of mid.processor ≡ turn_beside_of old.processor
turn_behind word old mid gives c is =
    turn_alike mid.processor old.processor c.processor (processor_stands word old mid gives c is) is.processor

gives_counted : (ask : Ask) (word : ℕ) (old mid : WorkingChips) → GivesBlit word old mid → GivesBlit word (missing ask old) (missing ask mid)
gives_counted ask word old mid gives c is =
    let before : Chips = record c { missed = old.missed } in
    let stood : IsChipsOf old before = record {
      registers = is.registers;
      last = is.last;
      kinds = is.kinds;
      copper = is.copper;
      blit = is.blit;
      zero = is.zero;
      irq = is.irq;
      processor = is.processor;
      missed = refl;
      cia_a = is.cia_a;
      cia_b = is.cia_b;
      inputs = is.inputs;
    } in
    let there : IsChipsOf mid (record (give_blit word c.blit c) { missed = old.missed }) =
    subst (λ (x : Chips). IsChipsOf mid x) (counted_beside word old.missed c.blit c) (gives before stood) in
    let wish : wish_shown old.processor ≡ wish_shown mid.processor =
    wish_alike old.processor mid.processor c.processor is.processor (processor_stands word old mid gives before stood) in
    record {
      registers = there.registers;
      last = there.last;
      kinds = there.kinds;
      copper = there.copper;
      blit = there.blit;
      zero = there.zero;
      irq = there.irq;
      processor = there.processor;
      missed = missed_left word c.blit c ∙ is.missed ∙ ap (λ (w : Option ProcessorAsk). missed_after w ask old.missed) wish
          ∙ ap (λ n. missed_after (wish_shown mid.processor) ask n) there.missed;
      cia_a = there.cia_a;
      cia_b = there.cia_b;
      inputs = there.inputs;
    }

-- ---- its access

blit_keeps : (ask : Ask) (old mid : WorkingChips) → (is_some mid.blit ≡ is_some old.blit → mid ≡ record old { blit = mid.blit })
    → is_some mid.blit ≡ is_some old.blit → KeepsOnBus old (missing ask mid)
blit_keeps ask old mid kept busy = (
  record {
    registers = ap (λ (w : WorkingChips). w.registers) (kept busy);
    last = ap (λ (w : WorkingChips). w.last) (kept busy);
    kinds = ap (λ (w : WorkingChips). w.kinds) (kept busy);
    copper = ap (λ (w : WorkingChips). w.copper) (kept busy);
    busy = busy;
  },
  record {
    irq = ap (λ (w : WorkingChips). w.irq) (kept busy);
    cia_a = ap (λ (w : WorkingChips). w.cia_a) (kept busy);
    cia_b = ap (λ (w : WorkingChips). w.cia_b) (kept busy);
  },
)

abbrev pub blit_read_and : WorkingChips → MachineValue → MachineValue
blit_read_and chips m = record m { chip = after_reads m.chip 1; chips = chips }

pub blit_reads : (at : Addr) (m : MachineValue) (chips : WorkingChips) (out : OutFilesValue) → LeavesToPlanes m.beam m.chips
    → GivesBlit (word_at m.chip at) m.chips chips → (is_some chips.blit ≡ is_some m.chips.blit → chips ≡ record m.chips { blit = chips.blit })
    → IsAccessAtOnce (A.Blit (Read at)) M.Nothing m out (blit_read_and (missing (A.Blit (Read at)) chips) m) out
blit_reads at m chips out leaves gives kept =
    let ask : Ask = A.Blit (Read at) in
    let word : ℕ = word_at m.chip at in
    let chip : ChipValue = after_reads m.chip 1 in
    record {
      does = tt;
      quiet = refl;
      access = MakesAccess-by ask 0 M.Nothing m (blit_read_and (missing ask chips) m) chip (missing ask chips) m.side out out refl refl
          (bus_answered m.beam 0 m.chip.words ask m.chips (missing ask chips) word M.Nothing leaves refl refl
          (gives_counted ask word m.chips chips gives) refl)
          (record { t = refl; beam = refl; chip = refl; chips = λ c is. is; side = refl; lines = λ c is. gives_nothing out });
      place = record { t = refl; beam = refl };
      stores = StoresMade-by m.t ask M.Nothing m.chip chip chip refl refl;
      reads = reads_done m.t ask M.Nothing m.chip chip chip refl refl;
      side = refl;
      keeps = blit_keeps ask m.chips chips kept;
    }

-- whatever word, memory and chips behind it are called
pub blit_read : (at : Addr) (m : MachineValue) (word : ℕ) (chip : ChipValue) (chips : WorkingChips) (out : OutFilesValue) → LeavesToPlanes m.beam m.chips
    → word ≡ word_at m.chip at → chip ≡ after_reads m.chip 1 → GivesBlit word m.chips chips
    → (is_some chips.blit ≡ is_some m.chips.blit → chips ≡ record m.chips { blit = chips.blit })
    → IsAccessAtOnce (A.Blit (Read at)) M.Nothing m out (record m { chip = chip; chips = missing (A.Blit (Read at)) chips }) out
blit_read at m word chip chips out leaves read count gives kept =
    let ask : Ask = A.Blit (Read at) in
    subst (λ (x : ChipValue). IsAccessAtOnce ask M.Nothing m out (record m { chip = x; chips = missing ask chips }) out) (sym count)
    (blit_reads at m chips out leaves (subst (λ w. GivesBlit w m.chips chips) read gives) kept)

abbrev pub blit_stored_and : Addr → ℕ → WorkingChips → MachineValue → MachineValue
blit_stored_and at word chips m = record m { chip = chip_after m.t (M.Stored at Both word) m.chip; chips = chips }

pub blit_writes : (at : Addr) (word : ℕ) (m : MachineValue) (chips : WorkingChips) (out : OutFilesValue) → LeavesToPlanes m.beam m.chips
    → GivesBlit 0 m.chips chips → (is_some chips.blit ≡ is_some m.chips.blit → chips ≡ record m.chips { blit = chips.blit })
    → IsAccessAtOnce (A.Blit (Write at word)) (M.Stored at Both word) m out (blit_stored_and at word (missing (A.Blit (Write at word)) chips) m) out
blit_writes at word m chips out leaves gives kept =
    let ask : Ask = A.Blit (Write at word) in
    let made : Made = M.Stored at Both word in
    let accessed : MachineValue = blit_stored_and at word (missing ask chips) m in
    record {
      does = tt;
      quiet = refl;
      access = MakesAccess-by ask 0 made m accessed m.chip (missing ask chips) m.side out out refl refl
          (bus_answered m.beam 0 m.chip.words ask m.chips (missing ask chips) 0 made leaves refl refl
          (gives_counted ask 0 m.chips chips gives) refl)
          (record { t = refl; beam = refl; chip = refl; chips = λ c is. is; side = refl; lines = λ c is. gives_nothing out });
      place = record { t = refl; beam = refl };
      stores = StoresMade-by m.t ask made m.chip m.chip accessed.chip refl refl;
      reads = reads_done m.t ask made m.chip m.chip accessed.chip refl refl;
      side = refl;
      keeps = blit_keeps ask m.chips chips kept;
    }

pub blit_write : (at : Addr) (word : ℕ) (m mid : MachineValue) (chips : WorkingChips) (out : OutFilesValue) → LeavesToPlanes m.beam m.chips
    → mid ≡ record m { chip = mid.chip; chips = chips } → mid.chip ≡ chip_after m.t (M.Stored at Both word) m.chip → GivesBlit 0 m.chips chips
    → (is_some chips.blit ≡ is_some m.chips.blit → chips ≡ record m.chips { blit = chips.blit })
    → IsAccessAtOnce (A.Blit (Write at word)) (M.Stored at Both word) m out (counted_by (A.Blit (Write at word)) mid) out
blit_write at word m mid chips out leaves same stores gives kept =
    let ask : Ask = A.Blit (Write at word) in
    let made : Made = M.Stored at Both word in
    subst (λ (x : MachineValue). IsAccessAtOnce ask made m out (counted_by ask x) out) (sym same)
    (subst (λ (x : ChipValue). IsAccessAtOnce ask made m out (record m { chip = x; chips = missing ask chips }) out) (sym stores)
    (blit_writes at word m chips out leaves gives kept))
