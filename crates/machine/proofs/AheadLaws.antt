-- The access of a clock and the processor's turn behind it, made at once, and clocks that everybody else leaves to the processor.
use Rattle.std.proofs.Common.{◌≡◌, ◌+◌, ℕ, min, Bool, true, false, ◌&&◌, if◌then◌else◌, List, [], Option, Some, None, is_some}
use Rattle.std.proofs.Common.{refl, ap, subst, sym, ◌∙◌}
use Rattle.irq_cia.specs.Interrupts.{level_of}
use Rattle.mem_versions.specs.Chip.{ChipValue, after_reads, word_at}
use Rattle.ocs_base.specs.declared.addr.Addr.{Addr}
use Rattle.ocs_base.specs.declared.beam.Beam.{Beam}
use Rattle.out_files.specs.OutFiles.{OutFilesValue}
use Rattle.serial_model.specs.declared.bus.Ask.{Ask}
use Rattle.serial_model.specs.declared.bus.Ask.TheVariants as A
use Rattle.serial_model.specs.declared.bus.Half.{Half}
use Rattle.serial_model.specs.declared.bus.Made.{Made}
use Rattle.serial_model.specs.declared.bus.Made.TheVariants as M
use Rattle.serial_model.specs.declared.bus.ProcessorAsk.{ProcessorAsk}
use Rattle.serial_model.specs.declared.bus.ProcessorAsk.TheVariants as P
use Rattle.serial_model.specs.declared.bus.SideAsk.{SideAsk}
use Rattle.serial_model.specs.declared.fetch.PlaneAsk.{PlaneAsk}
use Rattle.serial_model.specs.Bus.{ask_at, is_processor_ask, processor_ask}
use Rattle.serial_model.specs.Processor.{Processor}
use Rattle.serial_model.specs.Side.{IsInTime}
use Rattle.serial_model.specs.State.{Chips}
use Rattle.serial_model.specs.Turns.{run_chips, interrupt_of, taken_lines}
use Rattle.serial_model.specs.Beam.{later_beam}
use Rattle.cpu_bus.specs.declared.BusCpu.{BusCpu}
use Rattle.cpu_bus.specs.declared.TurnBeside.TheVariants as T
use Rattle.cpu_bus.specs.Beside.{turn_beside_of}
use Rattle.cpu_bus.specs.Bus.{IsProcessorOf, GoesOn, wish_shown}
use Rattle.chip_set.specs.Beside.{WaitsBeside, missing}
use Rattle.chip_set.specs.Chips.{WorkingChips, IsChipsOf, HasAsked, HasAccessed, CanAsk, IsBlitAsk, kept_wish, late_ask}
use Rattle.chip_set.specs.Bus.{LeavesToPlanes, KeepsOnBus}
use Rattle.chip_set.proofs.BusLaws.{HasAskedOnBus, asked_without_planes, bus_answered}
use Rattle.chip_set.proofs.TurnLaws.{rested}
use Rattle.chip_set.proofs.AheadLaws.{asked_alone, given, gone, read_answered, word_runs, word_begins}
use Rattle.chip_set.proofs.BesideLaws.{waits_wish}
use Rattle.machine.specs.Machine.{MachineValue}
use Rattle.machine.specs.MachineSteps.{AsksInTime, chip_after}
use Rattle.machine.specs.Ahead.{IsLeftToProcessor, IsAccessAtOnce, IsMadeAtOnce, IsUnseenAtOnce, IsClockAtOnce}
use Rattle.out_files.specs.Gives.{Gives}
use Rattle.machine.proofs.AccessLaws.{MakesAccess-by, StoresMade-by, reads_done}
use Rattle.machine.proofs.AskedLaws.{asks_alone}
use Rattle.machine.proofs.BusLaws.{with_chips}
use Rattle.out_files.proofs.GivesLaws.{gives_nothing}
use Rattle.machine.proofs.StepLaws.{Makes-processed}

-- ---- the turn of a processor that only waits

abbrev pub counted_by : Ask → MachineValue → MachineValue
counted_by ask m = with_chips (missing ask m.chips) m

-- what the turn leaves as it is
turn_keeps : (ask : Ask) (missed : ℕ) (old new : WorkingChips) → new ≡ record old { missed = missed; processor = new.processor }
    → KeepsOnBus (missing ask old) new
turn_keeps ask missed old new is = (
  record {
    registers = ap (λ (w : WorkingChips). w.registers) is;
    last = ap (λ (w : WorkingChips). w.last) is;
    kinds = ap (λ (w : WorkingChips). w.kinds) is;
    copper = ap (λ (w : WorkingChips). w.copper) is;
    busy = ap (λ (w : WorkingChips). is_some w.blit) is;
  },
  record {
    irq = ap (λ (w : WorkingChips). w.irq) is;
    cia_a = ap (λ (w : WorkingChips). w.cia_a) is;
    cia_b = ap (λ (w : WorkingChips). w.cia_b) is;
  },
)

-- behind the access of another, or of nobody
pub waits_behind : (ask : Ask) (made : Made) (old mid : MachineValue) (chips : WorkingChips) (out : OutFilesValue) → is_processor_ask ask ≡ false
    → WaitsBeside mid.chips chips → IsAccessAtOnce ask made old out (counted_by ask mid) out
    → IsMadeAtOnce ask made old out (with_chips chips mid) out
waits_behind ask made old mid chips out other waits access = record {
  accessed = counted_by ask mid;
  access = access;
  turns = Makes-processed (counted_by ask mid) (with_chips chips mid) out out None refl (waits.runs ask other) (waits.silent ask other)
      (gives_nothing out);
  same = refl;
  keeps = turn_keeps ask chips.missed mid.chips chips waits.kept;
}

-- the access, where that turn is still to come
pub left_behind : (ask : Ask) (made : Made) (old mid : MachineValue) (chips : WorkingChips) (out : OutFilesValue) → chips ≡ missing ask mid.chips
    → IsAccessAtOnce ask made old out (counted_by ask mid) out → IsAccessAtOnce ask made old out (with_chips chips mid) out
left_behind ask made old mid chips out is access =
    subst (λ (x : WorkingChips). IsAccessAtOnce ask made old out (with_chips x mid) out) (sym is) access

-- ---- nobody has the slot

nobody_accesses : (m : MachineValue) (out : OutFilesValue) → LeavesToPlanes m.beam m.chips
    → IsAccessAtOnce A.Free M.Nothing m out (counted_by A.Free m) out
nobody_accesses m out leaves = record {
  does = tt;
  quiet = refl;
  access = MakesAccess-by A.Free 0 M.Nothing m (counted_by A.Free m) m.chip (missing A.Free m.chips) m.side out out refl refl
      (bus_answered m.beam 0 m.chip.words A.Free m.chips (missing A.Free m.chips) 0 M.Nothing leaves refl refl refl refl)
      (record { t = refl; beam = refl; chip = refl; chips = λ c is. is; side = refl; lines = λ c is. gives_nothing out });
  place = record { t = refl; beam = refl };
  stores = StoresMade-by m.t A.Free M.Nothing m.chip m.chip m.chip refl refl;
  reads = refl;
  side = refl;
  keeps = λ busy. (
    record { registers = refl; last = refl; kinds = refl; copper = refl; busy = refl },
    record { irq = refl; cia_a = refl; cia_b = refl },
  );
}

pub nobody_then_waits : (m : MachineValue) (chips : WorkingChips) (out : OutFilesValue) → LeavesToPlanes m.beam m.chips → WaitsBeside m.chips chips
    → IsUnseenAtOnce A.Free m out (with_chips chips m) out
nobody_then_waits m chips out leaves waits = record {
  made = M.Nothing;
  unseen = refl;
  at = waits_behind A.Free M.Nothing m m chips out refl waits (nobody_accesses m out leaves);
  busy = ap (λ (w : WorkingChips). is_some w.blit) waits.kept;
}

-- one that only waits, and does not ask, leaves the slot to nobody
pub waits_alone : (spent : ℕ) (m : MachineValue) (chips : WorkingChips) (out : OutFilesValue) → LeavesToPlanes m.beam m.chips
    → turn_beside_of m.chips.processor ≡ T.Waits spent → WaitsBeside m.chips chips
    → IsUnseenAtOnce (processor_ask (wish_shown m.chips.processor)) m out (with_chips chips m) out
waits_alone spent m chips out leaves is waits =
    subst (λ (wish : Option ProcessorAsk). IsUnseenAtOnce (processor_ask wish) m out (with_chips chips m) out)
    (sym (waits_wish m.chips.processor spent is)) (nobody_then_waits m chips out leaves waits)

-- its idle clocks are over
pub idle_ends : (m : MachineValue) (begins : Option ℕ) (chips : WorkingChips) (out after : OutFilesValue) → LeavesToPlanes m.beam m.chips
    → ((c : Chips) → IsChipsOf (missing A.Free m.chips) c → IsChipsOf chips (run_chips c))
    → ((c : Chips) → IsChipsOf (missing A.Free m.chips) c → begins ≡ interrupt_of c)
    → chips ≡ record m.chips { missed = 0; processor = chips.processor } → Gives out after [] (taken_lines m.beam begins)
    → IsUnseenAtOnce A.Free m out (with_chips chips m) after
idle_ends m begins chips out after leaves runs interrupt kept lines = record {
  made = M.Nothing;
  unseen = refl;
  at = record {
    accessed = counted_by A.Free m;
    access = nobody_accesses m out leaves;
    turns = Makes-processed (counted_by A.Free m) (with_chips chips m) out after begins refl runs interrupt lines;
    same = refl;
    keeps = turn_keeps A.Free 0 m.chips chips kept;
  };
  busy = ap (λ (w : WorkingChips). is_some w.blit) kept;
}

-- ---- a plane has it

-- the turn of a processor that waits, and the count of the clocks that it misses, leave a blit
pub busy_beside : (waited : Bool) (old new : WorkingChips) → (waited ≡ true → WaitsBeside old new)
    → (waited ≡ false → (ask : Ask) → is_processor_ask ask ≡ false → new ≡ missing ask old) → is_some new.blit ≡ is_some old.blit
busy_beside true old new waits left = ap (λ (w : WorkingChips). is_some w.blit) (waits refl).kept
busy_beside false old new waits left = ap (λ (w : WorkingChips). is_some w.blit) (left refl A.Free refl)

pub plane_accesses : (ask : PlaneAsk) (m : MachineValue) (out : OutFilesValue) → LeavesToPlanes m.beam m.chips → CanAsk (A.Plane ask)
    → IsAccessAtOnce (A.Plane ask) (M.Plane ask.plane ask.at) m out (counted_by (A.Plane ask) m) out
plane_accesses ask m out leaves can =
    let made : Made = M.Plane ask.plane ask.at in
    let chips : WorkingChips = missing (A.Plane ask) m.chips in
    record {
      does = can;
      quiet = refl;
      access = MakesAccess-by (A.Plane ask) 0 made m (counted_by (A.Plane ask) m) m.chip chips m.side out out refl refl
          (bus_answered m.beam 0 m.chip.words (A.Plane ask) m.chips chips 0 made leaves refl tt refl refl)
          (record { t = refl; beam = refl; chip = refl; chips = λ c is. is; side = refl; lines = λ c is. gives_nothing out });
      place = record { t = refl; beam = refl };
      stores = StoresMade-by m.t (A.Plane ask) made m.chip m.chip m.chip refl refl;
      reads = refl;
      side = refl;
      keeps = λ busy. (
        record { registers = refl; last = refl; kinds = refl; copper = refl; busy = refl },
        record { irq = refl; cia_a = refl; cia_b = refl },
      );
    }

-- ---- the read of a word

abbrev pub read_and : WorkingChips → MachineValue → MachineValue
read_and chips m = record m { chip = after_reads m.chip 1; chips = chips }

read_accesses : (at : Addr) (m : MachineValue) (out : OutFilesValue) → LeavesToPlanes m.beam m.chips
    → IsAccessAtOnce (A.Processor (P.Read at)) M.Nothing m out (read_and (given (word_at m.chip at) m.chips) m) out
read_accesses at m out leaves =
    let ask : Ask = A.Processor (P.Read at) in
    let chip : ChipValue = after_reads m.chip 1 in
    let chips : WorkingChips = given (word_at m.chip at) m.chips in
    record {
      does = tt;
      quiet = refl;
      access = MakesAccess-by ask 0 M.Nothing m (read_and chips m) chip chips m.side out out refl refl
          (read_answered at m.beam 0 m.chip.words m.chips leaves)
          (record { t = refl; beam = refl; chip = refl; chips = λ c is. is; side = refl; lines = λ c is. gives_nothing out });
      place = record { t = refl; beam = refl };
      stores = StoresMade-by m.t ask M.Nothing m.chip chip chip refl refl;
      reads = reads_done m.t ask M.Nothing m.chip chip chip refl refl;
      side = refl;
      keeps = λ busy. (
        record { registers = refl; last = refl; kinds = refl; copper = refl; busy = refl },
        record { irq = refl; cia_a = refl; cia_b = refl },
      );
    }

read_goes : (at : Addr) (m : MachineValue) (begins : Option ℕ) (new : BusCpu) (out after : OutFilesValue) → LeavesToPlanes m.beam m.chips
    → wish_shown m.chips.processor ≡ Some (P.Read at)
    → ((p : Processor) → IsProcessorOf m.chips.processor p → GoesOn (word_at m.chip at) (level_of m.chips.irq) p begins new)
    → Gives out after [] (taken_lines m.beam begins)
    → IsUnseenAtOnce (A.Processor (P.Read at)) m out (read_and (gone new m.chips) m) after
read_goes at m begins new out after leaves asks goes lines =
    let word : ℕ = word_at m.chip at in
    let accessed : MachineValue = read_and (given word m.chips) m in
    record {
      made = M.Nothing;
      unseen = refl;
      at = record {
        accessed = accessed;
        access = read_accesses at m out leaves;
        turns = Makes-processed accessed (read_and (gone new m.chips) m) out after begins refl
            (λ c is. word_runs word begins (P.Read at) m.chips new c asks goes is)
            (λ c is. word_begins word begins (P.Read at) m.chips new c asks goes is) lines;
        same = refl;
        keeps = (
          record { registers = refl; last = refl; kinds = refl; copper = refl; busy = refl },
          record { irq = refl; cia_a = refl; cia_b = refl },
        );
      };
      busy = refl;
    }

pub read_made : (at : Addr) (m : MachineValue) (begins : Option ℕ) (word : ℕ) (chip : ChipValue) (chips : WorkingChips)
    (out after : OutFilesValue) → LeavesToPlanes m.beam m.chips → wish_shown m.chips.processor ≡ Some (P.Read at) → word ≡ word_at m.chip at
    → chip ≡ after_reads m.chip 1 → chips ≡ gone chips.processor m.chips
    → ((p : Processor) → IsProcessorOf m.chips.processor p → GoesOn word (level_of m.chips.irq) p begins chips.processor)
    → Gives out after [] (taken_lines m.beam begins)
    → IsUnseenAtOnce (A.Processor (P.Read at)) m out (record m { chip = chip; chips = chips }) after
read_made at m begins word chip chips out after leaves asks read count kept goes lines =
    subst (λ x. IsUnseenAtOnce (A.Processor (P.Read at)) m out (record m { chip = x; chips = chips }) after) (sym count)
    (subst (λ x. IsUnseenAtOnce (A.Processor (P.Read at)) m out (read_and x m) after) (sym kept)
    (read_goes at m begins chips.processor out after leaves asks
    (λ p is. subst (λ w. GoesOn w (level_of m.chips.irq) p begins chips.processor) read (goes p is)) lines))

-- ---- the write of a word, or of the byte of one half of it

if_same : (b : Bool) (n : ℕ) → (if b && false then n else 0) ≡ 0
if_same true n = refl
if_same false n = refl

write_answered : (at : Addr) (half : Half) (word : ℕ) (b : Beam) (clx : ℕ) (memory : List ℕ) (now : WorkingChips) → LeavesToPlanes b now
    → (side : SideAsk) (c : Chips) → IsInTime b side → HasAsked b c now → A.Processor (P.Write at half word) ≡ ask_at side b c
    → HasAccessed side b clx c memory (M.Stored at half word) (given 0 now)
write_answered at half word b clx memory now leaves =
    bus_answered b clx memory (A.Processor (P.Write at half word)) now (given 0 now) 0 (M.Stored at half word) leaves refl
    (λ c is. refl)
    (λ c is. record {
      registers = is.registers;
      last = is.last;
      kinds = is.kinds;
      copper = is.copper;
      blit = is.blit;
      zero = is.zero;
      irq = is.irq;
      processor = record {
        chip = is.processor.chip;
        on = is.processor.on;
        stands = is.processor.stands;
        wait = is.processor.wait;
        spent = is.processor.spent;
        given = refl;
      };
      missed = is.missed ∙ if_same (is_some (wish_shown now.processor)) (min 3 (now.missed + 1));
      cia_a = is.cia_a;
      cia_b = is.cia_b;
      inputs = is.inputs;
    }) refl

abbrev pub stored_and : Addr → Half → ℕ → WorkingChips → MachineValue → MachineValue
stored_and at half word chips m = record m { chip = chip_after m.t (M.Stored at half word) m.chip; chips = chips }

write_accesses : (at : Addr) (half : Half) (word : ℕ) (m : MachineValue) (out : OutFilesValue) → LeavesToPlanes m.beam m.chips
    → IsAccessAtOnce (A.Processor (P.Write at half word)) (M.Stored at half word) m out (stored_and at half word (given 0 m.chips) m) out
write_accesses at half word m out leaves =
    let ask : Ask = A.Processor (P.Write at half word) in
    let made : Made = M.Stored at half word in
    let accessed : MachineValue = stored_and at half word (given 0 m.chips) m in
    record {
      does = tt;
      quiet = refl;
      access = MakesAccess-by ask 0 made m accessed m.chip (given 0 m.chips) m.side out out refl refl
          (write_answered at half word m.beam 0 m.chip.words m.chips leaves)
          (record { t = refl; beam = refl; chip = refl; chips = λ c is. is; side = refl; lines = λ c is. gives_nothing out });
      place = record { t = refl; beam = refl };
      stores = StoresMade-by m.t ask made m.chip m.chip accessed.chip refl refl;
      reads = reads_done m.t ask made m.chip m.chip accessed.chip refl refl;
      side = refl;
      keeps = λ busy. (
        record { registers = refl; last = refl; kinds = refl; copper = refl; busy = refl },
        record { irq = refl; cia_a = refl; cia_b = refl },
      );
    }

write_goes : (at : Addr) (half : Half) (word : ℕ) (m : MachineValue) (begins : Option ℕ) (new : BusCpu) (out after : OutFilesValue)
    → LeavesToPlanes m.beam m.chips → wish_shown m.chips.processor ≡ Some (P.Write at half word)
    → ((p : Processor) → IsProcessorOf m.chips.processor p → GoesOn 0 (level_of m.chips.irq) p begins new)
    → Gives out after [] (taken_lines m.beam begins)
    → IsUnseenAtOnce (A.Processor (P.Write at half word)) m out (stored_and at half word (gone new m.chips) m) after
write_goes at half word m begins new out after leaves asks goes lines =
    let wish : ProcessorAsk = P.Write at half word in
    let accessed : MachineValue = stored_and at half word (given 0 m.chips) m in
    record {
      made = M.Stored at half word;
      unseen = refl;
      at = record {
        accessed = accessed;
        access = write_accesses at half word m out leaves;
        turns = Makes-processed accessed (stored_and at half word (gone new m.chips) m) out after begins refl
            (λ c is. word_runs 0 begins wish m.chips new c asks goes is)
            (λ c is. word_begins 0 begins wish m.chips new c asks goes is) lines;
        same = refl;
        keeps = (
          record { registers = refl; last = refl; kinds = refl; copper = refl; busy = refl },
          record { irq = refl; cia_a = refl; cia_b = refl },
        );
      };
      busy = refl;
    }

pub write_stored : (at : Addr) (half : Half) (word : ℕ) (m : MachineValue) (begins : Option ℕ) (chip : ChipValue) (chips : WorkingChips)
    (out after : OutFilesValue) → LeavesToPlanes m.beam m.chips → wish_shown m.chips.processor ≡ Some (P.Write at half word)
    → chip ≡ chip_after m.t (M.Stored at half word) m.chip → chips ≡ gone chips.processor m.chips
    → ((p : Processor) → IsProcessorOf m.chips.processor p → GoesOn 0 (level_of m.chips.irq) p begins chips.processor)
    → Gives out after [] (taken_lines m.beam begins)
    → IsUnseenAtOnce (A.Processor (P.Write at half word)) m out (record m { chip = chip; chips = chips }) after
write_stored at half word m begins chip chips out after leaves asks stores kept goes lines =
    let ask : Ask = A.Processor (P.Write at half word) in
    subst (λ x. IsUnseenAtOnce ask m out (record m { chip = x; chips = chips }) after) (sym stores)
    (subst (λ x. IsUnseenAtOnce ask m out (stored_and at half word x m) after) (sym kept)
    (write_goes at half word m begins chips.processor out after leaves asks goes lines))

-- whatever the machine behind the store is called
pub write_made : (at : Addr) (half : Half) (word : ℕ) (m mid : MachineValue) (begins : Option ℕ) (chips : WorkingChips)
    (out after : OutFilesValue) → LeavesToPlanes m.beam m.chips → wish_shown m.chips.processor ≡ Some (P.Write at half word)
    → mid ≡ record m { chip = mid.chip } → mid.chip ≡ chip_after m.t (M.Stored at half word) m.chip → chips ≡ gone chips.processor mid.chips
    → ((p : Processor) → IsProcessorOf mid.chips.processor p → GoesOn 0 (level_of mid.chips.irq) p begins chips.processor)
    → Gives out after [] (taken_lines mid.beam begins)
    → IsUnseenAtOnce (A.Processor (P.Write at half word)) m out (with_chips chips mid) after
write_made at half word m mid begins chips out after leaves asks same stores kept goes lines =
    subst (λ (x : MachineValue). IsUnseenAtOnce (A.Processor (P.Write at half word)) m out (with_chips chips x) after) (sym same)
    (write_stored at half word m begins mid.chip chips out after leaves asks stores
    (subst (λ (x : MachineValue). chips ≡ gone chips.processor x.chips) same kept)
    (subst (λ (x : MachineValue). (p : Processor) → IsProcessorOf x.chips.processor p → GoesOn 0 (level_of x.chips.irq) p begins chips.processor)
    same goes)
    (subst (λ (x : MachineValue). Gives out after [] (taken_lines x.beam begins)) same lines))

-- ---- a whole clock

-- the chips ask as they stand
record AsksAsItStands (ask : Ask) (m : MachineValue) : Type 0 where
  asks : AsksInTime ask m m
  able : CanAsk ask
  wish : IsBlitAsk ask (kept_wish m.chips)

asks_as_it_stands : (rest : ℕ) (m : MachineValue) (ask : Ask) → IsLeftToProcessor rest m → late_ask m.beam m.chips ≡ ask → AsksAsItStands ask m
asks_as_it_stands rest m ask alone is =
    let asked : HasAskedOnBus m.beam m.chips m.chips None = asked_without_planes m.beam m.chips alone.leaves in
    record {
      asks = asks_alone m m m.chips ask alone.side (λ c stands. rested m.t rest m.chips c alone.rests alone.some stands)
          (λ c stands. sym is ∙ asked.ask c stands) asked.chips refl;
      able = subst CanAsk is asked.able;
      wish = subst (λ a. IsBlitAsk a (kept_wish m.chips)) is asked.wish;
    }

asks_by_wish : (rest : ℕ) (m : MachineValue) (wish : Option ProcessorAsk) → IsLeftToProcessor rest m → wish_shown m.chips.processor ≡ wish
    → AsksAsItStands (processor_ask wish) m
asks_by_wish rest m wish alone asks =
    asks_as_it_stands rest m (processor_ask wish) alone (asked_alone m.beam m.chips wish alone.leaves.others alone.alone asks)

pub processor_asks : (rest : ℕ) (m : MachineValue) (ask : ProcessorAsk) → IsLeftToProcessor rest m → wish_shown m.chips.processor ≡ Some ask
    → AsksInTime (A.Processor ask) m m
processor_asks rest m ask alone asks = (asks_by_wish rest m (Some ask) alone asks).asks

abbrev pub advanced : MachineValue → MachineValue
advanced m = record m { t = m.t + 1; beam = later_beam 1 m.beam }

pub clock_at_once : (rest : ℕ) (m processed : MachineValue) (wish : Option ProcessorAsk) (out after : OutFilesValue) → IsLeftToProcessor rest m
    → wish_shown m.chips.processor ≡ wish → IsUnseenAtOnce (processor_ask wish) m out processed after
    → IsClockAtOnce (processor_ask wish) m out (advanced processed) after
clock_at_once rest m processed wish out after alone asks unseen =
    let stands : AsksAsItStands (processor_ask wish) m = asks_by_wish rest m wish alone asks in
    record {
      asks = stands.asks;
      able = stands.able;
      wish = stands.wish;
      line = alone.line;
      processed = processed;
      rest = unseen;
      advanced = refl;
    }
