-- Both clocks of an access of the processor to memory, made at once.
use Rattle.std.proofs.Common.{◌≡◌, ◌+◌, ◌==◌, ℕ, not, ◌&&◌, if◌then◌else◌, Option, Some, None}
use Rattle.std.proofs.Common.{arith, refl, ap, subst, sym, ◌∙◌}
use Rattle.mem_versions.specs.Chip.{ChipValue, after_reads, word_at}
use Rattle.ocs_base.specs.declared.addr.Addr.{Addr}
use Rattle.out_files.specs.OutFiles.{OutFilesValue}
use Rattle.serial_model.specs.declared.bus.Ask.{Ask}
use Rattle.serial_model.specs.declared.bus.Ask.TheVariants as A
use Rattle.serial_model.specs.declared.bus.Half.{Half}
use Rattle.serial_model.specs.declared.bus.Made.TheVariants as M
use Rattle.serial_model.specs.declared.bus.ProcessorAsk.{ProcessorAsk}
use Rattle.serial_model.specs.declared.bus.ProcessorAsk.TheVariants as P
use Rattle.serial_model.specs.Beam.{later_beam}
use Rattle.serial_model.specs.Processor.{Processor, slot_wish}
use Rattle.cpu_bus.specs.declared.BusCpu.{BusCpu}
use Rattle.cpu_bus.specs.declared.TurnBeside.TheVariants as T
use Rattle.cpu_bus.specs.Beside.{BeginsAnew, turn_beside_of}
use Rattle.cpu_bus.specs.Bus.{IsProcessorOf, GoesOn, wish_shown}
use Rattle.chip_set.proofs.BesideLaws.{waited_on, waits_beside, first_waits, waits_wish}
use Rattle.machine.specs.Machine.{MachineValue}
use Rattle.machine.specs.MachineSteps.{chip_after}
use Rattle.machine.specs.Ahead.{IsLeftToProcessor, IsLeftThen, IsClockAtOnce, EndsInTwo, IsAccessInTwo, IsAccessInPart}
use Rattle.machine.proofs.AheadLaws.{advanced, clock_at_once, nobody_then_waits, processor_asks, read_made, write_stored}
use Rattle.machine.proofs.BusLaws.{with_chips}

-- behind its first clock it asks
asks_then : (now : BusCpu) (ask : ProcessorAsk) → BeginsAnew now → slot_wish now.wait ≡ Some ask → wish_shown (record now { spent = 1 }) ≡ Some ask
asks_then now ask anew is = ap (λ on. if on && not (1 == 0) then slot_wish now.wait else None) anew.on ∙ is

-- what a word leads to does not hang on the clocks that have passed
goes_then : (word level : ℕ) (now new : BusCpu) (begins : Option ℕ) → ((p : Processor) → IsProcessorOf now p → GoesOn word level p begins new)
    → (p : Processor) → IsProcessorOf (record now { spent = 1 }) p → GoesOn word level p begins new
goes_then word level now new begins goes p is =
    let went : GoesOn word level (record p { spent = now.spent }) begins new =
    goes (record p { spent = now.spent })
    (record { chip = is.chip; on = is.on; stands = is.stands; wait = is.wait; spent = refl; given = is.given }) in
    record { stands = went.stands; interrupt = went.interrupt }

-- ---- the first of them

abbrev pub begun : MachineValue → MachineValue
begun m = advanced (with_chips (waited_on 0 1 m.chips) m)

first_clock : (rest : ℕ) (wish : ProcessorAsk) (m : MachineValue) (out : OutFilesValue) → IsLeftToProcessor rest m
    → BeginsAnew m.chips.processor → slot_wish m.chips.processor.wait ≡ Some wish → IsClockAtOnce A.Free m out (begun m) out
first_clock rest wish m out alone anew is =
    let waits : turn_beside_of m.chips.processor ≡ T.Waits 1 = first_waits m.chips.processor wish anew is in
    clock_at_once rest m (with_chips (waited_on 0 1 m.chips) m) None out out alone (waits_wish m.chips.processor 1 waits)
    (nobody_then_waits m (waited_on 0 1 m.chips) out alone.leaves.others (waits_beside 1 m.chips waits))

-- an access with this has just begun, and both of its clocks are left to the processor
pub record Begins (wish : ProcessorAsk) (m : MachineValue) (out : OutFilesValue) : Type 0 where
  pub first : IsClockAtOnce A.Free m out (begun m) out
  pub rest : ℕ
  pub alone : IsLeftToProcessor rest (begun m)
  pub asks : wish_shown (begun m).chips.processor ≡ Some wish

pub begins_with : (rest : ℕ) (wish : ProcessorAsk) (m : MachineValue) (out : OutFilesValue) → IsLeftToProcessor rest m → IsLeftThen m out
    → BeginsAnew m.chips.processor → slot_wish m.chips.processor.wait ≡ Some wish → Begins wish m out
begins_with rest wish m out alone next anew is =
    let first : IsClockAtOnce A.Free m out (begun m) out =
    first_clock rest wish m out alone anew is in
    record {
      first = first;
      rest = (next (begun m) first).0;
      alone = (next (begun m) first).1;
      asks = asks_then m.chips.processor wish anew is;
    }

-- ---- the end of both

twice : (n : ℕ) → n + 2 ≡ n + 1 + 1
twice n = omega arith

ended : (word : ℕ) (m new : MachineValue) (chip : ChipValue) (out after : OutFilesValue) → EndsInTwo word (record m { chip = chip }) out new after
    → new ≡ advanced (record (begun m) { chip = chip; chips = new.chips })
ended word m new chip out after ends =
    ends.same
    ∙ ap (λ t. record m { t = t; beam = later_beam 2 m.beam; chip = chip; chips = new.chips }) (twice m.t)
    ∙ ap (λ h. record m { t = m.t + 1 + 1; beam = record m.beam { h = h }; chip = chip; chips = new.chips }) (twice m.beam.h)

-- ---- a read

pub two_read : (at : Addr) (word : ℕ) (m new : MachineValue) (chip : ChipValue) (out after : OutFilesValue) → Begins (P.Read at) m out
    → word ≡ word_at m.chip at → chip ≡ after_reads m.chip 1 → EndsInTwo word (record m { chip = chip }) out new after
    → IsAccessInTwo m out new after
two_read at word m new chip out after begins read count ends =
    let ask : Ask = A.Processor (P.Read at) in
    record {
      mid = begun m;
      ask = ask;
      begins = begins.first;
      accesses = subst (λ x. IsClockAtOnce ask (begun m) out x after) (sym (ended word m new chip out after ends))
          (clock_at_once begins.rest (begun m) (record (begun m) { chip = chip; chips = new.chips }) (Some (P.Read at)) out after begins.alone begins.asks
          (read_made at (begun m) ends.begins word chip new.chips out after begins.alone.leaves.others begins.asks read count ends.chips
          (goes_then word _ m.chips.processor new.chips.processor ends.begins ends.goes) ends.lines));
    }

pub part_read : (at : Addr) (m new : MachineValue) (out after : OutFilesValue) → Begins (P.Read at) m out → new.chip ≡ after_reads m.chip 1
    → after ≡ out → IsAccessInPart m out new after
part_read at m new out after begins count same =
    record {
      mid = begun m;
      ask = A.Processor (P.Read at);
      begins = begins.first;
      asks = processor_asks begins.rest (begun m) (P.Read at) begins.alone begins.asks;
      quiet = refl;
      reads = ap (λ (chip : ChipValue). chip.reads) count;
      same = same;
    }

-- ---- a write

pub two_write : (at : Addr) (half : Half) (word : ℕ) (m stored new : MachineValue) (out after : OutFilesValue)
    → Begins (P.Write at half word) m out → stored ≡ record m { chip = stored.chip }
    → stored.chip ≡ chip_after (m.t + 1) (M.Stored at half word) m.chip → EndsInTwo 0 stored out new after → IsAccessInTwo m out new after
two_write at half word m stored new out after begins kept stores done =
    let ask : Ask = A.Processor (P.Write at half word) in
    let ends : EndsInTwo 0 (record m { chip = stored.chip }) out new after = subst (λ x. EndsInTwo 0 x out new after) kept done in
    record {
      mid = begun m;
      ask = ask;
      begins = begins.first;
      accesses = subst (λ x. IsClockAtOnce ask (begun m) out x after) (sym (ended 0 m new stored.chip out after ends))
          (clock_at_once begins.rest (begun m) (record (begun m) { chip = stored.chip; chips = new.chips }) (Some (P.Write at half word)) out after
          begins.alone begins.asks
          (write_stored at half word (begun m) ends.begins stored.chip new.chips out after begins.alone.leaves.others begins.asks stores ends.chips
          (goes_then 0 _ m.chips.processor new.chips.processor ends.begins ends.goes) ends.lines));
    }

pub part_write : (at : Addr) (half : Half) (word : ℕ) (m new : MachineValue) (out after : OutFilesValue) → Begins (P.Write at half word) m out
    → new.chip.reads ≡ m.chip.reads → after ≡ out → IsAccessInPart m out new after
part_write at half word m new out after begins reads same =
    record {
      mid = begun m;
      ask = A.Processor (P.Write at half word);
      begins = begins.first;
      asks = processor_asks begins.rest (begun m) (P.Write at half word) begins.alone begins.asks;
      quiet = refl;
      reads = reads;
      same = same;
    }
