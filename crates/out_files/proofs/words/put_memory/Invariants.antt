-- The pages so far are appended, and their words counted.
use Rattle.std.proofs.Common.{◌≡◌, ◌*◌, ◌<◌, ◌++◌, take}
use Rattle.serial_model.specs.MemoryText.{memory_text}
use Rattle.mem_versions.specs.Chip.{after_reads}
use Rattle.out_files.proofs.words.put_memory.Given as goal

abbrev pub invariant-loop-number : goal.invariant-loop-number
invariant-loop-number l =
    record {
      text : l.text.items ≡ l.initial.text.items ++ memory_text (take (256 * l.number) l.initial.chip.words);
      first : l.number ≡ 0 → l.chip ≡ l.initial.chip;
      counted : 0 < l.number → l.chip ≡ after_reads l.initial.chip (256 * l.number);
    }
