use Rattle.std.proofs.Common.{◌≡◌, ◌++◌, take}
use Rattle.serial_model.specs.MemoryText.{memory_text}
use Rattle.out_files.proofs.words.put_words.Given as goal

abbrev pub invariant-loop-word : goal.invariant-loop-word
invariant-loop-word l = l.text.items ≡ l.initial.text.items ++ memory_text (take l.word-index l.words)
