use Rattle.std.proofs.Common.{◌≡◌, ◌++◌, take, flat_map}
use Rattle.script_read.specs.code.Number.{number_part}
use Rattle.script_read.proofs.printer.put_words.Given as goal

abbrev pub invariant-loop-number : goal.invariant-loop-number
invariant-loop-number l = l.into.items ≡ (l.fn.into.items ++ l.first) ++ flat_map number_part (take l.number-index l.numbers)
