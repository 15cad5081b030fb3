-- The words so far are clocks.
use Rattle.std.proofs.Common.{map, string_bytes}
use Rattle.ocs_words.proofs.RewindLaws.{AreRead}
use Rattle.ocs_words.proofs.rewind_order.read_clocks.Given as goal

abbrev pub invariant-loop-text : goal.invariant-loop-text
invariant-loop-text l = AreRead (map string_bytes l.texts) l.text-index l.clocks.items
