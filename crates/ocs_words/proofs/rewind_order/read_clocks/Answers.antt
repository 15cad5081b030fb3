-- A word is a clock more, or is none.
use Rattle.std.proofs.Common.{◌≡◌, string_bytes, Some, None, arith, rules}
use Rattle.std.proofs.lemmas.Grind.{common_steps}
use Rattle.ocs_words.specs.RewindOrder.{clock_of}
use Rattle.ocs_words.proofs.RewindLaws.{read_more, read_bad, none_of}
use Rattle.ocs_words.proofs.rewind_order.read_clocks.Goals as goal

pub returns-in_default : goal.returns-in_default
returns-in_default c =
    let bad : clock_of (string_bytes c.text-item.result) ≡ None = first_of (search rules, grind (arith, common_steps)) in
    none_of _
    (read_bad string_bytes c.args.texts.now c.loop-text.text-index c.loop-text.clocks.items c.text-item.result c.loop-text.invariant c.loop-text-test.true
    c.text-item.is bad)

pub loop-text-preserved : goal.loop-text-preserved
loop-text-preserved c =
    let good : clock_of (string_bytes c.text-item.result) ≡ Some c.in-Some.clock = first_of (search rules, grind (arith, common_steps)) in
    read_more string_bytes c.args.texts.now c.loop-text.text-index c.loop-text.clocks.items c.text-item.result c.loop-text.invariant c.loop-text-test.true
    c.text-item.is c.in-Some.clock c.push.new.self.items good c.push.ensures.items
