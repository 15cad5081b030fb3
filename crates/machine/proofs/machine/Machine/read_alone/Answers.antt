use Rattle.std.proofs.lemmas.Result.{on_ok_weaker}
use Rattle.machine.specs.Machine.{machine_over}
use Rattle.machine.proofs.AheadLaws.{read_made}
use Rattle.machine.proofs.machine.Machine.read_alone.Goals as goal

pub returns-clause-made : goal.returns-clause-made
returns-clause-made g c =
    on_ok_weaker c.tell_interrupt.result
    (read_made c.args.at (machine_over g.S.Side.seen c.args.self.now) c.take_word-begins.result c.read-word.result _ _
    c.args.out.now _ c.requires.leaves c.requires.asks c.read-word.ensures.word c.read-word.ensures.reads c.take_word-begins.ensures.kept
    c.take_word-begins.ensures.goes) c.tell_interrupt.ensures.lines
