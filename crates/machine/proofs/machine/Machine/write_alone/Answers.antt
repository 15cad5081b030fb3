use Rattle.std.proofs.Common.{ap}
use Rattle.std.proofs.lemmas.Result.{on_ok_weaker}
use Rattle.mem_versions.specs.Chip.{ChipValue}
use Rattle.machine.specs.Machine.{machine_over}
use Rattle.machine.proofs.AheadLaws.{write_made}
use Rattle.machine.proofs.machine.Machine.write_alone.Goals as goal

pub returns-clause-made : goal.returns-clause-made
returns-clause-made g c =
    on_ok_weaker c.tell_interrupt.result
    (write_made c.args.at c.args.half c.args.word (machine_over g.S.Side.seen c.args.self.now)
    (machine_over g.S.Side.seen c.store.new.self) c.take_word-begins.result _ c.args.out.now _ c.requires.leaves c.requires.asks
    (ap (λ m. machine_over g.S.Side.seen m) c.store.ensures.same) c.in_ok-store.ensures.stores
    c.take_word-begins.ensures.kept c.take_word-begins.ensures.goes) c.tell_interrupt.ensures.lines

pub returns-clause-reads : goal.returns-clause-reads
returns-clause-reads g c = ap (λ (chip : ChipValue). chip.reads) c.in_ok-store.ensures.stores
