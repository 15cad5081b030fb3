-- A write keeps the present words those at the last cut, changed by the writes since.
use Rattle.std.proofs.Common.{◌/◌, ◌≤◌, ap, arith}
use Rattle.mem_versions.specs.declared.write.Write.{Write}
use Rattle.mem_versions.proofs.MemoryLaws.{IsSound-write}
use Rattle.mem_versions.proofs.chip.Chip.note_write.Goals as goal

pub invariant_of-self-2 : goal.invariant_of-self-2
invariant_of-self-2 c =
    let place = c.args.at.value / 2 in
    let later : c.self.inside.newest ≤ c.args.now.0 = omega (arith, ap (λ v. v.newest) c.self.view_is) in
    let write : Write = record { clock = c.args.now.0; place = place; word = c.args.word } in
    IsSound-write c.self.inside.base c.self.inside.words.items c.put_word.new.words.items c.self.inside.writes.items c.push.new.self.items
    c.self.inside.newest write
    c.self.invariant later c.put_word.ensures c.in_ok-push.ensures.items
