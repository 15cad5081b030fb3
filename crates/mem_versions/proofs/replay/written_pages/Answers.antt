-- One write more.
use Rattle.std.proofs.Common.{ℕ, ◌<◌, List, length, get_or, ap, sym, ◌∙◌, arith}
use Rattle.std.proofs.Math.ListN.{set}
use Rattle.mem_versions.specs.declared.write.Write.{Write}
use Rattle.mem_versions.proofs.MemoryLaws.{words_after-more}
use Rattle.mem_versions.proofs.replay.written_pages.Goals as goal

pub loop-write-preserved : goal.loop-write-preserved
loop-write-preserved c =
    let i = c.loop-write.write-index in
    let writes = c.args.writes.now in
    let d : Write = record { clock = 0; place = 0; word = 0 } in
    let within : i < length writes = omega (arith, c.loop-write-test.true) in
    let w : Write = get_or writes i d in
    c.in_ok-set_word.ensures.ok
    ∙ ap (λ (words : List ℕ). set words w.place w.word) c.loop-write.invariant
    ∙ sym (words_after-more c.args.base.now writes i d within)
