-- Where all writes are made the words are the present ones, and a page that none of them is to has its words still.
use Rattle.std.proofs.Common.{◌≡◌, ◌≢◌, ◌/◌, ℕ, List, All, length, take, subst, ap, ◌∙◌, arith, rules}
use Rattle.std.proofs.lemmas.List.{take_all}
use Rattle.mem_versions.specs.declared.write.Write.{Write}
use Rattle.mem_versions.specs.code.Replay.{AreCovered}
use Rattle.mem_versions.proofs.MemoryLaws.{length-words_after}
use Rattle.mem_versions.proofs.ReplayLaws.{unchanged_word}
use Rattle.mem_versions.proofs.replay.words_behind.Goals as goal

pub copied_pages-requires-clause-size : goal.copied_pages-requires-clause-size
copied_pages-requires-clause-size c = ap length c.requires.present ∙ length-words_after c.args.base.now c.args.writes.now

pub copied_pages-requires-clause-unchanged : goal.copied_pages-requires-clause-unchanged
copied_pages-requires-clause-unchanged c place none =
    let base = c.args.base.now in
    let writes = c.args.writes.now in
    let changed = c.args.changed.now in
    let all : take c.args.count writes ≡ writes = take_all c.args.count writes (omega (arith, c.if-count-writes.true)) in
    let covered = subst (λ (ws : List Write). AreCovered changed.places ws (length ws) (length base)) all c.requires.covered in
    let numbers : c.deref.result.now ≡ changed.numbers = search rules in
    unchanged_word base c.args.words.now changed.places changed.numbers writes place c.requires.numbered covered c.requires.present
    (subst (λ (ns : List ℕ). All (λ number. number ≢ place / 256) ns) numbers none)
