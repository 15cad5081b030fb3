-- One write more.
use Rattle.std.proofs.Common.{◌≡◌, [], ℕ, ◌<◌, take, List, length, get_or, ap, sym, ◌∙◌, arith, length-take}
use Rattle.std.proofs.Math.ListN.{set}
use Rattle.std.proofs.lemmas.List.{get_or-take}
use Rattle.mem_versions.specs.declared.write.Write.{Write}
use Rattle.mem_versions.specs.MemoryAt.{writes_to}
use Rattle.std.proofs.lemmas.List.{take_all}
use Rattle.mem_versions.proofs.MemoryLaws.{words_after-more, length-words_after}
use Rattle.mem_versions.proofs.ChangedLaws.{untouched}
use Rattle.mem_versions.proofs.chip.pages_after.Goals as goal

pub loop-write-preserved : goal.loop-write-preserved
loop-write-preserved c =
    let i = c.loop-write.write-index in
    let count = c.args.count in
    let writes = c.args.writes.now in
    let d : Write = record { clock = 0; place = 0; word = 0 } in
    let first : i < count = omega (arith, length-take count writes, c.loop-write-test.true) in
    let within : i < length writes = omega (arith, length-take count writes, c.loop-write-test.true) in
    let w : Write = get_or writes i d in
    c.in_ok-set_word.ensures.ok
    ∙ ap (λ (v : Write). set c.loop-write.after v.place v.word) (get_or-take count writes i d first)
    ∙ ap (λ (words : List ℕ). set words w.place w.word) c.loop-write.invariant
    ∙ sym (words_after-more c.args.base.now writes i d within)

pub changed_pages-requires-clause-size : goal.changed_pages-requires-clause-size
changed_pages-requires-clause-size c =
    ap length c.requires.present ∙ length-words_after c.args.base.now c.args.writes.now

pub changed_pages-requires-clause-unchanged : goal.changed_pages-requires-clause-unchanged
changed_pages-requires-clause-unchanged c place none =
    let writes = c.args.writes.now in
    let all : take c.args.count writes ≡ writes = take_all c.args.count writes (omega (arith, c.if-count-writes.true)) in
    let nothing : writes_to place writes ≡ [] =
    sym (ap (writes_to place) all) ∙ sym (c.requires.same place) ∙ none in
    sym (ap (λ (ws : List ℕ). get_or ws place 0) c.requires.present ∙ untouched place writes c.args.base.now nothing)
