-- The first write that is found counts, since those behind it come late.
use Rattle.std.proofs.Common.{◌≡◌, ◌+◌, ◌-◌, ◌<◌, ℕ, take, get_or, subst, refl, ap, ◌∙◌, sym, arith}
use Rattle.mem_versions.specs.declared.write.Write.{Write}
use Rattle.mem_versions.specs.code.Replay.{ReplayedValue}
use Rattle.mem_versions.specs.code.History.{word_before}
use Rattle.mem_versions.proofs.SearchLaws.{word_before-last, word_before-end}
use Rattle.mem_versions.proofs.replayed.Replayed.word_before.Goals as goal

pub returns-then-write-clock : goal.returns-then-write-clock
returns-then-write-clock c =
    let place = c.args.place in
    let clock = c.args.clock in
    let writes = c.args.self.now.writes in
    let left = c.loop-left.left in
    let w = c.index-write.result.now in
    let is : w ≡ get_or writes (left - 1) w =
    c.index-write.ensures ∙ ap (λ (v : ReplayedValue). get_or v.writes (left - 1) w) c.self.view_is in
    let one : left - 1 + 1 ≡ left = omega (arith, c.loop-left-test.true) in
    let here : (get_or writes (left - 1) w).place ≡ place = sym (ap (λ (v : Write). v.place) is) ∙ c.if-write-place.true in
    let early : (get_or writes (left - 1) w).clock < clock = subst (λ (v : Write). v.clock < clock) is c.if-write-clock.true in
    let last : (get_or writes (left - 1) w).word ≡ word_before place clock (take (left - 1 + 1) writes) c.args.word =
    word_before-last place clock writes c.args.word (left - 1) w (omega (arith, c.loop-left.invariant.within, c.loop-left-test.true)) here early in
    word_before-end place clock writes c.args.word w.word left left (omega arith)
    (ap (λ (v : Write). v.word) is ∙ last ∙ ap (λ (k : ℕ). word_before place clock (take k writes) c.args.word) one)
    c.loop-left.invariant.late

pub returns : goal.returns
returns c =
    let writes = c.args.self.now.writes in
    word_before-end c.args.place c.args.clock writes c.args.word c.args.word 0 0 (omega arith)
    refl (λ k d from within. c.loop-left.invariant.late k d (omega (arith, c.loop-left-test.false)) within)
