-- One write more is made, of a clock below; behind the loop the one that is left, if any, is of the clock or later.
use Rattle.std.proofs.Common.{◌≡◌, ◌<◌, ◌≤◌, List, rules, take, length, get_or, subst, ap, ◌∙◌, arith}
use Rattle.std.proofs.lemmas.List.{get_or_default}
use Rattle.mem_versions.specs.declared.write.Write.{Write}
use Rattle.mem_versions.specs.MemoryAt.{writes_below}
use Rattle.mem_versions.specs.code.Replay.{ReplayedValue}
use Rattle.mem_versions.proofs.ReplayLaws.{IsReplayed-stored, all_before, at_clock}
use Rattle.mem_versions.proofs.replayed.Replayed.make_writes.Goals as goal
use Rattle.mem_versions.proofs.replayed.Replayed.make_writes.Goals.{then-loop-self-test+else-index-clock, else-loop-self-test}

pub loop-self-preserved : goal.loop-self-preserved
loop-self-preserved c =
    let inside = c.loop-self.self-inside in
    let writes = inside.writes.items in
    let before = c.loop-self.invariant in
    let within : inside.next < length writes = omega (arith, c.loop-self-test.true, c.len.ensures) in
    record {
      base = before.base;
      writes = before.writes;
      replayed = IsReplayed-stored inside.base writes inside.changed inside.words.items c.store.new.words.items inside.next c.slot-slot.result
          c.index-write.result.now before.replayed within (search rules) c.slot-slot.ensures c.store.ensures.none c.store.ensures.some;
      early = λ k d first.
          all_before c.args.clock writes inside.next c.index.result.now before.replayed.stamped within c.index.ensures c.if-index-clock.true
          k d (omega arith);
    }

pub returns-clause-at : goal.returns-clause-at
returns-clause-at c =
    let clock = c.args.clock in
    let next = c.loop-self.self-inside.next in
    let writes = c.loop-self.self-inside.writes.items in
    let late : (d : Write) → next < length writes → clock ≤ (get_or writes next d).clock =
    elim c.loop-self-test.branch [
      | then-loop-self-test+else-index-clock w ↦ λ d within.
          subst (λ (v : Write). clock ≤ v.clock) (w.index.ensures ∙ get_or_default writes next w.index.result.now d within) w.if-index-clock.false
      | else-loop-self-test w ↦ λ d within. absurd (omega (arith, within, w.loop-self-test.false, c.len.ensures))
    ] in
    let same : writes ≡ c.args.self.now.writes = c.loop-self.invariant.writes ∙ ap (λ (v : ReplayedValue). v.writes) c.self.view_is in
    subst (λ (ws : List Write). take next ws ≡ writes_below clock ws) same
    (at_clock clock writes next c.loop-self.invariant.replayed.stamped (λ k d before within. c.loop-self.invariant.early k d before) late)
