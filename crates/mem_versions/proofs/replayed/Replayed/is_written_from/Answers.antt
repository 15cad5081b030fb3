-- Behind the loop all earlier writes are of clocks below.
use Rattle.std.proofs.Common.{◌-◌, ◌<◌, List, get_or, subst, ap, ◌∙◌}
use Rattle.std.specs.List.Sorted.{IsNonDecreasingBy}
use Rattle.mem_versions.specs.declared.write.Write.{Write}
use Rattle.mem_versions.specs.code.Replay.{ReplayedValue}
use Rattle.mem_versions.proofs.MemoryLaws.{all_early}
use Rattle.mem_versions.proofs.replayed.Replayed.is_written_from.Goals as goal

pub returns-else-index-clock : goal.returns-else-index-clock
returns-else-index-clock c none k d within here =
    let writes = c.args.self.now.writes in
    let left = c.loop-left.left in
    let e = c.index.result.now in
    let same = ap (λ (v : ReplayedValue). v.writes) c.self.view_is in
    let is = c.index.ensures ∙ ap (λ (ws : List Write). get_or ws (left - 1) e) same in
    let early = subst (λ (w : Write). w.clock < c.args.clock) is c.if-index-clock.false in
    let stamped = subst (λ (ws : List Write). IsNonDecreasingBy (λ (w : Write). w.clock) ws) same c.self.invariant.0.stamped in
    all_early c.args.place c.args.clock writes left e stamped early c.loop-left.invariant.within c.loop-left.invariant.other k d within here
