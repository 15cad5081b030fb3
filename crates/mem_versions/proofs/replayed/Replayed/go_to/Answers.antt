-- Where no write is made or taken back, those that are made are the ones below the clock.
use Rattle.std.proofs.Common.{◌≡◌, ◌<◌, ℕ, take, get_or, subst, arith}
use Rattle.mem_versions.specs.declared.write.Write.{Write}
use Rattle.mem_versions.specs.MemoryAt.{writes_below}
use Rattle.mem_versions.specs.code.Replay.{ReplayedValue}
use Rattle.mem_versions.proofs.ReplayLaws.{at_clock}
use Rattle.mem_versions.proofs.replayed.Replayed.go_to.Goals as goal

pub make_writes-requires : goal.make_writes-requires
make_writes-requires c =
    let clocks = c.self.invariant.1 in
    let P : ReplayedValue → Type 0 = λ v. (k : ℕ) (d : Write) → k < v.next → (get_or v.writes k d).clock < c.args.clock in
    subst P c.self.view_is (λ k d before. omega (arith, clocks.made k d before, clocks.order, c.if-clock-self.true))

pub returns-else-clock-self-2-clause-at : goal.returns-else-clock-self-2-clause-at
returns-else-clock-self-2-clause-at c =
    let clocks = c.self.invariant.1 in
    let clock = c.args.clock in
    let Q : ReplayedValue → Type 0 = λ v. take v.next v.writes ≡ writes_below clock v.writes in
    subst Q c.self.view_is
    (at_clock clock c.self.inside.writes.items c.self.inside.next c.self.invariant.0.stamped
    (λ k d before within. omega (arith, clocks.made k d before, c.if-clock-self-2.false))
    (λ d within. omega (arith, clocks.left d within, c.if-clock-self.false)))
