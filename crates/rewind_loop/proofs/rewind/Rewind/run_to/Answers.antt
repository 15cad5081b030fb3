-- The present clock is visited, and then each one up to the last.
use Rattle.std.proofs.Common.{◌≡◌, ◌<◌, ◌-◌, ◌∙◌, inl, inr, sym, arith}
use Rattle.rewind_loop.proofs.GoLaws.{ran_first, ran_next, ran_at, gone_at, ran_there, ran_end}
use Rattle.rewind_loop.proofs.rewind.Rewind.run_to.Goals as goal

pub visit-requires-clause-every : goal.visit-requires-clause-every
visit-requires-clause-every c = c.requires.every

pub visit-requires-clause-at : goal.visit-requires-clause-at
visit-requires-clause-at c = (c.requires.at.0, c.requires.at.1, c.requires.at.2)

pub returns-in_err-visit-clause-run : goal.returns-in_err-visit-clause-run
returns-in_err-visit-clause-run c = c.visit.ensures.run

pub returns-in_err-visit-clause-every : goal.returns-in_err-visit-clause-every
returns-in_err-visit-clause-every c = c.visit.ensures.every

pub loop-self-init : goal.loop-self-init
loop-self-init c =
    ran_first c.args.self.now c.visit.new.self c.args.clock c.in_ok-visit.ensures.run c.in_ok-visit.ensures.every c.requires.at c.in_ok-visit.ensures.visits

pub go_on-requires-clause-at : goal.go_on-requires-clause-at
go_on-requires-clause-at c = ran_at c.args.self.now c.loop-self.self c.args.clock c.loop-self.invariant

pub returns-in_err-go_on-clause-run : goal.returns-in_err-go_on-clause-run
returns-in_err-go_on-clause-run c = c.go_on.ensures.run ∙ c.loop-self.invariant.run

pub returns-in_err-go_on-clause-every : goal.returns-in_err-go_on-clause-every
returns-in_err-go_on-clause-every c = c.go_on.ensures.every ∙ c.loop-self.invariant.every

pub visit-requires-in-loop-self-clause-at : goal.visit-requires-in-loop-self-clause-at
visit-requires-in-loop-self-clause-at c =
    gone_at c.args.self.now c.loop-self.self c.go_on.new.self c.args.clock c.loop-self.invariant c.in_ok-go_on.ensures.goes

pub returns-in_err-visit-2-clause-run : goal.returns-in_err-visit-2-clause-run
returns-in_err-visit-2-clause-run c = c.visit-in-loop-self.ensures.run ∙ c.go_on.ensures.run ∙ c.loop-self.invariant.run

pub returns-in_err-visit-2-clause-every : goal.returns-in_err-visit-2-clause-every
returns-in_err-visit-2-clause-every c = c.visit-in-loop-self.ensures.every ∙ c.go_on.ensures.every ∙ c.loop-self.invariant.every

pub loop-self-smaller : goal.loop-self-smaller
loop-self-smaller c =
    let there : c.visit-in-loop-self.new.self.fore.machine.t ≡ c.go_on.new.self.fore.machine.t =
    ran_there c.args.self.now c.loop-self.self c.go_on.new.self c.visit-in-loop-self.new.self c.args.clock c.loop-self.invariant
    c.in_ok-go_on.ensures.goes c.in_ok-visit-2.ensures.visits in
    let smaller : c.args.clock - c.visit-in-loop-self.new.self.fore.machine.t < c.args.clock - c.loop-self.self.fore.machine.t =
    omega (arith, there, c.in_ok-go_on.ensures.goes.later, c.in_ok-go_on.ensures.goes.most) in
    smaller

pub loop-self-preserved : goal.loop-self-preserved
loop-self-preserved c =
    ran_next c.args.self.now c.loop-self.self c.go_on.new.self c.visit-in-loop-self.new.self c.args.clock c.loop-self.invariant
    c.in_ok-go_on.ensures.run c.in_ok-go_on.ensures.every c.in_ok-go_on.ensures.goes
    c.in_ok-visit-2.ensures.run c.in_ok-visit-2.ensures.every c.in_ok-visit-2.ensures.visits

pub returns-else-not-done-clause-runs : goal.returns-else-not-done-clause-runs
returns-else-not-done-clause-runs c keep end p is ends =
    ran_end c.args.self.now c.loop-self.self c.args.clock end keep p c.loop-self.invariant is ends (inr (sym c.done.ensures ∙ c.if-not-done.false))

pub returns-after-loop-self-clause-runs : goal.returns-after-loop-self-clause-runs
returns-after-loop-self-clause-runs c keep end p is ends =
    ran_end c.args.self.now c.loop-self.self c.args.clock end keep p c.loop-self.invariant is ends
    (inl (omega (arith, c.clocks.ensures, c.loop-self-test.false)))

pub returns-else-not-done-clause-stands : goal.returns-else-not-done-clause-stands
returns-else-not-done-clause-stands c = ran_at c.args.self.now c.loop-self.self c.args.clock c.loop-self.invariant

pub returns-after-loop-self-clause-stands : goal.returns-after-loop-self-clause-stands
returns-after-loop-self-clause-stands c = ran_at c.args.self.now c.loop-self.self c.args.clock c.loop-self.invariant

pub returns-else-not-done-clause-run : goal.returns-else-not-done-clause-run
returns-else-not-done-clause-run c = c.loop-self.invariant.run

pub returns-else-not-done-clause-every : goal.returns-else-not-done-clause-every
returns-else-not-done-clause-every c = c.loop-self.invariant.every

pub returns-after-loop-self-clause-run : goal.returns-after-loop-self-clause-run
returns-after-loop-self-clause-run c = c.loop-self.invariant.run

pub returns-after-loop-self-clause-every : goal.returns-after-loop-self-clause-every
returns-after-loop-self-clause-every c = c.loop-self.invariant.every
