-- A turn goes to one clock more.
use Rattle.std.proofs.Common.{◌≤◌, subst, sym, arith, refl}
use Rattle.rewind_loop.proofs.GoLaws.{gone_first, gone_next, gone_all}
use Rattle.rewind_loop.proofs.rewind.Rewind.go_all.Goals as goal

pub loop-clock-init : goal.loop-clock-init
loop-clock-init c = gone_first c.args.self.now c.args.clocks.now c.new-list.result.items c.new-list.ensures.items c.requires.at

pub go_to-requires-clause-every : goal.go_to-requires-clause-every
go_to-requires-clause-every c = subst (λ n. 1 ≤ n) (sym c.loop-clock.invariant.every) c.requires.every

pub go_to-requires-clause-at : goal.go_to-requires-clause-at
go_to-requires-clause-at c = c.loop-clock.invariant.at

pub loop-clock-preserved : goal.loop-clock-preserved
loop-clock-preserved c =
    gone_next c.args.self.now c.loop-clock.self c.go_to.new.self c.args.clocks.now c.loop-clock.clock-index _ c.loop-clock.list.items c.push.new.self.items
    c.in_ok-go_to.field-0 c.loop-clock.invariant c.loop-clock-test.true refl c.in_ok-go_to.ensures.run c.in_ok-go_to.ensures.every
    c.in_ok-go_to.ensures.stands c.in_ok-go_to.ensures.goes c.in_ok-go_to.ensures.arrives c.in_ok-push.ensures.items

pub returns : goal.returns
returns c keep end p is ends =
    gone_all c.args.self.now c.loop-clock.self c.args.clocks.now c.loop-clock.clock-index keep end p c.loop-clock.list.items c.loop-clock.invariant
    (omega (arith, c.loop-clock-test.false)) is ends
