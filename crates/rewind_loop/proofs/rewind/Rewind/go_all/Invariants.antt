-- The clocks so far were gone to.
use Rattle.rewind_loop.proofs.GoLaws.{Gone}
use Rattle.rewind_loop.proofs.rewind.Rewind.go_all.Given as goal

abbrev pub invariant-loop-clock : goal.invariant-loop-clock
invariant-loop-clock l = Gone l.fn.self l.self l.clocks l.clock-index l.list.items
