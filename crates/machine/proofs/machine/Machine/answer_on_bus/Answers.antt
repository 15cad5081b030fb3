use Rattle.std.proofs.Common.{◌≡◌, ◌≤◌, is_some, ap, sym, subst}
use Rattle.chip_set.specs.Bus.{KeepsOnBus}
use Rattle.chip_set.specs.Chips.{WorkingChips}
use Rattle.machine.specs.Machine.{MachineValue, machine_over}
use Rattle.machine.proofs.AccessLaws.{MakesAccess-by, time_left, StoresMade-by, StaysInPlace-does, reads_done, reads_of_both, answers_given, does_given}
use Rattle.machine.proofs.BusLaws.{access_keeps, side_untold}
use Rattle.machine.proofs.machine.Machine.answer_on_bus.Goals as goal

pub returns-clause-access : goal.returns-clause-access
returns-clause-access g c =
    let old = machine_over g.S.Side.seen c.args.self.now in
    let mid = machine_over g.S.Side.seen c.give_side.new.self in
    MakesAccess-by c.args.ask.now 0 c.answer_on_bus-made.result old _ c.answer_on_bus-made.new.chip c.answer_on_bus-made.new.self mid.side c.args.out.now _
    (reads_of_both c.args.ask.now old.chip mid.chip c.answer_on_bus-made.new.chip c.give_side.ensures.gives.chip c.answer_on_bus-made.ensures.reads)
    c.give_side.ensures.gives.side
    (answers_given c.args.ask.now 0 c.answer_on_bus-made.result old mid c.answer_on_bus-made.new.self c.give_side.ensures.gives
    (c.answer_on_bus-made.ensures.access 0))
    (does_given c.args.ask.now 0 c.answer_on_bus-made.result old mid _ c.answer_on_bus-made.new.chip c.answer_on_bus-made.new.self c.args.out.now _
    c.give_side.ensures.gives c.in_ok-carry_out.ensures.does)

pub returns-clause-memory : goal.returns-clause-memory
returns-clause-memory g c =
    let old = machine_over g.S.Side.seen c.args.self.now in
    let mid = machine_over g.S.Side.seen c.give_side.new.self in
    StoresMade-by old.t c.args.ask.now c.answer_on_bus-made.result old.chip c.answer_on_bus-made.new.chip _
    (reads_of_both c.args.ask.now old.chip mid.chip c.answer_on_bus-made.new.chip c.give_side.ensures.gives.chip c.answer_on_bus-made.ensures.reads)
    (does_given c.args.ask.now 0 c.answer_on_bus-made.result old mid _ c.answer_on_bus-made.new.chip c.answer_on_bus-made.new.self c.args.out.now _
    c.give_side.ensures.gives c.in_ok-carry_out.ensures.does).chip

pub returns-clause-reads : goal.returns-clause-reads
returns-clause-reads g c =
    let old = machine_over g.S.Side.seen c.args.self.now in
    let mid = machine_over g.S.Side.seen c.give_side.new.self in
    reads_done old.t c.args.ask.now c.answer_on_bus-made.result old.chip c.answer_on_bus-made.new.chip _
    (reads_of_both c.args.ask.now old.chip mid.chip c.answer_on_bus-made.new.chip c.give_side.ensures.gives.chip c.answer_on_bus-made.ensures.reads)
    (does_given c.args.ask.now 0 c.answer_on_bus-made.result old mid _ c.answer_on_bus-made.new.chip c.answer_on_bus-made.new.self c.args.out.now _
    c.give_side.ensures.gives c.in_ok-carry_out.ensures.does).chip

pub returns-clause-place : goal.returns-clause-place
returns-clause-place g c =
    let old = machine_over g.S.Side.seen c.args.self.now in
    let mid = machine_over g.S.Side.seen c.give_side.new.self in
    StaysInPlace-does c.answer_on_bus-made.result 0 old _ c.answer_on_bus-made.new.chip c.answer_on_bus-made.new.self mid.side c.args.out.now _
    (does_given c.args.ask.now 0 c.answer_on_bus-made.result old mid _ c.answer_on_bus-made.new.chip c.answer_on_bus-made.new.self c.args.out.now _
    c.give_side.ensures.gives c.in_ok-carry_out.ensures.does)

pub carry_out-requires : goal.carry_out-requires
carry_out-requires g c = λ unread.
    let old = machine_over g.S.Side.seen c.args.self.now in
    let mid = machine_over g.S.Side.seen c.give_side.new.self in
    subst (λ (m : MachineValue). c.answer_on_bus-made.new.chip.newest ≤ m.t) (sym c.give_side.ensures.gives.same)
    (time_left c.args.ask.now 0 c.answer_on_bus-made.result old c.answer_on_bus-made.new.chip c.answer_on_bus-made.new.self
    (reads_of_both c.args.ask.now old.chip mid.chip c.answer_on_bus-made.new.chip c.give_side.ensures.gives.chip c.answer_on_bus-made.ensures.reads)
    (answers_given c.args.ask.now 0 c.answer_on_bus-made.result old mid c.answer_on_bus-made.new.self c.give_side.ensures.gives
    (c.answer_on_bus-made.ensures.access 0))
    c.requires.asked.0 c.requires.asked.1 c.requires.asked.2 (λ other. c.requires.time) unread)

pub returns-clause-bus : goal.returns-clause-bus
returns-clause-bus g c =
    let old = machine_over g.S.Side.seen c.args.self.now in
    let mid = machine_over g.S.Side.seen c.give_side.new.self in
    access_keeps c.args.ask.now c.answer_on_bus-made.result old _ c.answer_on_bus-made.new.chip c.answer_on_bus-made.new.self mid.side c.args.out.now _
    c.requires.bus c.answer_on_bus-made.ensures.made
    (answers_given c.args.ask.now 0 c.answer_on_bus-made.result old mid c.answer_on_bus-made.new.self c.give_side.ensures.gives
    (c.answer_on_bus-made.ensures.access 0))
    (does_given c.args.ask.now 0 c.answer_on_bus-made.result old mid _ c.answer_on_bus-made.new.chip c.answer_on_bus-made.new.self c.args.out.now _
    c.give_side.ensures.gives c.in_ok-carry_out.ensures.does)
    c.requires.asked.0 c.requires.asked.1 c.requires.asked.2
    (subst (λ (now : WorkingChips). is_some c.answer_on_bus-made.new.self.blit ≡ is_some now.blit → KeepsOnBus now c.answer_on_bus-made.new.self)
    (ap (λ (m : MachineValue). m.chips) c.give_side.ensures.gives.same) c.answer_on_bus-made.ensures.kept)

pub returns-clause-side : goal.returns-clause-side
returns-clause-side g c =
    let old = machine_over g.S.Side.seen c.args.self.now in
    let mid = machine_over g.S.Side.seen c.give_side.new.self in
    side_untold c.args.ask.now c.answer_on_bus-made.result _ old.side mid.side _ c.requires.bus c.answer_on_bus-made.ensures.made
    c.give_side.ensures.gives.side
    (does_given c.args.ask.now 0 c.answer_on_bus-made.result old mid _ c.answer_on_bus-made.new.chip c.answer_on_bus-made.new.self c.args.out.now _
    c.give_side.ensures.gives c.in_ok-carry_out.ensures.does).side
