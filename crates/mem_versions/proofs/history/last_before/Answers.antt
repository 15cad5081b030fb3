-- A look halves the writes that are left.
use Rattle.std.proofs.Common.{◌+◌, ◌-◌, ◌/◌, ◌<◌, length, get_or, arith}
use Rattle.mem_versions.specs.declared.write.Write.{Write}
use Rattle.mem_versions.proofs.SearchLaws.{IsLate, word_before-last, word_before-lower, late-from, word_before-end, halves-next, cost-next}
use Rattle.mem_versions.proofs.history.last_before.Goals as goal
use Rattle.mem_versions.proofs.history.last_before.Goals.{else-write-place-via-then-write-place+else-write-clock, else-write-place-via-else-write-place}

pub loop-low-preserved-then-write-clock : goal.loop-low-preserved-then-write-clock
loop-low-preserved-then-write-clock g c =
    let low = c.loop-low.low in
    let high = c.loop-low.high in
    let middle = low + (high - low) / 2 in
    let writes = c.args.writes.now in
    let d : Write = record { clock = 0; place = 0; word = 0 } in
    let within : middle < length writes = omega arith in
    record {
      order = omega arith;
      within = c.loop-low.invariant.within;
      found = word_before-last c.args.place c.args.clock writes c.args.word middle d within c.if-write-place.true c.if-write-clock.true;
      higher = c.loop-low.invariant.higher;
      counted = omega arith;
      halves =
          halves-next c.args.steps.now c.loop-low.steps c.tick.new.self (high - low) (high - (middle + 1)) (length writes)
          c.loop-low.invariant.counted c.tick.ensures c.loop-low.invariant.halves
          (omega arith);
      cost = cost-next c.args.steps.now c.loop-low.steps c.tick.new.self (high - low) (length writes)
          c.loop-low.invariant.counted c.tick.ensures c.loop-low.invariant.halves (omega arith);
    }

pub loop-low-preserved-then-write-place-2 : goal.loop-low-preserved-then-write-place-2
loop-low-preserved-then-write-place-2 g c =
    let low = c.loop-low.low in
    let high = c.loop-low.high in
    let middle = low + (high - low) / 2 in
    let writes = c.args.writes.now in
    let d : Write = record { clock = 0; place = 0; word = 0 } in
    let within : middle < length writes = omega arith in
    record {
      order = omega arith;
      within = c.loop-low.invariant.within;
      found =
          word_before-lower c.args.place c.args.clock writes c.args.word c.loop-low.found low middle d c.requires (omega arith) within c.if-write-place-2.true
          c.loop-low.invariant.found;
      higher = c.loop-low.invariant.higher;
      counted = omega arith;
      halves =
          halves-next c.args.steps.now c.loop-low.steps c.tick.new.self (high - low) (high - (middle + 1)) (length writes)
          c.loop-low.invariant.counted c.tick.ensures c.loop-low.invariant.halves
          (omega arith);
      cost = cost-next c.args.steps.now c.loop-low.steps c.tick.new.self (high - low) (length writes)
          c.loop-low.invariant.counted c.tick.ensures c.loop-low.invariant.halves (omega arith);
    }

pub loop-low-preserved : goal.loop-low-preserved
loop-low-preserved g c =
    let low = c.loop-low.low in
    let high = c.loop-low.high in
    let middle = low + (high - low) / 2 in
    let writes = c.args.writes.now in
    let d : Write = record { clock = 0; place = 0; word = 0 } in
    let within : middle < length writes = omega arith in
    let late : IsLate c.args.place c.args.clock (get_or writes middle d) =
    elim c.else-write-place.branch [
      | else-write-place-via-then-write-place+else-write-clock w ↦ λ here. w.if-write-clock.false
      | else-write-place-via-else-write-place w ↦ λ here. absurd (w.if-write-place.false here)
    ]
    in
    record {
      order = omega arith;
      within = omega arith;
      found = c.loop-low.invariant.found;
      higher = late-from c.args.place c.args.clock writes middle d c.requires within c.if-write-place-2.false late;
      counted = omega arith;
      halves =
          halves-next c.args.steps.now c.loop-low.steps c.tick.new.self (high - low) (middle - low) (length writes)
          c.loop-low.invariant.counted c.tick.ensures c.loop-low.invariant.halves (omega arith);
      cost = cost-next c.args.steps.now c.loop-low.steps c.tick.new.self (high - low) (length writes)
          c.loop-low.invariant.counted c.tick.ensures c.loop-low.invariant.halves (omega arith);
    }

pub returns-clause-word : goal.returns-clause-word
returns-clause-word g c =
    word_before-end c.args.place c.args.clock c.args.writes.now c.args.word c.loop-low.found c.loop-low.low c.loop-low.high c.loop-low-test.false
    c.loop-low.invariant.found
    c.loop-low.invariant.higher
