use Rattle.std.proofs.Common.{◌≡◌, ◌≢◌, ◌<◌, ◌-◌, ◌%◌, ◌∙◌, arith}
use Rattle.m68k_exec.proofs.ListSteps.{numbers_none, numbers_one, numbers_zero}
use Rattle.m68k_exec.proofs.lists.take_number.Goals as goal

pub returns-then-lowest-eq1-clause-numbers : goal.returns-then-lowest-eq1-clause-numbers
returns-then-lowest-eq1-clause-numbers c =
    let some : 0 < c.loop-left.left.bits = omega arith in
    let set : c.loop-left.left.rest % 2 ≡ 1 = omega arith in
    let number : c.saturating_sub.result ≡ 15 - (c.loop-left.left.bits - 1) = omega (arith, c.saturating_sub.ensures) in
    rw number (c.loop-left.invariant.numbers ∙ numbers_one c.loop-left.left.bits c.loop-left.left.rest some set)

pub loop-left-preserved : goal.loop-left-preserved
loop-left-preserved c =
    let some : 0 < c.loop-left.left.bits = omega arith in
    let clear : c.loop-left.left.rest % 2 ≢ 1 = c.if-lowest-eq1.false in
    record {
      mask = c.loop-left.invariant.mask;
      numbers = c.loop-left.invariant.numbers ∙ numbers_zero c.loop-left.left.bits c.loop-left.left.rest some clear;
    }

pub returns-clause-numbers : goal.returns-clause-numbers
returns-clause-numbers c =
    let none : c.loop-left.left.bits ≡ 0 = omega arith in
    c.loop-left.invariant.numbers ∙ (rw none (numbers_none c.loop-left.left.rest))
