use Rattle.std.proofs.Common.{◌<◌, ◌-◌, arith, refl, ◌∙◌, None}
use Rattle.foreground.proofs.MadeLaws.{on_err}
use Rattle.foreground.specs.Fore.{over}
use Rattle.clock_loop.proofs.BusLaws.{none_made}
use Rattle.clock_loop.proofs.ClockLaws.{run_and_run, run_and_part_run, all_left, fewer_left, none_fewer}
use Rattle.clock_loop.proofs.LineLaws.{can_go_then, nothing_made}
use Rattle.clock_loop.proofs.ahead.clocks_alone.Goals as goal

pub loop-made-init : goal.loop-made-init
loop-made-init g c = record {
  able = c.requires.fits;
  ran = λ seen. none_made _ _ _ _;
  run = refl;
  fresh = c.requires.fresh;
  most = omega arith;
  rest = omega arith;
  count = omega arith;
  can = all_left c.args.limit c.args.left None c.args.rest c.args.claim.now _ c.requires.can;
  still = λ there. refl;
}

pub returns-in_err-more-clause-part : goal.returns-in_err-more-clause-part
returns-in_err-more-clause-part g c =
    let of = over g.S.Side.seen in
    let f0 = of c.args.fore.now in
    let f = of c.loop-made.fore in
    let next = of c.some_alone.new.fore in
    let before = c.loop-made-test.true in
    let min = c.min-most.ensures in
    let some : 0 < c.args.left - c.loop-made.made = omega (arith, before, min) in
    let line = (c.loop-made.invariant.can.line some).before in
    let able = c.loop-made.invariant.able in
    on_err c.from_residual.result
    (λ seen. run_and_part_run c.args.limit f0 f next seen seen seen _ _ _ c.loop-made.invariant.run (omega (arith, line))
    (c.loop-made.invariant.ran seen) (c.in_err-more.ensures.part seen))

pub returns-then-more-eq0-clause-runs : goal.returns-then-more-eq0-clause-runs
returns-then-more-eq0-clause-runs g c seen =
    let of = over g.S.Side.seen in
    let f0 = of c.args.fore.now in
    let f = of c.loop-made.fore in
    let next = of c.some_alone.new.fore in
    let before = c.loop-made-test.true in
    let min = c.min-most.ensures in
    let some : 0 < c.args.left - c.loop-made.made = omega (arith, before, min) in
    let line = (c.loop-made.invariant.can.line some).before in
    let able = c.loop-made.invariant.able in
    run_and_run c.args.limit f0 f next seen seen seen _ _ _ c.loop-made.invariant.run (omega (arith, line)) (c.loop-made.invariant.ran seen)
    (c.in_ok-more.ensures.runs seen)

pub returns-then-more-eq0-clause-can : goal.returns-then-more-eq0-clause-can
returns-then-more-eq0-clause-can g c =
    let of = over g.S.Side.seen in
    let f0 = of c.args.fore.now in
    let f = of c.loop-made.fore in
    let next = of c.some_alone.new.fore in
    let before = c.loop-made-test.true in
    let min = c.min-most.ensures in
    let some : 0 < c.args.left - c.loop-made.made = omega (arith, before, min) in
    let line = (c.loop-made.invariant.can.line some).before in
    let able = c.loop-made.invariant.able in
    none_fewer c.args.limit _ c.in_ok-more.more _ None c.args.claim.now next c.if-more-eq0.true c.in_ok-more.ensures.can

pub returns-then-more-eq0-clause-still : goal.returns-then-more-eq0-clause-still
returns-then-more-eq0-clause-still g c same =
    nothing_made c.args.fore.now c.loop-made.fore c.some_alone.new.fore (c.loop-made.invariant.ran c.loop-made.invariant.able.0).on
    (c.in_ok-more.ensures.runs c.loop-made.invariant.able.0).on c.loop-made.invariant.still c.in_ok-more.ensures.still (omega (arith, same))

pub loop-made-preserved : goal.loop-made-preserved
loop-made-preserved g c =
    let of = over g.S.Side.seen in
    let f0 = of c.args.fore.now in
    let f = of c.loop-made.fore in
    let next = of c.some_alone.new.fore in
    let before = c.loop-made-test.true in
    let min = c.min-most.ensures in
    let some : 0 < c.args.left - c.loop-made.made = omega (arith, before, min) in
    let line = (c.loop-made.invariant.can.line some).before in
    let able = c.loop-made.invariant.able in
    let runs = c.in_ok-more.ensures.runs in
    let more = c.in_ok-more.ensures.most in
    let rest = c.in_ok-more.ensures.rest in
    let one = c.loop-made.invariant.most in
    let other = c.loop-made.invariant.rest in
    let count = c.in_ok-more.ensures.count in
    let all = c.loop-made.invariant.count in
    record {
      able = (able.0, can_go_then f next able.0 able.0 _ _ (runs able.0).clocks c.loop-made.invariant.fresh able.1);
      ran = λ seen. run_and_run c.args.limit f0 f next seen seen seen _ _ _ c.loop-made.invariant.run (omega (arith, line))
          (c.loop-made.invariant.ran seen) (runs seen);
      run = c.some_alone.ensures.run ∙ c.loop-made.invariant.run;
      fresh = c.in_ok-more.ensures.fresh;
      most = omega (arith, more, one);
      rest = omega (arith, rest, other);
      count = omega (arith, count, all);
      can = fewer_left c.args.limit c.args.left c.loop-made.made c.in_ok-more.more c.args.rest None c.args.claim.now next c.in_ok-more.ensures.can;
      still = λ same. nothing_made c.args.fore.now c.loop-made.fore c.some_alone.new.fore (c.loop-made.invariant.ran able.0).on
          (runs able.0).on c.loop-made.invariant.still c.in_ok-more.ensures.still (omega (arith, same));
    }
