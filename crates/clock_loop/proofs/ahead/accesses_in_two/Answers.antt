use Rattle.std.proofs.Common.{◌<◌, ◌-◌, arith, refl, ap, sym, ◌∙◌, None}
use Rattle.foreground.proofs.MadeLaws.{on_err}
use Rattle.foreground.specs.Fore.{over}
use Rattle.clock_loop.proofs.AheadLaws.{anew_view}
use Rattle.clock_loop.proofs.BusLaws.{none_made}
use Rattle.clock_loop.proofs.ClockLaws.{run_and_run, run_and_part_run, run_and_none, all_left, fewer_left}
use Rattle.clock_loop.proofs.LineLaws.{can_go_then}
use Rattle.foreground.proofs.RefusalLaws.{no_value, not_ok}
use Rattle.clock_loop.proofs.ahead.accesses_in_two.Goals as goal

pub loop-made-init : goal.loop-made-init
loop-made-init g c = record {
  able = c.requires.fits;
  ran = λ seen. none_made _ _ _ _;
  run = refl;
  fresh = c.requires.fresh;
  most = omega arith;
  rest = omega arith;
  count = omega arith;
  can = all_left c.args.limit c.args.left None c.args.rest c.args.claim.now _ c.requires.can;
  still = λ there. refl;
  anew = anew_view g.S.Side.seen c.args.fore.now _ (sym c.fore.view_is) (c.begins_anew.ensures.anew c.if-not-begins_anew.false);
}

pub returns-in_err-access_in_two-clause-part : goal.returns-in_err-access_in_two-clause-part
returns-in_err-access_in_two-clause-part g c =
    let of = over g.S.Side.seen in
    let before = c.loop-made-test.true in
    let min = c.min-most.ensures in
    let last = c.saturating_sub-last.ensures in
    let some : 0 < c.args.left - c.loop-made.made = omega (arith, before, min, last) in
    let line = (c.loop-made.invariant.can.line some).before in
    on_err c.from_residual.result
    (λ seen. run_and_part_run c.args.limit (of c.args.fore.now) (of c.loop-made.fore) (of c.access_in_two.new.fore) seen seen seen _ _ _
    c.loop-made.invariant.run (omega (arith, line)) (c.loop-made.invariant.ran seen) (c.in_err-access_in_two.ensures.part seen))

pub returns-then-not-branch-clause-runs : goal.returns-then-not-branch-clause-runs
returns-then-not-branch-clause-runs g c seen =
    let of = over g.S.Side.seen in
    run_and_none c.args.limit (of c.args.fore.now) (of c.loop-made.fore) (of c.access_in_two.new.fore) seen seen _ _ _
    (ap of (c.in_ok-access_in_two.ensures.none c.if-not-branch.true)) (c.in_ok-access_in_two.ensures.given c.if-not-branch.true)
    (c.loop-made.invariant.ran seen)

pub loop-made-preserved : goal.loop-made-preserved
loop-made-preserved g c =
    let of = over g.S.Side.seen in
    let f0 = of c.args.fore.now in
    let f = of c.loop-made.fore in
    let next = of c.access_in_two.new.fore in
    let before = c.loop-made-test.true in
    let min = c.min-most.ensures in
    let last = c.saturating_sub-last.ensures in
    let some : 0 < c.args.left - c.loop-made.made = omega (arith, before, min, last) in
    let line = (c.loop-made.invariant.can.line some).before in
    let able = c.loop-made.invariant.able in
    let runs = c.in_ok-access_in_two.ensures.runs c.if-not-branch.false in
    let count = c.in_ok-access_in_two.ensures.count c.if-not-branch.false in
    let on = (c.loop-made.invariant.ran able.0).on in
    let all = c.loop-made.invariant.count in
    record {
      able = (able.0, can_go_then f next able.0 able.0 _ _ (runs able.0).clocks c.loop-made.invariant.fresh able.1);
      ran = λ seen. run_and_run c.args.limit f0 f next seen seen seen _ _ _ c.loop-made.invariant.run (omega (arith, line))
          (c.loop-made.invariant.ran seen) (runs seen);
      run = c.access_in_two.ensures.run ∙ c.loop-made.invariant.run;
      fresh = c.access_in_two.ensures.fresh;
      most = omega (arith, before, min, last);
      rest = omega (arith, before, min, last);
      count = omega (arith, count, all);
      can = fewer_left c.args.limit c.args.left c.loop-made.made 2 c.args.rest None c.args.claim.now next
          (c.in_ok-access_in_two.ensures.can c.if-not-branch.false);
      still = λ same. absurd (omega (arith, on, count, same));
      anew = c.in_ok-access_in_two.ensures.anew c.if-not-branch.false;
    }

pub returns-then-not-begins_anew-clause-runs : goal.returns-then-not-begins_anew-clause-runs
returns-then-not-begins_anew-clause-runs g c seen = none_made c.args.limit (over g.S.Side.seen c.args.fore.now) seen c.args.out.now

pub returns-then-not-begins_anew-clause-can : goal.returns-then-not-begins_anew-clause-can
returns-then-not-begins_anew-clause-can g c =
    all_left c.args.limit c.args.left None c.args.rest c.args.claim.now (over g.S.Side.seen c.args.fore.now) c.requires.can

pub begins_anew-requires : goal.begins_anew-requires
begins_anew-requires g c = tt

pub returns-then-not-begins_anew-clause-part : goal.returns-then-not-begins_anew-clause-part
returns-then-not-begins_anew-clause-part g c = tt

pub returns-then-not-begins_anew-clause-run : goal.returns-then-not-begins_anew-clause-run
returns-then-not-begins_anew-clause-run g c = refl

pub min-most-requires : goal.min-most-requires
min-most-requires g c = tt

pub saturating_sub-last-requires : goal.saturating_sub-last-requires
saturating_sub-last-requires g c = tt

pub access_in_two-requires-clause-alone : goal.access_in_two-requires-clause-alone
access_in_two-requires-clause-alone g c = c.requires.alone

pub returns-in_err-access_in_two-clause-most : goal.returns-in_err-access_in_two-clause-most
returns-in_err-access_in_two-clause-most g c = no_value c.from_residual.result _ c.from_residual.ensures.0

pub returns-in_err-access_in_two-clause-rest : goal.returns-in_err-access_in_two-clause-rest
returns-in_err-access_in_two-clause-rest g c = no_value c.from_residual.result _ c.from_residual.ensures.0

pub returns-in_err-access_in_two-clause-count : goal.returns-in_err-access_in_two-clause-count
returns-in_err-access_in_two-clause-count g c = no_value c.from_residual.result _ c.from_residual.ensures.0

pub returns-in_err-access_in_two-clause-runs : goal.returns-in_err-access_in_two-clause-runs
returns-in_err-access_in_two-clause-runs g c = not_ok c.from_residual.result _ c.from_residual.ensures.0

pub returns-in_err-access_in_two-clause-can : goal.returns-in_err-access_in_two-clause-can
returns-in_err-access_in_two-clause-can g c = no_value c.from_residual.result _ c.from_residual.ensures.0

pub returns-in_err-access_in_two-clause-fresh : goal.returns-in_err-access_in_two-clause-fresh
returns-in_err-access_in_two-clause-fresh g c = not_ok c.from_residual.result _ c.from_residual.ensures.0

pub returns-in_err-access_in_two-clause-still : goal.returns-in_err-access_in_two-clause-still
returns-in_err-access_in_two-clause-still g c = not_ok c.from_residual.result _ c.from_residual.ensures.0

pub returns-then-not-branch-clause-part : goal.returns-then-not-branch-clause-part
returns-then-not-branch-clause-part g c = tt

pub returns-then-not-branch-clause-fresh : goal.returns-then-not-branch-clause-fresh
returns-then-not-branch-clause-fresh g c = c.access_in_two.ensures.fresh

pub returns-clause-part : goal.returns-clause-part
returns-clause-part g c = tt
