-- Clock by clock, or many at once where they are quiet.
use Rattle.std.proofs.Common.{◌≡◌, ◌≤◌, ◌<◌, false, true≢false, arith, refl, ◌∙◌, sym}
use Rattle.ocs_io.proofs.MapLaws.{on_err}
use Rattle.foreground.specs.Fore.{over, GivesPart}
use Rattle.clock_loop.specs.RunTo.{RisesInSome}
use Rattle.clock_loop.proofs.RunToLaws.{runs_none, runs_then, part_behind, can_go_on, no_reads, reads_then, few_behind, below_view, fresh_view}
use Rattle.clock_loop.proofs.LineLaws.{can_go_then, reads_twice, few_twice}
use Rattle.clock_loop.proofs.QuietRuns.{runs_more, runs_passed, can_go_behind, reads_passed, part_passed, few_passed}
use Rattle.foreground.proofs.RefusalLaws.{not_ok}
use Rattle.clock_loop.proofs.run.run_to.Goals as goal

pub loop-fore-init : goal.loop-fore-init
loop-fore-init g c = record {
  able = c.requires.fits;
  runs = runs_none _ _ _;
  run = refl;
  on = omega arith;
  most = omega arith;
  reads = no_reads _ _ _;
  fresh = fresh_view _ _ c.fore.view_is c.if-fore.false;
}

pub loop-fore-preserved : goal.loop-fore-preserved
loop-fore-preserved g c =
    let of = over g.S.Side.seen in
    let passed = c.in_ok-pass_quiet.ensures.passed in
    record {
      able = can_go_behind (of c.loop-fore.fore) (of c.pass_quiet.new.fore) c.args.limit _ c.loop-fore.out passed c.loop-fore.invariant.fresh
          c.loop-fore.invariant.able;
      runs = runs_passed (of c.args.fore.now) (of c.loop-fore.fore) (of c.pass_quiet.new.fore) c.args.limit _ _ _ _ c.loop-fore.invariant.runs passed
          c.loop-fore.invariant.run;
      run = c.pass_quiet.ensures.run ∙ c.loop-fore.invariant.run;
      on = omega (arith, c.loop-fore.invariant.on, passed.on);
      most = omega (arith, passed.most);
      reads = reads_passed (of c.args.fore.now) (of c.loop-fore.fore) (of c.pass_quiet.new.fore) c.args.limit c.loop-fore.invariant.run
          c.loop-fore.invariant.on passed c.pass_quiet.ensures.reads c.loop-fore.invariant.reads;
      fresh = passed.spent ∙ c.loop-fore.invariant.fresh;
    }

pub run_in_line-requires-clause-fits : goal.run_in_line-requires-clause-fits
run_in_line-requires-clause-fits g c =
    let of = over g.S.Side.seen in
    can_go_behind (of c.loop-fore.fore) (of c.pass_quiet.new.fore) c.args.limit _ c.loop-fore.out c.in_ok-pass_quiet.ensures.passed
    c.loop-fore.invariant.fresh c.loop-fore.invariant.able

pub advance-requires-clause-fits : goal.advance-requires-clause-fits
advance-requires-clause-fits g c =
    let of = over g.S.Side.seen in
    let here = c.pass_quiet.new.fore in
    let passed = c.in_ok-pass_quiet.ensures.passed in
    can_go_then (of here) (of c.run_in_line.new.fore) _ _ _ _ c.in_ok-run_in_line.ensures.clocks (passed.spent ∙ c.loop-fore.invariant.fresh)
    (can_go_behind (of c.loop-fore.fore) (of here) c.args.limit _ c.loop-fore.out passed c.loop-fore.invariant.fresh c.loop-fore.invariant.able)

pub loop-fore-preserved-else-not-branch-2 : goal.loop-fore-preserved-else-not-branch-2
loop-fore-preserved-else-not-branch-2 g c =
    let of = over g.S.Side.seen in
    let f0 = of c.args.fore.now in
    let here = c.pass_quiet.new.fore in
    let passed = c.in_ok-pass_quiet.ensures.passed in
    let before : here.machine.t < c.args.limit =
    below_view _ here c.args.limit (sym (c.in_ok-pass_quiet.ensures.none c.if-not-branch.true))
    (below_view _ c.loop-fore.fore c.args.limit c.fore-in-loop-fore.view_is c.loop-fore-test.true) in
    let run0 = c.pass_quiet.ensures.run ∙ c.loop-fore.invariant.run in
    let on0 : c.args.fore.now.machine.t ≤ here.machine.t = omega (arith, c.loop-fore.invariant.on, passed.on) in
    let fresh = passed.spent ∙ c.loop-fore.invariant.fresh in
    let able =
    can_go_behind (of c.loop-fore.fore) (of here) c.args.limit _ c.loop-fore.out passed c.loop-fore.invariant.fresh c.loop-fore.invariant.able in
    let runs0 = runs_passed f0 (of c.loop-fore.fore) (of here) c.args.limit _ _ _ _ c.loop-fore.invariant.runs passed c.loop-fore.invariant.run in
    let reads0 = reads_passed f0 (of c.loop-fore.fore) (of here) c.args.limit c.loop-fore.invariant.run
    c.loop-fore.invariant.on passed c.pass_quiet.ensures.reads c.loop-fore.invariant.reads in
    let mid = c.run_in_line.new.fore in
    let more = c.in_ok-run_in_line.ensures in
    let runs1 = runs_more f0 (of here) (of mid) _ _ _ _ _ _ runs0 more.clocks run0 in
    let run1 = c.run_in_line.ensures.run ∙ run0 in
    let on1 : c.args.fore.now.machine.t ≤ mid.machine.t = omega (arith, on0, more.on) in
    let able1 = can_go_then (of here) (of mid) _ _ _ _ more.clocks fresh able in
    let reads1 = reads_twice f0 (of here) (of mid) run0 on0 more.on reads0 more.reads in
    record {
      able = able1;
      runs = runs1;
      run = run1;
      on = on1;
      most = omega (arith, before, more.most);
      reads = reads1;
      fresh = more.fresh;
    }

pub loop-fore-preserved-in_ok-advance : goal.loop-fore-preserved-in_ok-advance
loop-fore-preserved-in_ok-advance g c =
    let of = over g.S.Side.seen in
    let f0 = of c.args.fore.now in
    let here = c.pass_quiet.new.fore in
    let passed = c.in_ok-pass_quiet.ensures.passed in
    let before : here.machine.t < c.args.limit =
    below_view _ here c.args.limit (sym (c.in_ok-pass_quiet.ensures.none c.if-not-branch.true))
    (below_view _ c.loop-fore.fore c.args.limit c.fore-in-loop-fore.view_is c.loop-fore-test.true) in
    let run0 = c.pass_quiet.ensures.run ∙ c.loop-fore.invariant.run in
    let on0 : c.args.fore.now.machine.t ≤ here.machine.t = omega (arith, c.loop-fore.invariant.on, passed.on) in
    let fresh = passed.spent ∙ c.loop-fore.invariant.fresh in
    let able =
    can_go_behind (of c.loop-fore.fore) (of here) c.args.limit _ c.loop-fore.out passed c.loop-fore.invariant.fresh c.loop-fore.invariant.able in
    let runs0 = runs_passed f0 (of c.loop-fore.fore) (of here) c.args.limit _ _ _ _ c.loop-fore.invariant.runs passed c.loop-fore.invariant.run in
    let reads0 = reads_passed f0 (of c.loop-fore.fore) (of here) c.args.limit c.loop-fore.invariant.run
    c.loop-fore.invariant.on passed c.pass_quiet.ensures.reads c.loop-fore.invariant.reads in
    let mid = c.run_in_line.new.fore in
    let more = c.in_ok-run_in_line.ensures in
    let runs1 = runs_more f0 (of here) (of mid) _ _ _ _ _ _ runs0 more.clocks run0 in
    let run1 = c.run_in_line.ensures.run ∙ run0 in
    let on1 : c.args.fore.now.machine.t ≤ mid.machine.t = omega (arith, on0, more.on) in
    let able1 = can_go_then (of here) (of mid) _ _ _ _ more.clocks fresh able in
    let reads1 = reads_twice f0 (of here) (of mid) run0 on0 more.on reads0 more.reads in
    let before1 : mid.machine.t < c.args.limit = below_view here mid c.args.limit (sym (more.none c.if-not-branch-2.true)) before in
    let last = c.advance.new.self in
    let one = c.in_ok-advance.ensures in
    record {
      able = can_go_on (of mid) (of last) _ _ _ _ one.clock more.fresh able1;
      runs = runs_then f0 (of mid) (of last) _ _ _ _ _ _ runs1 one.clock run1 one.count;
      run = c.advance.ensures.run ∙ run1;
      on = omega (arith, on1, one.count);
      most = omega (arith, before1, one.count);
      reads = reads_then f0 (of mid) (of last) _ run1 on1 more.fresh able1 reads1 one.reads one.count;
      fresh = one.fresh;
    }

pub returns-in_err-pass_quiet-clause-part : goal.returns-in_err-pass_quiet-clause-part
returns-in_err-pass_quiet-clause-part g c =
    let of = over g.S.Side.seen in
    let seen = g.Q.Raster.seen in
    on_err c.from_residual.result
    (c.args.fore.now.spent ≡ false → GivesPart (of c.args.fore.now) (seen c.args.raster.now) (seen c.loop-fore.raster) c.args.out.now c.loop-fore.out)
    (λ fresh. part_passed (of c.args.fore.now) (of c.loop-fore.fore) _ _ _ _ c.loop-fore.invariant.runs c.loop-fore.invariant.run)

pub returns-in_err-pass_quiet-clause-few : goal.returns-in_err-pass_quiet-clause-few
returns-in_err-pass_quiet-clause-few g c =
    let of = over g.S.Side.seen in
    on_err c.from_residual.result
    (RisesInSome c.args.limit (of c.args.fore.now).run c.args.fore.now.machine.t c.args.fore.now.machine.chip.reads
    c.pass_quiet.new.fore.machine.chip.reads)
    (few_passed (of c.args.fore.now) (of c.loop-fore.fore) (of c.pass_quiet.new.fore) c.args.limit c.loop-fore.invariant.on
    (below_view _ c.loop-fore.fore c.args.limit c.fore-in-loop-fore.view_is c.loop-fore-test.true)
    c.pass_quiet.ensures.reads c.loop-fore.invariant.reads)

pub returns-in_err-run_in_line-clause-part : goal.returns-in_err-run_in_line-clause-part
returns-in_err-run_in_line-clause-part g c =
    let of = over g.S.Side.seen in
    let f0 = of c.args.fore.now in
    let here = c.pass_quiet.new.fore in
    let passed = c.in_ok-pass_quiet.ensures.passed in
    let before : here.machine.t < c.args.limit =
    below_view _ here c.args.limit (sym (c.in_ok-pass_quiet.ensures.none c.if-not-branch.true))
    (below_view _ c.loop-fore.fore c.args.limit c.fore-in-loop-fore.view_is c.loop-fore-test.true) in
    let run0 = c.pass_quiet.ensures.run ∙ c.loop-fore.invariant.run in
    let on0 : c.args.fore.now.machine.t ≤ here.machine.t = omega (arith, c.loop-fore.invariant.on, passed.on) in
    let fresh = passed.spent ∙ c.loop-fore.invariant.fresh in
    let able =
    can_go_behind (of c.loop-fore.fore) (of here) c.args.limit _ c.loop-fore.out passed c.loop-fore.invariant.fresh c.loop-fore.invariant.able in
    let runs0 = runs_passed f0 (of c.loop-fore.fore) (of here) c.args.limit _ _ _ _ c.loop-fore.invariant.runs passed c.loop-fore.invariant.run in
    let reads0 = reads_passed f0 (of c.loop-fore.fore) (of here) c.args.limit c.loop-fore.invariant.run
    c.loop-fore.invariant.on passed c.pass_quiet.ensures.reads c.loop-fore.invariant.reads in
    let seen = g.Q.Raster.seen in
    on_err c.from_residual-in_err-run_in_line.result
    (c.args.fore.now.spent ≡ false → GivesPart f0 (seen c.args.raster.now) (seen c.run_in_line.new.raster) c.args.out.now c.run_in_line.new.out)
    (λ new. part_behind f0 (of here) _ _ _ _ _ _ runs0 c.in_err-run_in_line.ensures.part run0)

pub returns-in_err-run_in_line-clause-few : goal.returns-in_err-run_in_line-clause-few
returns-in_err-run_in_line-clause-few g c =
    let of = over g.S.Side.seen in
    let f0 = of c.args.fore.now in
    let here = c.pass_quiet.new.fore in
    let passed = c.in_ok-pass_quiet.ensures.passed in
    let before : here.machine.t < c.args.limit =
    below_view _ here c.args.limit (sym (c.in_ok-pass_quiet.ensures.none c.if-not-branch.true))
    (below_view _ c.loop-fore.fore c.args.limit c.fore-in-loop-fore.view_is c.loop-fore-test.true) in
    let run0 = c.pass_quiet.ensures.run ∙ c.loop-fore.invariant.run in
    let on0 : c.args.fore.now.machine.t ≤ here.machine.t = omega (arith, c.loop-fore.invariant.on, passed.on) in
    let fresh = passed.spent ∙ c.loop-fore.invariant.fresh in
    let able =
    can_go_behind (of c.loop-fore.fore) (of here) c.args.limit _ c.loop-fore.out passed c.loop-fore.invariant.fresh c.loop-fore.invariant.able in
    let runs0 = runs_passed f0 (of c.loop-fore.fore) (of here) c.args.limit _ _ _ _ c.loop-fore.invariant.runs passed c.loop-fore.invariant.run in
    let reads0 = reads_passed f0 (of c.loop-fore.fore) (of here) c.args.limit c.loop-fore.invariant.run
    c.loop-fore.invariant.on passed c.pass_quiet.ensures.reads c.loop-fore.invariant.reads in
    on_err c.from_residual-in_err-run_in_line.result
    (RisesInSome c.args.limit f0.run c.args.fore.now.machine.t c.args.fore.now.machine.chip.reads c.run_in_line.new.fore.machine.chip.reads)
    (few_twice f0 (of here) (of c.run_in_line.new.fore) c.args.limit run0 on0 (omega (arith, before)) reads0 c.in_err-run_in_line.ensures.few)

pub returns-in_err-advance-clause-part : goal.returns-in_err-advance-clause-part
returns-in_err-advance-clause-part g c =
    let of = over g.S.Side.seen in
    let f0 = of c.args.fore.now in
    let here = c.pass_quiet.new.fore in
    let passed = c.in_ok-pass_quiet.ensures.passed in
    let before : here.machine.t < c.args.limit =
    below_view _ here c.args.limit (sym (c.in_ok-pass_quiet.ensures.none c.if-not-branch.true))
    (below_view _ c.loop-fore.fore c.args.limit c.fore-in-loop-fore.view_is c.loop-fore-test.true) in
    let run0 = c.pass_quiet.ensures.run ∙ c.loop-fore.invariant.run in
    let on0 : c.args.fore.now.machine.t ≤ here.machine.t = omega (arith, c.loop-fore.invariant.on, passed.on) in
    let fresh = passed.spent ∙ c.loop-fore.invariant.fresh in
    let able =
    can_go_behind (of c.loop-fore.fore) (of here) c.args.limit _ c.loop-fore.out passed c.loop-fore.invariant.fresh c.loop-fore.invariant.able in
    let runs0 = runs_passed f0 (of c.loop-fore.fore) (of here) c.args.limit _ _ _ _ c.loop-fore.invariant.runs passed c.loop-fore.invariant.run in
    let reads0 = reads_passed f0 (of c.loop-fore.fore) (of here) c.args.limit c.loop-fore.invariant.run
    c.loop-fore.invariant.on passed c.pass_quiet.ensures.reads c.loop-fore.invariant.reads in
    let mid = c.run_in_line.new.fore in
    let more = c.in_ok-run_in_line.ensures in
    let runs1 = runs_more f0 (of here) (of mid) _ _ _ _ _ _ runs0 more.clocks run0 in
    let run1 = c.run_in_line.ensures.run ∙ run0 in
    let on1 : c.args.fore.now.machine.t ≤ mid.machine.t = omega (arith, on0, more.on) in
    let able1 = can_go_then (of here) (of mid) _ _ _ _ more.clocks fresh able in
    let reads1 = reads_twice f0 (of here) (of mid) run0 on0 more.on reads0 more.reads in
    let seen = g.Q.Raster.seen in
    on_err c.from_residual-in_err-advance.result
    (c.args.fore.now.spent ≡ false → GivesPart f0 (seen c.args.raster.now) (seen c.advance.new.raster) c.args.out.now c.advance.new.out)
    (λ new. part_behind f0 (of mid) _ _ _ _ _ _ runs1 (c.in_err-advance.ensures.part more.fresh) run1)

pub returns-in_err-advance-clause-few : goal.returns-in_err-advance-clause-few
returns-in_err-advance-clause-few g c =
    let of = over g.S.Side.seen in
    let f0 = of c.args.fore.now in
    let here = c.pass_quiet.new.fore in
    let passed = c.in_ok-pass_quiet.ensures.passed in
    let before : here.machine.t < c.args.limit =
    below_view _ here c.args.limit (sym (c.in_ok-pass_quiet.ensures.none c.if-not-branch.true))
    (below_view _ c.loop-fore.fore c.args.limit c.fore-in-loop-fore.view_is c.loop-fore-test.true) in
    let run0 = c.pass_quiet.ensures.run ∙ c.loop-fore.invariant.run in
    let on0 : c.args.fore.now.machine.t ≤ here.machine.t = omega (arith, c.loop-fore.invariant.on, passed.on) in
    let fresh = passed.spent ∙ c.loop-fore.invariant.fresh in
    let able =
    can_go_behind (of c.loop-fore.fore) (of here) c.args.limit _ c.loop-fore.out passed c.loop-fore.invariant.fresh c.loop-fore.invariant.able in
    let runs0 = runs_passed f0 (of c.loop-fore.fore) (of here) c.args.limit _ _ _ _ c.loop-fore.invariant.runs passed c.loop-fore.invariant.run in
    let reads0 = reads_passed f0 (of c.loop-fore.fore) (of here) c.args.limit c.loop-fore.invariant.run
    c.loop-fore.invariant.on passed c.pass_quiet.ensures.reads c.loop-fore.invariant.reads in
    let mid = c.run_in_line.new.fore in
    let more = c.in_ok-run_in_line.ensures in
    let runs1 = runs_more f0 (of here) (of mid) _ _ _ _ _ _ runs0 more.clocks run0 in
    let run1 = c.run_in_line.ensures.run ∙ run0 in
    let on1 : c.args.fore.now.machine.t ≤ mid.machine.t = omega (arith, on0, more.on) in
    let able1 = can_go_then (of here) (of mid) _ _ _ _ more.clocks fresh able in
    let reads1 = reads_twice f0 (of here) (of mid) run0 on0 more.on reads0 more.reads in
    let before1 : mid.machine.t < c.args.limit = below_view here mid c.args.limit (sym (more.none c.if-not-branch-2.true)) before in
    on_err c.from_residual-in_err-advance.result
    (RisesInSome c.args.limit f0.run c.args.fore.now.machine.t c.args.fore.now.machine.chip.reads c.advance.new.self.machine.chip.reads)
    (few_behind f0 (of mid) (of c.advance.new.self) _ c.args.limit run1 on1 before1 more.fresh able1 reads1 c.in_err-advance.ensures.few)

pub returns-else-not-done-clause-come : goal.returns-else-not-done-clause-come
returns-else-not-done-clause-come g c = record {
  on = c.loop-fore.invariant.on;
  most = c.loop-fore.invariant.most;
  all = λ going. absurd (true≢false (c.if-not-done.ensures ∙ going));
}

pub returns-then-fore-clause-clocks : goal.returns-then-fore-clause-clocks
returns-then-fore-clause-clocks g c = tt

pub returns-then-fore-clause-come : goal.returns-then-fore-clause-come
returns-then-fore-clause-come g c = tt

pub returns-then-fore-clause-run : goal.returns-then-fore-clause-run
returns-then-fore-clause-run g c = refl

pub returns-then-fore-clause-fresh : goal.returns-then-fore-clause-fresh
returns-then-fore-clause-fresh g c = tt

pub returns-then-fore-clause-reads : goal.returns-then-fore-clause-reads
returns-then-fore-clause-reads g c = tt

pub returns-in_err-pass_quiet-clause-clocks : goal.returns-in_err-pass_quiet-clause-clocks
returns-in_err-pass_quiet-clause-clocks g c = not_ok c.from_residual.result _ c.from_residual.ensures.0

pub returns-in_err-pass_quiet-clause-come : goal.returns-in_err-pass_quiet-clause-come
returns-in_err-pass_quiet-clause-come g c = not_ok c.from_residual.result _ c.from_residual.ensures.0

pub returns-in_err-pass_quiet-clause-fresh : goal.returns-in_err-pass_quiet-clause-fresh
returns-in_err-pass_quiet-clause-fresh g c = not_ok c.from_residual.result _ c.from_residual.ensures.0

pub returns-in_err-pass_quiet-clause-reads : goal.returns-in_err-pass_quiet-clause-reads
returns-in_err-pass_quiet-clause-reads g c = not_ok c.from_residual.result _ c.from_residual.ensures.0

pub returns-in_err-run_in_line-clause-clocks : goal.returns-in_err-run_in_line-clause-clocks
returns-in_err-run_in_line-clause-clocks g c = not_ok c.from_residual-in_err-run_in_line.result _ c.from_residual-in_err-run_in_line.ensures.0

pub returns-in_err-run_in_line-clause-come : goal.returns-in_err-run_in_line-clause-come
returns-in_err-run_in_line-clause-come g c = not_ok c.from_residual-in_err-run_in_line.result _ c.from_residual-in_err-run_in_line.ensures.0

pub returns-in_err-run_in_line-clause-fresh : goal.returns-in_err-run_in_line-clause-fresh
returns-in_err-run_in_line-clause-fresh g c = not_ok c.from_residual-in_err-run_in_line.result _ c.from_residual-in_err-run_in_line.ensures.0

pub returns-in_err-run_in_line-clause-reads : goal.returns-in_err-run_in_line-clause-reads
returns-in_err-run_in_line-clause-reads g c = not_ok c.from_residual-in_err-run_in_line.result _ c.from_residual-in_err-run_in_line.ensures.0

pub returns-in_err-advance-clause-clocks : goal.returns-in_err-advance-clause-clocks
returns-in_err-advance-clause-clocks g c = not_ok c.from_residual-in_err-advance.result _ c.from_residual-in_err-advance.ensures.0

pub returns-in_err-advance-clause-come : goal.returns-in_err-advance-clause-come
returns-in_err-advance-clause-come g c = not_ok c.from_residual-in_err-advance.result _ c.from_residual-in_err-advance.ensures.0

pub returns-in_err-advance-clause-fresh : goal.returns-in_err-advance-clause-fresh
returns-in_err-advance-clause-fresh g c = not_ok c.from_residual-in_err-advance.result _ c.from_residual-in_err-advance.ensures.0

pub returns-in_err-advance-clause-reads : goal.returns-in_err-advance-clause-reads
returns-in_err-advance-clause-reads g c = not_ok c.from_residual-in_err-advance.result _ c.from_residual-in_err-advance.ensures.0

pub returns-else-not-done-clause-spent : goal.returns-else-not-done-clause-spent
returns-else-not-done-clause-spent g c = tt

pub returns-else-not-done-clause-part : goal.returns-else-not-done-clause-part
returns-else-not-done-clause-part g c = tt

pub returns-else-not-done-clause-few : goal.returns-else-not-done-clause-few
returns-else-not-done-clause-few g c = tt

pub returns-after-loop-fore-clause-spent : goal.returns-after-loop-fore-clause-spent
returns-after-loop-fore-clause-spent g c = tt

pub returns-after-loop-fore-clause-part : goal.returns-after-loop-fore-clause-part
returns-after-loop-fore-clause-part g c = tt

pub returns-after-loop-fore-clause-few : goal.returns-after-loop-fore-clause-few
returns-after-loop-fore-clause-few g c = tt
