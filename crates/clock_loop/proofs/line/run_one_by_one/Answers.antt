use Rattle.std.proofs.Common.{◌<◌, arith, refl, ◌∙◌, ap, subst, sym}
use Rattle.foreground.specs.Fore.{over}
use Rattle.clock_loop.specs.code.Line.{AreInLine}
use Rattle.clock_loop.specs.RunTo.{RisesInSome}
use Rattle.clock_loop.proofs.RunToLaws.{runs_none, runs_then, part_behind, can_go_on, no_reads, reads_then, few_behind}
use Rattle.clock_loop.proofs.LineLaws.{in_line_next, first_due, open_view}
use Rattle.clock_loop.proofs.line.run_one_by_one.Goals as goal

pub loop-left-init : goal.loop-left-init
loop-left-init g c = record {
  able = c.requires.fits;
  runs = runs_none _ _ _;
  run = refl;
  on = omega arith;
  most = omega arith;
  reads = no_reads _ _ _;
  fresh = c.requires.fresh;
  still = λ same. refl;
  line = c.clocks_in_line-left.ensures;
}

pub clock_in_line-requires : goal.clock_in_line-requires
clock_in_line-requires g c =
    let f = over g.S.Side.seen c.loop-left.fore in
    let some : 0 < c.loop-left.left = c.loop-left-test.true in
    let are : AreInLine c.args.limit c.loop-left.left f = c.loop-left.invariant.line some in
    record {
      underway = c.loop-left.invariant.able c.loop-left.invariant.fresh;
      running = are.running;
      inner = are.inner;
      last = omega (arith, are.line, some);
      due = first_due c.args.limit c.loop-left.left f some are;
      before = open_view _ c.loop-left.fore c.fore-in-loop-left.view_is c.if-fore.true;
    }

pub loop-left-preserved : goal.loop-left-preserved
loop-left-preserved g c =
    let of = over g.S.Side.seen in
    let f0 = of c.args.fore.now in
    let f = of c.loop-left.fore in
    let next = of c.clock_in_line.new.fore in
    let some : 0 < c.loop-left.left = c.loop-left-test.true in
    let are : AreInLine c.args.limit c.loop-left.left f = c.loop-left.invariant.line some in
    let one = c.in_default.ensures in
    record {
      able = can_go_on f next _ _ _ _ one.clock c.loop-left.invariant.fresh c.loop-left.invariant.able;
      runs = runs_then f0 f next _ _ _ _ _ _ c.loop-left.invariant.runs one.clock c.loop-left.invariant.run one.count;
      run = c.clock_in_line.ensures.run ∙ c.loop-left.invariant.run;
      on = omega (arith, c.loop-left.invariant.on, one.count);
      most = omega (arith, are.before, one.count, some);
      reads = reads_then f0 f next _ c.loop-left.invariant.run c.loop-left.invariant.on c.loop-left.invariant.fresh c.loop-left.invariant.able
          c.loop-left.invariant.reads one.reads one.count;
      fresh = one.spent ∙ c.loop-left.invariant.fresh;
      still = λ same. absurd (omega (arith, c.loop-left.invariant.on, one.count, same));
      line = λ more. in_line_next c.args.limit c.loop-left.left f next some are c.clock_in_line.ensures.run one.count one.place;
    }

pub returns-in-Err-clause-part : goal.returns-in-Err-clause-part
returns-in-Err-clause-part g c =
    let of = over g.S.Side.seen in
    part_behind (of c.args.fore.now) (of c.loop-left.fore) _ _ _ _ _ _ c.loop-left.invariant.runs c.in-Err.ensures.part c.loop-left.invariant.run

pub returns-in-Err-clause-few : goal.returns-in-Err-clause-few
returns-in-Err-clause-few g c =
    let of = over g.S.Side.seen in
    let some : 0 < c.loop-left.left = c.loop-left-test.true in
    let are : AreInLine c.args.limit c.loop-left.left (of c.loop-left.fore) = c.loop-left.invariant.line some in
    let same = ap (λ f. f.machine.chip.reads) c.fore-in-loop-left-2.view_is in
    subst (λ reads. RisesInSome c.args.limit (of c.args.fore.now).run c.args.fore.now.machine.t c.args.fore.now.machine.chip.reads reads) (sym same)
    (few_behind (of c.args.fore.now) (of c.loop-left.fore) (of c.clock_in_line.new.fore) _ c.args.limit c.loop-left.invariant.run
    c.loop-left.invariant.on (omega (arith, are.before, some)) c.loop-left.invariant.fresh c.loop-left.invariant.able c.loop-left.invariant.reads
    c.in-Err.ensures.few)
