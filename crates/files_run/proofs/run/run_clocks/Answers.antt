use Rattle.std.proofs.Common.{◌≡◌, ◌∙◌, sym}
use Rattle.files_run.specs.Underway.{fore_of}
use Rattle.files_run.proofs.KeptLaws.{OnlyWrites-more, WritesFiles-err, KeepsNames-more, AreGrowable-kept}
use Rattle.files_run.proofs.RunLaws.{on_err, fewer_left, stop-advance}
use Rattle.files_run.proofs.RunLaws.{stop-flush, IsUnderway-ran, IsUnderway-flushed, CanRun-ran, mark_ran, names_ran}
use Rattle.files_run.proofs.run.run_clocks.Goals as goal

pub returns-in_err-run_some-clause-stopped : goal.returns-in_err-run_some-clause-stopped
returns-in_err-run_some-clause-stopped g c =
    on_err _ _ (stop-advance _ _ (fore_of c.args.fore.now) (fore_of c.loop-fore.fore) _ _ _ c.loop-fore.out
    c.loop-fore.invariant.same.run c.loop-fore.invariant.same.names
    c.loop-fore.invariant.runs)

pub loop-fore-smaller : goal.loop-fore-smaller
loop-fore-smaller g c =
    fewer_left (fore_of c.loop-fore.fore) (fore_of c.run_some.new.fore) _ _ c.loop-fore.invariant.able c.done.ensures c.loop-fore-test.true
    c.in_ok-run_some.ensures.later c.run_some.ensures.run

pub run_some-requires-clause-running : goal.run_some-requires-clause-running
run_some-requires-clause-running g c = sym c.done.ensures ∙ c.loop-fore-test.true

pub loop-fore-preserved : goal.loop-fore-preserved
loop-fore-preserved g c =
    let names : c.run_some.new.out.names ≡ c.loop-fore.out.names =
    names_ran _ _ _ _ _ _ c.in_ok-run_some.ensures.clocks c.loop-fore.invariant.able in
    record {
      growable = AreGrowable-kept _ _ _ _ c.loop-fore.invariant.growable c.in_ok-flush_lines.ensures.place.names.grow
          (c.in_ok-flush_lines.ensures.out ∙ names);
      able = CanRun-ran _ _ _ _ _ _ c.in_ok-run_some.ensures.clocks c.in_ok-run_some.ensures.fresh c.loop-fore.invariant.able;
      runs = λ base is. IsUnderway-flushed base _ _ _ _ _ _ c.in_ok-flush_lines.ensures.together
          (IsUnderway-ran base _ _ _ _ _ _ _ c.in_ok-run_some.ensures.clocks c.run_some.ensures.run c.in_ok-run_some.ensures.fresh
          (c.loop-fore.invariant.runs base is));
      same = record {
        run = c.run_some.ensures.run ∙ c.loop-fore.invariant.same.run;
        names = c.in_ok-flush_lines.ensures.out ∙ (names ∙ c.loop-fore.invariant.same.names);
        heard = c.in_ok-run_some.ensures.heard;
      };
      mark = mark_ran _ _ _ _ _ _ c.in_ok-run_some.ensures.clocks c.loop-fore.invariant.able ∙ c.loop-fore.invariant.mark;
      place = record {
        seen = OnlyWrites-more _ _ _ c.loop-fore.invariant.place.seen c.flush_lines.ensures.place.seen.kept;
        names = KeepsNames-more _ _ _ _ _ _ c.loop-fore.invariant.place.names c.flush_lines.ensures.place.names;
      };
      on = c.run_some.ensures.on ∙ c.loop-fore.invariant.on;
    }

pub returns-in_err-flush_lines-clause-stopped : goal.returns-in_err-flush_lines-clause-stopped
returns-in_err-flush_lines-clause-stopped g c =
    let names : c.run_some.new.out.names ≡ c.loop-fore.out.names =
    names_ran _ _ _ _ _ _ c.in_ok-run_some.ensures.clocks c.loop-fore.invariant.able in
    on_err _ _ (stop-flush _ _ _ (fore_of c.args.fore.now) (fore_of c.run_some.new.fore) _ _ _ c.run_some.new.out
    (c.run_some.ensures.run ∙ c.loop-fore.invariant.same.run)
    (names ∙ c.loop-fore.invariant.same.names)
    (λ base is. IsUnderway-ran base _ _ _ _ _ _ _ c.in_ok-run_some.ensures.clocks c.run_some.ensures.run c.in_ok-run_some.ensures.fresh
    (c.loop-fore.invariant.runs base is))
    c.in_err-flush_lines.ensures.parts)

pub returns-in_err-flush_lines-clause-place : goal.returns-in_err-flush_lines-clause-place
returns-in_err-flush_lines-clause-place g c = record {
  seen = WritesFiles-err _ _ _ _ _ c.from_residual-in_err-flush_lines.ensures.1 c.loop-fore.invariant.place.seen c.in_err-flush_lines.ensures.place.seen;
  names = KeepsNames-more _ _ _ _ _ _ c.loop-fore.invariant.place.names c.flush_lines.ensures.place.names;
}
