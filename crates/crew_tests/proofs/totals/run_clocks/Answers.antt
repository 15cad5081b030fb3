-- The raster keeps its mark, however the run ends.
use Rattle.std.proofs.Common.{◌∙◌}
use Rattle.files_run.specs.Underway.{fore_of}
use Rattle.files_run.proofs.RunLaws.{fewer_clocks, room_for_clocks, line_is_later, CanRun-ran, mark_ran, mark_part, mark_settled}
use Rattle.crew_tests.proofs.totals.run_clocks.Goals as goal

pub returns-in_err-run_to-clause-mark : goal.returns-in_err-run_to-clause-mark
returns-in_err-run_to-clause-mark g c =
    mark_part _ _ _ _ _ (c.in_err-run_to.ensures.part c.loop-fore.invariant.able.fresh) c.loop-fore.invariant.able ∙ c.loop-fore.invariant.mark

pub loop-fore-smaller : goal.loop-fore-smaller
loop-fore-smaller g c =
    fewer_clocks (fore_of c.loop-fore.fore) (fore_of c.run_to.new.fore) _ _ _ _ _ _ c.loop-fore.invariant.able c.done.ensures c.loop-fore-test.true
    c.in_ok-run_to.ensures.clocks c.in_ok-run_to.ensures.come
    (line_is_later (fore_of c.loop-fore.fore) _ _ c.next_line-limit.ensures) c.run_to.ensures.run

pub next_line-limit-requires : goal.next_line-limit-requires
next_line-limit-requires g c = record {
  room = room_for_clocks (fore_of c.loop-fore.fore) _ _ c.loop-fore.invariant.able c.done.ensures c.loop-fore-test.true;
}

pub loop-fore-preserved : goal.loop-fore-preserved
loop-fore-preserved g c = record {
  able = CanRun-ran _ _ _ _ _ _ c.in_ok-run_to.ensures.clocks c.in_ok-run_to.ensures.fresh c.loop-fore.invariant.able;
  run = c.run_to.ensures.run ∙ c.loop-fore.invariant.run;
  mark = mark_ran _ _ _ _ _ _ c.in_ok-run_to.ensures.clocks c.loop-fore.invariant.able ∙ c.loop-fore.invariant.mark;
}

pub returns-in_err-settle-clause-mark : goal.returns-in_err-settle-clause-mark
returns-in_err-settle-clause-mark g c =
    mark_part _ _ _ _ _ (c.in_err-settle.ensures.part c.loop-fore.invariant.able.fresh) c.loop-fore.invariant.able ∙ c.loop-fore.invariant.mark

pub returns-clause-mark : goal.returns-clause-mark
returns-clause-mark g c =
    mark_settled _ _ _ _ _ _ c.in_ok-settle.ensures.settled c.loop-fore.invariant.able ∙ c.loop-fore.invariant.mark
