use Rattle.std.proofs.Common.{◌≡◌, ◌∙◌, ap}
use Rattle.files_run.specs.Underway.{fore_of}
use Rattle.files_run.proofs.AudioLaws.{IsHeard-same}
use Rattle.files_run.proofs.KeptLaws.{OnlyWrites-more, WritesFiles-err, KeepsNames-more, AreGrowable-kept}
use Rattle.files_run.proofs.RunLaws.{on_err, IsCut-clocks, IsCut-settle, IsCut-flush}
use Rattle.files_run.proofs.RunLaws.{IsSettling-settled, Ends-flushed, mark_part, mark_settled, names_settled, clock_settled}
use Rattle.files_run.proofs.run.run_whole.Goals as goal

pub returns-in_err-run_clocks-clause-stopped : goal.returns-in_err-run_clocks-clause-stopped
returns-in_err-run_clocks-clause-stopped g c = on_err _ _ (IsCut-clocks (fore_of c.args.fore.now) _ _ _ _ c.in_err-run_clocks.ensures.stopped)

pub returns-in_err-settle-clause-stopped : goal.returns-in_err-settle-clause-stopped
returns-in_err-settle-clause-stopped g c =
    on_err _ _ (IsCut-settle (fore_of c.args.fore.now) (fore_of c.run_clocks.new.fore) _ _ _ c.run_clocks.new.out _ _ c.in_ok-run_clocks.ensures.same.run
    c.in_ok-run_clocks.ensures.same.names c.in_ok-run_clocks.ensures.runs)

pub returns-in_err-settle-clause-mark : goal.returns-in_err-settle-clause-mark
returns-in_err-settle-clause-mark g c =
    mark_part _ _ _ _ _ (c.in_err-settle.ensures.part c.in_ok-run_clocks.ensures.able.fresh) c.in_ok-run_clocks.ensures.able
    ∙ c.run_clocks.ensures.mark

pub flush-requires : goal.flush-requires
flush-requires g c =
    let names : c.settle.new.out.names ≡ c.run_clocks.new.out.names =
    names_settled _ _ _ _ _ _ c.in_ok-settle.ensures.settled c.in_ok-run_clocks.ensures.able in
    let all = AreGrowable-kept _ _ _ _ c.requires.growable c.run_clocks.ensures.place.names.grow (names ∙ c.in_ok-run_clocks.ensures.same.names) in
    record { frames = all.frames; trace = all.trace }

pub returns-in_err-flush-clause-stopped : goal.returns-in_err-flush-clause-stopped
returns-in_err-flush-clause-stopped g c =
    let names : c.settle.new.out.names ≡ c.run_clocks.new.out.names =
    names_settled _ _ _ _ _ _ c.in_ok-settle.ensures.settled c.in_ok-run_clocks.ensures.able in
    on_err _ _ (IsCut-flush (fore_of c.args.fore.now) (fore_of c.settle.new.self) _ _ _ c.settle.new.out _ _ _
    (IsSettling-settled _ _ _ _ _ _ _ _ _ _ _ c.in_ok-run_clocks.ensures.same.run c.settle.ensures.run c.in_ok-run_clocks.ensures.same.names names
    c.in_ok-run_clocks.ensures.runs c.in_ok-settle.ensures.settled)
    c.in_err-flush.ensures.parts)

pub returns-in_err-flush-clause-mark : goal.returns-in_err-flush-clause-mark
returns-in_err-flush-clause-mark g c =
    mark_settled _ _ _ _ _ _ c.in_ok-settle.ensures.settled c.in_ok-run_clocks.ensures.able ∙ c.run_clocks.ensures.mark

pub returns-in_err-flush-clause-place : goal.returns-in_err-flush-clause-place
returns-in_err-flush-clause-place g c = record {
  seen = WritesFiles-err _ _ _ _ _ c.from_residual-in_err-flush.ensures.1 c.run_clocks.ensures.place.seen.kept
      c.in_err-flush.ensures.place.seen;
  names = KeepsNames-more _ _ _ _ _ _ c.run_clocks.ensures.place.names c.flush.ensures.place.names;
}

pub returns-clause-done : goal.returns-clause-done
returns-clause-done g c =
    let names : c.settle.new.out.names ≡ c.run_clocks.new.out.names =
    names_settled _ _ _ _ _ _ c.in_ok-settle.ensures.settled c.in_ok-run_clocks.ensures.able in
    Ends-flushed (fore_of c.args.fore.now) (fore_of c.settle.new.self) _ _ _ c.settle.new.out _ _ _ _
    (IsSettling-settled _ _ _ _ _ _ _ _ _ _ _ c.in_ok-run_clocks.ensures.same.run c.settle.ensures.run c.in_ok-run_clocks.ensures.same.names names
    c.in_ok-run_clocks.ensures.runs c.in_ok-settle.ensures.settled)
    c.in_ok-flush.ensures.together c.in_ok-flush.ensures.answer.kept

pub returns-clause-same : goal.returns-clause-same
returns-clause-same g c =
    let names : c.settle.new.out.names ≡ c.run_clocks.new.out.names =
    names_settled _ _ _ _ _ _ c.in_ok-settle.ensures.settled c.in_ok-run_clocks.ensures.able in
    record {
      run = c.settle.ensures.run ∙ c.in_ok-run_clocks.ensures.same.run;
      names = ap (λ o. o.names) c.in_ok-flush.ensures.answer.kept ∙ (names ∙ c.in_ok-run_clocks.ensures.same.names);
      heard = IsHeard-same c.run_clocks.new.audio (fore_of c.run_clocks.new.fore) (fore_of c.settle.new.self) c.settle.ensures.run
          (clock_settled _ _ _ _ _ _ c.in_ok-settle.ensures.settled c.in_ok-run_clocks.ensures.able) c.in_ok-run_clocks.ensures.same.heard;
    }

pub returns-clause-mark : goal.returns-clause-mark
returns-clause-mark g c =
    mark_settled _ _ _ _ _ _ c.in_ok-settle.ensures.settled c.in_ok-run_clocks.ensures.able ∙ c.run_clocks.ensures.mark

pub returns-clause-place : goal.returns-clause-place
returns-clause-place g c = record {
  seen = record { kept = OnlyWrites-more _ _ _ c.run_clocks.ensures.place.seen.kept c.flush.ensures.place.seen.kept; cause = tt };
  names = KeepsNames-more _ _ _ _ _ _ c.run_clocks.ensures.place.names c.flush.ensures.place.names;
}
