-- The run goes back where it has to, and on from there.
use Rattle.std.proofs.Common.{◌≤◌, sym, ap, subst, min, ◌∙◌}
use Rattle.serial_bands.specs.Run.{IsEndOf, RunValue, state_of}
use Rattle.rewind_loop.specs.Places.{Place, reached_from, run_to as ran_to}
use Rattle.rewind_loop.specs.Present.{IsPresent, run_in, states_in}
use Rattle.rewind_loop.specs.Told.{told_of}
use Rattle.rewind_loop.proofs.GoLaws.{same_run, same_due}
use Rattle.rewind_loop.proofs.PlaceLaws.{reached_low}
use Rattle.rewind_loop.proofs.rewind.Rewind.go_to.Goals as goal

pub go_back-requires : goal.go_back-requires
go_back-requires c = record { at = c.requires.at }

pub run_to-requires-clause-every : goal.run_to-requires-clause-every
run_to-requires-clause-every c = subst (λ n. 1 ≤ n) (sym c.go_back.ensures.every) c.requires.every

pub returns-in_err-go_back-clause-run : goal.returns-in_err-go_back-clause-run
returns-in_err-go_back-clause-run c = c.go_back.ensures.run

pub returns-in_err-run_to-clause-run : goal.returns-in_err-run_to-clause-run
returns-in_err-run_to-clause-run c = c.run_to.ensures.run ∙ c.go_back.ensures.run

pub returns-clause-run : goal.returns-clause-run
returns-clause-run c = c.tell.ensures.run ∙ c.run_to.ensures.run ∙ c.go_back.ensures.run

pub returns-in_err-go_back-clause-every : goal.returns-in_err-go_back-clause-every
returns-in_err-go_back-clause-every c = c.go_back.ensures.every

pub returns-in_err-run_to-clause-every : goal.returns-in_err-run_to-clause-every
returns-in_err-run_to-clause-every c = c.run_to.ensures.every ∙ c.go_back.ensures.every

pub returns-clause-every : goal.returns-clause-every
returns-clause-every c = c.tell.ensures.every ∙ c.run_to.ensures.every ∙ c.go_back.ensures.every

pub run_to-requires-clause-at : goal.run_to-requires-clause-at
run_to-requires-clause-at c =
    let at = c.requires.at in
    (at.0, reached_from c.args.clock at.1, c.in_ok-go_back.ensures.back at.0 at.1 at.2, reached_low c.args.clock at.1)

pub tell-requires : goal.tell-requires
tell-requires c = c.in_ok-run_to.ensures.stands

pub returns-clause-goes : goal.returns-clause-goes
returns-clause-goes c keep end p is ends =
    let old = c.args.self.now in
    let mid = c.go_back.new.self in
    let from : Place = reached_from c.args.clock p in
    let back = c.in_ok-go_back.ensures.back keep p is in
    let last : IsEndOf (run_in mid) end = subst (λ (r : RunValue). IsEndOf r end) (sym (same_run old mid c.in_ok-go_back.ensures.run)) ends in
    let ran = c.in_ok-run_to.ensures.runs keep end from back last in
    subst (λ due. IsPresent keep (ran_to due keep end c.args.clock from) c.tell.new.self)
    (same_due old mid c.in_ok-go_back.ensures.run c.in_ok-go_back.ensures.every)
    (c.tell.ensures.same keep _ ran)

pub returns-clause-arrives : goal.returns-clause-arrives
returns-clause-arrives c keep end p is ends =
    let old = c.args.self.now in
    let mid = c.go_back.new.self in
    let from : Place = reached_from c.args.clock p in
    let back = c.in_ok-go_back.ensures.back keep p is in
    let last : IsEndOf (run_in mid) end = subst (λ (r : RunValue). IsEndOf r end) (sym (same_run old mid c.in_ok-go_back.ensures.run)) ends in
    let ran = c.in_ok-run_to.ensures.runs keep end from back last in
    c.tell.ensures.told keep _ ran
    ∙ ap (λ (r : RunValue). told_of (state_of r) (record { at = min c.args.clock end; from = c.clocks-from.result }))
    (same_run mid c.run_to.new.self c.in_ok-run_to.ensures.run ∙ same_run old mid c.in_ok-go_back.ensures.run)
    ∙ ap (λ n. told_of (states_in old) (record { at = min c.args.clock end; from = n })) (c.clocks-from.ensures ∙ back.here)

pub returns-clause-stands : goal.returns-clause-stands
returns-clause-stands c =
    let at = c.in_ok-run_to.ensures.stands in
    (at.0, at.1, c.tell.ensures.same at.0 at.1 at.2)
