-- The lines are those of the run that was gone through.
use Rattle.std.proofs.Common.{◌≡◌, ℕ, List, map, ap, ◌∙◌}
use Rattle.std.proofs.lemmas.Result.{IfOk-weaker}
use Rattle.std.specs.List.{flat_map}
use Rattle.rewind_loop.specs.Places.{first_place, due_in, arrivals}
use Rattle.rewind_loop.specs.Present.{run_in}
use Rattle.rewind_loop.specs.Told.{told_of}
use Rattle.serial_bands.specs.Run.{RunValue, run_over, state_of}
use Rattle.serial_model.specs.Side.{no_side}
use Rattle.ocs_run.specs.RewindText.{line_of}
use Rattle.ocs_run.proofs.RewindLaws.{AreLines-told, run_of}
use Rattle.ocs_run.proofs.rewind.tell_clocks.Goals as goal

pub returns : goal.returns
returns c =
    let o = c.args.order.now in
    let run : RunValue = run_in c.in_ok-rewind.rewind in
    let every : ℕ = c.in_ok-rewind.rewind.every in
    let run_is : run ≡ run_of c.args.image.items c.args.script 313 =
    ap (λ r. run_over (λ side. no_side) r) (c.in_ok-rewind.ensures.run ∙ c.in_ok-run.ensures.ok ∙ c.over.ensures) in
    IfOk-weaker c.go_and_tell.result _ _
    (λ text says. AreLines-told c.args.image.items c.args.script o.every o.keep o.clocks.items run every 313 text.items
    c.requires.script run_is c.in_ok-rewind.ensures.every
    (λ end ends. says o.keep end first_place c.in_ok-rewind.ensures.first ends
    ∙ ap (λ (clocks : List ℕ). flat_map line_of (map (told_of (state_of run)) (arrivals (due_in (state_of run) every) o.keep end clocks first_place)))
    c.as_slice.ensures.value))
    c.go_and_tell.ensures
