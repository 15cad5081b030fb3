-- A raster that keeps jobs: each is right, and has a small number.
use Rattle.std.proofs.Common.{◌≡◌, ◌<◌, ◌^◌, Bool, true, false, List, [], ◌∷◌, ◌++◌, subst}
use Rattle.std.specs.Arc.{arc_value}
use Rattle.std.specs.Bool.{if◌then◌else◌}
use Rattle.std.proofs.lemmas.List.Elements.{All-push}
use Rattle.serial_model.specs.Side.{SideValue}
use Rattle.serial_bands.specs.Run.{RunOf, run_over, IsGoodRun}
use Rattle.serial_bands.proofs.WholeRun.{number_is_small}
use Rattle.band_log.specs.declared.job.Job.{Job}
use Rattle.band_log.specs.Right.{IsRightJob}
use Rattle.band_draw.specs.Direct.{AreRight}

pub right_pushed : {S : Type 0} (seen : S → SideValue) (pushed : Bool) (jobs : List (Job S)) (job : Job S) → AreRight seen jobs
    → IsRightJob seen (run_over seen (arc_value job.run)) job.number job → AreRight seen (if pushed then jobs ++ job ∷ [] else jobs)
right_pushed {S} seen true jobs job are is =
    All-push (λ (j : Job S). IsRightJob seen (run_over seen (arc_value j.run)) j.number j) jobs job are is
right_pushed seen false jobs job are is = are

pub small_number : {S : Type 0} (seen : S → SideValue) (run : RunOf S) (job : Job S) → run ≡ arc_value job.run → IsGoodRun run
    → IsRightJob seen (run_over seen (arc_value job.run)) job.number job → job.number < 2 ^ 32
small_number {S} seen run job same good is =
    number_is_small (run_over seen (arc_value job.run)) job.number job.from.0 job.to.0
    (subst (λ (r : RunOf S). IsGoodRun r) same good).script is.parts.band
