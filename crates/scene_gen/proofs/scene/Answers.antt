use Rattle.std.proofs.Common.{length, ap, ◌∙◌, sym, subst}
use Rattle.ocs_base.specs.Image.{is_image, fits_chip}
use Rattle.ocs_base.specs.Limits.{IsRunnable}
use Rattle.ocs_base.specs.Script.{ScriptValue}
use Rattle.scene_gen.proofs.ImageLaws.{is_image-scene, fits_chip-scene}
use Rattle.scene_gen.proofs.ScriptLaws.{IsRunnable-scene, length-events}
use Rattle.scene_gen.specs.Scene.{scene_script}
use Rattle.scene_gen.proofs.scene.Goals as goal

pub returns-clause-good : goal.returns-clause-good
returns-clause-good c = ap is_image c.in_ok-image.ensures ∙ is_image-scene c.args.n

pub returns-clause-fits : goal.returns-clause-fits
unfolding scene_script
returns-clause-fits c =
    (λ i. fits_chip (c.in_ok-script.ensures i).chip (c.in_ok-image.ensures i)) ∙ fits_chip-scene c.args.n

pub returns-clause-runnable : goal.returns-clause-runnable
returns-clause-runnable c = subst IsRunnable (sym c.in_ok-script.ensures) (IsRunnable-scene c.args.n)

pub returns-clause-events : goal.returns-clause-events
returns-clause-events c = ap (λ (s : ScriptValue). length s.events) c.in_ok-script.ensures ∙ length-events c.args.n
