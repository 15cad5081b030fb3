use Rattle.std.proofs.Common.{ap, ◌∙◌}
use Rattle.serial_bands.specs.Shadows.{shadow_of}
use Rattle.picture_log.proofs.Beginning.{starts_first}
use Rattle.picture_log.proofs.log.Log.new.Goals as goal

pub returns : goal.returns
returns c = λ run chip memory.
    starts_first run chip c.in_ok-opening.opening c.shadow_of-shadow.result c.new-2.result memory
    (c.in_ok-opening.ensures ∙ c.reset.ensures) (c.shadow_of-shadow.ensures.shadow ∙ ap shadow_of c.state.ensures) c.new-2.ensures
