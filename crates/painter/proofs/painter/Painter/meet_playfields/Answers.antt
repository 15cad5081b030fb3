use Rattle.std.proofs.Common.{◌+◌, ◌*◌, ◌∙◌, ℕ, bit_or, ap}
use Rattle.painter.specs.code.Overlay.{quiet_in_column}
use Rattle.painter.proofs.Ors.{or_assoc}
use Rattle.painter.proofs.painter.Painter.meet_playfields.Goals as goal

pub returns : goal.returns
returns c p stands =
    let second = quiet_in_column c.args.v (2 * c.args.h + 1) p in
    c.meet_in_column-2.ensures p stands
    ∙ ap (λ (n : ℕ). bit_or n second) (c.meet_in_column.ensures p stands)
    ∙ or_assoc c.args.clx.now (quiet_in_column c.args.v (2 * c.args.h) p) (quiet_in_column c.args.v (2 * c.args.h + 1) p)
