use Rattle.std.proofs.Common.{◌∙◌, sym}
use Rattle.serial_model.specs.Beam.{place_of}
use Rattle.band_draw.proofs.Dues.{left_later}
use Rattle.band_draw.proofs.due.first_after.Goals as goal

pub returns-clause-left : goal.returns-clause-left
returns-clause-left c =
    left_later (place_of c.args.beam.now) c.args.from.next c.args.script.now c.requires.left
    (sym c.is_next_before.ensures ∙ c.if-is_next_before.false)
