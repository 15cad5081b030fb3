use Rattle.std.proofs.Common.{◌/◌, ◌%◌, ◌∙◌, arith}
use Rattle.plane_rows.proofs.Spreading.{pixel_bytes}
use Rattle.painter.proofs.inks.twice.Goals as goal

pub returns : goal.returns
returns c =
    c.to_le_bytes.ensures
    ∙ pixel_bytes (c.args.colour / 256 % 16) (c.args.colour / 16 % 16) (c.args.colour % 16) (omega arith) (omega arith) (omega arith)
