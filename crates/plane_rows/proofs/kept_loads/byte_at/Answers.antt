use Rattle.std.proofs.Common.{ℕ, ◌+◌, ◌*◌, ◌/◌, ◌%◌, ◌∙◌, ap}
use Rattle.plane_rows.proofs.KeptLoads.{parity_of}
use Rattle.plane_rows.proofs.kept_loads.byte_at.Goals as goal

pub returns : goal.returns
returns c =
    ap (λ (n : ℕ). n / c.args.first % 2 + 4 * (n / c.args.first / 4 % 2) + 16 * (n / c.args.first / 16 % 2)) c.plane_bits.ensures.value
    ∙ parity_of c.args.first c.args.x c.args.loads.now c.requires.least c.requires.most
