use Rattle.std.proofs.Common.{◌+◌, arith}
use Rattle.plane_rows.proofs.row.Row.four_at.Goals as goal

pub returns-clause-value : goal.returns-clause-value
returns-clause-value c = omega (arith, c.from_le_bytes.ensures)

pub returns-clause-few : goal.returns-clause-few
returns-clause-few c =
    omega (
      arith,
      c.from_le_bytes.ensures,
      c.args.self.now.few c.args.x,
      c.args.self.now.few (c.args.x + 1),
      c.args.self.now.few (c.args.x + 2),
      c.args.self.now.few (c.args.x + 3),
    )
