use Rattle.std.proofs.Common.{arith}
use Rattle.sprite_rows.proofs.rows.SpriteRows.row.Goals as goal

pub returns-clause-value : goal.returns-clause-value
returns-clause-value c from x runs are le room = are.bytes c.args.pair x (omega (arith, c.requires)) le (omega (arith, room))

pub returns-clause-few : goal.returns-clause-few
returns-clause-few c x = c.args.self.now.few c.args.pair x
