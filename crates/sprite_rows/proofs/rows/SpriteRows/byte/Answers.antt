use Rattle.std.proofs.Common.{arith}
use Rattle.sprite_rows.proofs.rows.SpriteRows.byte.Goals as goal

pub returns-clause-value : goal.returns-clause-value
returns-clause-value c runs are = are.bytes c.args.pair c.args.x (omega (arith, c.requires.pair)) (omega arith) (omega (arith, c.requires.room))

pub returns-clause-few : goal.returns-clause-few
returns-clause-few c = c.args.self.now.few c.args.pair c.args.x
