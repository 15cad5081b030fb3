use Rattle.std.proofs.Common.{arith}
use Rattle.sprite_rows.proofs.Meeting.{first_pair, worth_of_playfields-le}
use Rattle.sprite_rows.proofs.collision.playfield_worth.Goals as goal

pub overflow_sub-result : goal.overflow_sub-result
overflow_sub-result c = omega (arith, c.clx.ensures, c.clx-2.ensures, first_pair c.args.clxcon c.args.bits)

pub returns-clause-value : goal.returns-clause-value
returns-clause-value c = omega (arith, c.clx.ensures, c.clx-2.ensures, first_pair c.args.clxcon c.args.bits)

pub returns-clause-few : goal.returns-clause-few
returns-clause-few c =
    omega (arith, c.clx.ensures, c.clx-2.ensures, first_pair c.args.clxcon c.args.bits, worth_of_playfields-le c.args.clxcon c.args.bits)
