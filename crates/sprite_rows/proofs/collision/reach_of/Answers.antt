use Rattle.std.proofs.Common.{not, nat_eq}
use Rattle.sprite_rows.proofs.Reaching.{reach_entry}
use Rattle.sprite_rows.proofs.collision.reach_of.Goals as goal

pub returns : goal.returns
returns c = reach_entry (not (nat_eq c.args.a 0)) (not (nat_eq c.args.b 0)) (not (nat_eq c.args.c 0)) (not (nat_eq c.args.d 0))
